use Rattle.std.proofs.Common.{◌≡◌, ◌+◌, ℕ, List, length, take, slice_range, Some, refl, ◌∙◌, ap, arith, length-append}
use Rattle.station_sources.proofs.Passing.{gives_some, holds_some, is_front}
use Rattle.station_sources.proofs.air.OnAir.pass_on.Goals as goal

pub returns-in-Ok-clause-passes : goal.returns-in-Ok-clause-passes
returns-in-Ok-clause-passes c =
    let air = c.args.self.now in
    let bytes : List ℕ = slice_range c.deref.result.now air.at (air.at + air.decoded) in
    let left = c.read_once.new.reader.now in
    let reads = c.in-Ok.ensures.reads in
    let some = holds_some c.deref.result.now air.at air.decoded c.requires.some (omega (arith, air.within, c.deref.ensures.len)) in (
      refl,
      (
        c.in-Ok.count,
        record {
          some = gives_some bytes reads.taken left c.in-Ok.count some reads.consumed reads.counted reads.at_end;
          within = omega (
            arith,
            reads.counted,
            ap length reads.consumed,
            length-append reads.taken left,
            ap (λ (items : List ℕ). length (slice_range items air.at (air.at + air.decoded))) c.deref.ensures.value,
          );
          comes = record {
            from = Some bytes;
            left = Some left;
            count = c.in-Ok.count;
            reads = reads;
            bytes_are = is_front bytes reads.taken left c.in-Ok.count reads.consumed reads.counted
                ∙ ap (λ (items : List ℕ). take c.in-Ok.count (slice_range items air.at (air.at + air.decoded))) c.deref.ensures.value;
            same = c.in-Ok.ensures.same.0;
          };
          junk = c.in-Ok.ensures.same.1;
        },
        refl,
        refl,
      ),
    )
