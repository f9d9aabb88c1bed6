use Rattle.import_pages.specs.Room.{held_of}
use Rattle.import_pages.proofs.InRoom.{is_fault, one_more, reads_on}
use Rattle.std.proofs.Common.{◌∙◌, ap, refl, Err}
use Rattle.import_pages.proofs.finding.read_on.Goals as goal

pub returns-in-Err-2-clause-found : goal.returns-in-Err-2-clause-found
returns-in-Err-2-clause-found g c =
    let (was, short, counted, size) = c.loop.invariant in
    let all = one_more _ _ _ _ _ _ _ _ _ was c.in-Ok.ensures.ok in
    record {
      taken = all.taken;
      consumed = all.consumed;
      all = all.all;
      shows = is_fault (held_of c.read_more.new.room c.read_more.new.held) _ c.in-Err-size_in_front.fault c.in-Err-size_in_front.ensures.found
          (c.if-is_short.ensures.other refl);
    }

pub loop-preserved : goal.loop-preserved
loop-preserved g c =
    let (was, short, counted, size) = c.loop.invariant in
    let now = c.in-Err-size_in_front.ensures.found ∙ ap Err (c.if-is_short.ensures.short refl) in (
      reads_on _ _ _ _ _ _ _ _ _ _ was c.in-Ok.ensures.ok c.in-Ok.field-0-test.1 c.in-Ok.ensures.held c.in-Err-size_in_front.ensures.bytes now,
      now,
      c.in-Ok.ensures.counted ∙ counted,
      c.in-Ok.ensures.size ∙ size,
    )
