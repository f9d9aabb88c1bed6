use Rattle.std.proofs.Common.{◌≡◌, ◌≤◌, ◌+◌, ◌-◌, ◌++◌, ℕ, List, [], length, take, slice_index, refl, sym, ap, ◌∙◌, arith}
use Rattle.std.specs.Int.{to_be_bytes, w32}
use Rattle.std.proofs.lemmas.List.{get_or-replicate, length-take-le, take-append-drop}
use Rattle.page_checksum.specs.Checksum.{checksum_of}
use Rattle.page_checksum.proofs.Slices.{no_checksum}
use Rattle.page_checksum.proofs.Taken.{cut, mixed, begun, folded_on, mixed_kept, settled}
use Rattle.page_checksum.proofs.folding.checksum_by_folding.Goals as goal

pub loop-rest-init : goal.loop-rest-init
loop-rest-init c = record {
  long = c.requires;
  same = begun (slice_index c.begin.new.folded) (to_be_bytes w32 c.args.first) c.args.bytes.now refl (omega arith)
      (λ i h. c.begin.ensures.before i h ∙ get_or-replicate 4352 i 0 0 (omega arith)) c.begin.ensures.word;
}

pub loop-rest-preserved : goal.loop-rest-preserved
loop-rest-preserved c =
    let rest : List ℕ = c.loop-rest.rest.now in
    let piece : List ℕ = c.split_at.result.0.now in
    let others : List ℕ = c.split_at.result.1.now in
    let old : ℕ → ℕ = slice_index c.loop-rest.folded in
    let new : ℕ → ℕ = slice_index c.fold.new.folded in
    let next : ℕ → ℕ = slice_index c.copy_within.new.self in
    let long : 256 ≤ length others = omega arith in
    record {
      long = long;
      same = c.loop-rest.invariant.same
          ∙ ap checksum_of (mixed_kept old new rest c.fold.ensures.kept)
          ∙ ap (λ l. checksum_of (mixed (cut 256 new) 256 l)) c.split_at.ensures.by_index.0
          ∙ folded_on new next piece others (omega arith) c.fold.ensures.each (λ k h. c.copy_within.ensures.by_index.0 k 0 (omega arith) (omega arith)
          ∙ ap (λ m. new (length piece + m)) (let e : k - 0 ≡ k = omega arith in e));
    }

pub returns : goal.returns
returns c =
    let rest : List ℕ = c.loop-rest.rest.now in
    let last : List ℕ = c.in-Some.last.now in
    let others : List ℕ = c.in-Some.others.now in
    let done : List ℕ = c.settle.result in
    let old : ℕ → ℕ = slice_index c.loop-rest.folded in
    let new : ℕ → ℕ = slice_index c.end.new.folded in
    let cases = c.in-Some.ensures.cases in
    let split : last ++ others ≡ rest = ap (λ l. l ++ others) cases.0 ∙ ap (λ l. take 256 rest ++ l) cases.1 ∙ take-append-drop 256 rest in
    let whole : length last ≡ 256 = ap length cases.0 ∙ length-take-le 256 rest c.loop-rest.invariant.long in
    c.checksum_by_tables-in-Some.ensures ([] ++ done) (c.checksum_by_tables.ensures [] (sym no_checksum))
    ∙ ap checksum_of (sym (settled new last done others whole c.settle.ensures.long c.end.ensures.blank c.settle.ensures.each))
    ∙ ap (λ l. checksum_of (mixed (cut 256 new) 256 l)) split
    ∙ ap checksum_of (sym (mixed_kept old new rest c.end.ensures.kept))
    ∙ sym c.loop-rest.invariant.same
