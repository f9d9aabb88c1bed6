use Rattle.std.proofs.Common.{suc, ℕ, List, subst, sym, ◌∙◌, ap, take, drop, ◌++◌, ◌∷◌}
use Rattle.skeleton3.specs.Fisbone.{fisbone_of}
use Rattle.import_changes.specs.Said.{IsOf}
use Rattle.import_changes.proofs.Readings.{cut_at}
use Rattle.import_changes.proofs.saying.found_in.Goals as goal

pub returns-in-Some : goal.returns-in-Some
returns-in-Some c =
    let said : List (List ℕ) = c.args.said.now in
    let i : ℕ = c.loop-packet.packet-index in
    let packet : List ℕ = c.as_slice-in-Some.result.now in
    record {
      before = take i said;
      more = drop (suc i) said;
      said_is = cut_at said i c.packet-item.result c.loop-packet-test.true
          ∙ ap (λ p. take i said ++ p ∷ drop (suc i) said) (sym c.packet-item.is ∙ sym c.as_slice-in-Some.ensures);
      silent = c.loop-packet.invariant;
      of = subst (λ p. IsOf c.args.serial p (fisbone_of c.in-Some.fisbone)) (c.as_slice.ensures ∙ sym c.as_slice-in-Some.ensures)
          c.in-Some.ensures;
    }
