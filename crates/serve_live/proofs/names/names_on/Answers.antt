use Rattle.std.proofs.Common.{◌≡◌, ◌⊎◌, List, [], ◌∷◌, length, refl, sym, ◌∙◌, arith, inl, inr}
use Rattle.std.proofs.lemmas.Bool.{eqb-true}
use Rattle.link_chain.specs.declared.stream_state.StreamState.{StreamState}
use Rattle.serve_live.specs.Following.{names_on}
use Rattle.serve_live.specs.declared.names.StreamName.{StreamName}
use Rattle.serve_live.proofs.names.names_on.Goals as goal
use Rattle.serve_live.proofs.names.names_on.Goals.{then-is_empty-via-then-is_empty, then-is_empty-via-else-is_empty+then-is_empty-2}

-- no stream goes on if there is none before, or none after
none_on : (names : List StreamName) (old new : List StreamState) → (length old ≡ 0) ⊎ (length new ≡ 0) → names_on names old new ≡ []
none_on names [] new none = refl
none_on names (o ∷ old) [] none = refl
none_on names (o ∷ old) (n ∷ new) (inl none) = absurd (omega (arith, none))
none_on names (o ∷ old) (n ∷ new) (inr none) = absurd (omega (arith, none))

pub returns-then-is_empty-clause-names : goal.returns-then-is_empty-clause-names
returns-then-is_empty-clause-names c =
    let old = c.args.old.now in
    let new = c.args.new.now in
    c.new.ensures.items
    ∙ sym (none_on c.args.names.now old new (elim c.then-is_empty.branch [
      | then-is_empty-via-then-is_empty w ↦ inl (eqb-true (length old) 0 (sym c.is_empty.ensures ∙ w.if-is_empty.true))
      | then-is_empty-via-else-is_empty+then-is_empty-2 w ↦ inr (eqb-true (length new) 0 (sym w.is_empty-else-is_empty.ensures ∙ w.if-is_empty-2.true))
    ]))
