use Rattle.std.proofs.Common.{◌≡◌, ◌<◌, ℕ, Some, length, sym, ◌∙◌, ap, subst, inl, inr, arith}
use Rattle.std.specs.Prelude.{slice_get}
use Rattle.std.proofs.lemmas.Bool.Decides.{eqb_tells}
use Rattle.slab.specs.Slab.{slab_len}
use Rattle.station_files.specs.declared.seats.Past.{Past}
use Rattle.station_files.proofs.Placed.{is_within, same_item}
use Rattle.station_files.proofs.seats.unread.Goals as goal

pub returns-then-connections-gt0-clause-next : goal.returns-then-connections-gt0-clause-next
returns-then-connections-gt0-clause-next g c one found zero =
    let none : c.connections.result ≡ 0 = c.connections.ensures ∙ ap (λ (it : Past _). slab_len it.station.clients.slots)
    (sym c.index-past-at.is ∙ same_item c.args.past.now c.loop-at.at one c.index-past-at.result found c.index-past-at.is) ∙ zero in
    omega (arith, c.if-connections-gt0.true, none)

pub loop-at-preserved : goal.loop-at-preserved
loop-at-preserved g c before one below found = elim (eqb_tells before c.loop-at.at) [
  | inl is ↦
      let none : c.connections.result ≡ 0 = omega (arith, c.if-connections-gt0.false) in
      sym (c.connections.ensures ∙ ap (λ (it : Past _). slab_len it.station.clients.slots)
      (sym c.index-past-at.is ∙ same_item c.args.past.now c.loop-at.at one c.index-past-at.result (subst (λ (k : ℕ). slice_get c.args.past.now k ≡ Some one) is.1 found) c.index-past-at.is))
      ∙ none
  | inr isnt ↦ c.loop-at.invariant before one (omega (arith, below, isnt.1)) found
]

pub returns-clause-none : goal.returns-clause-none
returns-clause-none g c at one below found = c.loop-at.invariant at one (omega (arith, below, c.loop-at-test.false)) found

pub returns-clause-next : goal.returns-clause-next
returns-clause-next g c one found zero =
    let within : length c.args.past.now < length c.args.past.now = is_within c.args.past.now (length c.args.past.now) one found in
    omega (arith, within)
