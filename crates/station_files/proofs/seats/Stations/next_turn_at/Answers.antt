use Rattle.std.proofs.Common.{◌≡◌, ℕ, get_or, ap, subst, arith}
use Rattle.std.specs.Prelude.{slice_set}
use Rattle.station_files.specs.Places.{IsNext}
use Rattle.station_files.specs.declared.seats.Past.{Past}
use Rattle.station_files.proofs.Placed.{is_behind, same_item}
use Rattle.station_files.proofs.seats.Stations.next_turn_at.Goals as goal

pub returns-clause-past : goal.returns-clause-past
returns-clause-past g c one behind found =
    let items = c.args.self.now.past.items in
    let lent = c.in_ok-get_mut.field-0.now in
    let after = c.next_turn-2.new.self in (
      after,
      subst (λ (it : Past _). IsNext c.next_turn-2.result it after)
          (same_item items _ one lent found (subst (λ (k : ℕ). lent ≡ get_or items k lent) c.saturating_sub.ensures c.in_ok-get_mut.ensures.value))
          c.next_turn-2.ensures,
      ap (λ (k : ℕ). slice_set items k after) c.saturating_sub.ensures,
    )

pub returns-clause-none : goal.returns-clause-none
returns-clause-none g c behind gone =
    let end = is_behind c.args.self.now.past.items _ gone in
    absurd (omega (arith, c.saturating_sub.ensures, c.in_ok-get_mut.ensures.item.3.0, end))
