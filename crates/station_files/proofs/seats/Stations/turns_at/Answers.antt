use Rattle.std.proofs.Common.{◌≡◌, ℕ, List, length, get_or, ◌∙◌, ap, subst, arith}
use Rattle.station_files.specs.declared.seats.Past.{Past}
use Rattle.station_files.proofs.Placed.{is_behind, is_within, same_item}
use Rattle.station_files.proofs.seats.Stations.turns_at.Goals as goal

pub returns-in-Some-clause-past : goal.returns-in-Some-clause-past
returns-in-Some-clause-past g c one behind found =
    let items = c.args.self.now.past.items in
    let lent = c.in-Some.past.now in
    c.turns-in-Some.ensures ∙ ap (λ (it : Past _). it.station.clients.turns.len) (same_item items _ one lent found
    (subst (λ (k : ℕ). lent ≡ get_or items k lent) c.saturating_sub.ensures
    (subst (λ (all : List (Past _)). lent ≡ get_or all c.saturating_sub.result lent) c.deref.ensures.value c.in-Some.ensures.lookup.1)))

pub returns-in-Some-clause-none : goal.returns-in-Some-clause-none
returns-in-Some-clause-none g c behind gone =
    let end = is_behind c.args.self.now.past.items _ gone in
    let same = ap (λ (all : List (Past _)). length all) c.deref.ensures.value in
    absurd (omega (arith, c.saturating_sub.ensures, c.in-Some.ensures.lookup.3.0, end, same))

pub returns-in-None-clause-past : goal.returns-in-None-clause-past
returns-in-None-clause-past g c one behind found =
    let within = is_within c.args.self.now.past.items _ one found in
    let same = ap (λ (all : List (Past _)). length all) c.deref.ensures.value in
    absurd (omega (arith, c.saturating_sub.ensures, c.in-None.ensures.lookup.3, within, same))
