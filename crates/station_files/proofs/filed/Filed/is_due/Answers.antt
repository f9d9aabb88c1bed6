use Rattle.std.proofs.Common.{◌≡◌, Bool, true, false, Option, Some, None, refl, sym, ◌∙◌, subst}
use Rattle.std.specs.Prelude.{◌↔◌}
use Rattle.station.specs.declared.station.Station.{Station}
use Rattle.station_sources.specs.Pending.{HasCome}
use Rattle.station_sources.specs.declared.air.OnAir.{OnAir}
use Rattle.station_files.proofs.filed.Filed.is_due.Goals as goal

true_false : true ≡ false → ⊥
true_false e = cc

come_of : (air : Option OnAir) (come : Bool) → (air ≡ None → come ≡ false) → ((one : OnAir) → air ≡ Some one → (come ≡ true) ↔ HasCome one) → come ≡ true
    → (one : OnAir) × (air ≡ Some one) × HasCome one
come_of None come none some is = absurd (true_false (sym is ∙ none refl))
come_of (Some one) come none some is = (one, refl, (some one refl).0 is)

pub returns-then-not-is_failed-clause-due : goal.returns-then-not-is_failed-clause-due
returns-then-not-is_failed-clause-due g c over =
    subst (λ (one : Station _). (air : OnAir) × (one.air ≡ Some air) × HasCome air) c.newest-station.ensures
    (come_of c.newest-station.result.now.air c.has_come.result c.has_come.ensures.none c.has_come.ensures.some c.if-not-has_come.false)
