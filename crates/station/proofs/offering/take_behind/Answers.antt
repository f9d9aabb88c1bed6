use Rattle.std.proofs.Common.{◌≡◌, ◌⊎◌, ℕ, List, length, drop, refl, sym, ◌∙◌, ap, subst}
use Rattle.std.proofs.lemmas.List.{drop_min}
use Rattle.station_sources.specs.Air.{HoldsMore, IsShort}
use Rattle.station_sources.specs.declared.air.OnAir.{OnAir}
use Rattle.station.proofs.Leaving.{same_air}
use Rattle.station.proofs.offering.take_behind.Goals as goal

pub returns-in-Some : goal.returns-in-Some
returns-in-Some c begun is =
    let same : c.in-Some.air ≡ begun = same_air c.in-Some.air begun (sym c.in-Some.is ∙ is) in
    let source = c.take.new.self in
    let holds : OnAir → List ℕ → Type 0 = λ air bytes. HoldsMore bytes air source ⊎ IsShort (length bytes) air source in (
      source,
      refl,
      c.take.ensures.feeder ∙ ap (λ (air : OnAir). air.feeder) same,
      subst (λ (air : OnAir). holds air (drop c.args.used c.args.head.now)) same
          (subst (holds c.in-Some.air)
          (c.split_at.ensures.back ∙ ap (λ (n : ℕ). drop n c.args.head.now) c.min.ensures ∙ drop_min c.args.used c.args.head.now) c.take.ensures.kept),
    )
