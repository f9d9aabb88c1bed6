use Rattle.std.proofs.Common.{◌≡◌, ℕ, List, Bool, true, length, ◌∙◌, ap, subst, vec_len}
use Rattle.ogg_page.specs.Page.{Page}
use Rattle.ogg_command.specs.declared.command.Command.{Command}
use Rattle.import_gather.specs.Kept.{KeptStream, KeptLink, TakenBy, has_kept}
use Rattle.import_gather.specs.Giving.{Follows, PassesOn}
use Rattle.link_chain.specs.Laws.Lent.{given_back}
use Rattle.import_gather.proofs.link.LastLink.follow.Goals as goal

abbrev link_of : List KeptStream → Bool → List ℕ → KeptLink
link_of streams begun ends = record { streams = streams; begun = begun; ends = ends }

follows_at : (page : Page) (lent streams : List KeptStream) (begun : Bool) (ends : List ℕ) (old middle new : KeptLink) (later : List (List ℕ)) (given : List Command) → link_of lent begun ends ≡ old →
    (has_kept page.serial lent ≡ true → TakenBy begun page lent streams later) → middle ≡ link_of streams begun ends → PassesOn page middle new later given →
    has_kept page.serial old.streams ≡ true → Follows page old new given
follows_at page lent streams begun ends old middle new later given is t e p =
    subst (λ (l : KeptLink). has_kept page.serial l.streams ≡ true → Follows page l new given) is
    (λ has. record { streams = streams; later = later; taken = t has; passed = subst (λ (m : KeptLink). PassesOn page m new later given) e p })

pub returns-clause-ok : goal.returns-clause-ok
returns-clause-ok c =
    let passed = c.in_ok-pass_on.ensures.ok in
    let as_long : length c.take_page.new.streams ≡ vec_len c.self.inside.streams = c.take_page.auto.streams ∙ c.as_mut_slice.ensures.len in (
      passed.0,
      passed.1,
      follows_at c.args.page.now c.as_mut_slice.result.now c.take_page.new.streams c.self.inside.begun c.self.inside.ends.items c.args.self.now _ c.pass_on.new.self c.in_ok-later.later.items passed.0
          (ap (λ l. link_of l c.self.inside.begun c.self.inside.ends.items) c.as_mut_slice.ensures.value ∙ c.self.view_is)
          c.in_ok-later.ensures.takes
          (ap (λ l. link_of l c.self.inside.begun c.self.inside.ends.items) (given_back c.take_page.new.streams c.self.inside.streams.items (vec_len c.self.inside.streams) as_long))
          passed.2,
    )
