use Rattle.std.proofs.Common.{◌≡◌, Bool, true, false, refl, sym, ◌∙◌, arith, Option, Some, None, Ok, Err}
use Rattle.link_chain.specs.Taking.{fault_of_page}
use Rattle.link_chain.specs.declared.chain_fault.ChainFault.{ChainFault}
use Rattle.import_gather.specs.Kept.{is_too_long}
use Rattle.import_gather.specs.declared.fault.GatherFault.{GatherFault}
use Rattle.import_feed.proofs.source.take_in.Goals as goal

none_of : (o : Option ChainFault) → ((fault : ChainFault) → o ≡ Some fault → ⊥) → o ≡ None
none_of None f = refl
none_of (Some fault) f = absurd (f fault refl)

short_of : (b : Bool) → (b ≡ true → ⊥) → b ≡ false
short_of false f = refl
short_of true f = absurd (f refl)

pub returns-in-Ok-clause-ok : goal.returns-in-Ok-clause-ok
returns-in-Ok-clause-ok c =
    let follows : fault_of_page c.args.gatherer.now.chain c.args.page.now ≡ None =
    none_of (fault_of_page c.args.gatherer.now.chain c.args.page.now) (λ fault is. differ c.in-Ok.field-0 _ (sym c.in-Ok.is ∙ c.take_page.ensures.chain fault is)) in
    let (more, appended, gathers) = c.in-Ok.ensures.gathered in (
      record {
        follows = follows;
        short = short_of (is_too_long c.args.gatherer.now.link c.args.page.now)
            (λ is. differ c.in-Ok.field-0 _ (sym c.in-Ok.is ∙ c.take_page.ensures.long follows is));
        more = more;
        appended = appended;
        gathers = gathers.goes_on;
        plain = λ links given h. c.links_are_begun_without_a_skeleton.ensures.page links c.args.gatherer.now given c.args.page.now c.take_page.new.self.link more follows h gathers.takes;
        grows = c.in-Ok.ensures.grows;
      },
      omega (arith, c.requires.behind, c.if-behind.false),
    )
  where
    differ : (done : Unit {0}) (fault : GatherFault) → Ok done ≡ Err fault → ⊥
    differ done fault e = cc
