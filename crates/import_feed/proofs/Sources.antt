-- Commands gathered and changed.
use Rattle.std.proofs.Common.{◌≡◌, false, List, [], ◌∷◌, ◌++◌, refl, sym, ◌∙◌, subst}
use Rattle.std.specs.List.{AllByRecursion}
use Rattle.ogg_page.specs.Page.{Page as PageValue}
use Rattle.ogg_command.specs.declared.command.Command.{Command}
use Rattle.ogg_command.specs.declared.command.Command.TheVariants.{Begin as BeginOf, Put as PutOf, End as EndOf}
use Rattle.import_gather.specs.Kept.{waits}
use Rattle.import_gather.specs.Giving.{IsPlain as IsBare}
use Rattle.import_gather.specs.Gathered.{HasGathered}
use Rattle.import_changes.specs.Changed.{HasChanged, IsPlain}
use Rattle.import_feed.specs.Source.{Gathers, GathersRest, Sourced, TakesIn, gathered_of}

plain_one : (command : Command) → IsBare command → IsPlain command
plain_one (BeginOf begin) plain = plain
plain_one (PutOf put) plain = tt
plain_one (EndOf serial) plain = tt

pub plain_all : (commands : List Command) → AllByRecursion IsBare commands → AllByRecursion IsPlain commands
plain_all [] all = tt
plain_all (command ∷ commands) (p, all) = (plain_one command p, plain_all commands all)

pub sourced_page : (old new : Sourced) (page : PageValue) (commands now : List Command) → TakesIn (gathered_of old) page (gathered_of new) [] commands → new.changes.options ≡ old.changes.options
    → ((before given : List Command) → HasChanged old.changes before given → AllByRecursion IsPlain commands → HasChanged new.changes (before ++ commands) (given ++ now)) → Gathers old page new [] now
sourced_page old new page commands now t same changes = record {
  follows = t.follows;
  more = now;
  appended = refl;
  gathers = λ options links given h goes.
      let g = t.gathers links h.commands h.gathers goes in (
        record {
          commands = h.commands ++ t.more;
          gathers = g.0;
          changed = subst (λ l. HasChanged new.changes (h.commands ++ l) (given ++ now)) t.appended
              (changes h.commands given h.changed (subst (AllByRecursion IsPlain) (sym t.appended) (plain_all t.more (t.plain links h.commands h.gathers))));
          asked = same ∙ h.asked;
        },
        g.1,
      );
  grows = t.grows;
}

pub sourced_rest : (old new : Sourced) (commands more now : List Command) → commands ≡ more → AllByRecursion IsBare more
    → ((links : List (List PageValue)) (given : List Command) → HasGathered links (gathered_of old) given → HasGathered links (gathered_of new) (given ++ more))
    → waits new.link ≡ false → new.changes.options ≡ old.changes.options
    → ((before given : List Command) → HasChanged old.changes before given → AllByRecursion IsPlain commands → HasChanged new.changes (before ++ commands) (given ++ now)) → GathersRest old new now
sourced_rest old new commands more now is plain gathers none same changes = record {
  gathers = λ options links given h. record {
    commands = h.commands ++ more;
    gathers = gathers links h.commands h.gathers;
    changed = subst (λ l. HasChanged new.changes (h.commands ++ l) (given ++ now)) is
        (changes h.commands given h.changed (subst (AllByRecursion IsPlain) (sym is) (plain_all more plain)));
    asked = same ∙ h.asked;
  };
  none_waits = none;
}
