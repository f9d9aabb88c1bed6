use Rattle.std.proofs.Common.{◌≡◌, List, ◌++◌, refl, sym, ◌∙◌, ap, subst}
use Rattle.ogg_page.specs.Page.{Page}
use Rattle.ogg_command.specs.declared.command.Command.{Command}
use Rattle.import_gather.specs.Kept.{waits}
use Rattle.import_gather.specs.Giving.{begin_if, begun_if}
use Rattle.import_gather.specs.Gathered.{Gathered, HasGathered}
use Rattle.import_gather.proofs.Gathering.{ends, gathered_alike, no_more_waits}
use Rattle.import_gather.proofs.Onward.{state}
use Rattle.import_gather.proofs.gatherer.Gatherer.end.Goals as goal

abbrev given_by : Gathered → List Command
given_by g = begin_if (waits g.link) g.link

ends_on : (seen now new : Gathered) → seen ≡ now → new.chain ≡ seen.chain → new.link ≡ begun_if (waits seen.link) seen.link → (links : List (List Page)) (given : List Command) → HasGathered links now given →
    HasGathered links new (given ++ given_by now)
ends_on seen now new is chain link links given h =
    subst (λ (g : Gathered). HasGathered links new (given ++ given_by g)) is
    (gathered_alike links (state seen.chain (begun_if (waits seen.link) seen.link)) new (given ++ given_by seen) chain link
    (ends links seen given (subst (λ (g : Gathered). HasGathered links g given) (sym is) h)))

pub returns-clause-commands : goal.returns-clause-commands
returns-clause-commands c =
    c.in_default.ensures.ok ∙ ap (λ (g : Gathered). c.args.commands.now.items ++ given_by g) c.self.view_is

pub returns-clause-gathered : goal.returns-clause-gathered
returns-clause-gathered c =
    let seen : Gathered = record { chain = c.self.inside.chain.chain; link = c.self.inside.link; refused = c.self.inside.grower } in
    let new : Gathered = record { chain = c.self.inside.chain.chain; link = c.give_waiting.new.self; refused = c.give_waiting.new.grower } in
    ends_on seen c.args.self.now new c.self.view_is refl c.in_default.ensures.after

pub returns-clause-waits : goal.returns-clause-waits
returns-clause-waits c = ap waits c.in_default.ensures.after ∙ no_more_waits c.self.inside.link
