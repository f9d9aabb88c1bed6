use Rattle.std.proofs.Common.{◌∙◌, ap, ◌++◌, List, [], subst}
use Rattle.ogg_command.specs.declared.command.Command.{Command}
use Rattle.import_gather.specs.Kept.{waits}
use Rattle.import_gather.specs.Giving.{begin_if}
use Rattle.import_feed.specs.Source.{GathersRest, Sourced}
use Rattle.import_feed.proofs.Sources.{sourced_rest}
use Rattle.import_feed.proofs.source.Source.end.Goals as goal

pub returns : goal.returns
returns c =
    let inside : Sourced = record { chain = c.self.inside.gatherer.chain; link = c.self.inside.gatherer.link; refused = c.self.inside.gatherer.refused; changes = c.self.inside.changes } in
    let new : Sourced = record { chain = c.end.new.self.chain; link = c.end.new.self.link; refused = c.end.new.self.refused; changes = c.apply.new.self } in
    let more : List Command = begin_if (waits inside.link) inside.link in
    record {
      ok = subst (λ (s : Sourced). GathersRest s new c.in-Ok-apply.now.items) c.self.view_is
          (sourced_rest inside new c.end.new.commands.items more c.in-Ok-apply.now.items
          (c.in-Ok.ensures.commands ∙ ap (λ (l : List Command). l ++ more) c.new-commands.ensures.items)
          (c.links_are_begun_without_a_skeleton.ensures.end inside.link)
          c.in-Ok.ensures.gathered c.in-Ok.ensures.waits c.apply.ensures.options (c.in-Ok-apply.ensures.changed []));
    }
