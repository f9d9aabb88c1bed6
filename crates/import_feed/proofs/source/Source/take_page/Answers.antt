use Rattle.std.proofs.Common.{List, [], subst}
use Rattle.ogg_command.specs.declared.command.Command.{Command}
use Rattle.import_feed.specs.Source.{Gathers, Sourced, TakesIn, gathered_of}
use Rattle.import_feed.proofs.Sources.{sourced_page}
use Rattle.import_feed.proofs.source.Source.take_page.Goals as goal

pub returns-clause-ok : goal.returns-clause-ok
returns-clause-ok c =
    let inside : Sourced = record { chain = c.self.inside.gatherer.chain; link = c.self.inside.gatherer.link; refused = c.self.inside.gatherer.refused; changes = c.self.inside.changes } in
    let new : Sourced = record { chain = c.take_in.new.gatherer.chain; link = c.take_in.new.gatherer.link; refused = c.take_in.new.gatherer.refused; changes = c.apply.new.self } in
    let commands : List Command = c.take_in.new.commands.items in
    subst (λ (s : Sourced). Gathers s c.args.page.now new [] c.in-Ok-apply.now.items) c.self.view_is
    (sourced_page inside new c.args.page.now commands c.in-Ok-apply.now.items
    (subst (λ (l : List Command). TakesIn (gathered_of inside) c.args.page.now (gathered_of new) l commands) c.new-commands.ensures.items c.in-Ok.ensures.ok.0)
    c.apply.ensures.options (c.in-Ok-apply.ensures.changed []))
