use Rattle.std.proofs.Common.{◌≡◌, ◌∷◌, [], List, refl, sym, map, subst}
use Rattle.std.specs.List.{AllByRecursion, filter}
use Rattle.ogg_command.specs.declared.command.Command.{Command}
use Rattle.import_changes.specs.Changed.{HasChangedBeside, IsPlain}
use Rattle.import_record.specs.Resuming.{end_again, is_over, link_again}
use Rattle.import_record.specs.declared.begun.BegunStream.{BegunStream}
use Rattle.import_record.proofs.resuming.begin_again.Goals as goal

ends_plain : (streams : List BegunStream) → AllByRecursion IsPlain (map end_again streams)
ends_plain [] = tt
ends_plain (begun ∷ streams) = (tt, ends_plain streams)

pub returns-clause-changed : goal.returns-clause-changed
returns-clause-changed c =
    let all : c.in_ok-commands.commands.items ≡ link_again c.args.streams.now = c.in_ok-commands.ensures in
    subst (λ (l : List Command). HasChangedBeside c.args.serials.now c.apply.new.self l c.in_ok-given.given.items) all
    (c.in_ok-given.ensures.changed c.args.serials.now [] [] (c.in_ok-avoid.ensures.changed [] c.new-changes.ensures.changed)
    (subst (λ (l : List Command). AllByRecursion IsPlain l) (sym all) (refl, ends_plain (filter is_over c.args.streams.now))))
