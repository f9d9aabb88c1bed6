use Rattle.std.proofs.Common.{◌++◌, List, refl, ◌∙◌, ap, append_assoc}
use Rattle.ogg_command.specs.declared.command.Command.{Command}
use Rattle.import_gather.specs.Gathered.{Gathered}
use Rattle.import_gather.specs.Giving.{begin_if}
use Rattle.import_gather.specs.Kept.{waits}
use Rattle.import_mend.proofs.mender.Mender.end.Goals as goal

pub returns-clause-gives : goal.returns-clause-gives
returns-clause-gives c =
    let (ends, items, each) = c.in_ok-end_streams.ensures.gives in
    let closed : Gathered = c.end_streams.new.gatherer in
    let rest : List Command = begin_if (waits closed.link) closed.link in (
      ends ++ rest,
      c.in_default.ensures.commands ∙ ap (λ (l : List Command). l ++ rest) items ∙ append_assoc c.args.commands.now.items ends rest,
      record {
        closed = closed;
        ends = ends;
        rest = rest;
        each = each;
        waited = record { commands = refl; gathers = c.in_default.ensures.gathered; chain = c.in_default.ensures.pages; none_waits = c.in_default.ensures.waits };
        all = refl;
      },
    )
