use Rattle.std.proofs.Common.{◌≡◌, ◌++◌, ◌∙◌, [], List, ap, map, subst}
use Rattle.chain_rules.specs.Recording.{after}
use Rattle.import_gather.specs.Giving.{begin_if}
use Rattle.import_gather.specs.Kept.{waits}
use Rattle.ogg_command.specs.declared.command.Command.{Command}
use Rattle.line_packets.specs.Choosing.{WritesAll, coming, command_in, no_link}
use Rattle.packet_actions.proofs.Coming.{commands_on, writes_on}
use Rattle.packet_actions.proofs.paging.PageLines.end_file.Goals as goal

pub returns-in-Ok-clause-writes : goal.returns-in-Ok-clause-writes
returns-in-Ok-clause-writes c = λ bytes links recording before are holds has.
    let when = c.args.when in
    let more : List Command = begin_if (waits c.args.self.now.gatherer.link) c.args.self.now.gatherer.link in
    let all = c.in_ok-end.ensures.gathered links (map command_in has.given) has.gathered in
    let sum = c.gathered_commands_hold_the_recording.ensures bytes links c.end.new.self (map command_in has.given ++ more) recording are all
    c.in_ok-end.ensures.waits holds in
    let came : c.as_slice.result.now ≡ more = c.as_slice.ensures.value ∙ c.in_ok-end.ensures.commands ∙ ap (λ (l : List Command). l ++ more) c.new-commands.ensures.items in
    let wrote = c.in-Ok.ensures.writes in (
      wrote.0,
      wrote.2,
      record {
        given = has.given ++ map (coming when) more;
        adds_up = ap (after []) (commands_on when has.given more) ∙ sum;
        link = c.take_all.new.self.link;
        writes = writes_on c.args.self.now.choosing.wanted no_link c.args.self.now.choosing.link c.take_all.new.self.link has.given (map (coming when) more) before wrote.0
            has.writes (subst (λ (commands : List Command). WritesAll c.args.self.now.choosing.wanted c.args.self.now.choosing.link (map (coming when) commands)
            c.take_all.new.self.link wrote.0) came wrote.1);
      },
    )
