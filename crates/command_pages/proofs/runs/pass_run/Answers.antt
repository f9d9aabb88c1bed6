use Rattle.std.proofs.Common.{◌≡◌, List, sym, ◌∙◌, ap, subst}
use Rattle.ogg_command.specs.declared.command.Entry.{Entry}
use Rattle.link_chain.specs.declared.stream_state.StreamState.{StreamState}
use Rattle.link_chain.specs.Places.{HaveOwnSerials}
use Rattle.link_chain.specs.Progress.{brought_to}
use Rattle.command_pages.specs.CommandPages.{RunsGoOn}
use Rattle.command_pages.specs.Encoding.{run_serial, with_run}
use Rattle.command_pages.proofs.RunPages.{next_streams}
use Rattle.command_pages.proofs.LaidRuns.{own_after, go_on}
use Rattle.command_pages.proofs.runs.pass_run.Goals as goal

pub returns : goal.returns
returns c =
    let streams : List StreamState = c.args.streams.now in
    let run : List Entry = c.args.front.now.run.now in
    let behind : c.bring_stream.new.streams ≡ with_run streams run =
    c.bring_stream.ensures (run_serial run) c.requires.own c.requires.place
    ∙ ap (λ p. brought_to (run_serial run) c.args.sequence p streams) c.run_position.ensures
    ∙ next_streams streams run c.args.sequence c.requires.sequence in
    record {
      streams = behind;
      own = subst HaveOwnSerials (sym behind) (own_after streams run c.requires.own);
      on = λ entries is h. subst (λ s. RunsGoOn s c.args.front.now.rest.now) (sym behind) (go_on streams entries run c.args.front.now.rest.now is h);
    }
