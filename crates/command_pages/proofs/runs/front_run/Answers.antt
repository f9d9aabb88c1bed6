use Rattle.std.proofs.Common.{◌≡◌, List, subst, arith}
use Rattle.ogg_command.specs.declared.command.Entry.{Entry}
use Rattle.link_chain.specs.declared.stream_state.StreamState.{StreamState}
use Rattle.link_chain.specs.Places.{IsPlace}
use Rattle.link_chain.specs.Progress.{next_in}
use Rattle.command_pages.specs.Encoding.{run_serial}
use Rattle.command_pages.proofs.LaidRuns.{numbers_fit, few_pages, some_pages}
use Rattle.command_pages.proofs.runs.front_run.Goals as goal

pub returns-clause-fits : goal.returns-clause-fits
returns-clause-fits c = λ on.
    let streams : List StreamState = c.args.streams.now in
    let entries : List Entry = c.args.entries.now in
    let run : List Entry = c.split_run.result.0.now in
    let rest : List Entry = c.split_run.result.1.now in
    let next : c.next_at-next.result ≡ next_in streams (run_serial run) =
    c.next_at-next.ensures (run_serial run) (subst (λ s. IsPlace streams s c.place_of-place.result) c.run_serial-serial.ensures c.place_of-place.ensures) in (
      omega (arith, next, numbers_fit streams entries run rest c.split_run.ensures on.numbered),
      few_pages entries run rest c.split_run.ensures on.short,
      some_pages run c.split_run.ensures.some,
    )
