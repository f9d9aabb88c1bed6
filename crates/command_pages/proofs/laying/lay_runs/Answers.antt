use Rattle.std.proofs.Common.{◌≡◌, List, ◌++◌, ◌∙◌, ap, arith, append_assoc}
use Rattle.ogg_page.specs.Page.{bytes_of_pages}
use Rattle.ogg_command.specs.declared.command.Entry.{Entry}
use Rattle.link_chain.specs.declared.stream_state.StreamState.{StreamState}
use Rattle.link_chain.specs.Size.{size_of_pages}
use Rattle.command_pages.specs.Encoding.{pages_behind, with_run, runs_of, pages_of_runs}
use Rattle.command_pages.proofs.RunPages.{sizes_go_on}
use Rattle.command_pages.proofs.LaidRuns.{run_sized, run_written, written_on}
use Rattle.command_pages.proofs.laying.lay_runs.Goals as goal

pub overflow_cast-front : goal.overflow_cast-front
overflow_cast-front c = let fits = c.front_run-front.ensures.fits c.loop-rest.invariant.on in omega (arith, fits.0, fits.2)

pub lay_run-requires-clause-numbers : goal.lay_run-requires-clause-numbers
lay_run-requires-clause-numbers c = let fits = c.front_run-front.ensures.fits c.loop-rest.invariant.on in omega (arith, fits.0)

pub lay_run-requires-clause-count : goal.lay_run-requires-clause-count
lay_run-requires-clause-count c = let fits = c.front_run-front.ensures.fits c.loop-rest.invariant.on in fits.1

pub returns-in-Err-clause-full : goal.returns-in-Err-clause-full
returns-in-Err-clause-full c =
    let front = c.front_run-front in
    omega (
      arith,
      c.in-Err.ensures.full,
      c.loop-rest.invariant.capacity,
      c.loop-rest.invariant.counted,
      run_sized c.loop-rest.streams front.result.run.now,
      sizes_go_on c.loop-rest.streams c.loop-rest.rest.now front.result.run.now front.result.rest.now front.ensures.run.first,
    )

pub overflow_add-front : goal.overflow_add-front
overflow_add-front c =
    let fits = c.front_run-front.ensures.fits c.loop-rest.invariant.on in omega (arith, fits.0, c.in-Ok.ensures.pages, c.from.ensures)

pub loop-rest-preserved : goal.loop-rest-preserved
loop-rest-preserved c =
    let front = c.front_run-front in
    let streams : List StreamState = c.loop-rest.streams in
    let rest : List Entry = c.loop-rest.rest.now in
    let run : List Entry = front.result.run.now in
    let others : List Entry = front.result.rest.now in
    let behind : c.pass_run.new.streams ≡ with_run streams run = c.pass_run.ensures.streams in
    let written : c.lay_run.new.out.items ≡ c.loop-rest.out.items ++ bytes_of_pages (pages_behind streams run) =
    c.in-Ok.ensures.ok
    ∙ ap (λ l. c.loop-rest.out.items ++ l) (run_written streams run front.result.serial front.result.next front.ensures.serial front.ensures.next) in
    record {
      items = ap (λ l. l ++ bytes_of_pages (pages_of_runs c.pass_run.new.streams (runs_of others))) written
          ∙ ap (λ s. (c.loop-rest.out.items ++ bytes_of_pages (pages_behind streams run)) ++ bytes_of_pages (pages_of_runs s (runs_of others))) behind
          ∙ written_on streams rest run others c.loop-rest.out.items front.ensures.run
          ∙ c.loop-rest.invariant.items;
      counted = omega (
        arith,
        c.in-Ok.ensures.len,
        c.loop-rest.invariant.counted,
        run_sized streams run,
        sizes_go_on streams rest run others front.ensures.run.first,
        ap (λ s. size_of_pages (pages_of_runs s (runs_of others))) behind,
      );
      capacity = omega (arith, c.lay_run.ensures.capacity, c.loop-rest.invariant.capacity);
      kept = (
        c.loop-rest.invariant.kept.0 ++ bytes_of_pages (pages_behind streams run),
        written ∙ ap (λ l. l ++ bytes_of_pages (pages_behind streams run)) c.loop-rest.invariant.kept.1
            ∙ append_assoc c.args.out.now.items c.loop-rest.invariant.kept.0 (bytes_of_pages (pages_behind streams run)),
      );
      on = c.pass_run.ensures.on rest front.ensures.run c.loop-rest.invariant.on;
    }
