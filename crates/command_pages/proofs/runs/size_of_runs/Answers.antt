use Rattle.std.proofs.Common.{◌≡◌, ◌≤◌, ◌+◌, ◌^◌, ℕ, Bool, true, List, arith, sym, ap, ◌∙◌, cond, Some, None}
use Rattle.std.specs.List.{list_any, fold}
use Rattle.std.proofs.lemmas.Bool.{cond-true}
use Rattle.ogg_command.specs.declared.command.Entry.{Entry}
use Rattle.packetiser.specs.Run.{pages_for}
use Rattle.link_chain.specs.declared.stream_state.StreamState.{StreamState}
use Rattle.link_chain.specs.Size.{has_no_number, size_of_pages}
use Rattle.command_pages.specs.Encoding.{runs_of, pages_of_runs, pages_behind, with_run}
use Rattle.command_pages.specs.FrontRun.{page_count}
use Rattle.command_pages.proofs.RunPages.{IsCounted, run_size, small_size, numbers_go_on, numbers_end, sizes_go_on}
use Rattle.command_pages.proofs.LaidRuns.{entries_apart}
use Rattle.command_pages.proofs.runs.size_of_runs.Goals as goal

pub loop-rest-preserved : goal.loop-rest-preserved
loop-rest-preserved c =
    let front = c.front_run-front in
    let streams : List StreamState = c.loop-rest.streams in
    let rest : List Entry = c.loop-rest.rest.now in
    let run : List Entry = front.result.run.now in
    let others : List Entry = front.result.rest.now in
    let counted : IsCounted streams run c.values_and_bytes-values.result.0 c.values_and_bytes-values.result.1 =
    record { values_are = c.values_and_bytes-values.ensures.values; bytes_are = c.values_and_bytes-values.ensures.bytes } in
    let pages : c.pages_of.result ≡ page_count run = c.pages_of.ensures ∙ ap pages_for counted.values_are in
    let numbered = c.in-Some.ensures in
    let behind : c.pass_run.new.streams ≡ with_run streams run = c.pass_run.ensures.streams in
    let size : c.size_of-size.result ≡ size_of_pages (pages_behind streams run) = c.size_of-size.ensures ∙ sym (run_size streams run _ _ counted) in
    let apart = entries_apart rest run others front.ensures.run in
    record {
      own = c.pass_run.ensures.own;
      numbered = c.loop-rest.invariant.numbered ∙ numbers_go_on streams rest run others front.ensures.run.first (omega (arith, numbered.0, front.ensures.next, pages))
          ∙ ap (λ s. list_any has_no_number (pages_of_runs s (runs_of others))) (sym behind);
      after = c.loop-rest.invariant.after ∙ ap (fold with_run streams) front.ensures.run.first ∙ ap (λ s. fold with_run s (runs_of others)) (sym behind);
      counted = omega (
        arith,
        c.loop-rest.invariant.counted,
        sizes_go_on streams rest run others front.ensures.run.first,
        size,
        ap (λ s. size_of_pages (pages_of_runs s (runs_of others))) behind,
      );
      small = omega (arith, c.loop-rest.invariant.small, apart.0, apart.1, c.size_of-size.ensures, small_size streams run _ _ counted);
    }

none_of : (b : Bool) (size : ℕ) → b ≡ true → None ≡ cond b None (Some size)
none_of b size e = sym (cond-true b None (Some size) e)

pub returns-in_default-clause-value : goal.returns-in_default-clause-value
returns-in_default-clause-value c =
    let front = c.front_run-front in
    let run : List Entry = front.result.run.now in
    let pages : c.pages_of.result ≡ page_count run = c.pages_of.ensures ∙ ap pages_for c.values_and_bytes-values.ensures.values in
    let far : front.result.next + c.pages_of.result ≤ 2 ^ 32 → ⊥ = c.in_default.ensures in
    none_of (list_any has_no_number (pages_of_runs c.args.streams.now (runs_of c.args.entries.now))) _
    (c.loop-rest.invariant.numbered
    ∙ numbers_end c.loop-rest.streams c.loop-rest.rest.now run front.result.rest.now front.ensures.run.first front.ensures.run.some (omega (arith, far, front.ensures.next, pages)))
