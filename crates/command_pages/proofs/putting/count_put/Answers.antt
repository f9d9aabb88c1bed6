use Rattle.std.proofs.Common.{◌≡◌, true, nat_eq, List, length, sym, ◌∙◌, arith}
use Rattle.std.proofs.lemmas.Bool.{eqb-true}
use Rattle.ogg_command.specs.declared.command.Entry.{Entry}
use Rattle.command_pages.specs.Encoding.{runs_of}
use Rattle.command_pages.proofs.LaidRuns.{entries_apart}
use Rattle.command_pages.proofs.MadePages.{runs_counted, counted_on, none_counted, few_counted}
use Rattle.command_pages.proofs.putting.count_put.Goals as goal

pub overflow_add-count : goal.overflow_add-count
overflow_add-count c =
    let apart = entries_apart c.loop-rest.rest.now c.split_run.result.0.now c.split_run.result.1.now c.split_run.ensures in
    omega (arith, c.pages_of_run-count.ensures, few_counted c.split_run.result.0.now, apart.0, apart.1, c.loop-rest.invariant.few, c.requires.fits.1.few, c.requires.fits.1.short)

pub loop-rest-preserved : goal.loop-rest-preserved
loop-rest-preserved c =
    let rest : List Entry = c.loop-rest.rest.now in
    let run : List Entry = c.split_run.result.0.now in
    let others : List Entry = c.split_run.result.1.now in
    let apart = entries_apart rest run others c.split_run.ensures in
    record {
      counted = omega (arith, c.pages_of_run-count.ensures, counted_on rest run others c.split_run.ensures, c.loop-rest.invariant.counted);
      few = omega (arith, c.pages_of_run-count.ensures, few_counted run, apart.0, apart.1, c.loop-rest.invariant.few);
    }

pub returns : goal.returns
returns c = λ streams.
    let rest : List Entry = c.loop-rest.rest.now in
    let empty : c.is_empty.result ≡ nat_eq (length rest) 0 = c.is_empty.ensures in
    let true_is : c.is_empty.result ≡ true = c.loop-rest-test.false in
    omega (
      arith,
      c.loop-rest.invariant.counted,
      none_counted rest (eqb-true (length rest) 0 (sym empty ∙ true_is)),
      runs_counted streams (runs_of c.args.entries.now),
    )
