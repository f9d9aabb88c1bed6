use Rattle.std.proofs.Common.{◌≡◌, length, ◌∙◌, ap, arith}
use Rattle.command_pages.specs.FrontRun.{page_count}
use Rattle.command_pages.proofs.MadePages.{flagged_count}
use Rattle.command_pages.proofs.putting.begin_run.Goals as goal

pub overflow_cast-front : goal.overflow_cast-front
overflow_cast-front c = let fits = c.front_run-front.ensures.fits c.requires.on in omega (arith, fits.0, fits.2)

pub of-pages-requires-clause-numbers : goal.of-pages-requires-clause-numbers
of-pages-requires-clause-numbers c = let fits = c.front_run-front.ensures.fits c.requires.on in omega (arith, fits.0)

pub overflow_add-front : goal.overflow_add-front
overflow_add-front c = let fits = c.front_run-front.ensures.fits c.requires.on in omega (arith, fits.0, c.left.ensures.few)

pub pass_run-requires-clause-sequence : goal.pass_run-requires-clause-sequence
pass_run-requires-clause-sequence c =
    let front = c.front_run-front in
    let count : c.left.result ≡ page_count front.result.run.now =
    c.left.ensures.value ∙ ap length c.of-pages.ensures ∙ flagged_count front.result.serial front.result.next 0 _ in
    omega (arith, front.ensures.next, count)

pub returns-clause-on : goal.returns-clause-on
returns-clause-on c = c.pass_run.ensures.on c.args.entries.now c.front_run-front.ensures.run c.requires.on
