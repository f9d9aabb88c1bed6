use Rattle.std.proofs.Common.{arith}
use Rattle.command_pages.proofs.LoneEntry.{only_numbers, only_some, only_few, only_sized}
use Rattle.command_pages.proofs.laying.lay_one.Goals as goal

pub overflow_cast-next : goal.overflow_cast-next
overflow_cast-next c =
    omega (
      arith,
      only_numbers c.args.streams.now c.args.entries.now c.index-entries-0.result c.next_sequence-next.result c.requires.one (c.index-entries-0.is, c.next_sequence-next.ensures) c.requires.fits.numbered,
      only_some c.args.entries.now c.requires.one,
    )

pub lay_run-requires-clause-numbers : goal.lay_run-requires-clause-numbers
lay_run-requires-clause-numbers c =
    only_numbers c.args.streams.now c.args.entries.now c.index-entries-0.result c.next_sequence-next.result c.requires.one (c.index-entries-0.is, c.next_sequence-next.ensures) c.requires.fits.numbered

pub lay_run-requires-clause-count : goal.lay_run-requires-clause-count
lay_run-requires-clause-count c = only_few c.args.entries.now c.requires.one c.requires.fits.short

pub returns-in-Err-clause-full : goal.returns-in-Err-clause-full
returns-in-Err-clause-full c = omega (arith, c.in-Err.ensures.full, only_sized c.args.streams.now c.args.entries.now c.requires.one)
