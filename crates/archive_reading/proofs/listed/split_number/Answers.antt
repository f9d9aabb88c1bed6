use Rattle.std.proofs.Common.{◌∷◌, [], ◌++◌, List, sym, ◌∙◌, ap, arith, append_assoc, length-append}
use Rattle.archive_reading.specs.declared.listed.Entry.{Entry}
use Rattle.archive_reading.proofs.Groups.{all_more}
use Rattle.archive_reading.proofs.listed.split_number.Goals as goal

pub loop-entry-preserved : goal.loop-entry-preserved
loop-entry-preserved c =
    let (front, is, count, same) = c.loop-entry.invariant in
    let split = c.in-Some.ensures.cases.0 in (
      front ++ c.in-Some.entry.now ∷ [],
      is ∙ ap (λ (l : List Entry). front ++ l) split ∙ sym (append_assoc front (c.in-Some.entry.now ∷ []) c.in-Some.others.now),
      omega (arith, count, length-append front (c.in-Some.entry.now ∷ [])),
      all_more c.args.number front c.in-Some.entry.now same c.if-entry-number.false,
    )
