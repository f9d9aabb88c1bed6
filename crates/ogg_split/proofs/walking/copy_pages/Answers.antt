use Rattle.std.proofs.Common.{length, sym, ◌∙◌, ◌≡◌, ◌≢◌, [], arith, rules}
use Rattle.std.proofs.lemmas.Bool.{eqb-true}
use Rattle.std.proofs.lemmas.List.{nil_from_length}
use Rattle.ogg_split.proofs.Copied.{passed, cut_within, finished, no_fault}
use Rattle.ogg_split.proofs.walking.copy_pages.Goals as goal

pub returns-in-Err-clause-sound : goal.returns-in-Err-clause-sound
returns-in-Err-clause-sound g c pages are is e =
    let some : c.loop-rest.rest.now ≢ [] = search rules in
    no_fault c.args.serial pages _ _ _ c.loop-rest.count c.in-Err.field-0 (c.loop-rest.invariant.copied pages are is) some c.in-Err.ensures.split

pub returns-in-Err-copy_page-clause-copied : goal.returns-in-Err-copy_page-clause-copied
returns-in-Err-copy_page-clause-copied g c pages are is =
    let split = c.in-Ok.ensures.split in
    cut_within c.args.serial pages _ _ _ _ _ c.loop-rest.count c.in-Ok.split.0 (c.loop-rest.invariant.copied pages are is) split.0 split.1 c.in-Err-copy_page.ensures.copied

pub loop-rest-preserved : goal.loop-rest-preserved
loop-rest-preserved g c =
    let split = c.in-Ok.ensures.split in
    let wrote = c.in-Ok-copy_page.ensures.copied in
    record {
      small = omega (arith, c.loop-rest.invariant.small, c.in-Ok.ensures.size, c.in-Ok-copy_page.ensures.bound);
      copied = λ pages are is. passed c.args.serial pages _ _ _ _ _ c.loop-rest.count c.in-Ok-copy_page.size c.in-Ok.split.0 (c.loop-rest.invariant.copied pages are is)
          split.0 split.1 wrote.1 wrote.0;
    }

pub returns-clause-copied : goal.returns-clause-copied
returns-clause-copied g c pages are is =
    let none : c.loop-rest.rest.now ≡ [] = nil_from_length c.loop-rest.rest.now (eqb-true (length c.loop-rest.rest.now) 0 (sym c.is_empty.ensures ∙ c.loop-rest-test.false)) in
    finished c.args.serial pages _ _ _ c.loop-rest.count (c.loop-rest.invariant.copied pages are is) none
