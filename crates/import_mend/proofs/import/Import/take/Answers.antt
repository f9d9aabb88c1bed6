use Rattle.std.proofs.Common.{◌≡◌, Bool, true, false, refl, sym, ◌∙◌}
use Rattle.import_mend.specs.Losses.{lost_in}
use Rattle.import_mend.proofs.import.Import.take.Goals as goal

-- a step with a page isn't one without
some_page : {A : Type 0} (b : Bool) → b ≡ true → b ≡ false → A
some_page b is not = cc

pub returns-in_ok-mend-in-Some-clause-steps : goal.returns-in_ok-mend-in-Some-clause-steps
returns-in_ok-mend-in-Some-clause-steps c =
    let lost = lost_in c.args.self.now.mender.losses c.args.self.now.gatherer.chain.streams c.in-Some.page.serial in
    let (more, items, gives) = c.in_ok-mend-in-Some.ensures.gives lost refl in (
      more,
      items,
      (
        (λ _. (
          c.in-Some.offset,
          c.in-Some.page,
          c.whole-bytes.ensures.is_page,
          sym c.lent.ensures ∙ c.in-Some.is,
          (c.in_ok-mend-in-Some.ensures.mends lost refl, gives),
        )),
        λ without. some_page true refl without,
      ),
    )
