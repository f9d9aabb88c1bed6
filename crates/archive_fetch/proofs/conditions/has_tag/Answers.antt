use Rattle.std.proofs.Common.{ℕ, List, sym, ◌∙◌, subst}
use Rattle.memchr.specs.Find.{OccursAt}
use Rattle.archive_fetch.proofs.Tags.{stands_nowhere, stands_there}
use Rattle.archive_fetch.proofs.conditions.has_tag.Goals as goal

pub returns-clause-yes : goal.returns-clause-yes
returns-clause-yes c some =
    subst (λ (tag : List ℕ). (at : ℕ) × OccursAt c.args.value.now tag at) (c.as_slice.ensures.value ∙ c.tag_of-tag.ensures)
    (stands_there c.args.value.now c.as_slice.result.now c.find.result c.find.ensures (sym c.is_some.ensures ∙ some))

pub returns-clause-no : goal.returns-clause-no
returns-clause-no c none at occurs =
    stands_nowhere c.args.value.now c.as_slice.result.now c.find.result c.find.ensures (sym c.is_some.ensures ∙ none) at
    (subst (λ (tag : List ℕ). OccursAt c.args.value.now tag at) (sym (c.as_slice.ensures.value ∙ c.tag_of-tag.ensures)) occurs)
