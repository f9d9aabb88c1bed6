use Rattle.std.proofs.Common.{◌≡◌, ◌∙◌, ◌++◌, List, ℕ, ap, sym, refl, Some, None}
use Rattle.std.specs.List.{concat}
use Rattle.std.proofs.lemmas.Bool.{false≢true}
use Rattle.std.proofs.lemmas.Bool.Decides.{Decides-eqb}
use Rattle.std.proofs.lemmas.Slice.Eq.{strip_prefix_is}
use Rattle.ogg_page.specs.Laws.Prefixes.{same_fronts}
use Rattle.packet_view.proofs.joining.are_bytes.Goals as goal

pub loop-part-preserved : goal.loop-part-preserved
loop-part-preserved c =
    let part : List ℕ = c.in-Some.part.now in
    let step : concat c.loop-part.parts ≡ part ++ concat c.next.new.self = ap concat c.in-Some.ensures.steps in
    let split : c.loop-part.left.now ≡ part ++ c.in-Some-strip_prefix.rest.now =
    strip_prefix_is Decides-eqb c.loop-part.left.now part (Some c.in-Some-strip_prefix.rest) c.in-Some-strip_prefix.ensures.cases in
    record {
      there = λ e. (same_fronts part part (concat c.next.new.self) c.in-Some-strip_prefix.rest.now refl (sym step ∙ c.loop-part.invariant.there e ∙ split)).1;
      back = λ e. c.loop-part.invariant.back (step ∙ ap (λ l. part ++ l) e ∙ sym split);
    }

pub returns-in-None : goal.returns-in-None
returns-in-None c =
    let part : List ℕ = c.in-Some.part.now in
    let step : concat c.loop-part.parts ≡ part ++ concat c.next.new.self = ap concat c.in-Some.ensures.steps in (
      λ t. absurd (false≢true t),
      λ e. absurd (strip_prefix_is Decides-eqb c.loop-part.left.now part None c.in-None.ensures.cases (concat c.next.new.self) (sym (c.loop-part.invariant.there e) ∙ step)),
    )
