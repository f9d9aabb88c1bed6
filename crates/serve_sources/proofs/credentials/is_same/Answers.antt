use Rattle.std.proofs.Common.{◌≡◌, take, rules, sym, ◌∙◌}
use Rattle.std.proofs.lemmas.Bool.Decides.{Decides-eqb, same_from_decides}
use Rattle.std.proofs.lemmas.List.{take_all}
use Rattle.std.proofs.lemmas.Slice.Eq.{bytes_eq-Decides}
use Rattle.serve_sources.proofs.Comparing.{more_compared}
use Rattle.serve_sources.proofs.credentials.is_same.Goals as goal

pub loop-i-preserved : goal.loop-i-preserved
loop-i-preserved c =
    more_compared _ _ c.loop-i.i c.loop-i.difference (search rules) (search rules) c.loop-i.invariant

pub returns : goal.returns
returns c =
    let decided = Decides-eqb c.loop-i.difference 0 in
    let given : take c.loop-i.i c.args.given.now ≡ c.args.given.now = take_all c.loop-i.i _ (search rules) in
    let kept : take c.loop-i.i c.args.kept.now ≡ c.args.kept.now = take_all c.loop-i.i _ (search rules) in
    same_from_decides _ _
    ((λ e. sym given ∙ c.loop-i.invariant.0 (decided.0 e) ∙ kept), (λ e. decided.1 (c.loop-i.invariant.1 (given ∙ e ∙ sym kept))))
    (bytes_eq-Decides c.args.given.now c.args.kept.now)
