use Rattle.std.proofs.Common.{ℕ, sym, subst, List, [], ◌∷◌, ◌++◌}
use Rattle.std.specs.List.{AllZip}
use Rattle.ogg_command.specs.declared.command.NewStream.{NewStream}
use Rattle.import_changes.specs.Steps.{IsDescribedUnder}
use Rattle.import_changes.proofs.Lists.{zip_push}
use Rattle.import_changes.proofs.Begins.{described_under}
use Rattle.import_changes.proofs.describing.all_described.Goals as goal

pub loop-stream-preserved : goal.loop-stream-preserved
loop-stream-preserved c =
    let names : List (ℕ × ℕ) = c.args.names.now in
    let said : List (List ℕ) = c.args.said.now in
    let yielded : List NewStream = c.loop-stream.yielded in
    let now : List NewStream = c.loop-stream.now.items in
    subst (AllZip (IsDescribedUnder names said) (yielded ++ c.in-Some.stream ∷ [])) (sym c.in_ok-push.ensures.items)
    (zip_push (IsDescribedUnder names said) yielded now c.in-Some.stream c.take_name.new.stream c.loop-stream.invariant
    (subst (IsDescribedUnder names said c.in-Some.stream) (sym c.take_name.ensures)
    (described_under names said c.in-Some.stream c.in_ok-described.described c.in_ok-described.ensures.described
    c.in_ok-described.ensures.serial)))
