use Rattle.std.proofs.Common.{◌≡◌, ◌+◌, ◌∷◌, ◌++◌, [], ℕ, List, take, drop, sym, ◌∙◌, ap}
use Rattle.std.proofs.lemmas.List.{take_more, drop_more, take-append-drop}
use Rattle.ogg_command.specs.declared.command.Command.{Command}
use Rattle.import_record.proofs.RunOn.{run_on, stops_at}
use Rattle.import_record.proofs.answering.run_all.Goals as goal

pub returns-in-Err-clause-err : goal.returns-in-Err-clause-err
returns-in-Err-clause-err g c before is =
    let commands : List Command = c.args.commands.now in
    let i : ℕ = c.loop-command.command-index in
    let command : Command = c.command-item.result in
    let (mid, here, run) = c.loop-command.invariant before is in
    let (reply, own, reached, next, still, part) = c.in-Err.ensures.err mid here in
    let more : drop i commands ≡ command ∷ drop (i + 1) commands =
    drop_more commands i command c.loop-command-test.true ∙ ap (λ (x : Command). x ∷ drop (i + 1) commands) (sym c.command-item.is) in (
      mid,
      still,
      stops_at g.T.Runner.answers commands i command c.loop-command.answered reply own before mid reached _ _ _
          (sym (take-append-drop i commands) ∙ ap (λ l. take i commands ++ l) more) run next part,
    )

pub loop-command-preserved : goal.loop-command-preserved
loop-command-preserved g c before is =
    let commands : List Command = c.args.commands.now in
    let i : ℕ = c.loop-command.command-index in
    let command : Command = c.command-item.result in
    let (mid, here, run) = c.loop-command.invariant before is in
    let (own, after, next, now, written) = c.in-Ok.ensures.ok mid here in
    let more : take (i + 1) commands ≡ take i commands ++ command ∷ [] =
    take_more commands i command c.loop-command-test.true ∙ ap (λ (x : Command). take i commands ++ x ∷ []) (sym c.command-item.is) in (
      after,
      now,
      run_on g.T.Runner.answers commands i command c.loop-command.answered c.with-answered.result c.in-Ok.reply own before mid after _ _ _
          c.loop-command-test.true run next written more c.with-answered.ensures,
    )
