use Rattle.std.proofs.Common.{◌≡◌, ◌+◌, ◌∷◌, ◌++◌, [], ℕ, List, take, sym, ◌∙◌, ap}
use Rattle.std.proofs.lemmas.List.{take_more}
use Rattle.ogg_command.specs.declared.command.Command.{Command}
use Rattle.import_record.specs.Begun.{streams_with}
use Rattle.import_record.proofs.Kept.{streams_more}
use Rattle.import_record.proofs.begun.keep_all_streams.Goals as goal

pub loop-command-preserved : goal.loop-command-preserved
loop-command-preserved c =
    let commands : List Command = c.args.commands.now in
    let i : ℕ = c.loop-command.command-index in
    let more : take (i + 1) commands ≡ take i commands ++ c.command-item.result ∷ [] =
    take_more commands i c.command-item.result c.loop-command-test.true ∙ ap (λ (x : Command). take i commands ++ x ∷ []) (sym c.command-item.is) in
    c.in_ok-keep_streams.ensures.streams
    ∙ ap (λ l. streams_with l c.command-item.result) c.loop-command.invariant
    ∙ sym (streams_more c.args.streams.now.items commands i c.command-item.result more)
