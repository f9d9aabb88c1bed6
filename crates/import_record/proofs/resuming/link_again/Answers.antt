use Rattle.std.proofs.Common.{◌≡◌, ◌++◌, ◌∷◌, [], List, None, map, ◌∙◌, ap}
use Rattle.std.specs.List.{filter}
use Rattle.ogg_command.specs.declared.command.Command.{Command}
use Rattle.ogg_command.specs.declared.command.Command.TheVariants.{Begin as BeginOf}
use Rattle.ogg_command.specs.declared.command.NewStream.{NewStream}
use Rattle.import_record.specs.Begun.{comes_again, stream_of}
use Rattle.import_record.specs.Resuming.{begin_of, end_again, is_over}
use Rattle.import_record.proofs.resuming.link_again.Goals as goal

pub returns : goal.returns
returns c =
    let all : c.push.new.self.items ≡ begin_of (map stream_of (filter comes_again c.args.streams.now)) ∷ [] =
    c.in_ok-push.ensures.items
    ∙ ap (λ (l : List Command). l ++ BeginOf (record { skeleton = None; streams = c.of.result }) ∷ []) c.new-commands.ensures.items
    ∙ ap (λ (s : List NewStream). BeginOf (record { skeleton = None; streams = s }) ∷ []) (c.of.ensures ∙ c.in_ok-again.ensures) in
    c.in_ok-push_ends_again.ensures
    ∙ ap (λ (l : List Command). l ++ map end_again (filter is_over c.args.streams.now)) all
