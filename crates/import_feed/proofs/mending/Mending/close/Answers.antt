use Rattle.std.proofs.Common.{List, [], ◌++◌, refl, sym, ◌∙◌, ap, subst}
use Rattle.std.proofs.lemmas.Result.{IfErr-weaker, on_ok_weaker}
use Rattle.ogg_command.specs.declared.command.Command.{Command}
use Rattle.import_mend.specs.Gives.{GivesEnd}
use Rattle.import_feed.specs.Mending.{AreTold, begun_in, mended_by}
use Rattle.import_feed.proofs.MendedSteps.{closes_by, closes_well, rest_plain, stops_giving, stops_here}
use Rattle.import_feed.proofs.mending.Mending.close.Goals as goal

pub returns-in-Err : goal.returns-in-Err
returns-in-Err g c = λ options before unaware last still.
    (still.given, stops_here g.M.Mends.tells options before _ _ unaware _ _ last c.args.self.now [] still refl refl)

pub returns : goal.returns
returns g c = λ options before unaware last still.
    let (more, all, given) = c.in-Ok.ensures.gives in
    let ends : GivesEnd c.args.self.now.import.gatherer c.finish.new.self.gatherer c.finish.new.commands.items =
    subst (GivesEnd c.args.self.now.import.gatherer c.finish.new.self.gatherer)
    (sym (all ∙ ap (λ (l : List Command). l ++ more) c.new-commands.ensures.items)) given in
    let plain =
    rest_plain g.M.Mends.tells options before _ unaware _ last c.args.self.now c.finish.new.self.gatherer _
    c.commands_hold_sound_links.ensures.pages c.commands_begin_links_without_a_skeleton.ensures.end still ends in
    closes_by g.M.Mends.tells options c.give.result before _ unaware c.tell_end.new.mends still.steps c.args.self.now c.give.new.self
    (on_ok_weaker c.give.result
    (closes_well g.M.Mends.tells options before _ _ unaware _ _ last c.args.self.now _ c.give.new.self c.in-Ok.mend _
    c.args.self.now.import.pages.offset c.finish.new.self.gatherer still refl refl
    (subst (λ l. AreTold g.M.Mends.tells c.args.mends.now (mended_by c.in-Ok.mend ++ begun_in l) c.tell_end.new.mends)
    c.as_slice.ensures.value c.tell_end.ensures)
    c.in-Ok.ensures.told ends plain)
    c.give.ensures.ok)
    (IfErr-weaker c.give.result _ _
    (λ fault. stops_giving g.M.Mends.tells options fault before _ _ unaware _ _ last c.args.self.now _ _ _ still refl c.tell_end.ensures plain) c.give.ensures.err)
