use Rattle.std.proofs.Common.{◌≡◌, ◌+◌, ◌<◌, ◌++◌, ◌∷◌, [], ℕ, List, arith, refl, sym, ◌∙◌, ap, subst, take, drop, length, append_assoc}
use Rattle.std.specs.List.{AllByRecursion, list_any}
use Rattle.ogg_command.specs.declared.command.Command.{Command}
use Rattle.import_changes.specs.Changed.{ChangeState, HasChangedBeside, IsPlain, begins}
use Rattle.import_changes.specs.Options.{is_none}
use Rattle.import_changes.specs.Steps.{BeginAt, option_list}
use Rattle.import_changes.proofs.Dated.{both_at, same_at}
use Rattle.std.proofs.lemmas.List.{take-append-drop}
use Rattle.import_changes.proofs.Lacks.{none_before}
use Rattle.import_changes.proofs.Moved.{Moved, as_moved, has_begin, itself, met, one_changed, stands}
use Rattle.import_changes.proofs.Steps.{all_front, all_last, apply_step, same_commands}
use Rattle.import_changes.proofs.changes.Changes.apply.Goals as goal

pub returns-then-is_none-clause-changed : goal.returns-then-is_none-clause-changed
returns-then-is_none-clause-changed c = λ taken before given h plain.
    same_commands taken c.args.self.now before given c.args.commands.items
    (ap (λ (s : ChangeState). is_none s.options) (sym c.self.view_is) ∙ sym c.is_none.ensures ∙ c.if-is_none.true) h plain

pub returns-in-Err-clause-full : goal.returns-in-Err-clause-full
returns-in-Err-clause-full c =
    let was : List Command = c.args.commands.items in
    let place : ℕ = c.loop-place.place in
    let inside : place < length was = omega (arith, c.loop-place-test.true, c.len-place-end.ensures, c.args.commands.ok.0) in (
      ap is_none (sym c.loop-place.invariant.options) ∙ c.in-Err.ensures.full.0,
      has_begin was place c.index_mut.result.now inside
          (stands was _ _ place _ c.index_mut.result.now c.loop-place.invariant.moved ∙ sym c.index_mut.ensures.value)
          (ap begins (sym c.replace-command.ensures.value) ∙ c.in-Err.ensures.full.1),
    )

pub returns-in-Err-clause-lacks : goal.returns-in-Err-clause-lacks
returns-in-Err-clause-lacks c =
    let was : List Command = c.args.commands.items in
    let place : ℕ = c.loop-place.place in
    let command : Command = c.replace-command.result in
    let inv = c.loop-place.invariant in
    let inside : place < length was = omega (arith, c.loop-place-test.true, c.len-place-end.ensures, c.args.commands.ok.0) in
    let more : take (place + 1) was ≡ take place was ++ command ∷ [] =
    met was _ _ place _ _ inv.moved inside ∙ ap (λ x. take place was ++ x ∷ []) (sym (c.replace-command.ensures.value ∙ c.index_mut.ensures.value)) in
    record {
      before = take place was;
      command = command;
      more = drop (place + 1) was;
      commands_are = sym (take-append-drop (place + 1) was) ∙ ap (λ l. l ++ drop (place + 1) was) more
          ∙ append_assoc (take place was) (command ∷ []) (drop (place + 1) was);
      mid = c.loop-place.self;
      given = take c.loop-place.kept c.loop-place.commands.items;
      changed = inv.changed;
      options = inv.options;
      name_room = inv.name_room;
      same = inv.same;
      lacks = c.in-Err.ensures.lacks;
    }

pub loop-place-preserved : goal.loop-place-preserved
loop-place-preserved c =
    let was : List Command = c.args.commands.items in
    let now : List Command = c.loop-place.commands.items in
    let place : ℕ = c.loop-place.place in
    let kept : ℕ = c.loop-place.kept in
    let command : Command = c.replace-command.result in
    let inv = c.loop-place.invariant in
    let inside : place < length was = omega (arith, c.loop-place-test.true, c.len-place-end.ensures, c.args.commands.ok.0) in
    let more : take (place + 1) was ≡ take place was ++ command ∷ [] =
    met was now _ place kept _ inv.moved inside ∙ ap (λ x. take place was ++ x ∷ []) (sym (c.replace-command.ensures.value ∙ c.index_mut.ensures.value)) in
    let after : Moved was c.put_back-kept.new.commands.items (take kept now ++ option_list c.in-Ok.changed) (place + 1) c.put_back-kept.result =
    as_moved was _ _ _ _ _ _ _ c.put_back-kept.ensures.items refl c.put_back-kept.ensures.next
    (one_changed was now (take kept now) place kept _ c.in-Ok.changed inv.moved inside) in
    record {
      changed = λ taken before given h plain.
          let all : AllByRecursion IsPlain (take place was ++ command ∷ []) = subst (AllByRecursion IsPlain) more plain in
          subst (λ l. HasChangedBeside taken c.change.new.self (before ++ l) (given ++ take c.put_back-kept.result c.put_back-kept.new.commands.items)) (sym more)
          (apply_step taken c.change.new.self before (take place was) given (take kept now) (take c.put_back-kept.result c.put_back-kept.new.commands.items) command
          c.in-Ok.changed
          (c.in-Ok.ensures.changed taken (before ++ take place was) (given ++ take kept now)
          (inv.changed taken before given h (all_front IsPlain (take place was) command all)) (all_last IsPlain (take place was) command all))
          after.front);
      moved = itself was _ _ (place + 1) _ after;
      options = c.change.ensures.options ∙ inv.options;
      name_room = omega (arith, inv.name_room, c.change.ensures.name_room);
      same = λ none.
          let (front, last) = none_before begins (take place was) command (ap (list_any begins) (sym more) ∙ none) in
          c.change.ensures.stays last ∙ inv.same front;
      times = subst (λ l. BeginAt c.args.utc c.args.self.now.options l (take c.put_back-kept.result c.put_back-kept.new.commands.items)) (sym more)
          (subst (BeginAt c.args.utc c.args.self.now.options (take place was ++ command ∷ [])) (sym after.front)
          (both_at c.args.utc c.args.self.now.options (take place was) (command ∷ []) (take kept now) (option_list c.in-Ok.changed) inv.times
          (subst (λ o. BeginAt c.args.utc o (command ∷ []) (option_list c.in-Ok.changed)) inv.options c.in-Ok.ensures.times)));
    }

pub returns-then-is_none-clause-times : goal.returns-then-is_none-clause-times
returns-then-is_none-clause-times c = same_at c.args.utc c.args.self.now.options c.args.commands.items
    (ap (λ (s : ChangeState). is_none s.options) (sym c.self.view_is) ∙ sym c.is_none.ensures ∙ c.if-is_none.true)
