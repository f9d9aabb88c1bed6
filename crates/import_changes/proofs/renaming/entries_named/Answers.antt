use Rattle.std.proofs.Common.{◌≡◌, ◌+◌, ◌<◌, ◌++◌, ◌∷◌, ℕ, List, Some, None, arith, sym, ◌∙◌, ap, take, length, append-nil, []}
use Rattle.ogg_command.specs.declared.command.Entry.{Entry}
use Rattle.import_changes.specs.Naming.{entries_named}
use Rattle.std.specs.Global.{Vec}
use Rattle.std.proofs.lemmas.List.{take_all}
use Rattle.import_changes.proofs.Moved.{as_moved, met, none_moved, one_kept, one_left}
use Rattle.import_changes.proofs.Names.{entries_push}
use Rattle.import_changes.proofs.renaming.entries_named.Goals.{in-Some, in_default}
use Rattle.import_changes.proofs.renaming.entries_named.Goals as goal

pub loop-place-init : goal.loop-place-init
loop-place-init c = none_moved c.args.entries.items

pub index_mut-requires-in-Some : goal.index_mut-requires-in-Some
index_mut-requires-in-Some c =
    omega (arith, c.loop-place.invariant.fits, c.loop-place.invariant.size, c.loop-place-test.true, c.len-place-end.ensures, c.loop-place.entries.ok.0, c.args.entries.ok.0)

pub overflow_add-kept : goal.overflow_add-kept
overflow_add-kept c = omega (arith, c.loop-place.invariant.fits, c.loop-place-test.true, c.len-place-end.type_inv)

pub loop-place-preserved : goal.loop-place-preserved
loop-place-preserved c =
    let names : List (ℕ × ℕ) = c.args.names.now in
    let was : List Entry = c.args.entries.items in
    let place : ℕ = c.loop-place.place in
    let entry : Entry = c.replace-entry.result in
    let moved = c.loop-place.invariant in
    let inside : place < length was = omega (arith, c.loop-place-test.true, c.len-place-end.ensures, c.args.entries.ok.0) in
    let more : take (place + 1) was ≡ take place was ++ entry ∷ [] =
    met _ _ _ _ _ _ moved inside ∙ ap (λ x. take place was ++ x ∷ []) (sym (c.replace-entry.ensures.value ∙ c.index_mut.ensures.value)) in
    elim c.match-name_of.branch [
      | in-Some w ↦ as_moved was _ _ _ _ _ _ _ (ap (λ (v : Vec Entry). v.items) w.entries-is)
          (ap (entries_named names) more ∙ entries_push names (take place was) entry (Some w.in-Some.serial) (sym c.name_of.ensures ∙ w.in-Some.is)) w.kept-is
          (one_kept was _ _ place c.loop-place.kept _ (record entry { serial = w.in-Some.serial }) moved inside)
      | in_default w ↦ as_moved was _ _ _ _ _ _ _ (ap (λ (v : Vec Entry). v.items) w.entries-is)
          (ap (entries_named names) more ∙ entries_push names (take place was) entry None (sym c.name_of.ensures ∙ w.in_default.is) ∙ append-nil _) w.kept-is
          (one_left was _ _ place c.loop-place.kept _ moved)
    ]

pub returns : goal.returns
returns c =
    let was : List Entry = c.args.entries.items in
    c.truncate.ensures.items ∙ c.loop-place.invariant.front
    ∙ ap (entries_named c.args.names.now) (take_all c.loop-place.place was (omega (arith, c.loop-place-test.false, c.len-place-end.ensures, c.args.entries.ok.0)))
