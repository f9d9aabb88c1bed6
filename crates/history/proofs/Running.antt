-- What many commands leave at each moment.
use Rattle.std.specs.Prelude.{◌≡◌, ℕ, false, List, [], ◌∷◌, ◌++◌, refl}
use Rattle.std.specs.List.{fold}
use Rattle.std.proofs.Common.{⊎_elim, sym, ◌∙◌, ap, subst, append_assoc}
use Rattle.std.proofs.lemmas.List.{append-nil}
use Rattle.std.proofs.lemmas.List.Sums.{fold-append}
use Rattle.disk_model.specs.declared.disk.Disk.{Ghosts as DiskModel}
use Rattle.disk_model.specs.Image.{DiskState}
use Rattle.disk_model.specs.Clock.{HasImages}
use Rattle.disk_model.specs.Leaving.{LeavesOnly, started, and_then}
use Rattle.history.specs.Showing.{ShowsOnly}
use Rattle.history.specs.World.{World, Call, Opening, Staging, Committing, Flushing, Sealing, Reading, Step, Held, Kept, Flushed, Refused, Faulted, begun, happens, disk_after, now_in}
use Rattle.history.specs.History.{Leaves, AreSteps}
use Rattle.history.specs.Runs.{ShowsSome, accepted_by, accepted, IsCommand, AreCommands}
use Rattle.history.proofs.Worlds.{not_open}

module _ {D S C : Type 0} (model : DiskModel D) (shows : List ℕ → S → Type 0) (accepts : S → C → Type 0) (next : S → C → S)
    (laws : (disk : D) → model.is_honest disk → HasImages (model.state disk) (model.moment disk) (model.images_since disk)) (first : S) where
  abbrev Some : List C → List ℕ → Type 0
  Some all image = ShowsSome shows next first all image

  some_more : (all more : List C) (image : List ℕ) → Some all image → Some (all ++ more) image
  some_more all more image shown = record {
    some = shown.some;
    rest = shown.rest ++ more;
    is = ap (λ (l : List C). l ++ more) shown.is ∙ append_assoc shown.some shown.rest more;
    shown = shown.shown;
  }

  none_more : (all kept held more : List C) (image : List ℕ) → all ≡ kept ++ held → shows image (fold next first kept) → Some (all ++ more) image
  none_more all kept held more image is shown =
      record { some = kept; rest = held ++ more; is = ap (λ (l : List C). l ++ more) is ∙ append_assoc kept held more; shown = shown }

  with_group : (all kept held more : List C) (image : List ℕ) → all ≡ kept ++ held → shows image (fold next (fold next first kept) (held ++ more)) → Some (all ++ more) image
  with_group all kept held more image is shown = record {
    some = kept ++ (held ++ more);
    rest = [];
    is = ap (λ (l : List C). l ++ more) is ∙ append_assoc kept held more ∙ sym (append-nil (kept ++ (held ++ more)));
    shown = subst (shows image) (sym (fold-append next first kept (held ++ more))) shown;
  }

  -- one more call
  call_more : (old mid new : D) (all : List C) (w : World C) (call : Call C) → IsCommand call → all ≡ w.acknowledged ++ w.held → LeavesOnly model old mid (Some all)
      → Leaves model shows next first w call mid new → LeavesOnly model old new (Some (all ++ accepted_by call))
  call_more old mid new all w Opening may is so_far leaves = absurd may
  call_more old mid new all w Reading may is so_far leaves = absurd may
  call_more old mid new all w Sealing may is so_far leaves = absurd may
  call_more old mid new all w (Staging c) may is so_far leaves =
      and_then model old mid new _ _ _ so_far leaves (some_more all (c ∷ [])) (λ image. none_more all w.acknowledged w.held (c ∷ []) image is)
  call_more old mid new all w (Committing c) may is so_far leaves =
      and_then model old mid new _ _ _ so_far leaves (some_more all (c ∷ []))
      (λ image either. ⊎_elim (none_more all w.acknowledged w.held (c ∷ []) image is) (with_group all w.acknowledged w.held (c ∷ []) image is) either)
  call_more old mid new all w Flushing may is so_far leaves =
      and_then model old mid new _ _ _ so_far leaves (some_more all [])
      (λ image either. ⊎_elim (none_more all w.acknowledged w.held [] image is)
      (λ shown. with_group all w.acknowledged w.held [] image is (subst (λ (l : List C). shows image (fold next (now_in next first w) l)) (sym (append-nil w.held)) shown)) either)

  as_all : (old new : D) (xs ys : List C) → xs ≡ ys → LeavesOnly model old new (Some xs) → LeavesOnly model old new (Some ys)
  as_all old new xs ys is leaves = subst (λ (l : List C). LeavesOnly model old new (Some l)) is leaves

  -- if it isn't open, each command is refused
  shut : (old mid : D) (w : World C) (steps : List (Step C × D)) (all : List C) → w.is_open ≡ false → LeavesOnly model old mid (Some all)
      → AreSteps model shows accepts next first w mid steps → AreCommands steps → LeavesOnly model old (disk_after mid steps) (Some (all ++ accepted steps))
  shut old mid w [] all is so_far are commands = as_all old mid all (all ++ []) (sym (append-nil all)) so_far
  shut old mid w ((Held c, new) ∷ steps) all is so_far are commands = not_open w.is_open is are.0.0.0
  shut old mid w ((Kept c, new) ∷ steps) all is so_far are commands = not_open w.is_open is are.0.0.0
  shut old mid w ((Flushed, new) ∷ steps) all is so_far are commands = not_open w.is_open is are.0.0
  shut old mid w ((Refused c, new) ∷ steps) all is so_far are commands = shut old new w steps all is (subst (λ (d : D). LeavesOnly model old d (Some all)) (sym are.0.1) so_far) are.1 commands
  shut old mid w ((Faulted (Staging c), new) ∷ steps) all is so_far are commands = not_open w.is_open is are.0.0.0
  shut old mid w ((Faulted (Committing c), new) ∷ steps) all is so_far are commands = not_open w.is_open is are.0.0.0
  shut old mid w ((Faulted Flushing, new) ∷ steps) all is so_far are commands = not_open w.is_open is are.0.0
  shut old mid w ((Faulted Opening, new) ∷ steps) all is so_far are commands = absurd commands.0
  shut old mid w ((Faulted Sealing, new) ∷ steps) all is so_far are commands = absurd commands.0
  shut old mid w ((Faulted Reading, new) ∷ steps) all is so_far are commands = absurd commands.0
  shut old mid w ((step, new) ∷ steps) all is so_far are commands = absurd commands

  -- a fault ends the run
  faulted : (old mid new : D) (w : World C) (call : Call C) (steps : List (Step C × D)) (all : List C) → all ≡ w.acknowledged ++ w.held → LeavesOnly model old mid (Some all)
      → Leaves model shows next first w call mid new → IsCommand call
      → AreSteps model shows accepts next first (begun w call) new steps → AreCommands steps → LeavesOnly model old (disk_after new steps) (Some (all ++ (accepted_by call ++ accepted steps)))
  faulted old mid new w call steps all is so_far leaves may are commands =
      as_all old (disk_after new steps) (all ++ accepted_by call ++ accepted steps) (all ++ (accepted_by call ++ accepted steps)) (append_assoc all (accepted_by call) (accepted steps))
      (shut old new (begun w call) steps (all ++ accepted_by call) refl (call_more old mid new all w call may is so_far leaves) are commands)

  -- from one open world on
  runs : (old mid : D) (w : World C) (steps : List (Step C × D)) (all : List C) → all ≡ w.acknowledged ++ w.held → LeavesOnly model old mid (Some all)
      → AreSteps model shows accepts next first w mid steps → AreCommands steps → LeavesOnly model old (disk_after mid steps) (Some (all ++ accepted steps))
  runs old mid w [] all is so_far are commands = as_all old mid all (all ++ []) (sym (append-nil all)) so_far
  runs old mid w ((Held c, new) ∷ steps) all is so_far are commands =
      as_all old (disk_after new steps) (all ++ c ∷ [] ++ accepted steps) (all ++ (c ∷ accepted steps)) (append_assoc all (c ∷ []) (accepted steps))
      (runs old new (happens w (Held c)) steps (all ++ c ∷ []) (ap (λ (l : List C). l ++ c ∷ []) is ∙ append_assoc w.acknowledged w.held (c ∷ []))
      (call_more old mid new all w (Staging c) tt is so_far are.0.1) are.1 commands)
  runs old mid w ((Kept c, new) ∷ steps) all is so_far are commands =
      as_all old (disk_after new steps) (all ++ c ∷ [] ++ accepted steps) (all ++ (c ∷ accepted steps)) (append_assoc all (c ∷ []) (accepted steps))
      (runs old new (happens w (Kept c)) steps (all ++ c ∷ []) (ap (λ (l : List C). l ++ c ∷ []) is ∙ append_assoc w.acknowledged w.held (c ∷ []) ∙ sym (append-nil (w.acknowledged ++ (w.held ++ c ∷ []))))
      (call_more old mid new all w (Committing c) tt is so_far are.0.1.0) are.1 commands)
  runs old mid w ((Flushed, new) ∷ steps) all is so_far are commands =
      runs old new (happens w Flushed) steps all (is ∙ sym (append-nil (w.acknowledged ++ w.held)))
      (as_all old new (all ++ []) all (append-nil all) (call_more old mid new all w Flushing tt is so_far are.0.1.0)) are.1 commands
  runs old mid w ((Refused c, new) ∷ steps) all is so_far are commands = runs old new w steps all is (subst (λ (d : D). LeavesOnly model old d (Some all)) (sym are.0.1) so_far) are.1 commands
  runs old mid w ((Faulted call, new) ∷ steps) all is so_far are commands = faulted old mid new w call steps all is so_far are.0.1 commands.0 are.1 commands.1
  runs old mid w ((step, new) ∷ steps) all is so_far are commands = absurd commands

  pub run_law : (w : World C) (disk : D) (steps : List (Step C × D)) → model.is_honest disk → ShowsOnly shows (model.state disk) (now_in next first w)
      → AreSteps model shows accepts next first w disk steps → AreCommands steps
      → LeavesOnly model disk (disk_after disk steps) (ShowsSome shows next first (w.acknowledged ++ w.held ++ accepted steps))
  run_law w disk steps honest shown are commands =
      runs disk disk w steps (w.acknowledged ++ w.held) refl
      (started model disk (Some (w.acknowledged ++ w.held)) (λ image since. record { some = w.acknowledged; rest = w.held; is = refl; shown = shown image ((laws disk honest).only_now image since) }))
      are commands
