-- Commands and flushes as steps of a history.
use Rattle.std.proofs.Common.{◌≡◌, inl, ℕ, ◌+◌, ◌≤◌, Bool, true, false, not, nat_lt, if◌then◌else◌, List, [], ◌∷◌, ◌++◌, length, take, refl, sym, ◌∙◌, ap, subst, append_assoc, length-append, Ok}
use Rattle.std.proofs.lemmas.Grind.{fold-append}
use Rattle.std.specs.List.{fold}
use Rattle.disk_model.specs.declared.disk.Disk.{Ghosts as DiskModel}
use Rattle.disk_model.specs.Leaving.{LeavesOnly, weakened}
use Rattle.gate_file.specs.Commit.{CommitsTo, CommitsToEither}
use Rattle.gate_file.specs.Gate.{EachImage}
use Rattle.gate_file.specs.GateFile as G
use Rattle.gate_file.specs.GateFile.{GateState}
use Rattle.link_chain.specs.ChainState.{ChainState}
use Rattle.link_chain.specs.Recording.{Recording, Holds}
use Rattle.chain_rules.specs.Decision.{decision}
use Rattle.chain_rules.specs.Encoding.{command_bytes}
use Rattle.chain_rules.specs.Recording.{add}
use Rattle.ogg_command.specs.Command.{IsCommand}
use Rattle.ogg_command.specs.Refusal.{code_of}
use Rattle.ogg_command.specs.declared.command.Command.{Command}
use Rattle.ogg_command.specs.declared.refusal.Refusal.{Refusal}
use Rattle.history.specs.World.{World, Call, Staging, Committing, Flushing, Step, Sealing, Sealed, Held, Kept, Flushed, Faulted, begun, closed, happens, now_in, group_in_doubt}
use Rattle.history.specs.Recovery.{lift_same, lift_group, recovers_only}
use Rattle.file_recorder.specs.Recovery.{Commits, Accepts}
use Rattle.file_recorder.specs.Taking.{HoldsChain}
use Rattle.file_recorder.specs.Recorder.{RecorderState, IsIn, recorder_state, committed, staged, IsRecorderStep}
use Rattle.file_recorder.specs.Answer.{call_of, refused_step}
use Rattle.file_recorder.proofs.Refused.{is_refused}
use Rattle.file_recorder.proofs.Growing.{AddsPackets, holds_grow, accepts_here}
use Rattle.file_recorder.proofs.Lasting.{same_front, staged_then}
use Rattle.file_recorder.proofs.Opened.{none_staged}

opened_if : (open_now : Bool) → false ≡ not open_now → open_now ≡ true
opened_if true e = refl
opened_if false e = absurd cc

add_last : (recording : Recording) (commands : List Command) (command : Command) → fold add recording (commands ++ command ∷ []) ≡ add (fold add recording commands) command
add_last recording commands command = fold-append add recording commands (command ∷ [])

module _ {D : Type 0} (model : DiskModel D) (first : Recording) (w : World Command) (old : RecorderState D) where
  -- if the recorder hasn't failed, its world is open, and each of its commands can be accepted
  pub is_open : IsIn model first w old → old.file.failed ≡ false → w.is_open ≡ true
  is_open is_in good = opened_if w.is_open (sym good ∙ is_in.failed)

  abbrev Stands : RecorderState D → World Command → Type 0
  Stands new world = IsIn model first world new

  abbrev Steps : Step Command → D → Type 0
  Steps step new = IsRecorderStep model first w step old.file.disk new

  accepted : (command : Command) (size : ℕ) → IsIn model first w old → old.file.failed ≡ false → model.is_honest old.file.disk → HoldsChain (committed model.state old ++ staged model.state old) old.chain → IsCommand command
      → decision old.chain command ≡ Ok size → Accepts (fold add (now_in add first w) w.held) command
  accepted command size is_in good honest chain is kept =
      accepts_here (committed model.state old ++ staged model.state old) old.chain (fold add (now_in add first w) w.held) command size chain (is_in.all (is_open is_in good) honest) is kept

  -- what is committed, with all that waits and the command
  with_command : AddsPackets → (command : Command) (size : ℕ) → IsIn model first w old → old.file.failed ≡ false → model.is_honest old.file.disk → HoldsChain (committed model.state old ++ staged model.state old) old.chain → IsCommand command
      → decision old.chain command ≡ Ok size → Holds (committed model.state old ++ (staged model.state old ++ command_bytes old.chain command)) (fold add (now_in add first w) (w.held ++ command ∷ []))
  with_command law command size is_in good honest chain is kept =
      subst (λ (l : List ℕ). Holds l (fold add (now_in add first w) (w.held ++ command ∷ []))) (append_assoc (committed model.state old) (staged model.state old) (command_bytes old.chain command))
      (subst (λ (r : Recording). Holds ((committed model.state old ++ staged model.state old) ++ command_bytes old.chain command) r) (sym (add_last (now_in add first w) w.held command))
      (holds_grow law (committed model.state old ++ staged model.state old) old.chain (fold add (now_in add first w) w.held) command size chain (is_in.all (is_open is_in good) honest) is kept))

  -- the recorder has failed, and its world is closed with this group in doubt
  pub is_in_closed : (group : List Command) (file : GateState D) (chain : ChainState) (kept held most : ℕ) → IsIn model first w old → model.is_honest old.file.disk → file.failed ≡ true
      → G.committed model.state file ≡ committed model.state old → Stands (recorder_state file chain old.tail kept held most) (closed w group)
  is_in_closed group file chain kept held most is_in honest bad same = record {
    failed = bad;
    none = λ e. absurd (shut e);
    count = λ e. absurd (shut e);
    kept = λ now. subst (λ (l : List ℕ). Holds l (now_in add first w)) (sym same) (is_in.kept honest);
    all = λ e. absurd (shut e);
  }
    where
      shut : false ≡ true → ⊥
      shut e = cc

  -- a command that the rules refuse changes nothing
  pub step_refused : (refusal : Refusal) (call : Call Command) (command : Command) → code_of refusal ≤ 19 → IsIn model first w old → model.is_honest old.file.disk
      → Steps (refused_step refusal call command) old.file.disk × Stands old (happens w (refused_step refusal call command))
  step_refused refusal call command few is_in honest =
      subst (λ (step : Step Command). Steps step old.file.disk × Stands old (happens w step)) (sym (is_refused refusal call command few)) ((tt, refl, honest), is_in)

  -- a sealing, or a fault in it
  pub sealed : IsIn model first w old → old.file.failed ≡ false → model.is_honest old.file.disk → (new : D) → model.is_honest new → LeavesOnly model old.file.disk new (CommitsTo (committed model.state old))
      → Steps Sealed new × Steps (Faulted Sealing) new
  sealed is_in good honest new now leaves =
      let same = lift_same Commits Holds model old.file.disk new (committed model.state old) (now_in add first w) (is_in.kept honest) leaves in
      ((is_open is_in good, same, now), (is_open is_in good, same, now))

  -- ---- a flush
  -- what waited is acknowledged
  is_in_flushed : (new : RecorderState D) → new.file.failed ≡ false → new.file.staged ≡ 0 → new.held ≡ 0 → Holds (committed model.state new) (fold add (now_in add first w) w.held) → Stands new (happens w Flushed)
  is_in_flushed new still nothing none holds =
      let here : Holds (committed model.state new) (now_in add first (happens w Flushed)) = subst (λ (r : Recording). Holds (committed model.state new) r) (sym (fold-append add first w.acknowledged w.held)) holds in
      record {
        failed = still;
        none = λ _. refl;
        count = λ _. sym none;
        kept = λ _. here;
        all = λ _ _. subst (λ (l : List ℕ). Holds l (now_in add first (happens w Flushed))) (sym (none_staged model.state new.file nothing)) here;
      }

  pub flushed : IsIn model first w old → w.is_open ≡ true → model.is_honest old.file.disk → (new : RecorderState D) → model.is_honest new.file.disk → new.file.failed ≡ false → new.file.staged ≡ 0 → new.held ≡ 0
      → committed model.state new ≡ committed model.state old ++ staged model.state old → LeavesOnly model old.file.disk new.file.disk (CommitsToEither (committed model.state old) (staged model.state old))
      → EachImage (model.state new.file.disk) (CommitsTo (committed model.state old ++ staged model.state old)) → Steps Flushed new.file.disk × Stands new (happens w Flushed)
  flushed is_in opened honest new now still nothing none grown leaves only =
      let holds = is_in.all opened honest in (
        (
          opened,
          (
            lift_group Commits Holds model old.file.disk new.file.disk (committed model.state old) (staged model.state old) (now_in add first w) (fold add (now_in add first w) w.held) (is_in.kept honest) holds leaves,
            recovers_only Commits Holds (model.state new.file.disk) (committed model.state old ++ staged model.state old) (fold add (now_in add first w) w.held) holds only,
          ),
          now,
        ),
        is_in_flushed new still nothing none (subst (λ (l : List ℕ). Holds l (fold add (now_in add first w) w.held)) (sym grown) holds),
      )

  pub faulted_flush : IsIn model first w old → w.is_open ≡ true → model.is_honest old.file.disk → (file : GateState D) → model.is_honest file.disk → file.failed ≡ true → G.committed model.state file ≡ committed model.state old
      → LeavesOnly model old.file.disk file.disk (CommitsToEither (committed model.state old) (staged model.state old))
      → Steps (Faulted Flushing) file.disk × Stands (record old { file = file; held = 0 }) (begun w Flushing)
  faulted_flush is_in opened honest file now bad same leaves = (
    (
      opened,
      lift_group Commits Holds model old.file.disk file.disk (committed model.state old) (staged model.state old) (now_in add first w) (fold add (now_in add first w) w.held) (is_in.kept honest)
          (is_in.all opened honest) leaves,
      now,
    ),
    is_in_closed w.held file old.chain old.kept 0 old.most is_in honest bad same,
  )

  module _ (law : AddsPackets) (command : Command) (size : ℕ) (is_in : IsIn model first w old) (good : old.file.failed ≡ false) (honest : model.is_honest old.file.disk)
      (chain : HoldsChain (committed model.state old ++ staged model.state old) old.chain) (is : IsCommand command) (kept : decision old.chain command ≡ Ok size) (file : GateState D) (now : model.is_honest file.disk) where
    pub held_step : (chain_now : ChainState) → file.failed ≡ false → G.committed model.state file ≡ committed model.state old → G.staged_bytes model.state file ≡ staged model.state old ++ command_bytes old.chain command
        → LeavesOnly model old.file.disk file.disk (CommitsTo (committed model.state old))
        → Steps (Held command) file.disk × Stands (record old { file = file; chain = chain_now; held = old.held + 1 }) (happens w (Held command))
    held_step chain_now still same more leaves =
        let is_open_now = is_open is_in good in (
          (
            (is_open_now, accepted command size is_in good honest chain is kept),
            lift_same Commits Holds model old.file.disk file.disk (committed model.state old) (now_in add first w) (is_in.kept honest) leaves,
            now,
          ),
          record {
            failed = still;
            none = λ _. is_in.none is_open_now;
            count = λ _. length-append w.held (command ∷ []) ∙ ap (λ (n : ℕ). n + 1) (is_in.count is_open_now);
            kept = λ _. subst (λ (l : List ℕ). Holds l (now_in add first w)) (sym same) (is_in.kept honest);
            all = λ _ _. subst (λ (l : List ℕ). Holds l (fold add (now_in add first w) (w.held ++ command ∷ []))) (λ i. sym same i ++ sym more i)
                (with_command law command size is_in good honest chain is kept);
          },
        )

    -- a fault while the group's pages were staged
    pub faulted_staging : (chain_now : ChainState) → file.failed ≡ true → G.committed model.state file ≡ committed model.state old → LeavesOnly model old.file.disk file.disk (CommitsTo (committed model.state old))
        → Steps (Faulted (call_of old.most w command)) file.disk × Stands (record old { file = file; chain = chain_now; held = 0 }) (happens w (Faulted (call_of old.most w command)))
    faulted_staging chain_now bad same leaves =
        (by_call (nat_lt (length w.held + 1) old.most), is_in_closed (group_in_doubt w (call_of old.most w command)) file chain_now old.kept 0 old.most is_in honest bad same)
      where
        by_call : (waits : Bool) → Steps (Faulted (if waits then Staging command else Committing command)) file.disk
        by_call true = (
          (is_open is_in good, accepted command size is_in good honest chain is kept),
          lift_same Commits Holds model old.file.disk file.disk (committed model.state old) (now_in add first w) (is_in.kept honest) leaves,
          now,
        )
        by_call false = (
          (is_open is_in good, accepted command size is_in good honest chain is kept),
          weakened model old.file.disk file.disk _ _ (lift_same Commits Holds model old.file.disk file.disk (committed model.state old) (now_in add first w) (is_in.kept honest) leaves)
              (λ image shown. inl shown),
          now,
        )

    -- the command's pages were staged, and then the whole group was committed, or the disk failed
    module _ (mid : GateState D) (front : G.committed model.state mid ≡ committed model.state old) (more : G.staged_bytes model.state mid ≡ staged model.state old ++ command_bytes old.chain command)
        (leaves : LeavesOnly model old.file.disk mid.disk (CommitsTo (committed model.state old)))
        (either : LeavesOnly model mid.disk file.disk (CommitsToEither (G.committed model.state mid) (G.staged_bytes model.state mid))) where
      all_staged : G.committed model.state mid ++ G.staged_bytes model.state mid ≡ committed model.state old ++ (staged model.state old ++ command_bytes old.chain command)
      all_staged = λ i. front i ++ more i

      both_leave : LeavesOnly model old.file.disk file.disk (CommitsToEither (committed model.state old) (staged model.state old ++ command_bytes old.chain command))
      both_leave = staged_then model old.file.disk mid.disk file.disk _ _ _ _ front more leaves either

      pub kept_step : (chain_now : ChainState) → file.failed ≡ false → file.staged ≡ 0 → G.committed model.state file ≡ G.committed model.state mid ++ G.staged_bytes model.state mid
          → EachImage (model.state file.disk) (CommitsTo (G.committed model.state mid ++ G.staged_bytes model.state mid))
          → Steps (Kept command) file.disk × Stands (record old { file = file; chain = chain_now; kept = old.kept + (old.held + 1); held = 0 }) (happens w (Kept command))
      kept_step chain_now still none grown only =
          let holds = with_command law command size is_in good honest chain is kept in
          let after : fold add (now_in add first w) (w.held ++ command ∷ []) ≡ now_in add first (happens w (Kept command)) = sym (fold-append add first w.acknowledged (w.held ++ command ∷ [])) in
          let here : Holds (G.committed model.state file) (now_in add first (happens w (Kept command))) = subst (λ (l : List ℕ). Holds l (now_in add first (happens w (Kept command)))) (sym (grown ∙ all_staged))
          (subst (λ (r : Recording). Holds (committed model.state old ++ (staged model.state old ++ command_bytes old.chain command)) r) after holds) in (
            (
              (is_open is_in good, accepted command size is_in good honest chain is kept),
              (
                lift_group Commits Holds model old.file.disk file.disk (committed model.state old) (staged model.state old ++ command_bytes old.chain command) (now_in add first w)
                    (fold add (now_in add first w) (w.held ++ command ∷ [])) (is_in.kept honest) holds both_leave,
                recovers_only Commits Holds (model.state file.disk) (committed model.state old ++ (staged model.state old ++ command_bytes old.chain command)) (fold add (now_in add first w) (w.held ++ command ∷ []))
                    holds (subst (λ (l : List ℕ). EachImage (model.state file.disk) (CommitsTo l)) all_staged only),
              ),
              now,
            ),
            record {
              failed = still;
              none = λ _. refl;
              count = λ _. refl;
              kept = λ _. here;
              all = λ _ _. subst (λ (l : List ℕ). Holds l (now_in add first (happens w (Kept command)))) (sym (none_staged model.state file none)) here;
            },
          )

      -- a fault while it was committed
      pub faulted_commit : (chain_now : ChainState) → nat_lt (length w.held + 1) old.most ≡ false → file.failed ≡ true → file.end ≡ mid.end → take mid.end (model.state file.disk).contents ≡ G.committed model.state mid
          → Steps (Faulted (call_of old.most w command)) file.disk × Stands (record old { file = file; chain = chain_now; held = 0 }) (happens w (Faulted (call_of old.most w command)))
      faulted_commit chain_now whole bad end same = (
        subst (λ (waits : Bool). Steps (Faulted (if waits then Staging command else Committing command)) file.disk) (sym whole) step,
        is_in_closed (group_in_doubt w (call_of old.most w command)) file chain_now old.kept 0 old.most is_in honest bad (same_front mid.end file.end _ _ end same ∙ front),
      )
        where
          step : Steps (Faulted (Committing command)) file.disk
          step = (
            (is_open is_in good, accepted command size is_in good honest chain is kept),
            lift_group Commits Holds model old.file.disk file.disk (committed model.state old) (staged model.state old ++ command_bytes old.chain command) (now_in add first w)
                (fold add (now_in add first w) (w.held ++ command ∷ [])) (is_in.kept honest) (with_command law command size is_in good honest chain is kept) both_leave,
            now,
          )
