-- A command and a flush of the recorder, as steps.
use Rattle.std.proofs.Common.{◌≡◌, ◌≢◌, ◌⊎◌, ℕ, zero, suc, ◌+◌, ◌<◌, ◌≤◌, Bool, true, false, not, Option, Some, IsOk, Result, Ok, Err, List, [], ◌++◌, length, take, drop, refl, sym, ◌∙◌, ap, subst, inl, inr, arith, append_assoc, append-nil}
use Rattle.std.specs.Prelude.{is_some, if◌then◌else◌, ◌||◌, OnOk, IfOk, IfErr}
use Rattle.std.proofs.lemmas.Bool.{cases_Bool}
use Rattle.std.proofs.lemmas.List.{take_at, drop_at}
use Rattle.disk_model.specs.declared.disk.Disk.{Ghosts as DiskModel}
use Rattle.disk_model.specs.Image.{DiskState}
use Rattle.disk_model.specs.Clock.{HasImages}
use Rattle.disk_model.specs.Leaving.{LeavesOnly}
use Rattle.gate_file.specs.Commit.{CommitsToEither}
use Rattle.gate_file.specs.Gate.{staged_in}
use Rattle.link_chain.specs.ChainState.{ChainState}
use Rattle.link_chain.specs.Links.{AreLinks}
use Rattle.chain_rules.specs.Decision.{decision}
use Rattle.chain_rules.specs.Encoding.{command_bytes}
use Rattle.ogg_command.specs.Refusal.{code_of}
use Rattle.ogg_command.specs.declared.command.Command.{Command}
use Rattle.ogg_command.specs.declared.refusal.Refusal.{Refusal}
use Rattle.ogg_command.specs.declared.refusal.Refusal.TheVariants.{Failed, Memory, Disk, LinkOpen, NoLink, Empty, TooMany, SerialTaken, NoHeader, HeadTooLong, PacketTooLong, BadType, BadRate, UnknownSerial, StreamEnded, PositionRange, PositionBack, BatchTooLong, SequenceEnd, LinksFull, FileFull}
use Rattle.feed_replies.specs.declared.reply.Kept.{Kept}
use Rattle.file_recorder.specs.Answer.{Tells, kept_by as kept_by_recorder}
use Rattle.file_recorder.specs.Recorder.{RecorderState, IsRecorder, committed, staged}
use Rattle.file_recorder.specs.Taking.{HoldsChain}
use Rattle.feed_replies.specs.declared.outcome.Outcome.{Outcome}
use Rattle.feed_replies.specs.declared.outcome.Outcome.TheVariants.{Held as WasHeld, Kept as WasKept}
use Rattle.serve_machine.specs.Hub.{HubState, IsAccepted, IsRefused, is_failed, holding, committing, doubting, command_step, flush_step}
use Rattle.serve_hub.specs.Showing.{ShowsFile, KeepsSessions}

-- ---- lists
same_front : (a b x y : List ℕ) → length a ≡ length x → a ++ b ≡ x ++ y → a ≡ x
same_front a b x y long e = sym (take_at a b (length a) refl) ∙ ap (take (length a)) e ∙ take_at x y (length a) (sym long)

same_rest : (a b x y : List ℕ) → length a ≡ length x → a ++ b ≡ x ++ y → b ≡ y
same_rest a b x y long e = sym (drop_at a b (length a) refl) ∙ ap (drop (length a)) e ∙ drop_at x y (length a) (sym long)

same_sum : (a b x y : List ℕ) → a ≡ x → b ≡ y → a ++ b ≡ x ++ y
same_sum a b x y e f = ap (λ (l : List ℕ). l ++ b) e ∙ ap (λ (l : List ℕ). x ++ l) f

-- ---- refusals
same_refusal : {T : Type 0} (a b : Refusal) → ◌≡◌ {A = Result T Refusal} (Err a) (Err b) → a ≡ b
same_refusal a b e = cc

cases_zero : (n : ℕ) → (n ≡ 0) ⊎ (0 < n)
cases_zero zero = inl refl
cases_zero (suc n) = inr (omega arith)

refused : (m : HubState) (command : Command) (refusal : Refusal) → 2 ≤ code_of refusal → code_of refusal ≤ 19 → is_failed m ≡ false → IsRefused m command refusal
    → command_step m command (Err refusal) m
refused m command Failed low high fine is = absurd (omega (arith, low))
refused m command Memory low high fine is = absurd (omega (arith, high))
refused m command Disk low high fine is = absurd (omega (arith, high))
refused m command LinkOpen low high fine is = (fine, is, refl)
refused m command NoLink low high fine is = (fine, is, refl)
refused m command Empty low high fine is = (fine, is, refl)
refused m command TooMany low high fine is = (fine, is, refl)
refused m command SerialTaken low high fine is = (fine, is, refl)
refused m command NoHeader low high fine is = (fine, is, refl)
refused m command HeadTooLong low high fine is = (fine, is, refl)
refused m command PacketTooLong low high fine is = (fine, is, refl)
refused m command BadType low high fine is = (fine, is, refl)
refused m command BadRate low high fine is = (fine, is, refl)
refused m command UnknownSerial low high fine is = (fine, is, refl)
refused m command StreamEnded low high fine is = (fine, is, refl)
refused m command PositionRange low high fine is = (fine, is, refl)
refused m command PositionBack low high fine is = (fine, is, refl)
refused m command BatchTooLong low high fine is = (fine, is, refl)
refused m command SequenceEnd low high fine is = (fine, is, refl)
refused m command LinksFull low high fine is = (fine, is, refl)
refused m command FileFull low high fine is = (fine, is, refl)

pub not_disk : (refusal : Refusal) → code_of refusal ≤ 19 → refusal ≢ Disk
not_disk refusal few is = absurd (omega (arith, few, ap code_of is))

same_sessions : (m : HubState) → KeepsSessions m m
same_sessions m = record { sessions = refl; numbers = refl; group = refl; room = refl }

module _ {D : Type 0} (model : DiskModel D) (new : RecorderState D) where
  -- the recorder hasn't failed, and the machine has its bytes
  pub shows_good : (after : HubState) → model.is_honest new.file.disk → IsRecorder model new → new.file.failed ≡ false → after.has_file ≡ true → after.committed ≡ committed model.state new
      → after.held ≡ staged model.state new → after.waiting ≡ new.held → after.most ≡ new.most → after.count ≡ new.kept + new.held → is_some after.in_doubt ≡ false
      → ShowsFile model new after
  shows_good after honest now good file committed_is held_is waiting_is most_is count_is none = record {
    honest = honest;
    has_file = file;
    committed_is = committed_is;
    held_is = held_is ∙ sym (ap (λ (x : Bool). if x then [] else staged model.state new) good);
    waiting_is = waiting_is;
    most_is = most_is;
    count_is = count_is;
    failed_is = none ∙ sym good;
    images = λ image is. (committed model.state new, inl (sym committed_is), now.images good honest image is);
  }

  pub staged_none : IsRecorder model new → new.file.failed ≡ false → new.held ≡ 0 → staged model.state new ≡ []
  staged_none now fine none = ap (λ (n : ℕ). staged_in new.file.end n (model.state new.file.disk).contents) (now.empty fine none)

module _ {D : Type 0} (model : DiskModel D) (old new : RecorderState D) (m : HubState) (s : ShowsFile model old m) where
  abbrev b : List ℕ
  b = committed model.state old

  abbrev waits : List ℕ
  waits = staged model.state old

  failed_as : is_failed m ≡ old.file.failed
  failed_as = ap (λ (x : Bool). not x || is_some m.in_doubt) s.has_file ∙ s.failed_is

  held_good : old.file.failed ≡ false → m.held ≡ waits
  held_good good = s.held_is ∙ ap (λ (x : Bool). if x then [] else waits) good

  whole : old.file.failed ≡ false → m.committed ++ m.held ≡ b ++ waits
  whole good = same_sum m.committed m.held b waits s.committed_is (held_good good)

  -- what the answer of the machine is
  abbrev Stepped : (HubState → Type 0) → Type 0
  Stepped P = (after : HubState) × ShowsFile model new after × P after × KeepsSessions m after

  -- nothing has changed
  unchanged : (P : HubState → Type 0) → new ≡ old → P m → Stepped P
  unchanged P same p = (m, subst (λ (r : RecorderState D). ShowsFile model r m) (sym same) s, p, same_sessions m)

  module _ (always : IsRecorder model old) (command : Command) where
    accepted : old.file.failed ≡ false → IsOk (decision old.chain command) → IsAccepted m command (command_bytes old.chain command)
    accepted good ok =
        let h : HoldsChain (b ++ waits) old.chain = always.all good s.honest in (
          h.links,
          subst (λ (l : List ℕ). AreLinks l h.links) (sym (whole good)) h.are_links,
          subst (λ (chain : ChainState). IsOk (decision chain command)) h.chain_is ok,
          ap (λ (chain : ChainState). command_bytes chain command) h.chain_is,
        )

    is_refused : (refusal : Refusal) → old.file.failed ≡ false → decision old.chain command ≡ Err refusal → IsRefused m command refusal
    is_refused refusal good e =
        let h : HoldsChain (b ++ waits) old.chain = always.all good s.honest in (
          h.links,
          subst (λ (l : List ℕ). AreLinks l h.links) (sym (whole good)) h.are_links,
          subst (λ (chain : ChainState). decision chain command ≡ Err refusal) h.chain_is e,
        )

  -- the disk has failed over this group
  shows_doubt : (after : HubState) (group : List ℕ) → model.is_honest new.file.disk → HasImages (model.state new.file.disk) (model.moment new.file.disk) (model.images_since new.file.disk)
      → LeavesOnly model old.file.disk new.file.disk (CommitsToEither b group) → new.file.failed ≡ true → after.has_file ≡ true
      → after.committed ≡ b → committed model.state new ≡ b → after.held ≡ [] → after.waiting ≡ new.held → after.most ≡ new.most → after.count ≡ new.kept + new.held
      → after.in_doubt ≡ Some group → ShowsFile model new after
  shows_doubt after group honest has leaves bad file committed_is front held_is waiting_is most_is count_is doubt = record {
    honest = honest;
    has_file = file;
    committed_is = committed_is ∙ sym front;
    held_is = held_is ∙ sym (ap (λ (x : Bool). if x then [] else staged model.state new) bad);
    waiting_is = waiting_is;
    most_is = most_is;
    count_is = count_is;
    failed_is = ap (λ (o : Option (List ℕ)). is_some o) doubt ∙ sym bad;
    images = λ image is.
        elim (leaves.each image (has.counts_now (model.moment old.file.disk) image leaves.later is)) [
          | inl one ↦ (b, inl (sym committed_is), one)
          | inr other ↦ (b ++ group, inr (group, doubt, ap (λ (l : List ℕ). l ++ group) (sym committed_is)), other)
        ];
  }

  module _ (always : IsRecorder model old) (now : IsRecorder model new) (honest : model.is_honest new.file.disk) (has : HasImages (model.state new.file.disk) (model.moment new.file.disk) (model.images_since new.file.disk))
      (long_old : length b ≡ old.file.end) (long_new : length (committed model.state new) ≡ new.file.end) where
    none_staged : new.file.failed ≡ false → new.held ≡ 0 → staged model.state new ≡ []
    none_staged = staged_none model new now

    abbrev kept_of : ℕ → ℕ → Kept
    kept_of count end = record { count = count; end = end }

    module _ (command : Command) where
      abbrev added : List ℕ
      added = command_bytes old.chain command

      held_step : (count : ℕ) → old.file.failed ≡ false → IsOk (decision old.chain command) → Tells old (WasHeld count) new → new.file.failed ≡ false
          → committed model.state new ++ staged model.state new ≡ (b ++ waits) ++ added → Stepped (command_step m command (Ok (WasHeld count)))
      held_step count good ok tells fine grows =
          let joined : committed model.state new ++ staged model.state new ≡ b ++ (waits ++ added) = grows ∙ append_assoc b waits added in
          let long : length (committed model.state new) ≡ length b = long_new ∙ tells.2 ∙ sym long_old in
          let front = same_front (committed model.state new) (staged model.state new) b (waits ++ added) long joined in
          let rest = same_rest (committed model.state new) (staged model.state new) b (waits ++ added) long joined in
          let held_is : new.held ≡ old.held + 1 = ap (λ (r : RecorderState D). r.held) tells.3 in
          let kept_is : new.kept ≡ old.kept = ap (λ (r : RecorderState D). r.kept) tells.3 in
          let most_is : new.most ≡ old.most = ap (λ (r : RecorderState D). r.most) tells.3 in (
            holding added m,
            shows_good model new (holding added m) honest now fine s.has_file (s.committed_is ∙ sym front) (ap (λ (l : List ℕ). l ++ added) (held_good good) ∙ sym rest)
                (omega (arith, s.waiting_is, held_is)) (s.most_is ∙ sym most_is) (omega (arith, s.count_is, held_is, kept_is)) (s.failed_is ∙ good),
            (failed_as ∙ good, added, accepted always command good ok, omega (arith, tells.0, s.waiting_is, s.most_is), omega (arith, tells.1, s.count_is), refl),
            record { sessions = refl; numbers = refl; group = refl; room = refl },
          )

      kept_step : (kept : Kept) → old.file.failed ≡ false → IsOk (decision old.chain command) → Tells old (WasKept kept) new → new.file.failed ≡ false
          → committed model.state new ++ staged model.state new ≡ (b ++ waits) ++ added → Stepped (command_step m command (Ok (WasKept kept)))
      kept_step kept good ok tells fine grows =
          let held_is : new.held ≡ 0 = ap (λ (r : RecorderState D). r.held) tells.2 in
          let kept_is : new.kept ≡ old.kept + (old.held + 1) = ap (λ (r : RecorderState D). r.kept) tells.2 in
          let most_is : new.most ≡ old.most = ap (λ (r : RecorderState D). r.most) tells.2 in
          let none = none_staged fine held_is in
          let whole_now : committed model.state new ≡ b ++ (waits ++ added) =
          sym (append-nil (committed model.state new)) ∙ ap (λ (l : List ℕ). committed model.state new ++ l) (sym none) ∙ grows ∙ append_assoc b waits added in
          let committed_is : m.committed ++ (m.held ++ added) ≡ committed model.state new =
          same_sum m.committed (m.held ++ added) b (waits ++ added) s.committed_is (ap (λ (l : List ℕ). l ++ added) (held_good good)) ∙ sym whole_now in
          let count_is : m.count + 1 ≡ new.kept = omega (arith, s.count_is, kept_is) in (
            committing (holding added m),
            shows_good model new (committing (holding added m)) honest now fine s.has_file committed_is (sym none) (sym held_is) (s.most_is ∙ sym most_is)
                (omega (arith, count_is, held_is)) (s.failed_is ∙ good),
            (
              failed_as ∙ good,
              added,
              accepted always command good ok,
              omega (arith, tells.0, s.waiting_is, s.most_is),
              tells.1 ∙ ap (λ (n : ℕ). kept_of n new.file.end) (sym count_is) ∙ ap (kept_of (m.count + 1)) (sym long_new ∙ ap (λ (l : List ℕ). length l) (sym committed_is)),
              refl,
            ),
            record { sessions = refl; numbers = refl; group = refl; room = refl },
          )

      disk_step : old.file.failed ≡ false → IsOk (decision old.chain command)
          → (new.file.failed ≡ true) × (new.file.end ≡ old.file.end) × (new ≡ record old { file = new.file; held = 0 })
          → committed model.state new ≡ b → LeavesOnly model old.file.disk new.file.disk (CommitsToEither b (waits ++ added)) → Stepped (command_step m command (Err Disk))
      disk_step good ok faulted front leaves =
          let held_is : new.held ≡ 0 = ap (λ (r : RecorderState D). r.held) faulted.2 in
          let kept_is : new.kept ≡ old.kept = ap (λ (r : RecorderState D). r.kept) faulted.2 in
          let most_is : new.most ≡ old.most = ap (λ (r : RecorderState D). r.most) faulted.2 in (
            doubting (holding added m),
            shows_doubt (doubting (holding added m)) (waits ++ added) honest has leaves faulted.0 s.has_file s.committed_is front refl (sym held_is) (s.most_is ∙ sym most_is)
                (omega (arith, s.count_is, s.waiting_is, held_is, kept_is)) (ap (λ (l : List ℕ). Some (l ++ added)) (held_good good)),
            (failed_as ∙ good, added, accepted always command good ok, refl),
            record { sessions = refl; numbers = refl; group = refl; room = refl },
          )

      -- what the recorder's answer says, for the machine
      pub commands : (result : Result Outcome Refusal)
          → ((refusal : Refusal) → decision old.chain command ≡ Err refusal → (2 ≤ code_of refusal) × (code_of refusal ≤ 19))
          → (old.file.failed ≡ true → result ≡ Err Failed)
          → (old.file.failed ≡ false → (refusal : Refusal) → decision old.chain command ≡ Err refusal → result ≡ Err refusal)
          → (old.file.failed ≡ false → IsOk (decision old.chain command) → IfErr result (λ refusal. (refusal ≡ Memory) ⊎ (refusal ≡ Disk)))
          → OnOk result ((old.file.failed ≡ false) × IsOk (decision old.chain command))
          → IfErr result (λ refusal. refusal ≢ Disk → new ≡ old)
          → IfErr result (λ refusal. refusal ≡ Disk → (new.file.failed ≡ true) × (new.file.end ≡ old.file.end) × (new ≡ record old { file = new.file; held = 0 }))
          → IfOk result (λ outcome. Tells old outcome new) → OnOk result (new.file.failed ≡ false)
          → OnOk result (model.is_honest old.file.disk → committed model.state new ++ staged model.state new ≡ (b ++ waits) ++ added) → IfErr result (λ _. committed model.state new ≡ b)
          → (old.file.failed ≡ false → LeavesOnly model old.file.disk new.file.disk (CommitsToEither b (waits ++ added)))
          → Stepped (command_step m command result)
      commands (Ok (WasHeld count)) table by_failed by_rules otherwise ok same faulted tells good grows front leaves = held_step count ok.0 ok.1 tells good (grows s.honest)
      commands (Ok (WasKept kept)) table by_failed by_rules otherwise ok same faulted tells good grows front leaves = kept_step kept ok.0 ok.1 tells good (grows s.honest)
      commands (Err refusal) table by_failed by_rules otherwise ok same faulted tells good grows front leaves =
          elim (cases_Bool old.file.failed) [
            | inl bad ↦
                let is : refusal ≡ Failed = same_refusal refusal Failed (by_failed bad) in
                let other : refusal ≢ Disk = λ e. absurd (omega (arith, ap code_of (sym is ∙ e))) in
                unchanged (command_step m command (Err refusal)) (same other) (subst (λ (r : Refusal). command_step m command (Err r) m) (sym is) (failed_as ∙ bad, refl))
            | inr fine ↦ decided fine (decision old.chain command) refl
          ]
        where
          decided : old.file.failed ≡ false → (answer : Result ℕ Refusal) → decision old.chain command ≡ answer → Stepped (command_step m command (Err refusal))
          decided fine (Err rule) e =
              let is : refusal ≡ rule = same_refusal refusal rule (by_rules fine rule e) in
              let of_table = table rule e in
              unchanged (command_step m command (Err refusal)) (same (subst (λ (r : Refusal). r ≢ Disk) (sym is) (not_disk rule of_table.1)))
              (subst (λ (r : Refusal). command_step m command (Err r) m) (sym is) (refused m command rule of_table.0 of_table.1 (failed_as ∙ fine) (is_refused always command rule fine e)))
          decided fine (Ok size) e =
              let yes_ : IsOk (decision old.chain command) = subst (λ (r : Result ℕ Refusal). IsOk r) (sym e) refl in
              elim (otherwise fine yes_) [
                | inl memory ↦
                    let other : refusal ≢ Disk = λ d. absurd (omega (arith, ap code_of (sym memory ∙ d))) in
                    unchanged (command_step m command (Err refusal)) (same other)
                    (subst (λ (r : Refusal). command_step m command (Err r) m) (sym memory) (failed_as ∙ fine, added, accepted always command fine yes_, refl))
                | inr disk ↦
                    subst (λ (r : Refusal). Stepped (command_step m command (Err r))) (sym disk) (disk_step fine yes_ (faulted disk) front (leaves fine))
              ]

    flushed : (kept : Kept) → old.file.failed ≡ false → new.file.failed ≡ false → kept ≡ kept_by_recorder new
        → new ≡ record old { file = new.file; kept = old.kept + old.held; held = 0 } → committed model.state new ≡ b ++ waits → Stepped (flush_step m (Ok kept))
    flushed kept good fine kept_by_is new_is grows =
        let held_is : new.held ≡ 0 = ap (λ (r : RecorderState D). r.held) new_is in
        let kept_is : new.kept ≡ old.kept + old.held = ap (λ (r : RecorderState D). r.kept) new_is in
        let most_is : new.most ≡ old.most = ap (λ (r : RecorderState D). r.most) new_is in
        let committed_is : m.committed ++ m.held ≡ committed model.state new = whole good ∙ sym grows in
        let count_is : m.count ≡ new.kept = s.count_is ∙ sym kept_is in (
          committing m,
          shows_good model new (committing m) honest now fine s.has_file committed_is (sym (none_staged fine held_is)) (sym held_is) (s.most_is ∙ sym most_is)
              (omega (arith, count_is, held_is)) (s.failed_is ∙ good),
          (
            failed_as ∙ good,
            kept_by_is ∙ ap (λ (n : ℕ). kept_of n new.file.end) (sym count_is) ∙ ap (kept_of m.count) (sym long_new ∙ ap (λ (l : List ℕ). length l) (sym committed_is)),
            refl,
          ),
          record { sessions = refl; numbers = refl; group = refl; room = refl },
        )

    flush_failed : old.file.failed ≡ false → 0 < old.held
        → (new.file.failed ≡ true) × (new.file.end ≡ old.file.end) × (new ≡ record old { file = new.file; held = 0 })
        → committed model.state new ≡ b → LeavesOnly model old.file.disk new.file.disk (CommitsToEither b waits) → Stepped (flush_step m (Err Disk))
    flush_failed good some faulted front leaves =
        let held_is : new.held ≡ 0 = ap (λ (r : RecorderState D). r.held) faulted.2 in
        let kept_is : new.kept ≡ old.kept = ap (λ (r : RecorderState D). r.kept) faulted.2 in
        let most_is : new.most ≡ old.most = ap (λ (r : RecorderState D). r.most) faulted.2 in (
          doubting m,
          shows_doubt (doubting m) waits honest has leaves faulted.0 s.has_file s.committed_is front refl (sym held_is) (s.most_is ∙ sym most_is)
              (omega (arith, s.count_is, s.waiting_is, held_is, kept_is)) (ap (λ (l : List ℕ). Some l) (held_good good)),
          (failed_as ∙ good, omega (arith, some, s.waiting_is), refl),
          record { sessions = refl; numbers = refl; group = refl; room = refl },
        )

    pub flushes : (result : Result Kept Refusal)
        → (old.file.failed ≡ true → (result ≡ Err Failed) × (new ≡ old))
        → IfErr result (λ refusal. ((refusal ≡ Failed) × (old.file.failed ≡ true)) ⊎ (refusal ≡ Disk))
        → (old.file.failed ≡ false → old.held ≡ 0 → (result ≡ Ok (kept_by_recorder old)) × (new ≡ old))
        → IfErr result (λ refusal. refusal ≡ Disk → (new.file.failed ≡ true) × (new.file.end ≡ old.file.end) × (new ≡ record old { file = new.file; held = 0 }))
        → IfOk result (λ kept. (kept ≡ kept_by_recorder new) × (new ≡ record old { file = new.file; kept = old.kept + old.held; held = 0 }))
        → OnOk result ((old.file.failed ≡ false) × (new.file.failed ≡ false))
        → OnOk result (model.is_honest old.file.disk → committed model.state new ≡ b ++ waits) → IfErr result (λ _. committed model.state new ≡ b)
        → (old.file.failed ≡ false → LeavesOnly model old.file.disk new.file.disk (CommitsToEither b waits))
        → Stepped (flush_step m result)
    flushes (Ok kept) by_failed refusals nothing faulted tells good grows front leaves = flushed kept good.0 good.1 tells.0 tells.1 (grows s.honest)
    flushes (Err refusal) by_failed refusals nothing faulted tells good grows front leaves =
        elim refusals [
          | inl failed ↦
              unchanged (flush_step m (Err refusal)) (by_failed failed.1).1 (subst (λ (r : Refusal). flush_step m (Err r) m) (sym failed.0) (failed_as ∙ failed.1, refl))
          | inr disk ↦
              let fine : old.file.failed ≡ false = elim (cases_Bool old.file.failed) [
                | inl bad ↦ absurd (omega (arith, ap code_of (sym disk ∙ same_refusal refusal Failed (by_failed bad).0)))
                | inr good ↦ good
              ] in
              let some : 0 < old.held = elim (cases_zero old.held) [
                | inl none ↦ let e : ◌≡◌ {A = Result Kept Refusal} (Err refusal) (Ok (kept_by_recorder old)) = (nothing fine none).0 in cc
                | inr some ↦ some
              ] in
              subst (λ (r : Refusal). Stepped (flush_step m (Err r))) (sym disk) (flush_failed fine some (faulted disk) front (leaves fine))
        ]
