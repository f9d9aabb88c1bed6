-- Calls of a recorder as steps of a history of links.
use Rattle.std.proofs.Common.{◌≡◌, ◌≢◌, ◌⊎◌, inl, inr, ⊎_elim, ℕ, ◌≤◌, Bool, true, false, not, List, [], ◌∷◌, ◌++◌, take, refl, sym, ◌∙◌, ap, subst, arith, append_assoc, Result, Ok, Err}
use Rattle.std.proofs.lemmas.List.{append-nil}
use Rattle.std.proofs.lemmas.Grind.{fold-append}
use Rattle.std.specs.List.{fold}
use Rattle.std.specs.Prelude.{IsOk, IfOk, IfErr, OnOk}
use Rattle.disk_model.specs.declared.disk.Disk.{Ghosts as DiskModel}
use Rattle.disk_model.specs.Clock.{HasImages}
use Rattle.disk_model.specs.Image.{IsImage}
use Rattle.disk_model.specs.Leaving.{LeavesOnly, weakened}
use Rattle.gate_file.specs.Commit.{CommitsTo, CommitsToEither}
use Rattle.gate_file.specs.CommitLaws.{one_commit}
use Rattle.gate_file.specs.Gate.{EachImage, staged_in}
use Rattle.link_chain.specs.ChainState.{ChainState, chain_state_of}
use Rattle.link_chain.specs.Links.{AreLinks}
use Rattle.link_chain.specs.LinkLaws.{one_chain}
use Rattle.link_chain.specs.Recording.{Recording, HoldsLinks}
use Rattle.chain_rules.specs.Decision.{decision}
use Rattle.chain_rules.specs.Encoding.{command_bytes, links_after}
use Rattle.chain_rules.specs.Recording.{add}
use Rattle.ogg_command.specs.Command.{IsCommand}
use Rattle.ogg_command.specs.Refusal.{code_of}
use Rattle.ogg_command.specs.declared.command.Command.{Command}
use Rattle.ogg_command.specs.declared.refusal.Refusal.{Refusal}
use Rattle.ogg_command.specs.declared.refusal.Refusal.TheVariants.{Failed, LinkOpen, NoLink, Empty, TooMany, SerialTaken, NoHeader, HeadTooLong, PacketTooLong, BadType, BadRate, UnknownSerial, StreamEnded, PositionRange, PositionBack, BatchTooLong, SequenceEnd, LinksFull, FileFull, Memory, Disk}
use Rattle.feed_replies.specs.declared.reply.Kept.{Kept as KeptOf}
use Rattle.feed_replies.specs.declared.outcome.Outcome.{Outcome}
use Rattle.feed_replies.specs.declared.outcome.Outcome.TheVariants.{Held as WasHeld, Kept as WasKept}
use Rattle.history.specs.Recovery.{lift_same, lift_group, lift_read, recovers_only, finds_held}
use Rattle.history.specs.Showing.{IsAsBefore, Finds}
use Rattle.history.specs.World.{World, Call, Opening, Committing, Sealing, Step, Opened, Held, Kept, Looked, Sealed, Faulted, Refused, happens, now_in}
use Rattle.history.specs.History.{StandsIn}
use Rattle.file_recorder.specs.Recovery.{Links, Commits}
use Rattle.file_recorder.specs.Taking.{HoldsChain}
use Rattle.file_recorder.specs.Recorder.{RecorderState, IsRecorder, committed, staged, over_disk}
use Rattle.file_recorder.specs.Answer.{command_step, flush_step, refused_step}
use Rattle.archive_laws.specs.Committing.{AreWhole, ShowsLinks, AcceptsAfter, IsInLinks, IsStepOfLinks}

-- ---- commands add pages
-- the law of a command that isn't refused: `command_adds_its_packets`
abbrev pub Adds : Type 0
Adds = (bytes : List ℕ) (links : Links) (recording : Recording) (command : Command) (size : ℕ) → IsCommand command → AreLinks bytes links → HoldsLinks links recording → decision (chain_state_of links) command ≡ Ok size
    → AreLinks (bytes ++ command_bytes (chain_state_of links) command) (links_after links command) × HoldsLinks (links_after links command) (add recording command)

-- only reasons of the table refuse a command by the rules
abbrev pub OfTable : Type 0
OfTable = (chain : ChainState) (command : Command) (refusal : Refusal) → decision chain command ≡ Err refusal → (2 ≤ code_of refusal) × (code_of refusal ≤ 19)

size_of : (r : Result ℕ Refusal) → IsOk r → (size : ℕ) × (r ≡ Ok size)
size_of (Ok size) h = (size, refl)
size_of (Err refusal) h = cc

with_command : Adds → (bytes : List ℕ) (chain : ChainState) (links : Links) (command : Command) → AreWhole bytes links → chain ≡ chain_state_of links → IsCommand command → IsOk (decision chain command)
    → AreWhole (bytes ++ command_bytes chain command) (links_after links command)
with_command adds bytes chain links command whole same is kept =
    let (size, ok) = size_of (decision chain command) kept in
    let more = adds bytes links whole.recording command size is whole.are_links whole.holds (ap (λ (s : ChainState). decision s command) (sym same) ∙ ok) in
    record {
      recording = add whole.recording command;
      are_links = subst (λ (s : ChainState). AreLinks (bytes ++ command_bytes s command) (links_after links command)) (sym same) more.0;
      holds = more.1;
    }

its_chain : (bytes : List ℕ) (chain : ChainState) (links : Links) → HoldsChain bytes chain → AreWhole bytes links → chain ≡ chain_state_of links
its_chain bytes chain links h whole = h.chain_is ∙ ap chain_state_of (one_chain bytes h.links links h.are_links whole.are_links)

opened_if : (is_open : Bool) → false ≡ not is_open → is_open ≡ true
opened_if true e = refl
opened_if false e = absurd cc

never : false ≡ true → ⊥
never e = cc

-- a refusal is that of the disk, or changes nothing
of_refusal : (refusal : Refusal) → (refusal ≡ Disk) ⊎ ((refusal ≢ Disk) × ((call : Call Command) (command : Command) → refused_step refusal call command ≡ Refused command))
of_refusal Failed = inr ((λ e. cc e), λ call command. refl)
of_refusal LinkOpen = inr ((λ e. cc e), λ call command. refl)
of_refusal NoLink = inr ((λ e. cc e), λ call command. refl)
of_refusal Empty = inr ((λ e. cc e), λ call command. refl)
of_refusal TooMany = inr ((λ e. cc e), λ call command. refl)
of_refusal SerialTaken = inr ((λ e. cc e), λ call command. refl)
of_refusal NoHeader = inr ((λ e. cc e), λ call command. refl)
of_refusal HeadTooLong = inr ((λ e. cc e), λ call command. refl)
of_refusal PacketTooLong = inr ((λ e. cc e), λ call command. refl)
of_refusal BadType = inr ((λ e. cc e), λ call command. refl)
of_refusal BadRate = inr ((λ e. cc e), λ call command. refl)
of_refusal UnknownSerial = inr ((λ e. cc e), λ call command. refl)
of_refusal StreamEnded = inr ((λ e. cc e), λ call command. refl)
of_refusal PositionRange = inr ((λ e. cc e), λ call command. refl)
of_refusal PositionBack = inr ((λ e. cc e), λ call command. refl)
of_refusal BatchTooLong = inr ((λ e. cc e), λ call command. refl)
of_refusal SequenceEnd = inr ((λ e. cc e), λ call command. refl)
of_refusal LinksFull = inr ((λ e. cc e), λ call command. refl)
of_refusal FileFull = inr ((λ e. cc e), λ call command. refl)
of_refusal Memory = inr ((λ e. cc e), λ call command. refl)
of_refusal Disk = inl refl

-- a command that met a fault of the disk wasn't refused by the rules
decided : (r : Result ℕ Refusal) → ((refusal : Refusal) → r ≡ Err refusal → code_of refusal ≤ 19) → ((refusal : Refusal) → r ≡ Err refusal → refusal ≡ Disk) → IsOk r
decided (Ok size) few only = refl
decided (Err refusal) few only = absurd (omega (arith, few refusal refl, ap code_of (only refusal refl)))

same_refusal : {T : Type 0} (a b : Refusal) → ◌≡◌ {A = Result T Refusal} (Err a) (Err b) → a ≡ b
same_refusal a b e = cc e

good_if : (failed : Bool) → (failed ≡ true → ⊥) → failed ≡ false
good_if false none = refl
good_if true none = absurd (none refl)

module _ {D : Type 0} (model : DiskModel D) (first : Links) (w : World Command) (old new : RecorderState D) where
  abbrev Comes : Step Command → Type 0
  Comes step = IsStepOfLinks model first w step old.file.disk new.file.disk × IsInLinks model first (happens w step) new

  is_open : IsInLinks model first w old → old.file.failed ≡ false → w.is_open ≡ true
  is_open is_in good = opened_if w.is_open (sym good ∙ is_in.failed)

  -- the recorder has failed
  failed_now : (group : List Command) → new.file.failed ≡ true → IsInLinks model first (record { acknowledged = w.acknowledged; in_doubt = group; held = []; is_open = false }) new
  failed_now group bad = record {
    failed = bad;
    none = λ e. absurd (never e);
    kept = λ e. absurd (never e);
    all = λ e. absurd (never e);
  }

  -- what is acknowledged is committed, and nothing waits
  all_kept : (group : List Command) → new.file.failed ≡ false → staged model.state new ≡ [] → (model.is_honest new.file.disk → AreWhole (committed model.state new) (fold links_after (now_in links_after first w) group))
      → IsInLinks model first (record { acknowledged = w.acknowledged ++ group; in_doubt = []; held = []; is_open = true }) new
  all_kept group good none whole =
      let here : model.is_honest new.file.disk → AreWhole (committed model.state new) (fold links_after first (w.acknowledged ++ group)) =
      λ honest. subst (λ (l : Links). AreWhole (committed model.state new) l) (sym (fold-append links_after first w.acknowledged group)) (whole honest) in
      record {
        failed = good;
        none = λ _. refl;
        kept = λ _ honest. here honest;
        all = λ _ honest. subst (λ (b : List ℕ). AreWhole b (fold links_after first (w.acknowledged ++ group)))
            (sym (append-nil (committed model.state new)) ∙ ap (λ (b : List ℕ). committed model.state new ++ b) (sym none)) (here honest);
      }

  module _ (adds : Adds) (table : OfTable) (command : Command) (is_in : IsInLinks model first w old) (honest : model.is_honest old.file.disk) (was : IsRecorder model old)
      (now : model.is_honest new.file.disk) (is_now : IsRecorder model new) (is : IsCommand command) where
    abbrev pub own : List ℕ
    own = command_bytes old.chain command

    abbrev links_now : Links
    links_now = fold links_after (now_in links_after first w) w.held

    chain_is : old.file.failed ≡ false → old.chain ≡ chain_state_of links_now
    chain_is good = its_chain (committed model.state old ++ staged model.state old) old.chain links_now (was.all good honest) (is_in.all (is_open is_in good) honest)

    accepts : old.file.failed ≡ false → IsOk (decision old.chain command) → AcceptsAfter links_now command
    accepts good kept = (is, subst (λ (s : ChainState). IsOk (decision s command)) (chain_is good) kept)

    grown : old.file.failed ≡ false → IsOk (decision old.chain command)
        → AreWhole ((committed model.state old ++ staged model.state old) ++ own) (fold links_after (now_in links_after first w) (w.held ++ command ∷ []))
    grown good kept =
        subst (λ (l : Links). AreWhole ((committed model.state old ++ staged model.state old) ++ own) l) (sym (fold-append links_after (now_in links_after first w) w.held (command ∷ [])))
        (with_command adds (committed model.state old ++ staged model.state old) old.chain links_now command (is_in.all (is_open is_in good) honest) (chain_is good) is kept)

    -- the whole group after what is committed
    group_grown : old.file.failed ≡ false → IsOk (decision old.chain command)
        → AreWhole (committed model.state old ++ (staged model.state old ++ own)) (fold links_after (now_in links_after first w) (w.held ++ command ∷ []))
    group_grown good kept =
        subst (λ (b : List ℕ). AreWhole b (fold links_after (now_in links_after first w) (w.held ++ command ∷ [])))
        (append_assoc (committed model.state old) (staged model.state old) own) (grown good kept)

    held_comes : old.file.failed ≡ false → IsOk (decision old.chain command) → new.file.failed ≡ false
        → committed model.state new ++ staged model.state new ≡ (committed model.state old ++ staged model.state old) ++ own
        → committed model.state new ≡ committed model.state old
        → LeavesOnly model old.file.disk new.file.disk (CommitsTo (committed model.state old)) → Comes (Held command)
    held_comes good kept good_now grows same leaves =
        let opened = is_open is_in good in (
          (
            (opened, accepts good kept),
            lift_same Commits AreWhole model old.file.disk new.file.disk (committed model.state old) (now_in links_after first w) (is_in.kept opened honest) leaves,
            now,
          ),
          record {
            failed = good_now;
            none = λ _. is_in.none opened;
            kept = λ _ _. subst (λ (b : List ℕ). AreWhole b (now_in links_after first w)) (sym same) (is_in.kept opened honest);
            all = λ _ _. subst (λ (b : List ℕ). AreWhole b (fold links_after (now_in links_after first w) (w.held ++ command ∷ []))) (sym grows) (grown good kept);
          },
        )

    either : old.file.failed ≡ false → IsOk (decision old.chain command) → LeavesOnly model old.file.disk new.file.disk (CommitsToEither (committed model.state old) (staged model.state old ++ own))
        → LeavesOnly model old.file.disk new.file.disk (λ image. ShowsLinks image (now_in links_after first w) ⊎ ShowsLinks image (fold links_after (now_in links_after first w) (w.held ++ command ∷ [])))
    either good kept leaves =
        lift_group Commits AreWhole model old.file.disk new.file.disk (committed model.state old) (staged model.state old ++ own) (now_in links_after first w)
        (fold links_after (now_in links_after first w) (w.held ++ command ∷ [])) (is_in.kept (is_open is_in good) honest) (group_grown good kept) leaves

    kept_comes : old.file.failed ≡ false → IsOk (decision old.chain command) → new.file.failed ≡ false
        → committed model.state new ++ staged model.state new ≡ (committed model.state old ++ staged model.state old) ++ own
        → staged model.state new ≡ []
        → LeavesOnly model old.file.disk new.file.disk (CommitsToEither (committed model.state old) (staged model.state old ++ own)) → Comes (Kept command)
    kept_comes good kept good_now grows none leaves =
        let group : Links = fold links_after (now_in links_after first w) (w.held ++ command ∷ []) in
        let all : (committed model.state old ++ staged model.state old) ++ own ≡ committed model.state new =
        sym grows ∙ ap (λ (b : List ℕ). committed model.state new ++ b) none ∙ append-nil (committed model.state new) in
        let whole : AreWhole (committed model.state new) group = subst (λ (b : List ℕ). AreWhole b group) all (grown good kept) in (
          (
            (is_open is_in good, accepts good kept),
            (
              either good kept leaves,
              recovers_only Commits AreWhole (model.state new.file.disk) (committed model.state new) group whole (is_now.images good_now now),
            ),
            now,
          ),
          all_kept (w.held ++ command ∷ []) good_now none (λ _. whole),
        )

    faulted_comes : old.file.failed ≡ false → IsOk (decision old.chain command) → new.file.failed ≡ true
        → LeavesOnly model old.file.disk new.file.disk (CommitsToEither (committed model.state old) (staged model.state old ++ own)) → Comes (Faulted (Committing command))
    faulted_comes good kept bad leaves = (
      ((is_open is_in good, accepts good kept), either good kept leaves, now),
      failed_now (w.held ++ command ∷ []) bad,
    )

    refused_comes : new ≡ old → Comes (Refused command)
    refused_comes same = (
      (tt, ap (λ (r : RecorderState D). r.file.disk) same, now),
      subst (λ (r : RecorderState D). IsInLinks model first w r) (sym same) is_in,
    )

    pub command_comes : (r : Result Outcome Refusal)
        → (old.file.failed ≡ true → r ≡ Err Failed)
        → (old.file.failed ≡ false → (refusal : Refusal) → decision old.chain command ≡ Err refusal → r ≡ Err refusal)
        → OnOk r ((old.file.failed ≡ false) × IsOk (decision old.chain command))
        → IfErr r (λ refusal. refusal ≢ Disk → new ≡ old)
        → IfErr r (λ refusal. refusal ≡ Disk → (new.file.failed ≡ true) × (new.file.end ≡ old.file.end)
        × (new ≡ record old { file = new.file; held = 0 }))
        → OnOk r (new.file.failed ≡ false)
        → OnOk r (model.is_honest old.file.disk → committed model.state new ++ staged model.state new ≡ (committed model.state old ++ staged model.state old) ++ own)
        → IfOk r (λ outcome. (count : ℕ) → outcome ≡ WasHeld count → committed model.state new ≡ committed model.state old)
        → IfOk r (λ outcome. (kept : KeptOf) → outcome ≡ WasKept kept → staged model.state new ≡ [])
        → (old.file.failed ≡ false → LeavesOnly model old.file.disk new.file.disk (CommitsToEither (committed model.state old) (staged model.state old ++ own)))
        → IfOk r (λ outcome. (count : ℕ) → outcome ≡ WasHeld count → LeavesOnly model old.file.disk new.file.disk (CommitsTo (committed model.state old)))
        → Comes (command_step r (Committing command) command)
    command_comes (Ok (WasHeld count)) by_failed by_rules accepted same faulted good grows stays none moments waits =
        held_comes accepted.0 accepted.1 good (grows honest) (stays count refl) (waits count refl)
    command_comes (Ok (WasKept kept)) by_failed by_rules accepted same faulted good grows stays none moments waits =
        kept_comes accepted.0 accepted.1 good (grows honest) (none kept refl) (moments accepted.0)
    command_comes (Err refusal) by_failed by_rules accepted same faulted good grows stays none moments waits =
        ⊎_elim
        (λ disk.
        let still : old.file.failed ≡ false = good_if old.file.failed (λ bad. let e : Failed ≡ Disk = sym (same_refusal refusal Failed (by_failed bad)) ∙ disk in cc e) in
        let kept : IsOk (decision old.chain command) =
        decided (decision old.chain command) (λ other e. (table old.chain command other e).1) (λ other e. sym (same_refusal refusal other (by_rules still other e)) ∙ disk) in
        subst (λ (q : Refusal). Comes (refused_step q (Committing command) command)) (sym disk) (faulted_comes still kept (faulted disk).0 (moments still)))
        (λ other. subst (λ (step : Step Command). Comes step) (sym (other.1 (Committing command) command)) (refused_comes (same other.0)))
        (of_refusal refusal)

  -- ---- a flush
  module _ (is_in : IsInLinks model first w old) (opened : w.is_open ≡ true) (honest : model.is_honest old.file.disk)
      (now : model.is_honest new.file.disk) (is_now : IsRecorder model new) where
    flush_either : LeavesOnly model old.file.disk new.file.disk (CommitsToEither (committed model.state old) (staged model.state old))
        → LeavesOnly model old.file.disk new.file.disk (λ image. ShowsLinks image (now_in links_after first w) ⊎ ShowsLinks image (fold links_after (now_in links_after first w) w.held))
    flush_either leaves =
        lift_group Commits AreWhole model old.file.disk new.file.disk (committed model.state old) (staged model.state old) (now_in links_after first w)
        (fold links_after (now_in links_after first w) w.held) (is_in.kept opened honest) (is_in.all opened honest) leaves

    pub good_old : old.file.failed ≡ false
    good_old = is_in.failed ∙ ap not opened

    pub flush_comes : (r : Result KeptOf Refusal)
        → IfErr r (λ refusal. ((refusal ≡ Failed) × (old.file.failed ≡ true)) ⊎ (refusal ≡ Disk))
        → IfErr r (λ refusal. refusal ≡ Disk → (new.file.failed ≡ true) × (new.file.end ≡ old.file.end)
        × (new ≡ record old { file = new.file; held = 0 }))
        → OnOk r ((old.file.failed ≡ false) × (new.file.failed ≡ false))
        → OnOk r (model.is_honest old.file.disk → committed model.state new ≡ committed model.state old ++ staged model.state old)
        → OnOk r (staged model.state new ≡ [])
        → LeavesOnly model old.file.disk new.file.disk (CommitsToEither (committed model.state old) (staged model.state old))
        → Comes (flush_step r)
    flush_comes (Ok kept) refusals faulted good grows none leaves =
        let whole : AreWhole (committed model.state new) (fold links_after (now_in links_after first w) w.held) =
        subst (λ (b : List ℕ). AreWhole b (fold links_after (now_in links_after first w) w.held)) (sym (grows honest)) (is_in.all opened honest) in (
          (
            opened,
            (
              flush_either leaves,
              recovers_only Commits AreWhole (model.state new.file.disk) (committed model.state new) (fold links_after (now_in links_after first w) w.held) whole (is_now.images good.1 now),
            ),
            now,
          ),
          all_kept w.held good.1 none (λ _. whole),
        )
    flush_comes (Err refusal) refusals faulted good grows none leaves = (
      (opened, flush_either leaves, now),
      failed_now w.held (⊎_elim (λ is. absurd (never (sym good_old ∙ is.1))) (λ disk. (faulted disk).0) refusals),
    )

  -- ---- a reading
  pub read_comes : IsInLinks model first w old → model.is_honest old.file.disk → model.is_honest new.file.disk → new ≡ over_disk new.file.disk old
      → model.state new.file.disk ≡ model.state old.file.disk
      → LeavesOnly model old.file.disk new.file.disk (IsImage (model.state old.file.disk)) → Comes Looked
  read_comes is_in honest now same state leaves =
      let failed : new.file.failed ≡ old.file.failed = ap (λ (r : RecorderState D). r.file.failed) same in
      let end : new.file.end ≡ old.file.end = ap (λ (r : RecorderState D). r.file.end) same in
      let count : new.file.staged ≡ old.file.staged = ap (λ (r : RecorderState D). r.file.staged) same in
      let kept : committed model.state new ≡ committed model.state old = (λ i. take (end i) (state i).contents) in
      let waits : staged model.state new ≡ staged model.state old = (λ i. staged_in (end i) (count i) (state i).contents) in (
        (tt, lift_read Commits AreWhole model old.file.disk new.file.disk (model.state old.file.disk) leaves, now),
        record {
          failed = failed ∙ is_in.failed;
          none = is_in.none;
          kept = λ opened _. subst (λ (b : List ℕ). AreWhole b (now_in links_after first w)) (sym kept) (is_in.kept opened honest);
          all = λ opened _. subst (λ (b : List ℕ). AreWhole b (fold links_after (now_in links_after first w) w.held)) (λ i. sym kept i ++ sym waits i) (is_in.all opened honest);
        },
      )

-- ---- a sealing
module _ {D : Type 0} (model : DiskModel D) (first : Links) (w : World Command) (old : RecorderState D) (new : D) where
  pub seal_comes : IsInLinks model first w old → old.file.failed ≡ false → model.is_honest old.file.disk → model.is_honest new → LeavesOnly model old.file.disk new (CommitsTo (committed model.state old))
      → IsStepOfLinks model first w Sealed old.file.disk new × IsStepOfLinks model first w (Faulted Sealing) old.file.disk new
  seal_comes is_in good honest now leaves =
      let opened : w.is_open ≡ true = opened_if w.is_open (sym good ∙ is_in.failed) in
      let same = lift_same Commits AreWhole model old.file.disk new (committed model.state old) (now_in links_after first w) (is_in.kept opened honest) leaves in
      ((opened, same, now), (opened, same, now))

-- ---- an opening
module _ {D : Type 0} (model : DiskModel D) (first : Links) (w : World Command) (disk new : D) where
  -- what an image's committed bytes were, they are
  as_before : (image : List ℕ) → IsAsBefore Commits (model.state disk) image → IsAsBefore ShowsLinks (model.state disk) image
  as_before image is = record {
    source = is.source;
    was = is.was;
    keeps = λ links shown. record { bytes = shown.bytes; commits = is.keeps shown.bytes shown.commits; held = shown.held };
  }

  pub opening_leaves : LeavesOnly model disk new (IsAsBefore Commits (model.state disk)) → LeavesOnly model disk new (IsAsBefore ShowsLinks (model.state disk))
  opening_leaves leaves = weakened model disk new (IsAsBefore Commits (model.state disk)) (IsAsBefore ShowsLinks (model.state disk)) leaves as_before

  pub failed_opening : w.is_open ≡ false → model.is_honest new → LeavesOnly model disk new (IsAsBefore Commits (model.state disk)) → IsStepOfLinks model first w (Faulted Opening) disk new
  failed_opening shut now leaves = (shut, opening_leaves leaves, now)

  -- an image before committed to what is found
  found_before : (bytes image : List ℕ) → StandsIn ShowsLinks links_after first w (model.state disk) → (is : IsAsBefore Commits (model.state disk) image) → CommitsTo bytes image → CommitsTo bytes is.source
  found_before bytes image stands is now = ⊎_elim shown shown (stands is.source is.was)
    where
      shown : {links : Links} → ShowsLinks is.source links → CommitsTo bytes is.source
      shown s = subst (λ (b : List ℕ). CommitsTo b is.source) (one_commit s.bytes bytes image (is.keeps s.bytes s.commits) now) s.commits

  pub opening_finds : (bytes : List ℕ) (links : Links) → AreWhole bytes links → HasImages (model.state new) (model.moment new) (model.images_since new)
      → StandsIn ShowsLinks links_after first w (model.state disk) → LeavesOnly model disk new (IsAsBefore Commits (model.state disk)) → EachImage (model.state new) (CommitsTo bytes)
      → Finds ShowsLinks (model.state disk) (model.state new) links
  opening_finds bytes links whole has stands leaves each =
      let image : List ℕ = (model.state new).contents in
      let is : IsAsBefore Commits (model.state disk) image = leaves.each image (has.counts_now (model.moment disk) image leaves.later has.contents_is_image) in
      finds_held Commits AreWhole (model.state disk) (model.state new) bytes is.source links is.was (found_before bytes image stands is (each image has.contents_is_image)) each whole

  -- where the recorder stands then
  pub stands_opened : (recorder : RecorderState D) (found : Bool) (links : Links) → AreWhole (committed model.state recorder) links → links ≡ now_in links_after first (happens w (Opened found))
      → recorder.file.failed ≡ false → recorder.file.staged ≡ 0 → IsInLinks model first (happens w (Opened found)) recorder
  stands_opened recorder found links whole same good none =
      let here : AreWhole (committed model.state recorder) (now_in links_after first (happens w (Opened found))) = subst (λ (l : Links). AreWhole (committed model.state recorder) l) same whole in
      let nothing : staged model.state recorder ≡ [] = ap (λ (n : ℕ). staged_in recorder.file.end n (model.state recorder.file.disk).contents) none in
      record {
        failed = good;
        none = λ _. refl;
        kept = λ _ _. here;
        all = λ _ _. subst (λ (b : List ℕ). AreWhole b (now_in links_after first (happens w (Opened found))))
            (sym (append-nil (committed model.state recorder)) ∙ ap (λ (b : List ℕ). committed model.state recorder ++ b) (sym nothing)) here;
      }
