-- How an archive goes over to its next file.
use Rattle.std.proofs.Common.{◌≡◌, ◌++◌, ◌-◌, ◌^◌, ℕ, Bool, true, false, Option, Some, None, Result, Ok, Err, IfOk, List, inl, inr, refl, sym, ◌∙◌, ap, subst}
use Rattle.std.specs.Prelude.{IsOk}
use Rattle.disk_model.specs.declared.disk.Disk.{Ghosts as DiskModel}
use Rattle.archive_folder.specs.Names.{Place}
use Rattle.archive_folder.specs.declared.names.FileName.{FileName}
use Rattle.feed_replies.specs.declared.reply.Reply.{Reply}
use Rattle.file_recorder.specs.Ending.{AllEnded, EndRefused}
use Rattle.file_recorder.specs.Recorder.{RecorderState, committed, staged}
use Rattle.file_recorder.specs.Running.{Answers, Progress, progress, streams_in}
use Rattle.history.specs.World.{World}
use Rattle.link_chain.specs.ChainState.{is_open}
use Rattle.link_chain.specs.Recording.{Recording}
use Rattle.ogg_command.specs.declared.refusal.Refusal.{Refusal}
use Rattle.archive_record.specs.declared.ending.Unended.{Unended}
use Rattle.archive_record.specs.declared.ending.Unended.TheVariants.{Failed, Refused}
use Rattle.import_record.specs.declared.answering.Answered.{Answered}
use Rattle.ogg_command.specs.declared.command.Command.{Command}
use Rattle.archive_record.specs.Changing.{EndsOpen, HasBegun, HasEnded, HasNotEnded, holding_all}
use Rattle.archive_record.specs.Filing.{HasExactly, IsNew}
use Rattle.archive_record.specs.Stepping.{HasRunAgain}
use Rattle.archive_record.specs.Writing.{IsNow, Writing, writing}
use Rattle.archive_record.specs.declared.newest.Newest.{Newest}

module _ {D : Type 0} (model : DiskModel D) where
  -- streams of the file were ended, up to this recorder
  abbrev pub EndsTo : Progress D → RecorderState D → Bool → Type 0
  EndsTo before recorder goes_on = (last : Progress D) × (last.now ≡ recorder) × EndsOpen model (holding_all before) last goes_on

  held_all : (before : Progress D) (old held : RecorderState D) → before.now ≡ old
      → held ≡ record old { most = 2 ^ 32 - 1 } → progress before.first before.world held ≡ holding_all before
  held_all before old held is set =
      ap (λ (r : RecorderState D). progress before.first before.world r) set
      ∙ ap (λ (r : RecorderState D). progress before.first before.world (record r { most = 2 ^ 32 - 1 })) (sym is)

  -- all that was open was ended
  pub ends_all : (before : Progress D) (old held new : RecorderState D) (was_open : Bool) → before.now ≡ old
      → held ≡ record old { most = 2 ^ 32 - 1 } → was_open ≡ is_open old.chain
      → ((first : Recording) (w : World Command) → (after : Progress D) × (replies : List Reply) × (after.now ≡ new)
      × AllEnded streams_in (Answers model) (progress first w held) after replies)
      → EndsTo before new was_open
  ends_all before old held new was_open is set was ends =
      let (after, replies, now, all) = ends before.first before.world in (
        after,
        now,
        inl (
          replies,
          subst (λ (p : Progress D). AllEnded streams_in (Answers model) p after replies) (held_all before old held is set) all,
          was ∙ ap (λ (r : RecorderState D). is_open r.chain) (sym is),
        ),
      )

  -- the end of one was refused
  pub ends_some : (before : Progress D) (old held new : RecorderState D) (why : Unended) → before.now ≡ old
      → held ≡ record old { most = 2 ^ 32 - 1 } → (why ≡ Failed → ⊥)
      → ((first : Recording) (w : World Command) (refusal : Refusal) → why ≡ Refused refusal → (after : Progress D) × (replies : List Reply) × (after.now ≡ new)
      × EndRefused streams_in (Answers model) (progress first w held) after replies refusal)
      → EndsTo before new false
  ends_some before old held new Failed is set works ends = absurd (works refl)
  ends_some before old held new (Refused refusal) is set works ends =
      let (after, replies, now, refused) = ends before.first before.world refusal refl in (
        after,
        now,
        inr (
          replies,
          refusal,
          subst (λ (p : Progress D). EndRefused streams_in (Answers model) p after replies refusal) (held_all before old held is set) refused,
          refl,
        ),
      )

  pub has_ended : (Honest : Type 0) (file : ℕ → Place D) (goes_on other : Bool) (before : Writing D) (name : FileName) (recorder : RecorderState D)
      → before.name ≡ name → goes_on ≡ other → EndsTo before.progress recorder goes_on
      → (Honest → model.is_honest recorder.file.disk → HasExactly model file name.number (committed model.state recorder ++ staged model.state recorder))
      → HasEnded model Honest file other before
  has_ended Honest file goes_on other before name recorder named same (last, now, ends) whole = record {
    last = last;
    ends = subst (λ (b : Bool). EndsOpen model (holding_all before.progress) last b) same ends;
    whole = λ honest disk.
        subst (λ (n : FileName). HasExactly model file n.number (committed model.state last.now ++ staged model.state last.now)) (sym named)
        (subst (λ (r : RecorderState D). HasExactly model file name.number (committed model.state r ++ staged model.state r)) (sym now)
        (whole honest (subst (λ (r : RecorderState D). model.is_honest r.file.disk) now disk)));
  }

  pub has_not_ended : (out : Option ℕ) (old newest : Newest D) (goes_on : Bool) (before : Writing D) (recorder back : RecorderState D)
      → Some old ≡ Some newest → EndsTo before.progress recorder goes_on
      → (out ≡ Some old.name.number → back.file.failed ≡ true)
      → (model.is_honest recorder.file.disk → committed model.state back ≡ committed model.state recorder)
      → HasNotEnded model out newest before (Some (record old { recorder = back }))
  has_not_ended out old newest goes_on before recorder back is (last, now, ends) failed kept =
      let same : old ≡ newest = cc is in record {
        goes_on = goes_on;
        last = last;
        ends = ends;
        back = back;
        stays = ap (λ (n : Newest D). Some (record n { recorder = back })) same;
        failed = λ handed. failed (handed ∙ ap (λ (n : Newest D). Some n.name.number) (sym same));
        kept = λ disk. kept (subst (λ (r : RecorderState D). model.is_honest r.file.disk) now disk) ∙ ap (λ (r : RecorderState D). committed model.state r) (sym now);
      }

  pub has_begun : (bound : Option ℕ) (again : List Command) (answered : Answered) (now : Option (Newest D)) (name : FileName) (recorder : RecorderState D)
      (one : Newest D) → one ≡ record { name = name; recorder = recorder; join = None } → (recorder.held ≡ 0) × (recorder.file.failed ≡ false)
      → (bound ≡ None → IsNew model recorder) → ((before : Writing D) → IsNow before (Some one) → HasRunAgain model again answered before now)
      → HasBegun model bound again answered now
  has_begun bound again answered now name recorder one is works empty runs = record {
    name = name;
    recorder = recorder;
    works = works;
    unwritten = empty;
    runs = λ first world. runs (writing name (progress first world recorder))
        (ap (λ (n : Newest D). n.name) (sym is), ap (λ (n : Newest D). n.recorder) (sym is));
  }

-- what is said of a value that is there
pub known_of : {V M R : Type 0} (found : Result V M) (P Q : V → Type 0) → IsOk found → IfOk found P → IfOk found Q → ((v : V) → P v → Q v → R) → R
known_of (Ok v) P Q known first second then = then v first second
known_of (Err e) P Q known first second then = absurd (cc known)
