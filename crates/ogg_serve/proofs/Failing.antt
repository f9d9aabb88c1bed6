-- The count of a disk's failures while a feed is recorded.
use Rattle.std.proofs.Common.{◌≡◌, ◌≤◌, ℕ, Bool, true, false, Option, Some, None, Result, Ok, Err, List, [], refl, sym, ◌∙◌, ap, subst, arith, inl, inr, ⊎_elim}
use Rattle.std.specs.Prelude.{IfSome, IsSome, ⊤}
use Rattle.disk_model.specs.declared.disk.Disk.{Ghosts as DiskModel}
use Rattle.disk_model.specs.Image.{DiskState}
use Rattle.feed_replies.specs.declared.fault.RunFault.{RunFault}
use Rattle.feed_replies.specs.declared.fault.RunFault.TheVariants.{Feed, Write, TooMany}
use Rattle.feed_records.specs.declared.item.Record.{Record as RecordOf}
use Rattle.feed_records.specs.declared.item.Record.TheVariants.{Command as CommandOf, Flush as FlushOf}
use Rattle.feed_replies.specs.declared.reply.Reply.{Reply}
use Rattle.feed_records.specs.declared.version.Version.{Version}
use Rattle.feed_run.specs.Run.{Outcome, Streams, RunState, Steps, StopsBy, StopsAt}
use Rattle.gate_file.specs.declared.fault.OpenFault.{OpenFault}
use Rattle.file_recorder.specs.Recorder.{RecorderState}
use Rattle.serve_hub.specs.declared.opening.Lost.{Lost}
use Rattle.serve_hub.specs.Images.{IfFile, Fails, Flushes, Reads, Records, disk_in, failures_in, failures_of}
use Rattle.serve_hub.specs.Parts.{HubParts, OnlyFile}
use Rattle.serve_hub.specs.Running.{Progress, Answers, waiting_in}
use Rattle.serve_hub.specs.Showing.{ShowsPlace}
use Rattle.serve_sending.specs.Sending.{HasFailed}
use Rattle.serve_machine.specs.Hub.{HubState}
use Rattle.ogg_serve.specs.declared.feeding.Step.{Step as FeedStep}
use Rattle.ogg_serve.specs.declared.feeding.Step.TheVariants.{Done, End, Lost as LostOf}
use Rattle.ogg_serve.specs.Feeding.{FeedState, FollowsIf, HasStepped, HasAnswered, Reopened, feed_state, says_failed, step_at}

pub failed_later : (a b c : ℕ) → a ≤ b → HasFailed b c → HasFailed a c
failed_later a b c le failed = ⊎_elim (λ low. inl (omega (arith, le, low))) inr failed

module _ {D : Type 0} (model : DiskModel D) where
  abbrev NeverFalls : HubParts D → HubParts D → Type 0
  NeverFalls old new = failures_in model.failures old ≤ failures_in model.failures new

  same_hub : (old new : HubParts D) → new ≡ old → NeverFalls old new
  same_hub old new e = subst (λ (hub : HubParts D). NeverFalls old hub) (sym e) (omega arith)

  -- by what a call leaves of the file
  by_file : (P : RecorderState D → RecorderState D → Type 0) → ((a b : RecorderState D) → P a b → model.failures a.file.disk ≤ model.failures b.file.disk)
      → (old new : Option (RecorderState D)) (lost : Option (Lost D)) → IfFile P old new → failures_of model.failures old lost ≤ failures_of model.failures new lost
  by_file P rises None new lost p =
      subst (λ (file : Option (RecorderState D)). failures_of model.failures None lost ≤ failures_of model.failures file lost) (sym p) (omega arith)
  by_file P rises (Some a) None lost p = absurd p
  by_file P rises (Some a) (Some b) lost p = rises a b p

  with_lost : (old new : Option (RecorderState D)) (was now : Option (Lost D)) → now ≡ was → failures_of model.failures old was ≤ failures_of model.failures new was
      → failures_of model.failures old was ≤ failures_of model.failures new now
  with_lost old new was now e le = subst (λ (lost : Option (Lost D)). failures_of model.failures old was ≤ failures_of model.failures new lost) (sym e) le

  pub was_read : (old new : Option (RecorderState D)) (was now : Option (Lost D)) → IfFile (Reads model) old new
      → now ≡ was → failures_of model.failures old was ≤ failures_of model.failures new now
  was_read old new was now p e =
      with_lost old new was now e (by_file (Reads model) (λ a b r. r.later) old new was p)

  -- with a file
  pub has_failed : (old new : Option (RecorderState D)) (was now : Option (Lost D)) → IsSome new → IfFile (Fails model) old new
      → HasFailed (failures_of model.failures old was) (failures_of model.failures new now)
  has_failed None None was now some p = cc
  has_failed None (Some b) was now some p = cc
  has_failed (Some a) None was now some p = cc
  has_failed (Some a) (Some b) was now some p = p

  pub has_file : (file : Option (RecorderState D)) (lost : Option (Lost D)) (machine : HubState) → ShowsPlace model file lost machine
      → machine.has_file ≡ true → IsSome file
  has_file (Some recorder) lost machine shown is = refl
  has_file None (Some lost) machine shown is = let no : true ≡ false = sym is ∙ shown.has_file in cc
  has_file None None machine shown is = absurd shown

  has_disk : (file : Option (RecorderState D)) (lost : Option (Lost D)) (machine : HubState) → ShowsPlace model file lost machine
      → IsSome (disk_in file lost)
  has_disk (Some recorder) lost machine shown = refl
  has_disk None (Some lost) machine shown = refl
  has_disk None None machine shown = absurd shown

  -- by what a reopening leaves of the disk
  by_disk : (old : Option (RecorderState D)) (was : Option (Lost D)) (new : Option (RecorderState D)) (now : Option (Lost D))
      → ((a b : D) → disk_in old was ≡ Some a → disk_in new now ≡ Some b → model.failures a ≤ model.failures b)
      → IsSome (disk_in new now) → failures_of model.failures old was ≤ failures_of model.failures new now
  by_disk None None new now rises some = omega arith
  by_disk None (Some l) None None rises some = cc
  by_disk None (Some l) None (Some m) rises some = rises l.disk m.disk refl refl
  by_disk None (Some l) (Some b) now rises some = rises l.disk b.file.disk refl refl
  by_disk (Some a) was None None rises some = cc
  by_disk (Some a) was None (Some m) rises some = rises a.file.disk m.disk refl refl
  by_disk (Some a) was (Some b) now rises some = rises a.file.disk b.file.disk refl refl

  answered : (before after : Progress D) (given : RecordOf) (reply : Reply) (own : List ℕ)
      → Answers model before given reply own after → NeverFalls before.now after.now
  answered before after (CommandOf command) reply own a =
      with_lost before.now.file after.now.file before.now.lost after.now.lost (ap (λ (hub : HubParts D). hub.lost) a.1.only)
      (by_file (Records model command a.1.answer) (λ x y r. r.frame.later) before.now.file after.now.file before.now.lost a.1.disk)
  answered before after FlushOf reply own a =
      with_lost before.now.file after.now.file before.now.lost after.now.lost (ap (λ (hub : HubParts D). hub.lost) a.1.only)
      (by_file (Flushes model a.1.answer) (λ x y r. r.frame.later) before.now.file after.now.file before.now.lost a.1.disk)

  ran : (old new : Streams) (was now : RunState) (before mid : Progress D) (reply : Reply)
      → Steps (Answers model) waiting_in old new was now before mid reply → NeverFalls before.now mid.now
  ran old new was now before mid reply (inl one) = answered before mid one.given reply one.own one.answers_it
  ran old new was now before mid reply (inr one) = answered before mid FlushOf reply [] one.answers_it

  same_progress : (before after : Progress D) → after ≡ before → NeverFalls before.now after.now
  same_progress before after e = same_hub before.now after.now (ap (λ (p : Progress D). p.now) e)

  abbrev HasDisk : Progress D → Type 0
  HasDisk after = IsSome (disk_in after.now.file after.now.lost)

  reopened : (result : Result ⊤ OpenFault) (before after : Progress D) → HasDisk after
      → Reopened model result before after → NeverFalls before.now after.now
  reopened result before after some r =
      by_disk before.now.file before.now.lost after.now.file after.now.lost (λ a b e f. (r.disk a b e f).frame.later) some

  followed : (failed : Bool) (reply : Reply) (step : FeedStep) (before after : Progress D) → HasDisk after
      → FollowsIf model failed reply step before after → NeverFalls before.now after.now
  followed true reply (Done told) before after some f = reopened (Ok tt) before after some f.1
  followed true reply (LostOf fault) before after some f = reopened (Err fault) before after some f
  followed true reply End before after some f = absurd f
  followed false reply step before after some f = same_progress before after f.1

  has_answered : (old new : Streams) (was now : RunState) (before after : Progress D) (step : FeedStep) → HasDisk after
      → HasAnswered model old new was now before after step → NeverFalls before.now after.now
  has_answered old new was now before after step some h =
      let first = ran old new was now before h.mid h.reply h.ran in
      let second = followed (says_failed h.reply) h.reply step h.mid after some h.follows in
      omega (arith, first, second)

  stopped : (waits : Bool) (pages new_pages lines new_lines : Option (List ℕ)) (given : RecordOf) (own : List ℕ) (reply : Reply) (before reached after : Progress D)
      → StopsAt waits pages new_pages lines new_lines own reply before reached after
      → Answers model before given reply own reached → NeverFalls before.now after.now
  stopped waits pages new_pages lines new_lines given own reply before reached after (inl none) a = same_progress before after none.2
  stopped waits pages new_pages lines new_lines given own reply before reached after (inr all) a =
      let first = answered before reached given reply own a in
      let second = same_progress reached after all.2 in
      omega (arith, first, second)

  stops : (fault : RunFault) (old new : Streams) (known : Option Version) (count : ℕ) (before after : Progress D)
      → StopsBy (Answers model) waiting_in fault old new known count before after → NeverFalls before.now after.now
  stops (Feed fault) old new known count before after s = same_progress before after s.same
  stops TooMany old new known count before after s = same_progress before after s.same
  stops Write old new known count before after s =
      stopped new.waits old.pages new.pages old.lines new.lines s.given s.own s.reply before s.reached after s.written s.answers_it

  stepped : (old new : Streams) (was now : RunState) (before after : Progress D) (result : Result FeedStep RunFault) → HasDisk after
      → HasStepped model old new was now before after result → NeverFalls before.now after.now
  stepped old new was now before after (Ok (Done reply)) some h = has_answered old new was now before after (Done reply) some h
  stepped old new was now before after (Ok (LostOf fault)) some h = has_answered old new was now before after (LostOf fault) some h
  stepped old new was now before after (Ok End) some h = same_progress before after h.same
  stepped old new was now before after (Err fault) some h = stops fault old new was.version was.records before after h

  -- a step, by the hub before it and after it
  pub by_step : (old new : Streams) (was now : RunState) (before after : Progress D) (result : Result FeedStep RunFault) (hub : HubParts D)
      → after.now ≡ hub → ShowsPlace model hub.file hub.lost after.machine
      → HasStepped model old new was now before after result → NeverFalls before.now hub
  by_step old new was now before after result hub same shown h =
      let some : HasDisk after = subst (λ (p : HubParts D). IsSome (disk_in p.file p.lost)) (sym same) (has_disk hub.file hub.lost after.machine shown) in
      subst (λ (p : HubParts D). NeverFalls before.now p) same (stepped old new was now before after result some h)

  -- any step
  pub later : {R W : Type 0} → (ended : Option (Result FeedStep RunFault)) (outcome : Option Outcome) (result : Result FeedStep RunFault) (old new : FeedState R W) (hub after : HubParts D)
      → IfSome ended (λ answer. (result ≡ answer) × (new ≡ old) × (after ≡ hub))
      → (ended ≡ None → IfSome outcome (λ o. (result ≡ step_at o) × (new ≡ feed_state old.reader old.replies old.run (Some result)) × (after ≡ hub)))
      → (ended ≡ None → outcome ≡ None → NeverFalls hub after) → NeverFalls hub after
  later (Some answer) outcome result old new hub after stays closed going = same_hub hub after stays.2
  later None (Some o) result old new hub after stays closed going = same_hub hub after (closed refl).2
  later None None result old new hub after stays closed going = going refl refl
