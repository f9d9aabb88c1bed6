-- Disks that are given back after more than one call.
use Rattle.std.specs.Prelude.{◌≡◌, ◌⊎◌, ◌≤◌, ℕ, List, length, take, Result, Ok, Err, IfOk, IfErr}
use Rattle.std.proofs.Common.{refl, inl, inr, ⊎_elim, arith, sym, ap, ◌∙◌, subst}
use Rattle.std.proofs.lemmas.List.{length-take-le}
use Rattle.disk_model.specs.declared.disk.Disk.{Ghosts as DiskModel}
use Rattle.disk_model.specs.Frame.{Frame}
use Rattle.disk_model.specs.Fault.{Rises}
use Rattle.ogg_page.specs.declared.fault.PageFault.{PageFault}
use Rattle.link_chain.specs.declared.chain_fault.ChainFault.{ChainFault}
use Rattle.link_chain.specs.Recording.{Recording}
use Rattle.gate_file.specs.declared.fault.OpenFault.TheVariants.{Disk, Memory, Page, Chain, Unfinished}
use Rattle.gate_file.specs.Commit.{CommitsTo}
use Rattle.file_recorder.specs.Recovery.{Shows}
use Rattle.gate_file.specs.Found.{IsDamagedAt}
use Rattle.gate_file.specs.Gate.{EndsAt}
use Rattle.file_recorder.specs.Taking.{IsBrokenAt, IsUnfinished}
use Rattle.record_actions.specs.Foreign.{IsForeign, front_of}
use Rattle.archive_record.specs.declared.damage.Damage.{Damage}
use Rattle.archive_record.specs.declared.damage.Damage.TheVariants.{Unreadable, Foreign, Open, Tail}
use Rattle.record_actions.specs.Tail.{IsSoundAt, IsUnsoundAt}
use Rattle.archive_record.specs.Opening.{CanGoOn, IsLeftBy}

rises_earlier : (first then now : ℕ) → first ≤ then → Rises then now → Rises first now
rises_earlier first then now le rises = ⊎_elim (λ less. inl (omega (arith, le, less))) (λ top. inr top) rises

module _ {D : Type 0} (model : DiskModel D) where
  pub frame_after : (disk mid new : D) (blamed : Type 0) → Frame model disk mid ⊥ → Frame model mid new blamed → Frame model disk new blamed
  frame_after disk mid new blamed first second = record {
    honest = (λ h. second.honest.0 (first.honest.0 h), λ h. first.honest.1 (second.honest.1 h));
    later = omega (arith, first.later, second.later);
    cause = λ is. rises_earlier (model.failures disk) (model.failures mid) (model.failures new) first.later (second.cause is);
  }

  -- the disk was left with what it held, and then it is left
  pub left_after : (disk mid : D) (why : Damage) (back : D) → Frame model disk mid ⊥
      → (model.is_honest disk → (model.state mid).contents ≡ (model.state disk).contents)
      → IsLeftBy model mid why back → IsLeftBy model disk why back
  left_after disk mid why back frame same left = record {
    frame = frame_after disk mid back _ frame left.frame;
    same = λ other honest. left.same other (frame.honest.0 honest) ∙ same honest;
    foreign = λ is honest. subst (λ (l : List ℕ). IsForeign (front_of l)) (same honest) (left.foreign is (frame.honest.0 honest));
    tail = λ end is honest. subst (λ (l : List ℕ). IsUnsoundAt l end) (same honest) (left.tail end is (frame.honest.0 honest));
    page = λ offset fault is honest. subst (λ (l : List ℕ). IsDamagedAt l offset fault) (same honest) (left.page offset fault is (frame.honest.0 honest));
    chain = λ offset fault is honest. subst (λ (l : List ℕ). (end : ℕ) × EndsAt l end × IsBrokenAt (take end l) offset fault) (same honest)
        (left.chain offset fault is (frame.honest.0 honest));
    unfinished = λ serial is honest. subst (λ (l : List ℕ). (end : ℕ) × EndsAt l end × IsUnfinished (take end l) serial) (same honest)
        (left.unfinished serial is (frame.honest.0 honest));
    read = left.read;
  }

  pub err_after : {R : Type 0} (result : Result R (Damage × D)) (disk mid : D) → Frame model disk mid ⊥
      → (model.is_honest disk → (model.state mid).contents ≡ (model.state disk).contents)
      → IfErr result (λ x. IsLeftBy model mid x.0 x.1) → IfErr result (λ x. IsLeftBy model disk x.0 x.1)
  err_after (Ok value) disk mid frame same left = tt
  err_after (Err e) disk mid frame same left = left_after disk mid e.0 e.1 frame same left

  pub ok_after : {E : Type 0} (result : Result D E) (disk mid : D) → Frame model disk mid ⊥
      → IfOk result (λ new. Frame model mid new ⊥) → IfOk result (λ new. Frame model disk new ⊥)
  ok_after (Ok new) disk mid frame next = frame_after disk mid new ⊥ frame next
  ok_after (Err e) disk mid frame next = tt

-- pages end at one place
pub sound_there : ((b c image : List ℕ) → CommitsTo b image → CommitsTo c image → b ≡ c)
    → (contents : List ℕ) (end other : ℕ) → IsSoundAt contents end → EndsAt contents other → IsSoundAt contents other
sound_there unique contents end other sound ends =
    let same : take end contents ≡ take other contents = unique (take end contents) (take other contents) contents sound.ends.commits ends.commits in
    let long : length (take end contents) ≡ end = length-take-le end contents sound.ends.within in
    let as_long : length (take other contents) ≡ other = length-take-le other contents ends.within in
    subst (λ (n : ℕ). IsSoundAt contents n) (sym long ∙ ap length same ∙ as_long) sound

pub err_where : {R E : Type 0} (P Q : E → Type 0) (result : Result R E) → ((e : E) → P e → Q e) → IfErr result P → IfErr result Q
err_where P Q (Ok r) each is = tt
err_where P Q (Err e) each is = each e is

-- what can be gone on with is refused only for want of memory, or by the disk
module _ (unique : (b c image : List ℕ) → CommitsTo b image → CommitsTo c image → b ≡ c)
    (damaged : (contents : List ℕ) (recording : Recording) → Shows contents recording → (offset : ℕ) (fault : PageFault) → IsDamagedAt contents offset fault → ⊥)
    (broken : (contents : List ℕ) (recording : Recording) → Shows contents recording → (end : ℕ) → EndsAt contents end → (offset : ℕ) (fault : ChainFault)
    → IsBrokenAt (take end contents) offset fault → ⊥)
    (unfinished : (contents : List ℕ) (recording : Recording) → Shows contents recording → (end : ℕ) → EndsAt contents end → (serial : ℕ) → IsUnfinished (take end contents) serial → ⊥)
    {D : Type 0} (model : DiskModel D) where
  pub refused_only : (disk : D) (why : Damage) (back : D) → IsLeftBy model disk why back → model.is_honest disk → CanGoOn (model.state disk).contents
      → (why ≡ Open Memory) ⊎ (why ≡ Open Disk)
  refused_only disk Unreadable back left honest good = absurd (left.read refl)
  refused_only disk Foreign back left honest good = absurd (good.own (left.foreign refl honest))
  refused_only disk (Tail end) back left honest good =
      let at = left.tail end refl honest in
      absurd (at.tail (sound_there unique (model.state disk).contents good.end end good.sound at.ends).tail)
  refused_only disk (Open Memory) back left honest good = inl refl
  refused_only disk (Open Disk) back left honest good = inr refl
  refused_only disk (Open (Page offset fault)) back left honest good =
      absurd (damaged (model.state disk).contents good.recording good.shows offset fault (left.page offset fault refl honest))
  refused_only disk (Open (Chain offset fault)) back left honest good =
      let at = left.chain offset fault refl honest in
      absurd (broken (model.state disk).contents good.recording good.shows at.0 at.1 offset fault at.2)
  refused_only disk (Open (Unfinished serial)) back left honest good =
      let at = left.unfinished serial refl honest in
      absurd (unfinished (model.state disk).contents good.recording good.shows at.0 at.1 serial at.2)

pub ok_where : {R E : Type 0} (P Q : R → Type 0) (result : Result R E) → ((r : R) → P r → Q r) → IfOk result P → IfOk result Q
ok_where P Q (Ok r) each is = each r is
ok_where P Q (Err e) each is = tt
