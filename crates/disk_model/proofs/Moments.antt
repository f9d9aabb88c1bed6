-- One more call in a record.
use Rattle.std.proofs.Common.{◌≡◌, ◌⊎◌, inl, inr, ⊎_elim, slice_get, ℕ, ◌≤◌, List, [], ◌∷◌, ◌++◌, length, take, refl, sym, ◌∙◌, ap, subst, arith, length-append}
use Rattle.std.proofs.lemmas.List.{take-append-le, take_all}
use Rattle.disk_model.specs.Image.{DiskState, IsImage, settled}
use Rattle.disk_model.specs.Clock.{TimePasses}
use Rattle.disk_model.specs.Torn.{settled_image}
use Rattle.disk_model.specs.Calls.{after_call, after_calls, WasImageSince}
use Rattle.disk_model.specs.declared.memory.Call.{Call}

after_calls-push : (calls : List Call) (call : Call) (disk : DiskState) → after_calls (calls ++ call ∷ []) disk ≡ after_call call (after_calls calls disk)
after_calls-push [] call disk = refl
after_calls-push (first ∷ calls) call disk = after_calls-push calls call (after_call first disk)

-- the record goes on
pub replayed_push : (calls later : List Call) (call : Call) (first now : DiskState) → after_calls calls first ≡ now → later ≡ calls ++ call ∷ [] → after_calls later first ≡ after_call call now
replayed_push calls later call first now is more =
    ap (λ (cs : List Call). after_calls cs first) more ∙ after_calls-push calls call first ∙ ap (λ (d : DiskState). after_call call d) is

elapses : (calls : List Call) (call : Call) (first next : DiskState) → after_calls (calls ++ call ∷ []) first ≡ next
    → TimePasses (length calls) (length (calls ++ call ∷ [])) (WasImageSince first calls) (WasImageSince first (calls ++ call ∷ [])) next
elapses calls call first next is = record {
  later = omega (arith, length-append calls (call ∷ []));
  nothing_else = λ t image le was. before_or_now t image was (or_last was.0 was.2);
  keeps = λ t image le was. (was.0, was.1, omega (arith, was.2, length-append calls (call ∷ [])), rw (front was.0 was.2) was.3);
}
  where
    front : (k : ℕ) → k ≤ length calls → take k (calls ++ call ∷ []) ≡ take k calls
    front k le = take-append-le k calls (call ∷ []) le

    or_last : (k : ℕ) → k ≤ length (calls ++ call ∷ []) → (k ≤ length calls) ⊎ (length (calls ++ call ∷ []) ≤ k)
    or_last k le = grind (arith, length-append calls (call ∷ []))

    before_or_now : (t : ℕ) (image : List ℕ) → (was : WasImageSince first (calls ++ call ∷ []) t image) → (was.0 ≤ length calls) ⊎ (length (calls ++ call ∷ []) ≤ was.0)
        → WasImageSince first calls t image ⊎ IsImage next image
    before_or_now t image was (inl le) = inl (was.0, was.1, le, rw (front was.0 le) at was.3)
    before_or_now t image was (inr all) = inr (rw (take_all was.0 (calls ++ call ∷ []) all, is) at was.3)

-- a bound of all images
pub bounded : (before now : ℕ) (past since : ℕ → List ℕ → Type 0) (next bound : DiskState) → TimePasses before now past since next → ((image : List ℕ) → IsImage next image → IsImage bound image)
    → TimePasses before now past since bound
bounded before now past since next bound time within = record {
  later = time.later;
  nothing_else = λ t image le was. ⊎_elim inl (λ is. inr (within image is)) (time.nothing_else t image le was);
  keeps = time.keeps;
}

-- the record goes on by a call, and time passes with the images of a bound
pub passes : (calls later : List Call) (call : Call) (first next bound : DiskState) → later ≡ calls ++ call ∷ [] → after_calls later first ≡ next → ((image : List ℕ) → IsImage next image → IsImage bound image)
    → TimePasses (length calls) (length later) (WasImageSince first calls) (WasImageSince first later) bound
passes calls later call first next bound more replayed within =
    let time = elapses calls call first next (ap (λ (cs : List Call). after_calls cs first) (sym more) ∙ replayed) in
    bounded _ _ _ _ next bound
    (subst (λ (cs : List Call). TimePasses (length calls) (length cs) (WasImageSince first calls) (WasImageSince first cs) next) (sym more) time) within

-- the same bounds, whatever the contents
pub same_images : (a b : DiskState) → a.synced ≡ b.synced → a.written ≡ b.written → a.least ≡ b.least → a.greatest ≡ b.greatest → (image : List ℕ) → IsImage a image → IsImage b image
same_images a b synced written least greatest image is = record {
  no_shorter = omega (arith, is.no_shorter);
  no_longer = omega (arith, is.no_longer);
  kept = λ k below none. is.kept k below (rw written none) ∙ ap (λ (l : List ℕ). slice_get l k) synced;
}

-- what was synced was an image before
pub settled_within : (disk next : DiskState) → IsImage disk disk.contents → settled disk.contents ≡ next → (image : List ℕ) → IsImage next image → IsImage disk image
settled_within disk next stands same image is =
    let only : IsImage (settled disk.contents) image = subst (λ (d : DiskState). IsImage d image) (sym same) is in
    let whole : image ≡ disk.contents = settled_image (settled disk.contents) disk.contents image (record { synced = refl; unwritten = λ k none. none; least = omega arith; greatest = omega arith }) only in
    subst (IsImage disk) (sym whole) stands

pub same_state : (a b : DiskState) → a.contents ≡ b.contents → a.synced ≡ b.synced → a.written ≡ b.written → a.least ≡ b.least → a.greatest ≡ b.greatest → a ≡ b
same_state a b contents synced written least greatest = λ i. record { contents = contents i; synced = synced i; written = written i; least = least i; greatest = greatest i }
