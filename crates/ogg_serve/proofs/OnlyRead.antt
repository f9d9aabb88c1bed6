-- A file that is only read, by one call after the other.
use Rattle.std.proofs.Common.{◌≡◌, ℕ, ◌≤◌, Option, Some, None, List, refl, sym, ◌∙◌, ap, subst, arith, inl, inr, ⊎_elim}
use Rattle.disk_model.specs.declared.disk.Disk.{Ghosts as DiskModel}
use Rattle.disk_model.specs.Image.{DiskState, IsImage}
use Rattle.disk_model.specs.Leaving.{started, weakened}
use Rattle.gate_file.specs.Reading.{OnlyReads, nothing_read, reads_then}
use Rattle.history.specs.Showing.{IsAsBefore}
use Rattle.file_recorder.specs.Recorder.{RecorderState, over_disk}
use Rattle.file_recorder.specs.Recovery.{Shows}
use Rattle.serve_hub.specs.Images.{IfFile, Fails, Reads}

module _ {D : Type 0} (model : DiskModel D) where
  -- the images of now
  abbrev pub IsNow : D → Type 0
  IsNow disk = model.is_honest disk → (image : List ℕ) → model.images_since disk (model.moment disk) image → IsImage (model.state disk) image

  as_before : (old new : D) → OnlyReads model old new → model.is_honest old → (image : List ℕ) → IsImage (model.state old) image
      → IsAsBefore Shows (model.state old) image
  as_before old new only h image now = record { source = image; was = now; keeps = λ s shows. shows }

  none_read : (r : RecorderState D) → IsNow r.file.disk → Reads model r r
  none_read r now =
      let only = nothing_read model r.file.disk now in
      record {
        only = only;
        same = refl;
        step = λ first w there h. (
          (
            tt,
            weakened model r.file.disk r.file.disk (IsImage (model.state r.file.disk)) (IsAsBefore Shows (model.state r.file.disk)) (only.any_moment h)
                (as_before r.file.disk r.file.disk only h),
            h,
          ),
          there,
        );
        later = omega arith;
      }

  both_read : (a b c : RecorderState D) → Reads model a b → Reads model b c
      → Reads model a c
  both_read a b c first second =
      let only = reads_then model a.file.disk b.file.disk c.file.disk first.only second.only in
      record {
        only = only;
        same = second.same ∙ ap (over_disk c.file.disk) first.same;
        step = λ world w there h.
            let one = first.step world w there h in
            let two = second.step world w one.1 (first.only.honest.0 h) in (
              (
                tt,
                weakened model a.file.disk c.file.disk (IsImage (model.state a.file.disk)) (IsAsBefore Shows (model.state a.file.disk)) (only.any_moment h)
                    (as_before a.file.disk c.file.disk only h),
                only.honest.0 h,
              ),
              two.1,
            );
        later = omega (arith, first.later, second.later);
      }

  abbrev FileRead : Option (RecorderState D) → Option (RecorderState D) → Type 0
  FileRead old new = IfFile (Reads model) old new

  abbrev FileFails : Option (RecorderState D) → Option (RecorderState D) → Type 0
  FileFails old new = IfFile (Fails model) old new

  pub unread : (file : Option (RecorderState D)) → ((disk : D) → IsNow disk) → FileRead file file
  unread None now = refl
  unread (Some r) now = none_read r (now r.file.disk)

  pub read_on : (a b c : Option (RecorderState D)) → FileRead a b → FileRead b c → FileRead a c
  read_on None b c p q = subst (λ (o : Option (RecorderState D)). FileRead o c) p q
  read_on (Some x) None c p q = absurd p
  read_on (Some x) (Some y) None p q = absurd q
  read_on (Some x) (Some y) (Some z) p q = both_read x y z p q

  pub failed_on : (a b c : Option (RecorderState D)) → FileRead a b → FileFails b c → FileFails a c
  failed_on None b c p q = subst (λ (o : Option (RecorderState D)). FileFails o c) p q
  failed_on (Some x) None c p q = absurd p
  failed_on (Some x) (Some y) None p q = absurd q
  failed_on (Some x) (Some y) (Some z) p q = ⊎_elim (λ low. inl (omega (arith, low, p.later))) inr q

  -- between calls that leave the file as it is
  pub read_inside : (a b c d : Option (RecorderState D)) → b ≡ a → FileRead b c → d ≡ c → FileRead a d
  read_inside a b c d e p f = subst (λ (o : Option (RecorderState D)). FileRead a o) (sym f) (subst (λ (o : Option (RecorderState D)). FileRead o c) e p)

  pub failed_inside : (a b c d : Option (RecorderState D)) → b ≡ a → FileFails b c → d ≡ c → FileFails a d
  failed_inside a b c d e p f = subst (λ (o : Option (RecorderState D)). FileFails a o) (sym f) (subst (λ (o : Option (RecorderState D)). FileFails o c) e p)
