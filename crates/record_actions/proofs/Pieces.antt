-- Bytes that are looked at or copied piece by piece.
use Rattle.std.specs.Prelude.{◌≡◌, ◌≤◌, ℕ, ◌+◌, List, ◌++◌, length, take, drop}
use Rattle.std.proofs.Common.{refl, sym, ◌∙◌, ap, arith}
use Rattle.std.proofs.Math.Seq.{take-add, take-length}
use Rattle.std.proofs.lemmas.List.{drop-drop, length-drop}
use Rattle.disk_model.specs.declared.disk.Disk.{Ghosts as DiskModel}
use Rattle.record_actions.specs.Tail.{OnlyRead}

-- a further piece is the same
pub same_more : (copy whole : List ℕ) (at done count : ℕ) → take done copy ≡ take done (drop at whole)
    → take count (drop done copy) ≡ take count (drop (at + done) whole) → take (done + count) copy ≡ take (done + count) (drop at whole)
same_more copy whole at done count front piece =
    take-add done count copy
    ∙ ap (λ l. l ++ take count (drop done copy)) front
    ∙ ap (λ l. take done (drop at whole) ++ l) (piece ∙ ap (take count) (sym (drop-drop done at whole)))
    ∙ sym (take-add done count (drop at whole))

-- a further piece is appended
pub appended_more : (copy new whole : List ℕ) (at done count : ℕ) → copy ≡ take done (drop at whole)
    → new ≡ copy ++ take count (drop (at + done) whole) → new ≡ take (done + count) (drop at whole)
appended_more copy new whole at done count front piece =
    piece
    ∙ ap (λ l. l ++ take count (drop (at + done) whole)) front
    ∙ ap (λ l. take done (drop at whole) ++ take count l) (sym (drop-drop done at whole))
    ∙ sym (take-add done count (drop at whole))

-- all of it
pub all_taken : (whole : List ℕ) (at bytes done : ℕ) → at + bytes ≡ length whole → bytes ≤ done → done ≤ bytes → take done (drop at whole) ≡ drop at whole
all_taken whole at bytes done long least most =
    ap (λ n. take n (drop at whole)) (omega (arith, long, least, most, length-drop at whole)) ∙ take-length (drop at whole)

module _ {D : Type 0} (model : DiskModel D) where
  pub read_then : (old mid new : D) → OnlyRead model old mid → OnlyRead model mid new → OnlyRead model old new
  read_then old mid new first second = record {
    honest = ((λ h. second.honest.0 (first.honest.0 h)), (λ h. first.honest.1 (second.honest.1 h)));
    same = λ h. second.same (first.honest.0 h) ∙ first.same h;
  }

  pub nothing_read : (disk : D) → OnlyRead model disk disk
  nothing_read disk = record { honest = ((λ h. h), (λ h. h)); same = λ h. refl }
