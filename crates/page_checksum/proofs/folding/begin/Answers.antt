use Rattle.std.proofs.Common.{◌≡◌, ◌+◌, ◌<◌, ℕ, List, length, take, slice_index, arith, ap, ◌∙◌, sym}
use Rattle.std.proofs.lemmas.List.{length-take-le, get_or_append_left, get_or-append-add, get_or-take}
use borrow.Rule.Slice.PartMut.{put_mid}
use Rattle.page_checksum.proofs.folding.begin.Goals as goal

long : (xs : List ℕ) → length xs ≡ 4352 → length (take 252 xs) ≡ 252
long xs h = length-take-le 252 xs (omega arith)

below : (xs ys : List ℕ) (i : ℕ) → length xs ≡ 4352 → i < 252 → slice_index (put_mid 252 4 xs ys) i ≡ slice_index xs i
below xs ys i h l = get_or_append_left (take 252 xs) _ 0 i (omega (arith, long xs h)) ∙ get_or-take 252 xs i 0 l

within : (xs ys : List ℕ) (i : ℕ) → length xs ≡ 4352 → length ys ≡ 4 → i < 4 → slice_index (put_mid 252 4 xs ys) (252 + i) ≡ slice_index ys i
within xs ys i h four l =
    ap (λ n. slice_index (put_mid 252 4 xs ys) (n + i)) (sym (long xs h))
    ∙ get_or-append-add (take 252 xs) _ i 0
    ∙ get_or_append_left ys _ 0 i (omega arith)

pub returns-clause-before : goal.returns-clause-before
returns-clause-before c = λ i h. below c.args.folded.now c.copy_from_slice.new.self i c.told-folded h

pub returns-clause-word : goal.returns-clause-word
returns-clause-word c = λ i h.
    let is = c.copy_from_slice.ensures.after ∙ c.to_be_bytes.ensures in
    within c.args.folded.now c.copy_from_slice.new.self i c.told-folded (ap length is) h ∙ ap (λ l. slice_index l i) is
