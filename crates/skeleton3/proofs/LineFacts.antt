-- The lines of a text, one after the other, and what is read of lines that were written.
use Rattle.std.proofs.Common.{◌≡◌, ℕ, suc, ◌+◌, ◌≤◌, List, [], length, take, drop, get_or, Bool, true, false, cond, Some, None, refl, sym, ap, ◌∙◌, arith}
use Rattle.std.proofs.Math.Seq.{split_at}
use Rattle.std.proofs.lemmas.List.Quantifiers.{position-Some}
use Rattle.std.proofs.lemmas.List.Sums.{fails_before_first}
use Rattle.std.proofs.lemmas.Bool.{ltb-false}
use Rattle.std.proofs.lemmas.Grind.{common_steps}
use Rattle.std.proofs.lemmas.List.Splits.{slice_split_none, slice_split_at}
use Rattle.std.specs.List.{position, position_or_len, All}
use Rattle.std.specs.Prelude.{nat_lt}
use Rattle.std.specs.Str.Lines.{strip_carriage_return}
use Rattle.skeleton3.specs.Fields.{kept_line, lines_of}
use Rattle.skeleton3.proofs.FieldFacts.{is_feed, lines_of_pieces}

no_feed_before : (text : List ℕ) (at : ℕ) → position is_feed text ≡ Some at → All (λ b. is_feed b ≡ false) (take at text)
no_feed_before text at found k d l =
    let is = position-Some is_feed text at d found in
    let same : get_or (take at text) k d ≡ get_or text k d = grind (arith, common_steps) in
    ap is_feed same ∙ is.2 k (grind (arith, common_steps))

past_the_end : (n size : ℕ) (b : Bool) → nat_lt n size ≡ b → cond b (Some n) None ≡ None → size ≤ n
past_the_end n size true is none = absurd (cc none)
past_the_end n size false is none = ltb-false n size is

no_feed : (text : List ℕ) → position is_feed text ≡ None → All (λ b. is_feed b ≡ false) text
no_feed text none k d l =
    let end : length text ≤ position_or_len is_feed text = past_the_end _ _ _ refl none in
    fails_before_first is_feed text k d (omega (arith, end, l))

-- a line that ends with LF stands in front of the lines after it
pub line_in_front : (text : List ℕ) (at : ℕ) → position is_feed text ≡ Some at
    → lines_of text ≡ kept_line (strip_carriage_return (take at text)) (lines_of (drop (at + 1) text))
line_in_front text at found =
    let is = position-Some is_feed text at 0 found in
    let next : at + 1 ≡ suc at = omega arith in
    ap lines_of (split_at text at 0 is.0)
    ∙ ap lines_of_pieces (slice_split_at is_feed (take at text) (get_or text at 0) (drop (suc at) text) (no_feed_before text at found) is.1)
    ∙ ap (λ n. kept_line (strip_carriage_return (take at text)) (lines_of (drop n text))) (sym next)

-- a text without LF is one line
pub last_line : (text : List ℕ) → position is_feed text ≡ None → lines_of text ≡ kept_line (strip_carriage_return text) []
last_line text none = ap lines_of_pieces (slice_split_none is_feed text (no_feed text none))
