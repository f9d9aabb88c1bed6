-- The lines in the end of a text.
use Rattle.std.proofs.Common.{◌≡◌, ℕ, ◌^◌, ◌<◌, ◌==◌, ◌⊎◌, inl, inr, true, List, [], ◌∷◌, ◌++◌, Option, Some, None, arith, refl, ap, sym, subst, ◌∙◌, append_assoc}
use Rattle.std.proofs.lemmas.Bool.{and_from, and_parts, cond-false, ne_eqb, not-true, not_from_false}
use Rattle.std.proofs.lemmas.Fmt.{decimal_is_IsNumeral}
use Rattle.std.proofs.lemmas.Str.Parse.{digit_from_value}
use Rattle.std.specs.Fmt.{decimal}
use Rattle.std.specs.Str.Parse.{AllDigits}
use Rattle.archive_times.specs.Times.{AreLinesOf, AreTimes, IsJoin, IsLine, behind_feed, has_no_line_feed, join_text, line_text, times_text}
use Rattle.archive_times.specs.declared.line.Join.{Join}
use Rattle.archive_times.specs.declared.line.Line.{Line}
use Rattle.archive_times.proofs.Readings.{written}

-- ---- bytes without a line feed
no_feed_join : (a b : List ℕ) → has_no_line_feed a ≡ true → has_no_line_feed b ≡ true → has_no_line_feed (a ++ b) ≡ true
no_feed_join [] b p q = q
no_feed_join (byte ∷ a) b p q = let h = and_parts _ _ p in and_from _ _ h.0 (no_feed_join a b h.1 q)

no_feed_behind : (a b : List ℕ) → has_no_line_feed (a ++ b) ≡ true → has_no_line_feed b ≡ true
no_feed_behind [] b p = p
no_feed_behind (byte ∷ a) b p = no_feed_behind a b (and_parts _ _ p).1

no_feed_digits : (digits : List ℕ) → AllDigits 10 digits → has_no_line_feed digits ≡ true
no_feed_digits [] all = refl
no_feed_digits (c ∷ digits) all =
    let range = digit_from_value c all.0 in
    and_from _ _ (not_from_false (c == 10) (ne_eqb c 10 (λ e. omega (arith, range.0, e)))) (no_feed_digits digits all.1)

no_feed_number : (n : ℕ) → n < 2 ^ 64 → has_no_line_feed (decimal n) ≡ true
no_feed_number n small = no_feed_digits (decimal n) (decimal_is_IsNumeral n small).0.1

none_behind : (text : List ℕ) → has_no_line_feed text ≡ true → behind_feed text ≡ []
none_behind [] p = refl
none_behind (byte ∷ text) p =
    let h = and_parts _ _ p in
    cond-false (byte == 10) text (behind_feed text) (not-true (byte == 10) h.0) ∙ none_behind text h.1

first_feed : (body rest : List ℕ) → has_no_line_feed body ≡ true → behind_feed (body ++ 10 ∷ rest) ≡ rest
first_feed [] rest p = refl
first_feed (byte ∷ body) rest p =
    let h = and_parts _ _ p in
    cond-false (byte == 10) (body ++ 10 ∷ rest) (behind_feed (body ++ 10 ∷ rest)) (not-true (byte == 10) h.0) ∙ first_feed body rest h.1

-- ---- a line is bytes without a line feed, and one
record HasBody (text : List ℕ) : Type 0 where
  body : List ℕ
  text_is : text ≡ body ++ 10 ∷ []
  none : has_no_line_feed body ≡ true

join_body : (offset : ℕ) (join : Option Join) → offset < 2 ^ 64 → IsJoin offset join → HasBody (join_text join)
join_body offset None small is = record { body = 45 ∷ 32 ∷ 45 ∷ []; text_is = refl; none = refl }
join_body offset (Some join) small is = record {
  body = decimal join.begin ++ 32 ∷ decimal join.begun;
  text_is = sym (append_assoc (decimal join.begin) (32 ∷ decimal join.begun) (10 ∷ []));
  none = no_feed_join (decimal join.begin) (32 ∷ decimal join.begun) (no_feed_number join.begin (omega (arith, is.0, is.1, small)))
      (no_feed_number join.begun (omega (arith, is.1, small)));
}

line_body : (committed : ℕ) (line : Line) → committed < 2 ^ 64 → IsLine committed line → HasBody (line_text line)
line_body committed line small is =
    let offset_small : line.offset < 2 ^ 64 = omega (arith, is.0, small) in
    let join = join_body line.offset line.join offset_small is.2 in
    record {
      body = decimal line.offset ++ 32 ∷ (decimal line.time ++ 32 ∷ join.body);
      text_is = ap (λ t. decimal line.offset ++ 32 ∷ (decimal line.time ++ 32 ∷ t)) join.text_is
          ∙ ap (λ t. decimal line.offset ++ 32 ∷ t) (sym (append_assoc (decimal line.time) (32 ∷ join.body) (10 ∷ [])))
          ∙ sym (append_assoc (decimal line.offset) (32 ∷ (decimal line.time ++ 32 ∷ join.body)) (10 ∷ []));
      none = no_feed_join (decimal line.offset) (32 ∷ (decimal line.time ++ 32 ∷ join.body)) (no_feed_number line.offset offset_small)
          (no_feed_join (decimal line.time) (32 ∷ join.body) (no_feed_number line.time is.1) join.none);
    }

-- ---- a cut behind a line, or within it
tails : (x y : ℕ) (a b : List ℕ) → x ∷ a ≡ y ∷ b → a ≡ b
tails x y a b e = cc

cut : (body whole before after : List ℕ) → has_no_line_feed body ≡ true → body ++ 10 ∷ whole ≡ before ++ after
    → ((left : List ℕ) × (whole ≡ left ++ after)) ⊎ (behind_feed after ≡ whole)
cut body whole [] after none e = inr (ap behind_feed (sym e) ∙ first_feed body whole none)
cut [] whole (b ∷ before) after none e = inl (before, tails 10 b whole (before ++ after) e)
cut (c ∷ body) whole (b ∷ before) after none e = cut body whole before after (and_parts _ _ none).1 (tails c b (body ++ 10 ∷ whole) (before ++ after) e)

from_any : (committed : ℕ) (last : Option Line) (lines : List Line) → AreTimes committed last lines → AreTimes committed None lines
from_any committed last [] are = tt
from_any committed last (line ∷ lines) are = ((tt, are.0.1), are.1)

pub ends : (committed : ℕ) (last : Option Line) (lines : List Line) (torn before after : List ℕ) → committed < 2 ^ 64 → AreTimes committed last lines
    → has_no_line_feed torn ≡ true → times_text lines ++ torn ≡ before ++ after
    → (front left : List Line) × (rest : List ℕ) × (lines ≡ front ++ left) × AreLinesOf committed None (behind_feed after) left rest
ends committed last [] torn before after small are none e =
    let nothing : behind_feed after ≡ [] = none_behind after (no_feed_behind before after (ap has_no_line_feed (sym e) ∙ none)) in
    ([], [], [], refl, subst (λ t. AreLinesOf committed None t [] []) (sym nothing) (written committed None [] [] tt refl))
ends committed last (line ∷ lines) torn before after small are none e =
    let whole : List ℕ = times_text lines ++ torn in
    let has = line_body committed line small are.0.1 in
    let shape : has.body ++ 10 ∷ whole ≡ before ++ after =
    sym (append_assoc has.body (10 ∷ []) whole) ∙ ap (λ t. t ++ whole) (sym has.text_is) ∙ sym (append_assoc (line_text line) (times_text lines) torn) ∙ e in
    elim (cut has.body whole before after has.none shape) [
      | inl (left, split) ↦
          (let (front, behind, rest, parts, of) = ends committed (Some line) lines torn left after small are.1 none split in
          (line ∷ front, behind, rest, ap (λ l. line ∷ l) parts, of))
      | inr same ↦ (
        line ∷ [],
        lines,
        torn,
        refl,
        subst (λ t. AreLinesOf committed None t lines torn) (sym same) (written committed None lines torn (from_any committed (Some line) lines are.1) none),
      )
    ]
