-- The lines that a text has.
use Rattle.std.proofs.Common.{◌≡◌, ◌≢◌, ℕ, ◌^◌, ◌<◌, ◌≤◌, true, List, [], ◌∷◌, ◌++◌, Option, Some, None, refl, ap, sym, subst, ◌∙◌, append_assoc, append-nil, nat_le}
use Rattle.std.proofs.lemmas.Bool.{and_parts, cond-true, cond-false, le-leb, lt-leb}
use Rattle.std.specs.Fmt.{decimal}
use Rattle.archive_times.specs.Asked.{line_at}
use Rattle.archive_times.specs.Times.{AreLinesOf, AreTimes, IsNext, has_no_line_feed, join_text, last_of, line_text, times_text}
use Rattle.archive_times.specs.declared.line.Join.{Join}
use Rattle.archive_times.specs.declared.line.Line.{Line}
use Rattle.archive_times.proofs.Texts.{same_line}

-- ---- lines one after the other
pub times_append : (a b : List Line) → times_text (a ++ b) ≡ times_text a ++ times_text b
times_append [] b = refl
times_append (line ∷ a) b = ap (λ t. line_text line ++ t) (times_append a b) ∙ sym (append_assoc (line_text line) (times_text a) (times_text b))

pub last_append : (last : Option Line) (a b : List Line) → last_of last (a ++ b) ≡ last_of (last_of last a) b
last_append last [] b = refl
last_append last (line ∷ a) b = last_append (Some line) a b

pub are_joined : (committed : ℕ) (last : Option Line) (a b : List Line) → AreTimes committed last a → AreTimes committed (last_of last a) b → AreTimes committed last (a ++ b)
are_joined committed last [] b is_a is_b = is_b
are_joined committed last (line ∷ a) b is_a is_b = (is_a.0, are_joined committed (Some line) a b is_a.1 is_b)

pub pieces : (committed : ℕ) (last : Option Line) (a b : List Line) (text rest : List ℕ) → AreTimes committed last a
    → AreLinesOf committed (last_of last a) text b rest → AreLinesOf committed last (times_text a ++ text) (a ++ b) rest
pieces committed last a b text rest is_a of_b = record {
  text_is = ap (λ t. times_text a ++ t) of_b.text_is ∙ sym (append_assoc (times_text a) (times_text b) rest) ∙ ap (λ t. t ++ rest) (sym (times_append a b));
  lines_are = are_joined committed last a b is_a of_b.lines_are;
  ended = λ line after next. of_b.ended line after (subst (λ l. IsNext committed l line) (last_append last a b) next);
}

-- one more line after those that were read
pub one_more : (committed : ℕ) (last now : Option Line) (lines : List Line) (line : Line) (text rest after : List ℕ) → text ≡ times_text lines ++ rest
    → AreTimes committed last lines → now ≡ last_of last lines → IsNext committed now line → rest ≡ line_text line ++ after
    → (more : List Line) × (text ≡ times_text more ++ after) × AreTimes committed last more × (Some line ≡ last_of last more)
one_more committed last now lines line text rest after text_is are now_is next split =
    let more_text : times_text (lines ++ line ∷ []) ≡ times_text lines ++ line_text line =
    times_append lines (line ∷ []) ∙ ap (λ t. times_text lines ++ t) (append-nil (line_text line)) in (
      lines ++ line ∷ [],
      text_is ∙ ap (λ t. times_text lines ++ t) split ∙ sym (append_assoc (times_text lines) (line_text line) after) ∙ ap (λ t. t ++ after) (sym more_text),
      are_joined committed last lines (line ∷ []) are (subst (λ l. IsNext committed l line) now_is next, tt),
      sym (last_append last lines (line ∷ [])),
    )

-- ---- the first line of a text
-- if a line comes next, it is the first
pub next_of : (committed : ℕ) (last : Option Line) (text : List ℕ) (lines : List Line) (rest : List ℕ) (line : Line) (after : List ℕ) → committed < 2 ^ 64
    → AreLinesOf committed last text lines rest → IsNext committed last line → text ≡ line_text line ++ after
    → (left : List Line) × (lines ≡ line ∷ left) × AreLinesOf committed (Some line) after left rest
next_of committed last text [] rest line after small of next e = absurd (of.ended line after next (sym of.text_is ∙ e))
next_of committed last text (first ∷ left) rest line after small of next e =
    let split : text ≡ line_text first ++ (times_text left ++ rest) = of.text_is ∙ append_assoc (line_text first) (times_text left) rest in
    let (same, behind) = same_line committed first line (times_text left ++ rest) after text small of.lines_are.0.1 next.1 split e in (
      left,
      ap (λ l. l ∷ left) same,
      record {
        text_is = sym behind;
        lines_are = subst (λ l. AreTimes committed (Some l) left) same of.lines_are.1;
        ended = λ next_line behind_it is_next. of.ended next_line behind_it (subst (λ l. IsNext committed (last_of (Some l) left) next_line) (sym same) is_next);
      },
    )

-- if none does, there is none
pub none_of : (committed : ℕ) (last : Option Line) (text : List ℕ) (lines : List Line) (rest : List ℕ) → AreLinesOf committed last text lines rest
    → ((line : Line) (after : List ℕ) → IsNext committed last line → text ≢ line_text line ++ after) → (lines ≡ []) × (text ≡ rest)
none_of committed last text [] rest of none = (refl, of.text_is)
none_of committed last text (line ∷ left) rest of none =
    absurd (none line (times_text left ++ rest) of.lines_are.0 (of.text_is ∙ append_assoc (line_text line) (times_text left) rest))

-- a text has its lines once
pub same : (committed : ℕ) (last : Option Line) (text : List ℕ) (a b : List Line) (rest after : List ℕ) → committed < 2 ^ 64
    → AreLinesOf committed last text a rest → AreLinesOf committed last text b after → (a ≡ b) × (rest ≡ after)
same committed last text [] b rest after small of_a of_b =
    let (none, whole) = none_of committed last text b after of_b (λ line behind next e. of_a.ended line behind next (sym of_a.text_is ∙ e)) in
    (sym none, sym of_a.text_is ∙ whole)
same committed last text (line ∷ a) b rest after small of_a of_b =
    let left : List ℕ = times_text a ++ rest in
    let split : text ≡ line_text line ++ left = of_a.text_is ∙ append_assoc (line_text line) (times_text a) rest in
    let (others, b_is, of_others) = next_of committed last text b after line left small of_b of_a.lines_are.0 split in
    let of_left : AreLinesOf committed (Some line) left a rest = record { text_is = refl; lines_are = of_a.lines_are.1; ended = of_a.ended } in
    let (lines, rests) = same committed (Some line) left a others rest after small of_left of_others in
    (ap (λ l. line ∷ l) lines ∙ sym b_is, rests)

-- ---- a line has a line feed
feed_in : (a b : List ℕ) → has_no_line_feed (a ++ 10 ∷ b) ≡ true → ⊥
feed_in [] b e = cc
feed_in (byte ∷ a) b e = feed_in a b (and_parts _ _ e).1

feed_behind : (a b : List ℕ) → (has_no_line_feed b ≡ true → ⊥) → has_no_line_feed (a ++ b) ≡ true → ⊥
feed_behind [] b none e = none e
feed_behind (byte ∷ a) b none e = feed_behind a b none (and_parts _ _ e).1

join_feeds : (join : Option Join) (after : List ℕ) → has_no_line_feed (join_text join ++ after) ≡ true → ⊥
join_feeds None after e = feed_in (45 ∷ 32 ∷ 45 ∷ []) after e
join_feeds (Some join) after e =
    let shape : join_text (Some join) ++ after ≡ decimal join.begin ++ 32 ∷ (decimal join.begun ++ 10 ∷ after) =
    append_assoc (decimal join.begin) (32 ∷ (decimal join.begun ++ 10 ∷ [])) after
    ∙ ap (λ t. decimal join.begin ++ 32 ∷ t) (append_assoc (decimal join.begun) (10 ∷ []) after) in
    feed_behind (decimal join.begin) (32 ∷ (decimal join.begun ++ 10 ∷ after))
    (feed_in (decimal join.begun) after) (ap has_no_line_feed (sym shape) ∙ e)

line_feeds : (line : Line) (after : List ℕ) → has_no_line_feed (line_text line ++ after) ≡ true → ⊥
line_feeds line after e =
    let shape : line_text line ++ after ≡ decimal line.offset ++ 32 ∷ (decimal line.time ++ 32 ∷ (join_text line.join ++ after)) =
    append_assoc (decimal line.offset) (32 ∷ (decimal line.time ++ 32 ∷ join_text line.join)) after
    ∙ ap (λ t. decimal line.offset ++ 32 ∷ t) (append_assoc (decimal line.time) (32 ∷ join_text line.join) after) in
    feed_behind (decimal line.offset) (32 ∷ (decimal line.time ++ 32 ∷ (join_text line.join ++ after)))
    (feed_behind (decimal line.time) (32 ∷ (join_text line.join ++ after)) (join_feeds line.join after))
    (ap has_no_line_feed (sym shape) ∙ e)

-- what was written is read
pub written : (committed : ℕ) (last : Option Line) (lines : List Line) (torn : List ℕ) → AreTimes committed last lines
    → has_no_line_feed torn ≡ true → AreLinesOf committed last (times_text lines ++ torn) lines torn
written committed last lines torn are none = record {
  text_is = refl;
  lines_are = are;
  ended = λ line after next e. line_feeds line after (ap has_no_line_feed (sym e) ∙ none);
}

-- ---- the last line that isn't later than a time
-- lines that are all later than the time change nothing
pub all_later : (last : Option Line) (line : Line) (lines : List Line) (time : ℕ) → time < line.time → line_at last (line ∷ lines) time ≡ last
all_later last line lines time later = cond-false (nat_le line.time time) (line_at (Some line) lines time) last (lt-leb line.time time later)

-- a line that isn't later is passed
pub passed : (last : Option Line) (line : Line) (lines : List Line) (time : ℕ) → line.time ≤ time → line_at last (line ∷ lines) time ≡ line_at (Some line) lines time
passed last line lines time in_time = cond-true (nat_le line.time time) (line_at (Some line) lines time) last (le-leb line.time time in_time)
