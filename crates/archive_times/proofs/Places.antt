-- The place of a time.
use Rattle.std.proofs.Common.{◌≡◌, ℕ, ◌<◌, ◌≤◌, true, false, Some, None, List, [], ◌∷◌, map, refl, ◌∙◌, ap, sym, arith, inl, inr}
use Rattle.std.specs.Prelude.{nat_eq, nat_le}
use Rattle.std.specs.List.{AllByRecursion, list_any}
use Rattle.std.proofs.lemmas.Bool.{cases_Bool, cond-true, cond-false, cond_both, eq-eqb, le-leb, leb-false, leb-true, or_left, or_right}
use Rattle.archive_times.specs.declared.line.Line.{Line}
use Rattle.archive_times.specs.Asked.{IsPlaceAt, RiseAfter, RiseFrom, line_at, offset_at, offset_of, place_of}
use Rattle.archive_times.specs.Times.{AreTimes}

-- ---- which line it is
all_later : (last : Line) (lines : List Line) (time : ℕ) → RiseAfter last lines → time < last.time → AllByRecursion (λ (line : Line). time < line.time) lines
all_later last [] time rise h = tt
all_later last (line ∷ lines) time rise h =
    let here : last.time ≤ line.time = rise.1 in
    let now : time < line.time = omega (arith, here, h) in
    (now, all_later line lines time rise.2 now)

rise_on : (line : Line) (lines : List Line) → RiseAfter line lines → RiseFrom line.offset lines
rise_on line [] rise = tt
rise_on line (next ∷ lines) rise = (let h : line.offset < next.offset = rise.0 in omega (arith, h), rise.2)

pub is_place : (begin time : ℕ) (lines : List Line) → RiseFrom begin lines → IsPlaceAt begin lines time (offset_at begin lines time)
is_place begin time [] rise = record { earlier = []; later = []; split = refl; are_earlier = tt; are_later = tt; place_is = refl }
is_place begin time (line ∷ lines) rise =
    let rest : IsPlaceAt line.offset lines time (offset_at line.offset lines time) = is_place line.offset time lines (rise_on line lines rise.1) in
    elim (cases_Bool (nat_le line.time time)) [
      | inl before ↦ record {
        earlier = line ∷ rest.earlier;
        later = rest.later;
        split = ap (λ l. line ∷ l) rest.split;
        are_earlier = (leb-true line.time time before, rest.are_earlier);
        are_later = rest.are_later;
        place_is = cond-true (nat_le line.time time) (offset_at line.offset lines time) begin before ∙ rest.place_is;
      }
      | inr after ↦
          (let late : time < line.time = leb-false line.time time after in
          record {
            earlier = [];
            later = line ∷ lines;
            split = refl;
            are_earlier = tt;
            are_later = (late, all_later line lines time rise.1 late);
            place_is = cond-false (nat_le line.time time) (offset_at line.offset lines time) begin after;
          })
    ]

-- ---- it is one of them
pub is_known : (begin time : ℕ) (lines : List Line) → list_any (nat_eq (offset_at begin lines time)) (begin ∷ map offset_of lines) ≡ true
is_known begin time [] = or_left (nat_eq begin begin) false (eq-eqb begin begin refl)
is_known begin time (line ∷ lines) =
    cond_both (nat_le line.time time) (offset_at line.offset lines time) begin (λ n. list_any (nat_eq n) (begin ∷ map offset_of (line ∷ lines)) ≡ true)
    (λ _. or_right (nat_eq (offset_at line.offset lines time) begin) (list_any (nat_eq (offset_at line.offset lines time)) (map offset_of (line ∷ lines))) (is_known line.offset time lines))
    (λ _. or_left (nat_eq begin begin) (list_any (nat_eq begin) (map offset_of (line ∷ lines))) (eq-eqb begin begin refl))

-- ---- it never goes back
at_least : (begin time : ℕ) (lines : List Line) → RiseFrom begin lines → begin ≤ offset_at begin lines time
at_least begin time [] rise = omega arith
at_least begin time (line ∷ lines) rise =
    let here : begin ≤ line.offset = rise.0 in
    let rest : line.offset ≤ offset_at line.offset lines time = at_least line.offset time lines (rise_on line lines rise.1) in
    cond_both (nat_le line.time time) (offset_at line.offset lines time) begin (λ n. begin ≤ n) (λ _. omega (arith, here, rest)) (λ _. omega arith)

pub rises : (begin earlier later : ℕ) (lines : List Line) → RiseFrom begin lines → earlier ≤ later →
    offset_at begin lines earlier ≤ offset_at begin lines later
rises begin earlier later [] rise h = omega arith
rises begin earlier later (line ∷ lines) rise h =
    let here : begin ≤ line.offset = rise.0 in
    let on : RiseFrom line.offset lines = rise_on line lines rise.1 in
    elim (cases_Bool (nat_le line.time earlier)) [
      | inl before ↦
          (let first : offset_at begin (line ∷ lines) earlier ≡ offset_at line.offset lines earlier =
          cond-true (nat_le line.time earlier) (offset_at line.offset lines earlier) begin before in
          let in_time : line.time ≤ earlier = leb-true line.time earlier before in
          let second : offset_at begin (line ∷ lines) later ≡ offset_at line.offset lines later =
          cond-true (nat_le line.time later) (offset_at line.offset lines later) begin (le-leb line.time later (omega (arith, in_time, h))) in
          let rest : offset_at line.offset lines earlier ≤ offset_at line.offset lines later = rises line.offset earlier later lines on h in
          omega (arith, first, second, rest))
      | inr after ↦
          (let first : offset_at begin (line ∷ lines) earlier ≡ begin =
          cond-false (nat_le line.time earlier) (offset_at line.offset lines earlier) begin after in
          let second : begin ≤ offset_at begin (line ∷ lines) later = at_least begin later (line ∷ lines) rise in
          omega (arith, first, second))
    ]

-- ---- it is the place of the line that is found
after_line : (line : Line) (begin time : ℕ) (lines : List Line) → offset_at line.offset lines time ≡ place_of begin (line_at (Some line) lines time)
after_line line begin time [] = refl
after_line line begin time (next ∷ lines) =
    elim (cases_Bool (nat_le next.time time)) [
      | inl before ↦
          cond-true (nat_le next.time time) (offset_at next.offset lines time) line.offset before ∙ after_line next begin time lines
          ∙ ap (place_of begin) (sym (cond-true (nat_le next.time time) (line_at (Some next) lines time) (Some line) before))
      | inr after ↦
          cond-false (nat_le next.time time) (offset_at next.offset lines time) line.offset after
          ∙ ap (place_of begin) (sym (cond-false (nat_le next.time time) (line_at (Some next) lines time) (Some line) after))
    ]

pub is_found : (begin time : ℕ) (lines : List Line) → offset_at begin lines time ≡ place_of begin (line_at None lines time)
is_found begin time [] = refl
is_found begin time (line ∷ lines) =
    elim (cases_Bool (nat_le line.time time)) [
      | inl before ↦
          cond-true (nat_le line.time time) (offset_at line.offset lines time) begin before ∙ after_line line begin time lines
          ∙ ap (place_of begin) (sym (cond-true (nat_le line.time time) (line_at (Some line) lines time) None before))
      | inr after ↦
          cond-false (nat_le line.time time) (offset_at line.offset lines time) begin after
          ∙ ap (place_of begin) (sym (cond-false (nat_le line.time time) (line_at (Some line) lines time) None after))
    ]

-- ---- lines that are read rise
rise_after : (committed : ℕ) (last : Line) (lines : List Line) → AreTimes committed (Some last) lines → RiseAfter last lines
rise_after committed last [] are = tt
rise_after committed last (line ∷ lines) are = (are.0.0.0, are.0.0.1, rise_after committed line lines are.1)

pub lines_rise : (committed : ℕ) (lines : List Line) → AreTimes committed None lines → RiseFrom 0 lines
lines_rise committed [] are = tt
lines_rise committed (line ∷ lines) are = (omega arith, rise_after committed line lines are.1)
