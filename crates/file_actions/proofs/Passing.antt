-- Lines of times, as places between pages pass.
use Rattle.std.proofs.Common.{◌≡◌, ◌≢◌, inl, inr, ℕ, ◌<◌, ◌≤◌, Bool, true, false, List, [], ◌∷◌, ◌++◌, Option, Some, None, length, drop, min, sym, ◌∙◌, ap, subst, refl, arith, append_assoc, append-nil, drop_at, length-append}
use Rattle.std.specs.Prelude.{nat_eq, nat_lt, ◌||◌}
use Rattle.std.specs.List.{list_any}
use Rattle.std.proofs.lemmas.Bool.{cases_Bool, cond-true, cond-false, eq-eqb, ne_eqb, lt-ltb, ltb-true, ltb-false, or_left, or_right}
use Rattle.archive_times.specs.Times.{AreLinesOf, AreTimes, IsNext, last_of, line_text, times_text}
use Rattle.archive_times.specs.declared.line.Line.{Line}
use Rattle.file_actions.specs.Checks.{IsReached, fault_after, is_excused, last_fault}
use Rattle.file_actions.specs.Times.{AreAt, AreBelow, AwaitsAfter, IsFirstFault, StandsBy, Told, Waits, first_of, first_text, is_at, most}
use Rattle.file_actions.specs.declared.checks.Places.{Places}
use Rattle.file_actions.specs.declared.checks.TimesFault.{TimesFault}
use Rattle.file_actions.specs.declared.checks.TimesFault.TheVariants.{Line as LineFault, Page}

-- ---- texts of lines
pub times_both : (a b : List Line) → times_text (a ++ b) ≡ times_text a ++ times_text b
times_both [] b = refl
times_both (line ∷ a) b = ap (λ (l : List ℕ). line_text line ++ l) (times_both a b) ∙ sym (append_assoc (line_text line) (times_text a) (times_text b))

last_both : (last : Option Line) (a b : List Line) → last_of last (a ++ b) ≡ last_of (last_of last a) b
last_both last [] b = refl
last_both last (line ∷ a) b = last_both (Some line) a b

times_after : (last : Option Line) (a b : List Line) → AreTimes most last (a ++ b) → AreTimes most (last_of last a) b
times_after last [] b are = are
times_after last (line ∷ a) b are = times_after (Some line) a b are.1

-- the lines that are left are those of what is left of the text
pub lines_left : (text : List ℕ) (front left : List Line) (rest : List ℕ) → AreLinesOf most None text (front ++ left) rest
    → AreLinesOf most (last_of None front) (drop (length (times_text front)) text) left rest
lines_left text front left rest of = record {
  text_is = ap (drop (length (times_text front))) (of.text_is ∙ ap (λ (l : List ℕ). l ++ rest) (times_both front left) ∙ append_assoc (times_text front) (times_text left) rest)
      ∙ drop_at (times_text front) (times_text left ++ rest) (length (times_text front)) refl;
  lines_are = times_after None front left of.lines_are;
  ended = λ line after is. of.ended line after (subst (λ (last : Option Line). IsNext most last line) (sym (last_both None front left)) is);
}

-- and so is their length
pub front_fits : (text : List ℕ) (front left : List Line) (rest : List ℕ) → AreLinesOf most None text (front ++ left) rest → length (times_text front) ≤ length text
front_fits text front left rest of =
    let whole : text ≡ times_text front ++ (times_text left ++ rest) =
    of.text_is ∙ ap (λ (l : List ℕ). l ++ rest) (times_both front left) ∙ append_assoc (times_text front) (times_text left) rest in
    let size = ap length whole ∙ length-append (times_text front) (times_text left ++ rest) in
    omega (arith, size)

-- ---- places
or_rest : (a b : Bool) → a ≡ false → (a || b) ≡ b
or_rest true b e = cc
or_rest false b e = refl

or_none : (a b : Bool) → (a || b) ≡ false → (a ≡ false) × (b ≡ false)
or_none true b e = cc
or_none false b e = (refl, e)

any_more : (p : ℕ → Bool) (xs : List ℕ) (x : ℕ) → list_any p xs ≡ true → list_any p (xs ++ x ∷ []) ≡ true
any_more p [] x is = cc
any_more p (y ∷ xs) x is =
    elim (cases_Bool (p y)) [
      | inl here ↦ or_left (p y) (list_any p (xs ++ x ∷ [])) here
      | inr not_here ↦ or_right (p y) (list_any p (xs ++ x ∷ [])) (any_more p xs x (sym (or_rest (p y) (list_any p xs) not_here) ∙ is))
    ]

any_last : (p : ℕ → Bool) (xs : List ℕ) (x : ℕ) → p x ≡ true → list_any p (xs ++ x ∷ []) ≡ true
any_last p [] x is = or_left (p x) false is
any_last p (y ∷ xs) x is = or_right (p y) (list_any p (xs ++ x ∷ [])) (any_last p xs x is)

-- no place below is this one
none_below : (offset : ℕ) (places : List ℕ) → AreBelow offset places → list_any (nat_eq offset) places ≡ false
none_below offset [] below = refl
none_below offset (p ∷ places) below =
    let less : p < offset = below.0 in
    let other : offset ≢ p = λ same. omega (arith, same, less) in
    or_rest (nat_eq offset p) (list_any (nat_eq offset) places) (ne_eqb offset p other) ∙ none_below offset places below.1

-- nor is one that comes after a later one
none_more : (offset place : ℕ) (places : List ℕ) → list_any (nat_eq offset) places ≡ false → offset ≢ place → list_any (nat_eq offset) (places ++ place ∷ []) ≡ false
none_more offset place [] none other = or_rest (nat_eq offset place) false (ne_eqb offset place other)
none_more offset place (p ∷ places) none other =
    let (here, rest) = or_none (nat_eq offset p) (list_any (nat_eq offset) places) none in
    or_rest (nat_eq offset p) (list_any (nat_eq offset) (places ++ place ∷ [])) here ∙ none_more offset place places rest other

below_more : (place next : ℕ) (places : List ℕ) → AreBelow place places → place < next → AreBelow next (places ++ place ∷ [])
below_more place next [] below less = (less, tt)
below_more place next (p ∷ places) below less = (let first : p < place = below.0 in omega (arith, first, less), below_more place next places below.1 less)

-- a place above one that has passed is above the line's
above_one : (offset place : ℕ) (places : List ℕ) → list_any (nat_lt offset) places ≡ true → AreBelow place places → offset < place
above_one offset place [] is below = cc
above_one offset place (p ∷ places) is below =
    elim (cases_Bool (nat_lt offset p)) [
      | inl here ↦ (let less : p < place = below.0 in let above : offset < p = ltb-true offset p here in omega (arith, less, above))
      | inr not_here ↦ above_one offset place places (sym (or_rest (nat_lt offset p) (list_any (nat_lt offset) places) not_here) ∙ is) below.1
    ]

at_more : (place : ℕ) (places : List ℕ) (lines : List Line) → AreAt places lines → AreAt (places ++ place ∷ []) lines
at_more place places [] are = tt
at_more place places (line ∷ lines) are = (any_more (nat_eq line.offset) places place are.0, at_more place places lines are.1)

at_one_more : (places : List ℕ) (lines : List Line) (line : Line) → AreAt places lines → is_at places line ≡ true → AreAt places (lines ++ line ∷ [])
at_one_more places [] line are is = (is, tt)
at_one_more places (first ∷ lines) line are is = (are.0, at_one_more places lines line are.1 is)

-- ---- a place passes
told_on : (places : List ℕ) (lines : List Line) (at place : ℕ) → Told places lines at → AreBelow place places → Told (places ++ place ∷ []) lines at
told_on places lines at place told below =
    let m = told.misses in
    let above : m.line.offset < place = above_one m.line.offset place places told.later below in
    let other : m.line.offset ≢ place = λ same. omega (arith, same, above) in
    record {
      misses = record {
        front = m.front;
        line = m.line;
        after = m.after;
        lines_are = m.lines_are;
        are_at = at_more place places m.front m.are_at;
        missed = none_more m.line.offset place places m.missed other;
        at_is = m.at_is;
      };
      later = any_more (nat_lt m.line.offset) places place told.later;
    }

same_first : (left : List Line) (line : Line) → first_of left ≡ Some line → (more : List Line) × (left ≡ line ∷ more)
same_first [] line is = absurd (cc)
same_first (first ∷ left) line is = (left, (let it : first ≡ line = cc in ap (λ (l : Line). l ∷ left) it))

no_first : (left : List Line) → first_of left ≡ None → left ≡ []
no_first [] is = refl
no_first (first ∷ left) is = absurd (cc)

-- the next line has missed the place
pub now_told : (places : List ℕ) (lines : List Line) (p : Places) (line : Line) (place : ℕ) → Waits places lines p → p.next ≡ Some line → line.offset < place
    → Told (places ++ place ∷ []) lines p.at
now_told places lines p line place w next less =
    let (more, left_is) = same_first w.left line (sym w.next_is ∙ next) in
    let below : AreBelow line.offset places = subst (AwaitsAfter places) left_is w.awaits in
    let other : line.offset ≢ place = λ same. omega (arith, same, less) in
    record {
      misses = record {
        front = w.front;
        line = line;
        after = more;
        lines_are = w.lines_are ∙ ap (λ (l : List Line). w.front ++ l) left_is;
        are_at = at_more place places w.front w.are_at;
        missed = none_more line.offset place places (none_below line.offset places below) other;
        at_is = w.at_is;
      };
      later = any_last (nat_lt line.offset) places place (lt-ltb line.offset place less);
    }

-- it still waits
pub waits_on : (places : List ℕ) (lines : List Line) (p now : Places) (place : ℕ) → Waits places lines p
    → ((line : Line) → p.next ≡ Some line → place < line.offset) → AreBelow place places
    → now.next ≡ p.next → now.at ≡ p.at → now.end ≡ p.end → Waits (places ++ place ∷ []) lines now
waits_on places lines p now place w later below next at end = record {
  front = w.front;
  left = w.left;
  lines_are = w.lines_are;
  are_at = at_more place places w.front w.are_at;
  awaits = still w.left (λ line is. later line (w.next_is ∙ is));
  next_is = next ∙ w.next_is;
  at_is = at ∙ w.at_is;
  end_is = end ∙ w.end_is;
}
  where
    still : (left : List Line) → ((line : Line) → first_of left ≡ Some line → place < line.offset) → AwaitsAfter (places ++ place ∷ []) left
    still [] later = tt
    still (line ∷ left) later = below_more place line.offset places below (later line refl)

-- a place passes that isn't the next line's
pub unreached : (places : List ℕ) (lines : List Line) (p now : Places) (place : ℕ) → StandsBy places lines p p.fault → AreBelow place places
    → (IsReached p.next place → ⊥) → now.fault ≡ fault_after p.fault p.next p.at place → now.next ≡ p.next → now.at ≡ p.at → now.end ≡ p.end
    → StandsBy (places ++ place ∷ []) lines now now.fault
unreached places lines p now place stands below other fault next at end =
    subst (StandsBy (places ++ place ∷ []) lines now) (sym fault) (go p.fault p.next stands other refl)
  where
    go : (fault : Option TimesFault) (awaited : Option Line) → StandsBy places lines p fault → (IsReached awaited place → ⊥) → awaited ≡ p.next
        → StandsBy (places ++ place ∷ []) lines now (fault_after fault awaited p.at place)
    go (Some (Page told_at)) awaited told other is = told_on places lines told_at place told below
    go (Some (LineFault told_at)) awaited bad other is = bad
    go None None w other is = waits_on places lines p now place w (λ line some. absurd (let both = is ∙ some in cc)) below next at end
    go None (Some line) w other is =
        elim (cases_Bool (nat_lt line.offset place)) [
          | inl missed ↦
              subst (StandsBy (places ++ place ∷ []) lines now) (sym (cond-true (nat_lt line.offset place) (Some (Page p.at)) None missed))
              (now_told places lines p line place w (sym is) (ltb-true line.offset place missed))
          | inr later ↦
              subst (StandsBy (places ++ place ∷ []) lines now) (sym (cond-false (nat_lt line.offset place) (Some (Page p.at)) None later))
              (waits_on places lines p now place w (λ another some. above another (let both : Some another ≡ Some line = sym some ∙ sym is in cc) (ltb-false line.offset place later)) below next at end)
        ]
      where
        above : (another : Line) → another ≡ line → place ≤ line.offset → place < another.offset
        above another same le =
            let it : another.offset ≡ line.offset = ap (λ (l : Line). l.offset) same in
            let isn't' : line.offset ≢ place = other in
            omega (arith, it, le, isn't')

-- the next line's place passes
pub reached : (text : List ℕ) (places : List ℕ) (lines : List Line) (rest : List ℕ) (p now : Places) (place : ℕ) → AreLinesOf most None text lines rest
    → StandsBy places lines p p.fault → AreBelow place places → IsReached p.next place → now.fault ≡ fault_after p.fault p.next p.at place
    → ((front left : List Line) → AreLinesOf most None text (front ++ left) rest → p.next ≡ last_of None front → p.end ≡ length (times_text front)
    → (now.next ≡ first_of left) × (now.end ≡ length (times_text (front ++ first_text left))))
    → now.at ≡ p.end → StandsBy (places ++ place ∷ []) lines now now.fault
reached text places lines rest p now place of stands below it fault steps at =
    subst (StandsBy (places ++ place ∷ []) lines now) (sym fault) (go p.fault p.next stands it refl)
  where
    go : (fault : Option TimesFault) (awaited : Option Line) → StandsBy places lines p fault → IsReached awaited place → awaited ≡ p.next
        → StandsBy (places ++ place ∷ []) lines now (fault_after fault awaited p.at place)
    go (Some (Page told_at)) awaited told it is = told_on places lines told_at place told below
    go (Some (LineFault told_at)) awaited bad it is = bad
    go None None w it is = absurd it
    go None (Some line) w it is =
        let (more, left_is) = same_first w.left line (sym w.next_is ∙ sym is) in
        let front : List Line = w.front ++ line ∷ [] in
        let whole : lines ≡ front ++ more = w.lines_are ∙ ap (λ (l : List Line). w.front ++ l) left_is ∙ sym (append_assoc w.front (line ∷ []) more) in
        let of_both : AreLinesOf most None text (front ++ more) rest = subst (λ (l : List Line). AreLinesOf most None text l rest) whole of in
        let end_is : p.end ≡ length (times_text front) = w.end_is ∙ ap (λ (l : List Line). length (times_text (w.front ++ first_text l))) left_is in
        let stepped = steps front more of_both (sym is ∙ sym (last_both None w.front (line ∷ []))) end_is in
        let here : is_at (places ++ place ∷ []) line ≡ true = any_last (nat_eq line.offset) places place (eq-eqb line.offset place it) in
        let not_late : nat_lt line.offset place ≡ false = not_less line.offset place it in
        subst (StandsBy (places ++ place ∷ []) lines now) (sym (cond-false (nat_lt line.offset place) (Some (Page p.at)) None not_late))
        (record {
          front = front;
          left = more;
          lines_are = whole;
          are_at = at_one_more (places ++ place ∷ []) w.front line (at_more place places w.front w.are_at) here;
          awaits = next_waits more line it (times_after None front more of_both.lines_are);
          next_is = stepped.0;
          at_is = at ∙ end_is;
          end_is = stepped.1;
        })
      where
        not_less : (a b : ℕ) → a ≡ b → nat_lt a b ≡ false
        not_less a b same = elim (cases_Bool (nat_lt a b)) [ inl less ↦ absurd (let it = ltb-true a b less in omega (arith, it, same)) | inr no_less ↦ no_less ]

        next_waits : (left : List Line) (line : Line) → line.offset ≡ place → AreTimes most (last_of None (w.front ++ line ∷ [])) left → AwaitsAfter (places ++ place ∷ []) left
        next_waits [] line it are = tt
        next_waits (next ∷ left) line it are =
            let follows = subst (λ (last : Option Line). AreTimes most last (next ∷ left)) (last_both None w.front (line ∷ [])) are in
            let rises : line.offset < next.offset = follows.0.0.0 in
            below_more place next.offset places below (omega (arith, rises, it))

pub awaits_first : (lines : List Line) → AwaitsAfter [] lines
awaits_first [] = tt
awaits_first (line ∷ lines) = tt

-- after all places
pub first_fault : (is_written : Bool) (places : List ℕ) (lines : List Line) (rest rest_now : List ℕ) (p : Places) → AreLinesOf most None p.text.items lines rest
    → rest_now ≡ drop (min p.end (length p.text.items)) p.text.items → StandsBy places lines p p.fault
    → IsFirstFault is_written places lines rest (last_fault is_written p.fault p.next p.at rest_now)
first_fault is_written places lines rest rest_now p of here stands = go p.fault p.next stands refl
  where
    go : (fault : Option TimesFault) (awaited : Option Line) → StandsBy places lines p fault → awaited ≡ p.next
        → IsFirstFault is_written places lines rest (last_fault is_written fault awaited p.at rest_now)
    go (Some (Page at)) awaited told is = told.misses
    go (Some (LineFault at)) awaited bad is = absurd bad
    go None (Some line) w is =
        let (more, left_is) = same_first w.left line (sym w.next_is ∙ sym is) in
        let below : AreBelow line.offset places = subst (AwaitsAfter places) left_is w.awaits in
        record {
          front = w.front;
          line = line;
          after = more;
          lines_are = w.lines_are ∙ ap (λ (l : List Line). w.front ++ l) left_is;
          are_at = w.are_at;
          missed = none_below line.offset places below;
          at_is = w.at_is;
        }
    go None None w is =
        let none : w.left ≡ [] = no_first w.left (sym w.next_is ∙ sym is) in
        let all : lines ≡ w.front ++ [] = w.lines_are ∙ ap (λ (l : List Line). w.front ++ l) none in
        let front : lines ≡ w.front = all ∙ append-nil w.front in
        let of_all : AreLinesOf most None p.text.items (w.front ++ []) rest = subst (λ (l : List Line). AreLinesOf most None p.text.items l rest) all of in
        let end_is : p.end ≡ length (times_text w.front) =
        w.end_is ∙ ap (λ (l : List Line). length (times_text (w.front ++ first_text l))) none ∙ ap (λ (l : List Line). length (times_text l)) (append-nil w.front) in
        let fits = front_fits p.text.items w.front [] rest of_all in
        let cut : min p.end (length p.text.items) ≡ length (times_text w.front) = omega (arith, end_is, fits) in
        let what : rest_now ≡ rest = here ∙ ap (λ (k : ℕ). drop k p.text.items) cut ∙ (lines_left p.text.items w.front [] rest of_all).text_is in
        let are : AreAt places lines = subst (AreAt places) (sym front) w.are_at in
        let at : p.at ≡ length (times_text lines) = w.at_is ∙ ap (λ (l : List Line). length (times_text l)) (sym front) in
        subst (λ (l : List ℕ). IsFirstFault is_written places lines rest (last_fault is_written None None p.at l)) (sym what) (by_rest are at)
      where
        by_rest : AreAt places lines → p.at ≡ length (times_text lines) → IsFirstFault is_written places lines rest (last_fault is_written None None p.at rest)
        by_rest are at =
            elim (cases_Bool (is_excused is_written rest)) [
              | inl excused ↦
                  subst (IsFirstFault is_written places lines rest) (sym (cond-true (is_excused is_written rest) None (Some (LineFault p.at)) excused)) (are, excused)
              | inr no_excuse ↦
                  subst (IsFirstFault is_written places lines rest) (sym (cond-false (is_excused is_written rest) None (Some (LineFault p.at)) no_excuse)) (are, no_excuse, at)
            ]
