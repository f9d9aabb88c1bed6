-- Where a file stands, at one time and at a later one.
use Rattle.std.proofs.Common.{◌≡◌, ℕ, ◌+◌, ◌<◌, ◌≤◌, Bool, true, false, cond, List, [], ◌∷◌, map, refl, sym, ◌∙◌, ap, subst, arith, inl, inr, None, Option, Some}
use Rattle.std.specs.Prelude.{nat_eq, nat_le, nat_lt, ◌||◌}
use Rattle.std.specs.List.{list_any}
use Rattle.std.proofs.lemmas.Bool.{cases_Bool, cond-true, cond-false, cond_both, eq-eqb, le-leb, leb-true, ltb-false, ltb-true, or_left, or_right}
use Rattle.archive_times.specs.declared.line.Line.{Line}
use Rattle.archive_times.specs.Asked.{RiseFrom, line_at, offset_at, offset_of, place_of}
use Rattle.archive_times.specs.Times.{AreTimes, last_of}
use Rattle.archive_cut.specs.declared.placing.Recorded.{Recorded}
use Rattle.archive_cut.specs.declared.placing.Stand.{Stand}
use Rattle.archive_cut.specs.Placing.{at_begin, at_end, at_line, end_of, stood_at}

-- what crates below say of the place of a time
pub record LinesBelow : Type 0 where
  pub found : (begin time : ℕ) (lines : List Line) → offset_at begin lines time ≡ place_of begin (line_at None lines time)
  pub known : (begin time : ℕ) (lines : List Line) → list_any (nat_eq (offset_at begin lines time)) (begin ∷ map offset_of lines) ≡ true
  pub rises : (begin earlier later : ℕ) (lines : List Line) → RiseFrom begin lines → earlier ≤ later → offset_at begin lines earlier ≤ offset_at begin lines later
  pub read : (committed : ℕ) (lines : List Line) → AreTimes committed None lines → RiseFrom 0 lines

offset_is : (line : Option Line) → (at_line line).offset ≡ place_of 0 line
offset_is None = refl
offset_is (Some line) = refl

by_line : LinesBelow → (lines : List Line) (time : ℕ) → (at_line (line_at None lines time)).offset ≡ offset_at 0 lines time
by_line below lines time = offset_is (line_at None lines time) ∙ sym (below.found 0 time lines)

inside : (committed begin time : ℕ) (last : Option Line) (lines : List Line) → AreTimes committed last lines → begin ≤ committed → offset_at begin lines time ≤ committed
inside committed begin time last [] are le = le
inside committed begin time last (line ∷ lines) are le =
    cond_both (nat_le line.time time) (offset_at line.offset lines time) begin (λ n. n ≤ committed)
    (λ _. inside committed line.offset time (Some line) lines are.1 are.0.1.0) (λ _. le)

-- ---- one time
abbrev rest_of : Recorded → List Line → ℕ → Stand
rest_of file lines time = cond (nat_le (end_of file (last_of None lines)) time) (at_end file) (at_line (line_at None lines time))

ends_so : (file : Recorded) (lines : List Line) (time : ℕ) → file.later + 1000 ≤ time → stood_at file lines time ≡ at_end file
ends_so file lines time h =
    cond-true (nat_le (file.later + 1000) time) (at_end file) (cond (nat_lt time file.begin) at_begin (rest_of file lines time)) (le-leb (file.later + 1000) time h)

pub stands_later : LinesBelow → (file : Recorded) (lines : List Line) (earlier later : ℕ) → AreTimes file.committed None lines → earlier ≤ later →
    (stood_at file lines earlier).offset ≤ (stood_at file lines later).offset
stands_later below file lines earlier later are le =
    let goal : Stand → Type 0 = λ s. s.offset ≤ (stood_at file lines later).offset in
    let last : ℕ = end_of file (last_of None lines) in
    let all : stood_at file lines later ≡ at_end file → file.committed ≤ (stood_at file lines later).offset =
    λ e. (let n : (stood_at file lines later).offset ≡ file.committed = ap (λ (s : Stand). s.offset) e in omega (arith, n)) in
    cond_both (nat_le (file.later + 1000) earlier) (at_end file) (cond (nat_lt earlier file.begin) at_begin (rest_of file lines earlier)) goal
    (λ over. all (ends_so file lines later (let h : file.later + 1000 ≤ earlier = leb-true (file.later + 1000) earlier over in omega (arith, h, le))))
    (λ _. cond_both (nat_lt earlier file.begin) at_begin (rest_of file lines earlier) goal
    (λ _. omega arith)
    (λ begun. cond_both (nat_le last earlier) (at_end file) (at_line (line_at None lines earlier)) goal
    (λ ended. all (behind begun (let h : last ≤ earlier = leb-true last earlier ended in omega (arith, h, le))))
    (λ _. subst (λ n. n ≤ (stood_at file lines later).offset) (sym (by_line below lines earlier)) (among begun))))
  where
    after_begin : nat_lt earlier file.begin ≡ false → nat_lt later file.begin ≡ false
    after_begin begun =
        elim (cases_Bool (nat_lt later file.begin)) [
          | inr e ↦ e
          | inl e ↦
              (let h : later < file.begin = ltb-true later file.begin e in
              let g : file.begin ≤ earlier = ltb-false earlier file.begin begun in
              absurd (omega (arith, h, g, le)))
        ]

    behind : nat_lt earlier file.begin ≡ false → end_of file (last_of None lines) ≤ later → stood_at file lines later ≡ at_end file
    behind begun ended =
        let ends : Bool = nat_le (end_of file (last_of None lines)) later in
        let third : rest_of file lines later ≡ at_end file =
        cond-true ends (at_end file) (at_line (line_at None lines later)) (le-leb (end_of file (last_of None lines)) later ended) in
        let second : cond (nat_lt later file.begin) at_begin (rest_of file lines later) ≡ at_end file =
        cond-false (nat_lt later file.begin) at_begin (rest_of file lines later) (after_begin begun) ∙ third in
        cond_both (nat_le (file.later + 1000) later) (at_end file) (cond (nat_lt later file.begin) at_begin (rest_of file lines later)) (λ s. s ≡ at_end file)
        (λ _. refl) (λ _. second)

    among : nat_lt earlier file.begin ≡ false → offset_at 0 lines earlier ≤ (stood_at file lines later).offset
    among begun =
        let here : ℕ = offset_at 0 lines earlier in
        let fits : here ≤ file.committed = inside file.committed 0 earlier None lines are (omega arith) in
        cond_both (nat_le (file.later + 1000) later) (at_end file) (cond (nat_lt later file.begin) at_begin (rest_of file lines later)) (λ s. here ≤ s.offset)
        (λ _. fits)
        (λ _. subst (λ s. here ≤ s.offset) (sym (cond-false (nat_lt later file.begin) at_begin (rest_of file lines later) (after_begin begun)))
        (cond_both (nat_le (end_of file (last_of None lines)) later) (at_end file) (at_line (line_at None lines later)) (λ s. here ≤ s.offset)
        (λ _. fits)
        (λ _. subst (λ n. here ≤ n) (sym (by_line below lines later)) (below.rises 0 earlier later lines (below.read file.committed lines are) le))))

pub stands_known : LinesBelow → (file : Recorded) (lines : List Line) (time : ℕ) →
    list_any (nat_eq (stood_at file lines time).offset) (0 ∷ file.committed ∷ map offset_of lines) ≡ true
stands_known below file lines time =
    let goal : Stand → Type 0 = λ s. list_any (nat_eq s.offset) (0 ∷ file.committed ∷ map offset_of lines) ≡ true in
    let rest : ℕ → Bool = λ n. list_any (nat_eq n) (map offset_of lines) in
    let none : goal at_begin = refl in
    let all : goal (at_end file) =
    or_right (nat_eq file.committed 0) (nat_eq file.committed file.committed || rest file.committed)
    (or_left (nat_eq file.committed file.committed) (rest file.committed) (eq-eqb file.committed file.committed refl)) in
    cond_both (nat_le (file.later + 1000) time) (at_end file) (cond (nat_lt time file.begin) at_begin (rest_of file lines time)) goal
    (λ _. all)
    (λ _. cond_both (nat_lt time file.begin) at_begin (rest_of file lines time) goal
    (λ _. none)
    (λ _. cond_both (nat_le (end_of file (last_of None lines)) time) (at_end file) (at_line (line_at None lines time)) goal
    (λ _. all)
    (λ _. subst (λ n. list_any (nat_eq n) (0 ∷ file.committed ∷ map offset_of lines) ≡ true) (sym (by_line below lines time)) (among (offset_at 0 lines time) (below.known 0 time lines)))))
  where
    among : (n : ℕ) → list_any (nat_eq n) (0 ∷ map offset_of lines) ≡ true → list_any (nat_eq n) (0 ∷ file.committed ∷ map offset_of lines) ≡ true
    among n h =
        elim (cases_Bool (nat_eq n 0)) [
          | inl e ↦ or_left (nat_eq n 0) (nat_eq n file.committed || list_any (nat_eq n) (map offset_of lines)) e
          | inr e ↦
              or_right (nat_eq n 0) (nat_eq n file.committed || list_any (nat_eq n) (map offset_of lines))
              (or_right (nat_eq n file.committed) (list_any (nat_eq n) (map offset_of lines)) (ap (λ b. b || list_any (nat_eq n) (map offset_of lines)) (sym e) ∙ h))
        ]
