-- The entries of a run, from the first on.
use Rattle.std.proofs.Common.{◌≡◌, ℕ, suc, ◌-◌, ◌<◌, Bool, List, [], ◌∷◌, length, take, drop, get_or, refl, sym, ◌∙◌, ap, arith, inl, inr}
use Rattle.std.specs.Prelude.{nat_eq, take_while}
use Rattle.std.proofs.lemmas.Bool.{cond-true, cond-false, cases_eq, eq-eqb, ne_eqb}
use Rattle.std.proofs.lemmas.List.Sums.{take_while-cons}
use Rattle.ogg_command.specs.declared.command.Entry.{Entry}
use Rattle.command_pages.specs.Encoding.{runs_of, with_front, run_position}

abbrev pub same : ℕ → Entry → Bool
same serial entry = nat_eq entry.serial serial

-- how many of the entries, from the first on, have this serial
abbrev pub front : ℕ → List Entry → ℕ
front serial entries = length (take_while (same serial) entries)

pub front_same : (serial : ℕ) (entry : Entry) (entries : List Entry) → entry.serial ≡ serial → front serial (entry ∷ entries) ≡ suc (front serial entries)
front_same serial entry entries e =
    ap length (take_while-cons (same serial) entry entries ∙ cond-true (nat_eq entry.serial serial) (entry ∷ take_while (same serial) entries) [] (eq-eqb entry.serial serial e))

front_other : (serial : ℕ) (entry : Entry) (entries : List Entry) → (entry.serial ≡ serial → ⊥) → front serial (entry ∷ entries) ≡ 0
front_other serial entry entries e =
    ap length (take_while-cons (same serial) entry entries ∙ cond-false (nat_eq entry.serial serial) (entry ∷ take_while (same serial) entries) [] (ne_eqb entry.serial serial e))

-- the first run has the first `n` entries
abbrev Splits : ℕ → List Entry → Type 0
Splits n entries = runs_of entries ≡ take n entries ∷ runs_of (drop n entries)

splits_at : (n m : ℕ) (entries : List Entry) → n ≡ m → Splits m entries → Splits n entries
splits_at n m entries e h = rw e h

join_front : (entry next : Entry) (entries : List Entry) (n : ℕ) → entry.serial ≡ next.serial → Splits (suc n) (next ∷ entries) → Splits (suc (suc n)) (entry ∷ next ∷ entries)
join_front entry next entries n e h =
    ap (with_front entry) h
    ∙ cond-true (nat_eq entry.serial next.serial) _ _ (eq-eqb entry.serial next.serial e)

new_front : (entry next : Entry) (entries : List Entry) (n : ℕ) → (entry.serial ≡ next.serial → ⊥) → Splits (suc n) (next ∷ entries) → Splits 1 (entry ∷ next ∷ entries)
new_front entry next entries n e h =
    ap (with_front entry) h
    ∙ cond-false (nat_eq entry.serial next.serial) _ _ (ne_eqb entry.serial next.serial e)
    ∙ ap (λ l. (entry ∷ []) ∷ l) (sym h)

front_run_from : (entry : Entry) (entries : List Entry) → Splits (suc (front entry.serial entries)) (entry ∷ entries)
front_run_from entry [] = refl
front_run_from entry (next ∷ entries) =
    elim (cases_eq next.serial entry.serial) [
      | inl e ↦
          splits_at (suc (front entry.serial (next ∷ entries))) (suc (suc (front next.serial entries))) (entry ∷ next ∷ entries)
          (ap suc (front_same entry.serial next entries e ∙ ap (λ s. suc (front s entries)) (sym e)))
          (join_front entry next entries (front next.serial entries) (sym e) (front_run_from next entries))
      | inr e ↦
          splits_at (suc (front entry.serial (next ∷ entries))) 1 (entry ∷ next ∷ entries)
          (ap suc (front_other entry.serial next entries e))
          (new_front entry next entries (front next.serial entries) (λ s. e (sym s)) (front_run_from next entries))
    ]

front_run : (entry : Entry) (entries : List Entry) → Splits (front entry.serial (entry ∷ entries)) (entry ∷ entries)
front_run entry entries =
    splits_at (front entry.serial (entry ∷ entries)) (suc (front entry.serial entries)) (entry ∷ entries) (front_same entry.serial entry entries refl) (front_run_from entry entries)

pub front_some : (entry : Entry) (entries : List Entry) → 0 < front entry.serial (entry ∷ entries)
front_some entry entries = omega (arith, front_same entry.serial entry entries refl)

-- the same for a first entry that was read from the list
pub first_run : (entries : List Entry) (first : Entry) (n : ℕ) → 0 < length entries → first ≡ get_or entries 0 first → n ≡ front first.serial entries → Splits n entries
first_run [] first n h is e = absurd (omega arith)
first_run (entry ∷ entries) first n h is e = splits_at n (front entry.serial (entry ∷ entries)) (entry ∷ entries) (e ∙ ap (λ (f : Entry). front f.serial (entry ∷ entries)) is) (front_run entry entries)

pub first_some : (entries : List Entry) (first : Entry) (n : ℕ) → 0 < length entries → first ≡ get_or entries 0 first → n ≡ front first.serial entries → 0 < n
first_some [] first n h is e = absurd (omega arith)
first_some (entry ∷ entries) first n h is e =
    omega (arith, e ∙ ap (λ (f : Entry). front f.serial (entry ∷ entries)) is, front_some entry entries)

-- the position of a run's last entry
pub last_read : (run : List Entry) (last : Entry) → 0 < length run → last ≡ get_or run (length run - 1) last → last.position ≡ run_position run
last_read [] last h is = absurd (omega arith)
last_read (entry ∷ []) last h is = ap (λ (e : Entry). e.position) is
last_read (entry ∷ next ∷ run) last h is =
    last_read (next ∷ run) last (omega arith) (is ∙ ap (λ n. get_or (entry ∷ next ∷ run) n last) (let e : length (entry ∷ next ∷ run) - 1 ≡ suc (length (next ∷ run) - 1) = omega arith in e))
