-- The pages of a run, one at a time.
use Rattle.std.proofs.Common.{◌≡◌, ℕ, zero, suc, ◌+◌, ◌-◌, ◌<◌, ◌≤◌, List, [], ◌∷◌, length, map, drop, refl, sym, ◌∙◌, ap, arith, add-zero, length-drop}
use Rattle.std.proofs.lemmas.List.{length-map}
use Rattle.ogg_page.specs.Page.{Page}
use Rattle.packetiser.specs.Run.{Timed, counted, run_lacing, page_of_run, pages_of_run, pages_for, flagged}
use Rattle.packetiser.specs.Place.{next_page, added, IsAt}
use Rattle.packetiser.proofs.Placing.{page_with}

pub drop_map : {A B : Type 0} (f : A → B) (n : ℕ) (xs : List A) → map f (drop n xs) ≡ drop n (map f xs)
drop_map f zero xs = refl
drop_map f (suc n) [] = refl
drop_map f (suc n) (x ∷ xs) = drop_map f n xs

pub drop_past : {A : Type 0} (n : ℕ) (xs : List A) → length xs ≤ n → drop n xs ≡ []
drop_past zero [] h = refl
drop_past zero (x ∷ xs) h = absurd (omega (arith, h))
drop_past (suc n) [] h = refl
drop_past (suc n) (x ∷ xs) h = drop_past n xs (omega (arith, h))

-- what is left after some items, by the number that is left
pub dropped_by : {A : Type 0} (n : ℕ) (xs rest : List A) → rest ≡ drop n xs → drop (length xs - length rest) xs ≡ rest
dropped_by zero xs rest e = ap (λ k. drop k xs) (let z : length xs - length rest ≡ 0 = omega (arith, ap length e) in z) ∙ sym e
dropped_by {A = A} (suc n) [] rest e = ap (λ k. drop {A = A} k []) (let z : 0 - length rest ≡ 0 = omega arith in z) ∙ sym e
dropped_by (suc n) (x ∷ xs) rest e =
    ap (λ k. drop k (x ∷ xs)) (let z : suc (length xs) - length rest ≡ suc (length xs - length rest) = omega (arith, ap length e, length-drop n xs) in z)
    ∙ dropped_by n xs rest e

length-counted : (first n : ℕ) → length (counted first n) ≡ n
length-counted first zero = refl
length-counted first (suc n) = ap suc (length-counted (first + 1) n)

length-flagged : (flags : ℕ) (pages : List Page) → length (flagged flags pages) ≡ length pages
length-flagged flags [] = refl
length-flagged flags (page ∷ pages) = refl

pub count_of_pages : (serial first flags : ℕ) (run : List Timed) →
    length (flagged flags (pages_of_run serial first run)) ≡ pages_for (length (run_lacing run))
unfolding pages_of_run
count_of_pages serial first flags run =
    let n : ℕ = pages_for (length (run_lacing run)) in
    length-flagged flags (map (page_of_run serial first run) (counted 0 n))
    ∙ length-map (counted 0 n) (page_of_run serial first run)
    ∙ length-counted 0 n

nth_counted : (f : ℕ → Page) (k first n : ℕ) → k < n → drop k (map f (counted first n)) ≡ f (first + k) ∷ drop (suc k) (map f (counted first n))
nth_counted f zero first zero h = absurd (omega (arith, h))
nth_counted f (suc k) first zero h = absurd (omega (arith, h))
nth_counted f zero first (suc n) h = ap (λ m. f m ∷ map f (counted (first + 1) n)) (sym (add-zero first))
nth_counted f (suc k) first (suc n) h =
    nth_counted f k (first + 1) n (omega (arith, h))
    ∙ ap (λ m. f m ∷ drop (suc k) (map f (counted (first + 1) n))) (let e : first + 1 + k ≡ first + suc k = omega arith in e)

-- a page with further flags
abbrev more_flags : ℕ → Page → Page
more_flags flags page = record page { flags = page.flags + flags }

no_more_flags : (page : Page) → more_flags 0 page ≡ page
no_more_flags page = ap (λ n. record page { flags = n }) (add-zero page.flags)

head_same : (p page : Page) (pages : List Page) → p ∷ pages ≡ page ∷ pages → p ≡ page
head_same p page pages e = cc

flagged_at : (flags k : ℕ) (pages : List Page) (page : Page) → drop k pages ≡ page ∷ drop (suc k) pages →
    drop k (flagged flags pages) ≡ more_flags (added flags k) page ∷ drop (suc k) (flagged flags pages)
flagged_at flags zero [] page e = absurd (omega (arith, ap length e))
flagged_at flags zero (p ∷ pages) page e = ap (λ q. more_flags flags q ∷ pages) (head_same p page pages e)
flagged_at flags (suc k) [] page e = absurd (omega (arith, ap length e))
flagged_at flags (suc k) (p ∷ pages) page e = e ∙ ap (λ q. q ∷ drop (suc k) pages) (sym (no_more_flags page))

-- the page at a place, and those after it
page_at_place : (serial first flags k : ℕ) (run : List Timed) → k < pages_for (length (run_lacing run)) →
    drop k (flagged flags (pages_of_run serial first run))
    ≡ more_flags (added flags k) (page_of_run serial first run k) ∷ drop (k + 1) (flagged flags (pages_of_run serial first run))
unfolding pages_of_run
page_at_place serial first flags k run lt =
    let pages : List Page = map (page_of_run serial first run) (counted 0 (pages_for (length (run_lacing run)))) in
    flagged_at flags k pages (page_of_run serial first run k) (
    nth_counted (page_of_run serial first run) k 0 (pages_for (length (run_lacing run))) lt
    ∙ ap (λ m. page_of_run serial first run m ∷ drop (suc k) pages) (let e : 0 + k ≡ k = omega arith in e)
    )
    ∙ ap (λ m. more_flags (added flags k) (page_of_run serial first run k) ∷ drop m (flagged flags pages)) (let e : suc k ≡ k + 1 = omega arith in e)

-- the same page, by what is left of the run there
pub next_at_place : (serial first flags k done : ℕ) (run left : List Timed) → IsAt run k done left → k < pages_for (length (run_lacing run)) →
    (sequence flags' : ℕ) (left' : List Timed) → sequence ≡ first + k → flags' ≡ added flags k → left' ≡ left →
    drop k (flagged flags (pages_of_run serial first run)) ≡ next_page serial sequence flags' done left' ∷ drop (k + 1) (flagged flags (pages_of_run serial first run))
next_at_place serial first flags k done run left at lt sequence flags' left' s f l =
    let later : List Page = drop (k + 1) (flagged flags (pages_of_run serial first run)) in
    page_at_place serial first flags k run lt
    ∙ ap (λ (p : Page). p ∷ later) (sym (
    ap (λ n. next_page serial n flags' done left') s
    ∙ ap (λ n. next_page serial (first + k) n done left') f
    ∙ ap (λ xs. next_page serial (first + k) (added flags k) done xs) l
    ∙ page_with serial first (added flags k) run k done left at))
