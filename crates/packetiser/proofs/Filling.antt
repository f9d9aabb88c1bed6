-- A page of a run, filled value by value.
use Rattle.std.proofs.Common.{◌≡◌, ℕ, zero, suc, ◌+◌, ◌-◌, ◌/◌, ◌%◌, ◌<◌, ◌≤◌, cond, List, [], ◌∷◌, ◌++◌, length, take, drop, sum, replicate, refl, sym, ◌∙◌, ap, subst, arith, append_assoc, length-drop, length-take}
use Rattle.std.specs.Prelude.{nat_lt, nat_eq}
use Rattle.std.proofs.lemmas.Bool.{lt-ltb, ne_eqb}
use Rattle.std.proofs.lemmas.List.{append-nil, drop-append-le, take_all, drop-drop}
use Rattle.std.proofs.lemmas.List.Sums.{sum_by-append, sum_by-cons}
use Rattle.ogg_page.specs.Lacing.{lacing_of, ends_open}
use Rattle.packetiser.specs.Run.{Timed, run_lacing, run_bytes, packets_ended, position_of}
use Rattle.packetiser.specs.Place.{values_left, bytes_left, IsWithin}
use Rattle.ogg_page.specs.StreamLaws.{ends_open-at}
use Rattle.packetiser.specs.Laws.Pieces.{sum_app}

-- what a page holds so far of a run, of which `run` was left before the page, and what is left now
pub record IsFilled (run : List Timed) (begun : ℕ) (lacing : List ℕ) (position : ℕ) (rest : List Timed) (done : ℕ) : Type 0 where
  pub values : values_left begun run ≡ lacing ++ values_left done rest
  pub bytes : bytes_left done rest ≡ drop (sum lacing) (bytes_left begun run)
  pub ended : rest ≡ drop (packets_ended lacing) run
  pub position_is : position ≡ position_of (packets_ended lacing) run
  pub within : IsWithin done rest
  pub open_is : 0 < length lacing → nat_lt 0 done ≡ ends_open lacing

-- ---- lacing values
pub small_lacing : (n : ℕ) → n < 255 → lacing_of n ≡ n ∷ []
unfolding lacing_of
small_lacing n h =
    let none : n / 255 ≡ 0 = omega arith in
    let all : n % 255 ≡ n = omega arith in
    ap (λ k. replicate k 255 ++ n % 255 ∷ []) none ∙ ap (λ r. r ∷ []) all

more_lacing : (n m : ℕ) → n ≡ m + 255 → lacing_of n ≡ 255 ∷ lacing_of m
unfolding lacing_of
more_lacing n m e =
    let quotient : n / 255 ≡ suc (m / 255) = omega (arith, e) in
    let rest : n % 255 ≡ m % 255 = omega (arith, e) in
    ap (λ k. replicate k 255 ++ n % 255 ∷ []) quotient ∙ ap (λ r. 255 ∷ (replicate (m / 255) 255 ++ r ∷ [])) rest

pub none_done : (rest : List Timed) → values_left 0 rest ≡ run_lacing rest
unfolding run_lacing
none_done [] = refl
none_done (item ∷ rest) = ap (λ n. lacing_of n ++ run_lacing rest) (let e : length item.packet - 0 ≡ length item.packet = omega arith in e)

-- ---- packets that end
ended_push : (lacing : List ℕ) (value : ℕ) → packets_ended (lacing ++ value ∷ []) ≡ packets_ended lacing + cond (nat_lt value 255) 1 0
ended_push lacing value =
    sum_by-append (λ v. cond (nat_lt v 255) 1 0) lacing (value ∷ []) ∙ ap (λ n. packets_ended lacing + n) (sum_by-cons (λ v. cond (nat_lt v 255) 1 0) value [] ∙ omega arith)

position_at : (n : ℕ) (run : List Timed) (item : Timed) (rest : List Timed) → drop n run ≡ item ∷ rest → position_of (suc n) run ≡ item.position
position_at zero [] item rest e = cc
position_at zero (first ∷ run) item rest e = let same : first ≡ item = cc in ap (λ (t : Timed). t.position) same
position_at (suc n) [] item rest e = cc
position_at (suc n) (first ∷ run) item rest e = position_at n run item rest e

open_push : (lacing : List ℕ) (value : ℕ) → ends_open (lacing ++ value ∷ []) ≡ nat_eq value 255
open_push lacing value = ends_open-at lacing value []

pub sum_push : (lacing : List ℕ) (value : ℕ) → sum (lacing ++ value ∷ []) ≡ sum lacing + value
sum_push lacing value = sum_app lacing (value ∷ []) ∙ ap (λ n. sum lacing + n) (sum_by-cons (λ x. x) value [] ∙ omega arith)

drop_whole : (xs : List ℕ) → drop (length xs) xs ≡ []
drop_whole [] = refl
drop_whole (x ∷ xs) = drop_whole xs

drop_none : (n : ℕ) → drop {A = ℕ} n [] ≡ []
drop_none zero = refl
drop_none (suc n) = refl

drop_all : (n : ℕ) (xs : List ℕ) → length xs ≤ n → drop n xs ≡ []
drop_all n [] h = drop_none n
drop_all zero (x ∷ xs) h = absurd (omega arith)
drop_all (suc n) (x ∷ xs) h = drop_all n xs (omega arith)

-- ---- one more value
-- a packet that ends in the page
pub ends_here : (run : List Timed) (begun : ℕ) (lacing : List ℕ) (position : ℕ) (item : Timed) (others : List Timed) (done value : ℕ) →
    IsFilled run begun lacing position (item ∷ others) done → value ≡ length item.packet - done → value < 255 →
    IsFilled run begun (lacing ++ value ∷ []) item.position others 0
unfolding run_bytes
ends_here run begun lacing position item others done value h is small =
    let whole : List ℕ = bytes_left begun run in
    let size : value ≡ length (drop done item.packet) = omega (arith, is, length-drop done item.packet) in
    let total : sum (lacing ++ value ∷ []) ≡ sum lacing + value = sum_push lacing value in
    let behind : drop done (item.packet ++ run_bytes others) ≡ drop done item.packet ++ run_bytes others =
    drop-append-le done item.packet (run_bytes others) h.within in
    let ended : packets_ended (lacing ++ value ∷ []) ≡ suc (packets_ended lacing) =
    ended_push lacing value ∙ ap (λ b. packets_ended lacing + cond b 1 0) (lt-ltb value 255 small) ∙ omega arith in
    record {
      values = h.values ∙ ap (λ l. lacing ++ (l ++ run_lacing others)) (ap lacing_of (sym is) ∙ small_lacing value small)
          ∙ sym (append_assoc lacing (value ∷ []) (run_lacing others)) ∙ ap (λ l. lacing ++ value ∷ [] ++ l) (sym (none_done others));
      bytes = sym (
          ap (λ n. drop n whole) total
          ∙ sym (drop-drop value (sum lacing) whole)
          ∙ ap (drop value) (sym h.bytes ∙ behind)
          ∙ ap (λ n. drop n (drop done item.packet ++ run_bytes others)) size
          ∙ drop-append-le (length (drop done item.packet)) (drop done item.packet) (run_bytes others) (omega arith)
          ∙ ap (λ l. l ++ run_bytes others) (drop_whole (drop done item.packet)));
      ended = sym (ap (λ n. drop n run) (ended ∙ omega arith) ∙ sym (drop-drop 1 (packets_ended lacing) run) ∙ ap (drop 1) (sym h.ended));
      position_is = sym (ap (λ n. position_of n run) ended ∙ position_at (packets_ended lacing) run item others (sym h.ended));
      within = start others;
      open_is = λ some. sym (open_push lacing value ∙ ne_eqb value 255 (λ e. omega (arith, small, e)));
    }
  where
    start : (others : List Timed) → IsWithin 0 others
    start [] = refl
    start (item ∷ others) = omega arith

-- a packet that goes on in the page
pub goes_on : (run : List Timed) (begun : ℕ) (lacing : List ℕ) (position : ℕ) (item : Timed) (others : List Timed) (done : ℕ) →
    IsFilled run begun lacing position (item ∷ others) done → 255 ≤ length item.packet - done →
    IsFilled run begun (lacing ++ 255 ∷ []) position (item ∷ others) (done + 255)
unfolding run_bytes
goes_on run begun lacing position item others done h long =
    let whole : List ℕ = bytes_left begun run in
    let left : length item.packet - done ≡ (length item.packet - (done + 255)) + 255 = omega (arith, long) in
    let total : sum (lacing ++ 255 ∷ []) ≡ sum lacing + 255 = sum_push lacing 255 in
    let ended : packets_ended (lacing ++ 255 ∷ []) ≡ packets_ended lacing = ended_push lacing 255 ∙ omega arith in
    record {
      values = h.values ∙ ap (λ l. lacing ++ (l ++ run_lacing others)) (more_lacing (length item.packet - done) (length item.packet - (done + 255)) left)
          ∙ sym (append_assoc lacing (255 ∷ []) (lacing_of (length item.packet - (done + 255)) ++ run_lacing others));
      bytes = sym (
          ap (λ n. drop n whole) total
          ∙ sym (drop-drop 255 (sum lacing) whole)
          ∙ ap (drop 255) (sym h.bytes)
          ∙ drop-drop 255 done (item.packet ++ run_bytes others));
      ended = h.ended ∙ ap (λ n. drop n run) (sym ended);
      position_is = h.position_is ∙ ap (λ n. position_of n run) (sym ended);
      within = omega (arith, long);
      open_is = λ some. lt-ltb 0 (done + 255) (omega arith) ∙ sym (open_push lacing 255);
    }

-- the same by other names
pub filled_same : (run : List Timed) (begun : ℕ) (lacing lacing' : List ℕ) (position position' : ℕ) (rest rest' : List Timed) (done done' : ℕ) →
    lacing ≡ lacing' → position ≡ position' → rest ≡ rest' → done ≡ done' →
    IsFilled run begun lacing' position' rest' done' → IsFilled run begun lacing position rest done
filled_same run begun lacing lacing' position position' rest rest' done done' a b c d h =
    subst (λ (l : List ℕ). IsFilled run begun l position rest done) (sym a)
    (subst (λ (n : ℕ). IsFilled run begun lacing' n rest done) (sym b)
    (subst (λ (l : List Timed). IsFilled run begun lacing' position' l done) (sym c)
    (subst (λ (n : ℕ). IsFilled run begun lacing' position' rest' n) (sym d) h)))

-- ---- the page has all its values, or nothing is left
-- a front that has as many values as a page of all could take
front_fits : (n : ℕ) (xs ys : List ℕ) → length (take n (xs ++ ys)) ≤ length xs → length xs ≤ n → (take n (xs ++ ys) ≡ xs) × (drop n (xs ++ ys) ≡ ys)
front_fits zero [] ys few most = (refl, refl)
front_fits (suc n) [] [] few most = (refl, refl)
front_fits (suc n) [] (y ∷ ys) few most = absurd (omega (arith, few))
front_fits zero (x ∷ xs) ys few most = absurd (omega (arith, most))
front_fits (suc n) (x ∷ xs) ys few most =
    let rest : (take n (xs ++ ys) ≡ xs) × (drop n (xs ++ ys) ≡ ys) = front_fits n xs ys (omega (arith, few)) (omega (arith, most)) in
    (ap (λ l. x ∷ l) rest.0, rest.1)

pub full_values : (run : List Timed) (begun : ℕ) (lacing : List ℕ) (position : ℕ) (rest : List Timed) (done : ℕ) →
    IsFilled run begun lacing position rest done → length lacing ≡ 255 →
    (lacing ≡ take 255 (values_left begun run)) × (values_left done rest ≡ drop 255 (values_left begun run))
full_values run begun lacing position rest done h size =
    let own : (take 255 (lacing ++ values_left done rest) ≡ lacing) × (drop 255 (lacing ++ values_left done rest) ≡ values_left done rest) =
    front_fits 255 lacing (values_left done rest) (omega (arith, size, length-take 255 (lacing ++ values_left done rest))) (omega (arith, size)) in
    (sym (ap (take 255) h.values ∙ own.0), sym (ap (drop 255) h.values ∙ own.1))

pub last_values : (run : List Timed) (begun : ℕ) (lacing : List ℕ) (position : ℕ) (rest : List Timed) (done : ℕ) →
    IsFilled run begun lacing position rest done → length rest ≡ 0 → length lacing ≤ 255 →
    (lacing ≡ take 255 (values_left begun run)) × (values_left done rest ≡ drop 255 (values_left begun run))
last_values run begun lacing position [] done h none few =
    let whole : values_left begun run ≡ lacing = h.values ∙ append-nil lacing in
    (sym (ap (take 255) whole ∙ take_all 255 lacing few), sym (ap (drop 255) whole ∙ drop_all 255 lacing few))
last_values run begun lacing position (item ∷ rest) done h none few = absurd (omega arith)
