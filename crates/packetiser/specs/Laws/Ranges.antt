-- The pages of a run are pages: each number is in its field's range.
use Rattle.std.proofs.Common.{◌≡◌, ℕ, zero, suc, ◌+◌, ◌*◌, ◌/◌, ◌%◌, ◌^◌, ◌<◌, ◌≤◌, List, [], ◌∷◌, ◌++◌, length, take, drop, map, sum, replicate, refl, sym, ◌∙◌, ap, subst, arith, length-take, length-drop}
use Rattle.std.specs.Prelude.{nat_eq}
use Rattle.std.specs.List.{flat_map, AllByRecursion}
use Rattle.std.proofs.lemmas.List.{take-append-drop, length-take-le}
use Rattle.std.proofs.lemmas.Bool.{cond_both}
use Rattle.ogg_page.specs.Page.{IsPage, IsByte}
use Rattle.ogg_page.specs.Lacing.{lace, lacing_of, ends_open}
use Rattle.packetiser.specs.Run.{Timed, IsTimed, counted, values_at, values_before, run_lacing, run_bytes, page_of_run, pages_of_run, pages_for, page_position, position_of, packets_ended, no_position}
use Rattle.packetiser.specs.Laws.Pieces.{before_more, sum_app, sum-run}

all_app : {X : Type 0} (P : X → Type 0) (xs ys : List X) → AllByRecursion P xs → AllByRecursion P ys → AllByRecursion P (xs ++ ys)
all_app P [] ys a b = b
all_app P (x ∷ xs) ys a b = (a.0, all_app P xs ys a.1 b)

all_take : {X : Type 0} (P : X → Type 0) (n : ℕ) (xs : List X) → AllByRecursion P xs → AllByRecursion P (take n xs)
all_take P zero xs a = tt
all_take P (suc n) [] a = tt
all_take P (suc n) (x ∷ xs) a = (a.0, all_take P n xs a.1)

all_drop : {X : Type 0} (P : X → Type 0) (n : ℕ) (xs : List X) → AllByRecursion P xs → AllByRecursion P (drop n xs)
all_drop P zero xs a = a
all_drop P (suc n) [] a = tt
all_drop P (suc n) (x ∷ xs) a = all_drop P n xs a.1

all_same : (n x : ℕ) → IsByte x → AllByRecursion IsByte (replicate n x)
all_same zero x h = tt
all_same (suc n) x h = (h, all_same n x h)

lacing_bytes : (n : ℕ) → AllByRecursion IsByte (lacing_of n)
unfolding lacing_of
lacing_bytes n = all_app IsByte (replicate (n / 255) 255) (n % 255 ∷ []) (all_same (n / 255) 255 (omega arith)) (omega arith, tt)

run_lacing_bytes : (run : List Timed) → AllByRecursion IsByte (run_lacing run)
unfolding run_lacing
run_lacing_bytes [] = tt
run_lacing_bytes (item ∷ run) = all_app IsByte (lace item.packet) (flat_map (λ i. lace i.packet) run) (lacing_bytes (length item.packet)) (run_lacing_bytes run)

run_body_bytes : (run : List Timed) → AllByRecursion IsTimed run → AllByRecursion IsByte (run_bytes run)
unfolding run_bytes
run_body_bytes [] h = tt
run_body_bytes (item ∷ run) h = all_app IsByte item.packet (flat_map (λ i. i.packet) run) h.0.packet (run_body_bytes run h.1)

position_small : (n : ℕ) (run : List Timed) → AllByRecursion IsTimed run → position_of n run < 2 ^ 64
position_small zero run h = omega arith
position_small (suc n) [] h = omega arith
position_small (suc zero) (item ∷ run) h = h.0.position
position_small (suc (suc n)) (item ∷ run) h = position_small (suc n) run h.1

page_position_small : (k : ℕ) (run : List Timed) → AllByRecursion IsTimed run → page_position k run < 2 ^ 64
unfolding page_position
page_position_small k run h =
    cond_both (nat_eq (packets_ended (values_at k (run_lacing run))) 0) no_position (position_of (packets_ended (values_before (k + 1) (run_lacing run))) run)
    (λ n. n < 2 ^ 64) (λ _. omega arith) (λ _. position_small (packets_ended (values_before (k + 1) (run_lacing run))) run h)

-- a front's sum is at most that of the whole
pub front_sum : (n : ℕ) (values : List ℕ) → sum (take n values) ≤ sum values
front_sum n values = omega (arith, ap sum (take-append-drop n values), sum_app (take n values) (drop n values))

front : (j : ℕ) (values : List ℕ) → sum (values_before j values) ≤ sum values
unfolding values_before
front j values = front_sum (255 * j) values

-- the bytes of a page are as many as its values say
body_size : (k : ℕ) (run : List Timed) →
    sum (values_at k (run_lacing run)) ≡ length (take (sum (values_at k (run_lacing run))) (drop (sum (values_before k (run_lacing run))) (run_bytes run)))
body_size k run =
    let values : List ℕ = run_lacing run in
    let joined : sum (values_before (k + 1) values) ≡ sum (values_before k values) + sum (values_at k values) =
    ap sum (before_more k values) ∙ sum_app (values_before k values) (values_at k values) in
    let most : sum (values_before (k + 1) values) ≤ sum values = front (k + 1) values in
    let fits : sum (values_at k values) ≤ length (drop (sum (values_before k values)) (run_bytes run)) =
    omega (arith, length-drop (sum (values_before k values)) (run_bytes run), sum-run run) in
    sym (length-take-le (sum (values_at k values)) (drop (sum (values_before k values)) (run_bytes run)) fits)

few_values : (k : ℕ) (values : List ℕ) → length (values_at k values) ≤ 255
unfolding values_at
few_values k values = omega (arith, length-take 255 (drop (255 * k) values))

value_bytes : (k : ℕ) (run : List Timed) → AllByRecursion IsByte (values_at k (run_lacing run))
unfolding values_at
value_bytes k run = all_take IsByte 255 (drop (255 * k) (run_lacing run)) (all_drop IsByte (255 * k) (run_lacing run) (run_lacing_bytes run))

is_page : (serial first : ℕ) (run : List Timed) (k : ℕ) → serial < 2 ^ 32 → AllByRecursion IsTimed run → first + k < 2 ^ 32 → IsPage (page_of_run serial first run k)
unfolding page_of_run
is_page serial first run k small h number = record {
  flags = cond_both (ends_open (values_before k (run_lacing run))) 1 0 (λ n. n < 256) (λ _. omega arith) (λ _. omega arith);
  position = page_position_small k run h;
  serial = small;
  sequence = number;
  values = few_values k (run_lacing run);
  lacing = value_bytes k run;
  body = all_take IsByte (sum (values_at k (run_lacing run))) (drop (sum (values_before k (run_lacing run))) (run_bytes run))
      (all_drop IsByte (sum (values_before k (run_lacing run))) (run_bytes run) (run_body_bytes run h));
  whole = body_size k run;
}

sequence_of : (serial first : ℕ) (run : List Timed) (k : ℕ) → (page_of_run serial first run k).sequence ≡ first + k
unfolding page_of_run
sequence_of serial first run k = refl

are_pages_from : (serial first : ℕ) (run : List Timed) (n j : ℕ) → serial < 2 ^ 32 → AllByRecursion IsTimed run →
    AllByRecursion (λ page. page.sequence < 2 ^ 32) (map (page_of_run serial first run) (counted j n)) → AllByRecursion IsPage (map (page_of_run serial first run) (counted j n))
are_pages_from serial first run zero j small h numbers = tt
are_pages_from serial first run (suc n) j small h numbers = (
  is_page serial first run j small h (subst (λ x. x < 2 ^ 32) (sequence_of serial first run j) numbers.0),
  are_pages_from serial first run n (j + 1) small h numbers.1,
)

pub run_is_pages : (serial first : ℕ) (run : List Timed) → serial < 2 ^ 32 → AllByRecursion IsTimed run →
    AllByRecursion (λ page. page.sequence < 2 ^ 32) (pages_of_run serial first run) → AllByRecursion IsPage (pages_of_run serial first run)
unfolding pages_of_run
run_is_pages serial first run small h numbers = are_pages_from serial first run (pages_for (length (run_lacing run))) 0 small h numbers

-- numbers from a first one on, if the last of them fits
numbers_fit : (serial first : ℕ) (run : List Timed) (n j : ℕ) → first + j + n ≤ 2 ^ 32 →
    AllByRecursion (λ page. page.sequence < 2 ^ 32) (map (page_of_run serial first run) (counted j n))
numbers_fit serial first run zero j h = tt
numbers_fit serial first run (suc n) j h =
    (subst (λ x. x < 2 ^ 32) (sym (sequence_of serial first run j)) (omega arith), numbers_fit serial first run n (j + 1) (omega arith))

pub few_are_pages : (serial first : ℕ) (run : List Timed) → serial < 2 ^ 32 → first + pages_for (length (run_lacing run)) ≤ 2 ^ 32 →
    AllByRecursion IsTimed run → AllByRecursion IsPage (pages_of_run serial first run)
unfolding pages_of_run
few_are_pages serial first run small few h =
    are_pages_from serial first run (pages_for (length (run_lacing run))) 0 small h (numbers_fit serial first run (pages_for (length (run_lacing run))) 0 (omega arith))
