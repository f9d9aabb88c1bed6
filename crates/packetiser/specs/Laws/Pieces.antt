-- The pages of a run, joined again.
use Rattle.std.proofs.Common.{◌≡◌, ℕ, zero, suc, ◌+◌, ◌*◌, ◌/◌, ◌%◌, ◌≤◌, List, [], ◌∷◌, ◌++◌, length, take, drop, map, sum, sum_by, replicate, refl, sym, ◌∙◌, ap, arith, append_assoc, length-append}
use Rattle.std.specs.List.{flat_map, concat}
use Rattle.std.proofs.Math.Seq.{take-add}
use Rattle.std.proofs.lemmas.List.{append-nil, take_all, length-map}
use Rattle.std.proofs.lemmas.List.Sums.{sum_by-append, sum_by-cons}
use Rattle.std.proofs.lemmas.List.Folds.{sum_by-replicate}
use Rattle.ogg_page.specs.Page.{Page, page_size}
use Rattle.ogg_page.specs.Lacing.{lace, lacing_of}
use Rattle.ogg_page.specs.LogicalStream.{HoldsPackets, joined_lacing, joined_bodies}
use Rattle.packetiser.specs.Run.{Timed, counted, values_at, values_before, run_lacing, run_bytes, page_of_run, pages_of_run, pages_for}

pub sum_app : (xs ys : List ℕ) → sum (xs ++ ys) ≡ sum xs + sum ys
sum_app xs ys = sum_by-append (λ x. x) xs ys

pub before_more : (k : ℕ) (values : List ℕ) → values_before (k + 1) values ≡ values_before k values ++ values_at k values
unfolding values_before values_at
before_more k values = ap (λ n. take n values) (let e : 255 * (k + 1) ≡ 255 * k + 255 = omega arith in e) ∙ take-add (255 * k) 255 values

-- the pieces from one on, after what comes before them
pieces : (values : List ℕ) (first n : ℕ) → values_before first values ++ flat_map (λ k. values_at k values) (counted first n) ≡ values_before (first + n) values
pieces values first zero = append-nil (values_before first values) ∙ ap (λ k. values_before k values) (omega arith)
pieces values first (suc n) =
    sym (append_assoc (values_before first values) (values_at first values) (flat_map (λ k. values_at k values) (counted (first + 1) n)))
    ∙ ap (λ l. l ++ flat_map (λ k. values_at k values) (counted (first + 1) n)) (sym (before_more first values))
    ∙ pieces values (first + 1) n
    ∙ ap (λ k. values_before k values) (omega arith)

-- the bytes of page k
share : List ℕ → List ℕ → ℕ → List ℕ
share values bytes k = take (sum (values_at k values)) (drop (sum (values_before k values)) bytes)

shares : (values bytes : List ℕ) (first n : ℕ) →
    take (sum (values_before first values)) bytes ++ flat_map (share values bytes) (counted first n) ≡ take (sum (values_before (first + n) values)) bytes
unfolding share
shares values bytes first zero =
    append-nil (take (sum (values_before first values)) bytes) ∙ ap (λ k. take (sum (values_before k values)) bytes) (omega arith)
shares values bytes first (suc n) =
    sym (append_assoc (take (sum (values_before first values)) bytes) (share values bytes first) (flat_map (share values bytes) (counted (first + 1) n)))
    ∙ ap (λ l. l ++ flat_map (share values bytes) (counted (first + 1) n))
    (sym (take-add (sum (values_before first values)) (sum (values_at first values)) bytes)
    ∙ ap (λ k. take k bytes) (sym (sum_app (values_before first values) (values_at first values)) ∙ ap sum (sym (before_more first values))))
    ∙ shares values bytes (first + 1) n
    ∙ ap (λ k. take (sum (values_before k values)) bytes) (omega arith)

flat_map-map : {X Y : Type 0} (g : Y → List ℕ) (f : X → Y) (xs : List X) → flat_map g (map f xs) ≡ flat_map (λ x. g (f x)) xs
flat_map-map g f [] = refl
flat_map-map g f (x ∷ xs) = ap (λ l. g (f x) ++ l) (flat_map-map g f xs)

concat-map : {X : Type 0} (f : X → List ℕ) (xs : List X) → concat (map f xs) ≡ flat_map f xs
concat-map f [] = refl
concat-map f (x ∷ xs) = ap (λ l. f x ++ l) (concat-map f xs)

pub sum-lacing_of : (n : ℕ) → sum (lacing_of n) ≡ n
unfolding lacing_of
sum-lacing_of n =
    sum_app (replicate (n / 255) 255) (n % 255 ∷ [])
    ∙ omega (arith, sum_by-replicate (λ x. x) (n / 255) 255)

-- the values of a run add up to its bytes
pub sum-run : (run : List Timed) → sum (run_lacing run) ≡ length (run_bytes run)
unfolding run_lacing run_bytes
sum-run [] = refl
sum-run (item ∷ run) =
    sum_app (lace item.packet) (flat_map (λ i. lace i.packet) run)
    ∙ omega (arith, sum-run run, sum-lacing_of (length item.packet), length-append item.packet (flat_map (λ i. i.packet) run))

enough : (values : List ℕ) → length values ≤ 255 * pages_for (length values)
enough values = omega arith

whole : (values : List ℕ) → values_before (pages_for (length values)) values ≡ values
unfolding values_before
whole values = take_all (255 * pages_for (length values)) values (enough values)

from_start : (values : List ℕ) (n : ℕ) → flat_map (λ k. values_at k values) (counted 0 n) ≡ values_before n values
unfolding values_before
from_start values n = pieces values 0 n ∙ ap (λ k. values_before k values) (omega arith)

bodies_from_start : (values bytes : List ℕ) (n : ℕ) → flat_map (share values bytes) (counted 0 n) ≡ take (sum (values_before n values)) bytes
unfolding values_before
bodies_from_start values bytes n = shares values bytes 0 n ∙ ap (λ k. take (sum (values_before k values)) bytes) (omega arith)

pub lacing_again : (run : List Timed) → run_lacing run ≡ flat_map lace (map (λ item. item.packet) run)
unfolding run_lacing
lacing_again run = sym (flat_map-map lace (λ (item : Timed). item.packet) run)

bytes_again : (run : List Timed) → run_bytes run ≡ concat (map (λ item. item.packet) run)
unfolding run_bytes
bytes_again run = sym (concat-map (λ (item : Timed). item.packet) run)

pub run_is_held : (serial first : ℕ) (run : List Timed) → HoldsPackets (pages_of_run serial first run) (map (λ item. item.packet) run) 0 []
unfolding pages_of_run page_of_run share
run_is_held serial first run =
    let values : List ℕ = run_lacing run in
    let bytes : List ℕ = run_bytes run in
    let n : ℕ = pages_for (length values) in
    record {
      lacing =
          flat_map-map (λ (p : Page). p.lacing) (page_of_run serial first run) (counted 0 n)
          ∙ from_start values n
          ∙ whole values
          ∙ lacing_again run
          ∙ sym (append-nil (flat_map lace (map (λ (item : Timed). item.packet) run)));
      bodies =
          flat_map-map (λ (p : Page). p.body) (page_of_run serial first run) (counted 0 n)
          ∙ bodies_from_start values bytes n
          ∙ ap (λ l. take (sum l) bytes) (whole values)
          ∙ take_all (sum values) bytes (omega (arith, sum-run run))
          ∙ bytes_again run
          ∙ sym (append-nil (concat (map (λ (item : Timed). item.packet) run)));
      rest_size = refl;
    }

length-counted : (first n : ℕ) → length (counted first n) ≡ n
length-counted first zero = refl
length-counted first (suc n) = ap suc (length-counted (first + 1) n)

pub run_pages : (serial first : ℕ) (run : List Timed) → length (pages_of_run serial first run) ≡ pages_for (length (run_lacing run))
unfolding pages_of_run
run_pages serial first run =
    length-map (counted 0 (pages_for (length (run_lacing run)))) (page_of_run serial first run) ∙ length-counted 0 (pages_for (length (run_lacing run)))

sizes : (pages : List Page) → sum_by page_size pages ≡ 27 * length pages + length (joined_lacing pages) + length (joined_bodies pages)
sizes [] = refl
sizes (page ∷ pages) =
    omega (arith, sizes pages, sum_by-cons page_size page pages, length-append page.lacing (joined_lacing pages), length-append page.body (joined_bodies pages))

pub run_bytes_all : (serial first : ℕ) (run : List Timed) →
    sum_by page_size (pages_of_run serial first run) ≡ 27 * pages_for (length (run_lacing run)) + length (run_lacing run) + length (run_bytes run)
run_bytes_all serial first run =
    let held : HoldsPackets (pages_of_run serial first run) (map (λ item. item.packet) run) 0 [] = run_is_held serial first run in
    let lacing : joined_lacing (pages_of_run serial first run) ≡ run_lacing run = held.lacing ∙ append-nil _ ∙ sym (lacing_again run) in
    let bodies : joined_bodies (pages_of_run serial first run) ≡ run_bytes run = held.bodies ∙ append-nil _ ∙ sym (bytes_again run) in
    sizes (pages_of_run serial first run)
    ∙ ap (λ n. 27 * n + length (joined_lacing (pages_of_run serial first run)) + length (joined_bodies (pages_of_run serial first run))) (run_pages serial first run)
    ∙ ap (λ l. 27 * pages_for (length (run_lacing run)) + length l + length (joined_bodies (pages_of_run serial first run))) lacing
    ∙ ap (λ l. 27 * pages_for (length (run_lacing run)) + length (run_lacing run) + length l) bodies
