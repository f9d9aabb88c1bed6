-- The last page of a run has the position of the run's last packet.
use Rattle.std.proofs.Common.{◌≡◌, ℕ, zero, suc, ◌+◌, ◌*◌, ◌/◌, ◌%◌, ◌^◌, ◌<◌, ◌≤◌, cond, List, [], ◌∷◌, ◌++◌, length, map, take, drop, replicate, refl, sym, ◌∙◌, ap, arith, append_assoc, length-append, length-drop}
use Rattle.std.specs.Prelude.{nat_eq, nat_lt}
use Rattle.std.specs.List.{fold, flat_map}
use Rattle.std.proofs.lemmas.Bool.{cond-true, cond-false, ne_eqb, lt-ltb}
use Rattle.std.proofs.lemmas.List.{append-nil, take_all, drop-append-le, map_push}
use Rattle.std.proofs.lemmas.List.Sums.{fold-append, sum_by-append, sum_by-cons}
use Rattle.ogg_page.specs.Page.{Page}
use Rattle.ogg_page.specs.Lacing.{lace, lacing_of}
use Rattle.packetiser.specs.Run.{Timed, counted, values_at, values_before, run_lacing, page_of_run, pages_of_run, pages_for, page_position, position_of, packets_ended, no_position}
use Rattle.link_chain.specs.ChainState.{last_position}
use Rattle.command_pages.specs.Laws.Runs.{some_values}

-- ---- values that end packets
ended_both : (xs ys : List ℕ) → packets_ended (xs ++ ys) ≡ packets_ended xs + packets_ended ys
ended_both xs ys = sum_by-append (λ value. cond (nat_lt value 255) 1 0) xs ys

ended_whole : (n : ℕ) → packets_ended (replicate n 255) ≡ 0
ended_whole zero = refl
ended_whole (suc n) = ended_whole n

ended_one : (value : ℕ) → value < 255 → packets_ended (value ∷ []) ≡ 1
ended_one value h = sum_by-cons (λ v. cond (nat_lt v 255) 1 0) value [] ∙ ap (λ b. let n : ℕ = cond b 1 0 in n + 0) (lt-ltb value 255 h)

ended_lacing : (n : ℕ) → packets_ended (lacing_of n) ≡ 1
unfolding lacing_of
ended_lacing n = ended_both (replicate (n / 255) 255) (n % 255 ∷ []) ∙ omega (arith, ended_whole (n / 255), ended_one (n % 255) (omega arith))

ended_run : (run : List Timed) → packets_ended (run_lacing run) ≡ length run
unfolding run_lacing
ended_run [] = refl
ended_run (item ∷ run) = ended_both (lace item.packet) (flat_map (λ i. lace i.packet) run) ∙ omega (arith, ended_lacing (length item.packet), ended_run run)

-- ---- the position of the run's last packet
abbrev pub end_position : List Timed → ℕ
end_position [] = no_position
end_position (item ∷ []) = item.position
end_position (item ∷ next ∷ run) = end_position (next ∷ run)

position-last : (run : List Timed) → position_of (length run) run ≡ end_position run
position-last [] = refl
position-last (item ∷ []) = refl
position-last (item ∷ next ∷ run) = position-last (next ∷ run)

-- ---- the last value
-- values that end with one below 255
pub record EndsClosed (values : List ℕ) : Type 0 where
  pub front : List ℕ
  pub last : ℕ
  pub whole : values ≡ front ++ last ∷ []
  pub small : last < 255

closed_lacing : (n : ℕ) → EndsClosed (lacing_of n)
unfolding lacing_of
closed_lacing n = record { front = replicate (n / 255) 255; last = n % 255; whole = refl; small = omega arith }

closed_behind : (xs ys : List ℕ) → EndsClosed ys → EndsClosed (xs ++ ys)
closed_behind xs ys h = record { front = xs ++ h.front; last = h.last; whole = ap (λ l. xs ++ l) h.whole ∙ sym (append_assoc xs h.front (h.last ∷ [])); small = h.small }

closed_same : (xs ys : List ℕ) → xs ≡ ys → EndsClosed ys → EndsClosed xs
closed_same xs ys e h = record { front = h.front; last = h.last; whole = e ∙ h.whole; small = h.small }

pub closed_run : (run : List Timed) → 0 < length run → EndsClosed (run_lacing run)
unfolding run_lacing
closed_run [] some = absurd (omega arith)
closed_run (item ∷ []) some = closed_same (lace item.packet ++ []) (lace item.packet) (append-nil (lace item.packet)) (closed_lacing (length item.packet))
closed_run (item ∷ next ∷ run) some = closed_behind (lace item.packet) (run_lacing (next ∷ run)) (closed_run (next ∷ run) (omega arith))

-- a packet ends in what is left of such values, if a value is left
ends_left : (values : List ℕ) (k : ℕ) → EndsClosed values → k < length values → 0 < packets_ended (drop k values)
ends_left values k h lt =
    let within : k ≤ length h.front = omega (arith, lt, ap length h.whole, length-append h.front (h.last ∷ [])) in
    let left : drop k values ≡ drop k h.front ++ h.last ∷ [] = ap (drop k) h.whole ∙ drop-append-le k h.front (h.last ∷ []) within in
    omega (arith, ap packets_ended left, ended_both (drop k h.front) (h.last ∷ []), ended_one h.last h.small)

-- the last page
last_page_position : (run : List Timed) (m : ℕ) → 0 < length run → pages_for (length (run_lacing run)) ≡ suc m → page_position m run ≡ end_position run
unfolding page_position values_at values_before
last_page_position run m some n =
    let values : List ℕ = run_lacing run in
    let begins : 255 * m < length values = omega (arith, n, some_values run, some) in
    let few : length (drop (255 * m) values) ≤ 255 = omega (arith, length-drop (255 * m) values, n) in
    let all : length values ≤ 255 * (m + 1) = omega (arith, n) in
    let ended : 0 < packets_ended (take 255 (drop (255 * m) values)) =
    omega (arith, ap packets_ended (take_all 255 (drop (255 * m) values) few), ends_left values (255 * m) (closed_run run some) begins) in
    cond-false (nat_eq (packets_ended (take 255 (drop (255 * m) values))) 0) no_position _
    (ne_eqb (packets_ended (take 255 (drop (255 * m) values))) 0 (λ e. omega (arith, ended, e)))
    ∙ ap (λ l. position_of (packets_ended l) run) (take_all (255 * (m + 1)) values all)
    ∙ ap (λ k. position_of k run) (ended_run run)
    ∙ position-last run

counted-more : (first n : ℕ) → counted first (suc n) ≡ counted first n ++ (first + n) ∷ []
counted-more first zero = ap (λ k. k ∷ []) (omega arith)
counted-more first (suc n) = ap (λ l. first ∷ l) (counted-more (first + 1) n ∙ ap (λ k. counted (first + 1) n ++ k ∷ []) (omega arith))

abbrev pub reached : ℕ → Page → ℕ
reached found page = cond (nat_lt page.position (2 ^ 63)) page.position found

reached-push : (pages : List Page) (page : Page) (found : ℕ) → page.position < 2 ^ 63 → fold reached found (pages ++ page ∷ []) ≡ page.position
reached-push pages page found h =
    fold-append reached found pages (page ∷ []) ∙ cond-true (nat_lt page.position (2 ^ 63)) page.position (fold reached found pages) (lt-ltb page.position (2 ^ 63) h)

position_is : (serial first : ℕ) (run : List Timed) (k : ℕ) → (page_of_run serial first run k).position ≡ page_position k run
unfolding page_of_run
position_is serial first run k = refl

reached_by : (serial first : ℕ) (run : List Timed) (before : List Page) (n : ℕ) → 0 < length run → end_position run < 2 ^ 63 → pages_for (length (run_lacing run)) ≡ n →
    last_position (before ++ map (page_of_run serial first run) (counted 0 n)) ≡ end_position run
reached_by serial first run before zero some small e = absurd (omega (arith, e, some_values run, some))
reached_by serial first run before (suc m) some small e =
    let last : Page = page_of_run serial first run m in
    let at : last.position ≡ end_position run = position_is serial first run m ∙ last_page_position run m some e in
    ap (λ l. last_position (before ++ l)) (ap (map (page_of_run serial first run)) (counted-more 0 m ∙ ap (λ k. counted 0 m ++ k ∷ []) (omega arith)) ∙ map_push (page_of_run serial first run) (counted 0 m) m)
    ∙ ap last_position (sym (append_assoc before (map (page_of_run serial first run) (counted 0 m)) (last ∷ [])))
    ∙ reached-push (before ++ map (page_of_run serial first run) (counted 0 m)) last 0 (omega (arith, at, small))
    ∙ at

-- after a run its stream is at the position of the run's last packet
pub run_reaches : (serial first : ℕ) (run : List Timed) (before : List Page) → 0 < length run → end_position run < 2 ^ 63 →
    last_position (before ++ pages_of_run serial first run) ≡ end_position run
unfolding pages_of_run
run_reaches serial first run before some small = reached_by serial first run before (pages_for (length (run_lacing run))) some small refl
