-- The places where the pages of a run begin.
use Rattle.std.proofs.Common.{◌≡◌, ℕ, zero, suc, ◌+◌, ◌-◌, ◌*◌, ◌<◌, cond, List, [], ◌∷◌, ◌++◌, length, take, drop, sum, refl, sym, ◌∙◌, ap, arith, length-append, length-drop, length-take}
use Rattle.std.specs.Prelude.{nat_lt, nat_eq}
use Rattle.std.proofs.lemmas.Bool.{ne_eqb, cond-false}
use Rattle.std.proofs.lemmas.List.{drop-drop, length-take-le}
use Rattle.std.proofs.lemmas.List.Sums.{sum_by-append}
use Rattle.ogg_page.specs.Page.{Page}
use Rattle.ogg_page.specs.Lacing.{lacing_of, ends_open}
use Rattle.packetiser.specs.Run.{Timed, run_lacing, run_bytes, values_at, values_before, packets_ended, position_of, no_position, page_position, page_of_run, pages_for}
use Rattle.packetiser.specs.Place.{values_left, bytes_left, next_values, next_page, IsWithin, IsBehind, IsAt}
use Rattle.ogg_page.specs.StreamLaws.{ends_open-at}
use Rattle.packetiser.specs.Laws.Pieces.{sum_app, sum-run, sum-lacing_of, before_more}
use Rattle.packetiser.specs.Laws.Ranges.{front_sum}
use Rattle.packetiser.proofs.Filling.{none_done}

-- ---- values and bytes that are left
left_sum : (done : ℕ) (run : List Timed) → IsWithin done run → sum (values_left done run) ≡ length (bytes_left done run)
unfolding run_bytes run_lacing
left_sum done [] h = omega (arith, length-drop done (run_bytes []), h)
left_sum done (item ∷ run) h =
    sum_app (lacing_of (length item.packet - done)) (run_lacing run)
    ∙ omega (arith, sum-lacing_of (length item.packet - done), sum-run run, length-drop done (item.packet ++ run_bytes run), length-append item.packet (run_bytes run), h)

pub next_whole : (done : ℕ) (run : List Timed) → IsWithin done run → sum (next_values done run) ≡ length (take (sum (next_values done run)) (bytes_left done run))
next_whole done run h =
    sym (length-take-le (sum (next_values done run)) (bytes_left done run) (omega (arith, front_sum 255 (values_left done run), left_sum done run h)))

-- ---- the place of a page
pub at_start : (run : List Timed) → IsAt run 0 0 run
unfolding values_before
at_start run = record { values = sym (none_done run); bytes = refl; ended = refl; open_is = refl; within = start run }
  where
    start : (run : List Timed) → IsWithin 0 run
    start [] = refl
    start (item ∷ run) = omega arith

values_are : (run : List Timed) (k done : ℕ) (rest : List Timed) → IsAt run k done rest → values_at k (run_lacing run) ≡ next_values done rest
unfolding values_at
values_are run k done rest at = ap (take 255) at.values

ended_app : (xs ys : List ℕ) → packets_ended (xs ++ ys) ≡ packets_ended xs + packets_ended ys
ended_app xs ys = sum_by-append (λ v. cond (nat_lt v 255) 1 0) xs ys

open_app : (xs ys : List ℕ) → 0 < length ys → ends_open (xs ++ ys) ≡ ends_open ys
open_app xs [] some = absurd (omega arith)
open_app xs (y ∷ ys) some = ends_open-at xs y ys

pub at_next : (run : List Timed) (k done : ℕ) (rest : List Timed) (done' : ℕ) (rest' : List Timed) → k < pages_for (length (run_lacing run)) → IsAt run k done rest → IsBehind done rest done' rest' →
    IsAt run (k + 1) done' rest'
at_next run k done rest done' rest' lt at behind =
    let values : List ℕ = run_lacing run in
    let own : values_at k values ≡ next_values done rest = values_are run k done rest at in
    let more : values_before (k + 1) values ≡ values_before k values ++ next_values done rest = before_more k values ∙ ap (λ l. values_before k values ++ l) own in
    let some : 0 < length (next_values done rest) =
    omega (arith, length-take 255 (values_left done rest), ap length at.values, length-drop (255 * k) values, lt) in
    record {
      values = ap (λ n. drop n values) (let e : 255 * (k + 1) ≡ 255 * k + 255 = omega arith in e) ∙ sym (drop-drop 255 (255 * k) values) ∙ ap (drop 255) at.values ∙ sym behind.values;
      bytes = ap (λ l. drop (sum l) (run_bytes run)) more ∙ ap (λ n. drop n (run_bytes run)) (sum_app (values_before k values) (next_values done rest))
          ∙ sym (drop-drop (sum (next_values done rest)) (sum (values_before k values)) (run_bytes run)) ∙ ap (drop (sum (next_values done rest))) at.bytes ∙ sym behind.bytes;
      ended = behind.ended ∙ ap (drop (packets_ended (next_values done rest))) at.ended
          ∙ drop-drop (packets_ended (next_values done rest)) (packets_ended (values_before k values)) run
          ∙ ap (λ n. drop n run) (sym (ap packets_ended more ∙ ended_app (values_before k values) (next_values done rest)));
      open_is = ap ends_open more ∙ open_app (values_before k values) (next_values done rest) some ∙ sym (behind.open_is some);
      within = behind.within;
    }

-- ---- the page there
position_later : (n e : ℕ) (run : List Timed) → position_of (n + suc e) run ≡ position_of (suc e) (drop n run)
position_later zero e run = ap (λ k. position_of k run) (let k : zero + suc e ≡ suc e = omega arith in k)
position_later (suc n) e [] = ap (λ k. position_of k []) (let k : suc n + suc e ≡ suc (n + suc e) = omega arith in k)
position_later (suc n) e (item ∷ run) =
    ap (λ k. position_of k (item ∷ run)) (let k : suc n + suc e ≡ suc (suc (n + e)) = omega arith in k)
    ∙ ap (λ k. position_of k run) (let k : suc (n + e) ≡ n + suc e = omega arith in k)
    ∙ position_later n e run

position_there : (run rest : List Timed) (before own : ℕ) → rest ≡ drop before run → cond (nat_eq own 0) no_position (position_of (before + own) run) ≡ position_of own rest
position_there run rest before zero e = refl
position_there run rest before (suc own) e =
    cond-false (nat_eq (suc own) 0) no_position (position_of (before + suc own) run) (ne_eqb (suc own) 0 (λ z. cc))
    ∙ position_later before own run ∙ ap (position_of (suc own)) (sym e)

page_there : (serial first : ℕ) (run : List Timed) (k done : ℕ) (rest : List Timed) → IsAt run k done rest →
    next_page serial (first + k) 0 done rest ≡ page_of_run serial first run k
unfolding page_of_run page_position
page_there serial first run k done rest at =
    let values : List ℕ = run_lacing run in
    let own : values_at k values ≡ next_values done rest = values_are run k done rest at in
    let more : packets_ended (values_before (k + 1) values) ≡ packets_ended (values_before k values) + packets_ended (values_at k values) =
    ap packets_ended (before_more k values) ∙ ended_app (values_before k values) (values_at k values) in
    let position : position_of (packets_ended (next_values done rest)) rest
    ≡ cond (nat_eq (packets_ended (values_at k values)) 0) no_position (position_of (packets_ended (values_before (k + 1) values)) run) =
    sym (ap (λ n. cond (nat_eq (packets_ended (values_at k values)) 0) no_position (position_of n run)) more
    ∙ position_there run rest (packets_ended (values_before k values)) (packets_ended (values_at k values)) at.ended
    ∙ ap (λ l. position_of (packets_ended l) rest) own) in
    let page : ℕ → ℕ → List ℕ → List ℕ → Page = λ f p l b. record { flags = f; position = p; serial = serial; sequence = first + k; lacing = l; body = b } in
    ap (λ n. page n (position_of (packets_ended (next_values done rest)) rest) (next_values done rest) (take (sum (next_values done rest)) (bytes_left done rest)))
    (let e : cond (nat_lt 0 done) 1 0 + 0 ≡ cond (nat_lt 0 done) 1 0 = omega arith in e ∙ ap (λ b. cond b 1 0) (sym at.open_is))
    ∙ ap (λ p. page (cond (ends_open (values_before k values)) 1 0) p (next_values done rest) (take (sum (next_values done rest)) (bytes_left done rest))) position
    ∙ ap (λ b. page (cond (ends_open (values_before k values)) 1 0) (cond (nat_eq (packets_ended (values_at k values)) 0) no_position (position_of (packets_ended (values_before (k + 1) values)) run))
    (next_values done rest) (take (sum (next_values done rest)) b)) (sym at.bytes)
    ∙ ap (λ l. page (cond (ends_open (values_before k values)) 1 0) (cond (nat_eq (packets_ended (values_at k values)) 0) no_position (position_of (packets_ended (values_before (k + 1) values)) run))
    l (take (sum l) (drop (sum (values_before k values)) (run_bytes run)))) (sym own)

-- the same with flags added
pub page_with : (serial first flags : ℕ) (run : List Timed) (k done : ℕ) (rest : List Timed) → IsAt run k done rest →
    next_page serial (first + k) flags done rest ≡ record (page_of_run serial first run k) { flags = (page_of_run serial first run k).flags + flags }
page_with serial first flags run k done rest at =
    let own : ℕ = cond (nat_lt 0 done) 1 0 in
    ap (λ n. record (next_page serial (first + k) 0 done rest) { flags = n }) (let e : own + flags ≡ own + 0 + flags = omega arith in e)
    ∙ ap (λ (p : Page). record p { flags = p.flags + flags }) (page_there serial first run k done rest at)
