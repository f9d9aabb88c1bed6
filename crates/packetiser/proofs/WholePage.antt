-- The page of a run of one packet that lies whole in it.
use Rattle.std.proofs.Common.{◌≡◌, ℕ, zero, suc, ◌+◌, ◌/◌, ◌%◌, ◌<◌, ◌≤◌, cond, List, [], ◌∷◌, ◌++◌, length, take, set, sum, sum_by, replicate, get_or, map, refl, sym, ◌∙◌, ap, arith, add-zero}
use Rattle.std.specs.Prelude.{nat_lt}
use Rattle.std.proofs.lemmas.Bool.{lt-ltb}
use Rattle.std.proofs.lemmas.List.{append-nil, take_all, take_more_set, length-replicate}
use Rattle.std.proofs.lemmas.List.Sums.{sum_by-cons}
use Rattle.ogg_page.specs.Page.{Page, bytes_of_pages, page_bytes, page_of, page_size}
use Rattle.ogg_page.specs.declared.head.PageHead.{PageHead}
use Rattle.ogg_page.specs.Lacing.{lace, lacing_of}
use Rattle.ogg_page.specs.Sizes.{longest_whole}
use Rattle.packetiser.specs.Run.{Timed, run_lacing, run_bytes, packets_ended, position_of, pages_of_run, pages_for, flagged, whole_page, size_for}
use Rattle.packetiser.specs.Place.{next_values, next_page}
use Rattle.packetiser.specs.Laws.Pieces.{sum-lacing_of, run_bytes_all}
use Rattle.packetiser.specs.Laws.Sizes.{length-lacing_of}
use Rattle.packetiser.specs.Laws.Appending.{flagged_size}
use Rattle.packetiser.proofs.Filling.{none_done, small_lacing}
use Rattle.packetiser.proofs.PageByPage.{count_of_pages, drop_past, next_at_place}
use Rattle.packetiser.proofs.Placing.{at_start}

-- ---- the values and the bytes of one packet
one_lacing : (item : Timed) → run_lacing (item ∷ []) ≡ lace item.packet
unfolding run_lacing
one_lacing item = append-nil (lace item.packet)

one_bytes : (item : Timed) → run_bytes (item ∷ []) ≡ item.packet
unfolding run_bytes
one_bytes item = append-nil item.packet

few_values : (item : Timed) → length item.packet ≤ longest_whole → length (lace item.packet) ≤ 255
few_values item h = omega (arith, length-lacing_of (length item.packet), h)

own_values : (item : Timed) → length item.packet ≤ longest_whole → next_values 0 (item ∷ []) ≡ lace item.packet
own_values item h = ap (take 255) (none_done (item ∷ []) ∙ one_lacing item) ∙ take_all 255 (lace item.packet) (few_values item h)

pub one_page_for : (item : Timed) → length item.packet ≤ longest_whole → pages_for (length (run_lacing (item ∷ []))) ≡ 1
one_page_for item h = omega (arith, ap length (one_lacing item), length-lacing_of (length item.packet), h)

-- one packet ends in its own values
ended_behind : (n value : ℕ) → value < 255 → packets_ended (replicate n 255 ++ value ∷ []) ≡ 1
ended_behind zero value h =
    sum_by-cons (λ v. cond (nat_lt v 255) 1 0) value [] ∙ ap (λ b. cond b 1 0 + 0) (lt-ltb value 255 h)
ended_behind (suc n) value h =
    sum_by-cons (λ v. cond (nat_lt v 255) 1 0) 255 (replicate n 255 ++ value ∷ []) ∙ omega (arith, ended_behind n value h)

ended_one : (n : ℕ) → packets_ended (lacing_of n) ≡ 1
unfolding lacing_of
ended_one n = ended_behind (n / 255) (n % 255) (omega arith)

-- ---- its page
page_is : (serial sequence flags : ℕ) (item : Timed) → length item.packet ≤ longest_whole →
    next_page serial sequence flags 0 (item ∷ []) ≡ whole_page serial sequence flags item
page_is serial sequence flags item h =
    let run : List Timed = item ∷ [] in
    let values : next_values 0 run ≡ lace item.packet = own_values item h in
    let page : ℕ → ℕ → List ℕ → List ℕ → Page = λ f p l b. record { flags = f; position = p; serial = serial; sequence = sequence; lacing = l; body = b } in
    let position : position_of (packets_ended (next_values 0 run)) run ≡ item.position =
    ap (λ n. position_of n run) (ap packets_ended values ∙ ended_one (length item.packet)) in
    let body : take (sum (next_values 0 run)) (run_bytes run) ≡ item.packet =
    ap (λ n. take n (run_bytes run)) (ap sum values ∙ sum-lacing_of (length item.packet))
    ∙ ap (take (length item.packet)) (one_bytes item) ∙ take_all (length item.packet) item.packet (omega arith) in
    ap (λ f. page f (position_of (packets_ended (next_values 0 run)) run) (next_values 0 run) (take (sum (next_values 0 run)) (run_bytes run)))
    (let e : 0 + flags ≡ flags = omega arith in e)
    ∙ ap (λ p. page flags p (next_values 0 run) (take (sum (next_values 0 run)) (run_bytes run))) position
    ∙ ap (λ b. page flags item.position (next_values 0 run) b) body
    ∙ ap (λ l. page flags item.position l item.packet) values

-- the pages of such a run are this one
pub one_page : (serial sequence flags : ℕ) (item : Timed) → length item.packet ≤ longest_whole →
    flagged flags (pages_of_run serial sequence (item ∷ [])) ≡ whole_page serial sequence flags item ∷ []
one_page serial sequence flags item h =
    let run : List Timed = item ∷ [] in
    let pages : List Page = flagged flags (pages_of_run serial sequence run) in
    next_at_place serial sequence flags 0 0 run run (at_start run) (omega (arith, one_page_for item h)) sequence flags run (sym (add-zero sequence)) refl refl
    ∙ ap (λ l. next_page serial sequence flags 0 run ∷ l) (drop_past 1 pages (omega (arith, count_of_pages serial sequence flags run, one_page_for item h)))
    ∙ ap (λ p. p ∷ []) (page_is serial sequence flags item h)

-- the same of a run that is this packet
pub written_whole : (serial sequence flags : ℕ) (run : List Timed) (item : Timed) → run ≡ item ∷ [] → length item.packet ≤ longest_whole →
    page_bytes (whole_page serial sequence flags item) ≡ bytes_of_pages (flagged flags (pages_of_run serial sequence run))
written_whole serial sequence flags run item is h =
    sym (ap (λ (l : List Timed). bytes_of_pages (flagged flags (pages_of_run serial sequence l))) is
    ∙ ap bytes_of_pages (one_page serial sequence flags item h)
    ∙ append-nil (page_bytes (whole_page serial sequence flags item)))

pub counted_whole : (run : List Timed) (item : Timed) → run ≡ item ∷ [] → length item.packet ≤ longest_whole → 1 ≡ pages_for (length (run_lacing run))
counted_whole run item is h = sym (ap (λ (l : List Timed). pages_for (length (run_lacing l))) is ∙ one_page_for item h)

pub sized_whole : (serial sequence flags : ℕ) (run : List Timed) (item : Timed) → run ≡ item ∷ [] → length item.packet ≤ longest_whole →
    page_size (whole_page serial sequence flags item) ≡ size_for (length (run_lacing run)) (length (run_bytes run))
sized_whole serial sequence flags run item is h =
    let page : Page = whole_page serial sequence flags item in
    let one : sum_by page_size (page ∷ []) ≡ page_size page = sum_by-cons page_size page [] ∙ add-zero (page_size page) in
    sym one
    ∙ sym (ap (sum_by page_size) (one_page serial sequence flags item h))
    ∙ ap (λ (l : List Timed). sum_by page_size (flagged flags (pages_of_run serial sequence l))) (sym is)
    ∙ flagged_size flags (pages_of_run serial sequence run) ∙ run_bytes_all serial sequence run

-- ---- a run of one
pub one_of : {X : Type 0} (f : X → Timed) (xs : List X) (x : X) → length xs ≡ 1 → x ≡ get_or xs 0 x → map f xs ≡ f x ∷ []
one_of f [] x n is = absurd (omega (arith, n))
one_of f (y ∷ []) x n is = ap (λ (z : _). f z ∷ []) (sym is)
one_of f (y ∷ z ∷ xs) x n is = absurd (omega (arith, n))

-- ---- its lacing values
-- those of a packet shorter than a whole segment
pub short_values : (n : ℕ) → n < 255 → n ∷ [] ≡ lacing_of n
short_values n h = sym (small_lacing n h)

-- as many full ones as there are whole segments, and then the rest
pub values_are : (n : ℕ) → replicate (n / 255) 255 ++ n % 255 ∷ [] ≡ lacing_of n
unfolding lacing_of
values_are n = refl

take_same : (k n value : ℕ) → k ≤ n → take {A = ℕ} k (replicate n value) ≡ replicate k value
take_same zero n value h = refl
take_same (suc k) zero value h = absurd (omega (arith, h))
take_same (suc k) (suc n) value h = ap (λ l. value ∷ l) (take_same k n value (omega (arith, h)))

-- the values of a whole packet, written over full ones
pub long_values : (n full : ℕ) (values : List ℕ) → full ≡ n / 255 → n ≤ longest_whole →
    values ≡ take (full + 1) (set (replicate 255 255) full (n % 255)) → values ≡ lacing_of n
long_values n full values f h is =
    is ∙ take_more_set (replicate 255 255) full (n % 255) (omega (arith, f, h, length-replicate {A = ℕ} 255 255))
    ∙ ap (λ l. l ++ n % 255 ∷ []) (take_same full 255 255 (omega (arith, f, h)))
    ∙ ap (λ k. replicate k 255 ++ n % 255 ∷ []) f ∙ values_are n

-- ---- the page that is written
pub page_written : (head : PageHead) (values body : List ℕ) (item : Timed) → head.position ≡ item.position → body ≡ item.packet → values ≡ lacing_of (length body) →
    page_of head values body ≡ whole_page head.serial head.sequence head.flags item
page_written head values body item p b v =
    let page : ℕ → List ℕ → List ℕ → Page = λ n l x. record { flags = head.flags; position = n; serial = head.serial; sequence = head.sequence; lacing = l; body = x } in
    ap (λ n. page n values body) p ∙ ap (λ x. page item.position values x) b ∙ ap (λ l. page item.position l item.packet) (v ∙ ap (λ x. lacing_of (length x)) b)

pub size_written : (serial sequence flags : ℕ) (values body : List ℕ) (item : Timed) → body ≡ item.packet → values ≡ lacing_of (length body) →
    27 + length values + length body ≡ page_size (whole_page serial sequence flags item)
size_written serial sequence flags values body item b v =
    ap (λ l. 27 + length l + length body) (v ∙ ap (λ x. lacing_of (length x)) b) ∙ ap (λ x. 27 + length (lace item.packet) + length x) b

pub sum_written : (values body : List ℕ) → values ≡ lacing_of (length body) → sum values ≡ length body
sum_written values body v = ap sum v ∙ sum-lacing_of (length body)
