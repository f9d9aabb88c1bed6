-- What stands at a place shows in its first 65,307 bytes.
use Rattle.std.proofs.Common.{◌≡◌, ◌≢◌, ℕ, zero, suc, ◌+◌, ◌-◌, ◌*◌, ◌<◌, ◌≤◌, Bool, true, false, not, List, [], ◌∷◌, ◌++◌, length, take, drop, sum, refl, sym, ◌∙◌, ap, arith, append_assoc, length-append, Result, Ok, Err}
use Rattle.std.specs.Prelude.{nat_eq, nat_lt, if◌then◌else◌, codes, slice_index}
use Rattle.std.specs.List.{starts_with}
use Rattle.std.proofs.lemmas.Bool.{le-ltb, ltb-true, ltb-false}
use Rattle.std.proofs.lemmas.List.{take-append-drop, length-take-le, length-drop, take_all, take-append-le, drop-append-le, get_or_append_left}
use Rattle.std.proofs.lemmas.Grind.{common_steps}
use Rattle.byteorder.specs.Endian.{little_number}
use Rattle.page_checksum.specs.Checksum.{checksum_of}
use Rattle.ogg_page.specs.Page.{Page, IsPage, AreBytes, page_bytes}
use Rattle.ogg_page.specs.Reading.{page_at, fields_at, lacing_at, behind_lacing, size_at, blanked}
use Rattle.ogg_page.specs.declared.fault.PageFault.{PageFault}
use Rattle.ogg_page.specs.declared.fault.PageFault.TheVariants.{Short, Pattern, Version, Checksum}
use Rattle.ogg_page.specs.Laws.ReadAgain.{read_is_page, page_is_read, drop_bytes}

-- a page in front is read, whatever follows
pub page_stays : (front back : List ℕ) (page : Page) → AreBytes front → page_at front ≡ Ok page → page_at (front ++ back) ≡ Ok page
page_stays front back page h e =
    let both = read_is_page front page h e in
    let rest : List ℕ = drop (sum page.lacing) (drop (length page.lacing) (drop 27 front)) in
    ap (λ l. page_at (l ++ back)) both.1
    ∙ ap page_at (append_assoc (page_bytes page) rest back)
    ∙ page_is_read page (rest ++ back) both.0

-- the tests that a reading makes, in their order
judged : Bool → Bool → Bool → Bool → Bool → Bool → Page → Result Page PageFault
judged fixed pattern version table body checksum page =
    if fixed then Err Short
    else (if pattern then Err Pattern
    else (if version then Err Version
    else (if table then Err Short
    else (if body then Err Short
    else (if checksum then Err Checksum
    else Ok page)))))

tests_of : List ℕ → Page → Result Page PageFault
tests_of bytes page =
    judged (nat_lt (length bytes) 27) (not (starts_with nat_eq bytes (codes "OggS"))) (not (nat_eq (slice_index bytes 4) 0))
    (nat_lt (length bytes) (27 + slice_index bytes 26)) (nat_lt (length (behind_lacing bytes)) (sum (lacing_at bytes)))
    (not (nat_eq (little_number 4 (drop 22 bytes)) (checksum_of (blanked (take (size_at bytes) bytes))))) page

as_tests : (bytes : List ℕ) → page_at bytes ≡ tests_of bytes (fields_at bytes)
unfolding page_at judged tests_of
as_tests bytes = refl

-- a fault doesn't depend on the page's fields
same_fault : (a b c d e f : Bool) (p q : Page) (fault : PageFault) → judged a b c d e f p ≡ Err fault → judged a b c d e f q ≡ Err fault
unfolding judged
same_fault true b c d e f p q fault is = is
same_fault false true c d e f p q fault is = is
same_fault false false true d e f p q fault is = is
same_fault false false false true e f p q fault is = is
same_fault false false false false true f p q fault is = is
same_fault false false false false false true p q fault is = is
same_fault false false false false false false p q fault is = cc

pub pattern_in_front : (front back : List ℕ) → 4 ≤ length front → starts_with nat_eq (front ++ back) (codes "OggS") ≡ starts_with nat_eq front (codes "OggS")
pattern_in_front [] back l = absurd (omega arith)
pattern_in_front (a ∷ []) back l = absurd (omega arith)
pattern_in_front (a ∷ b ∷ []) back l = absurd (omega arith)
pattern_in_front (a ∷ b ∷ c ∷ []) back l = absurd (omega arith)
pattern_in_front (a ∷ b ∷ c ∷ d ∷ front) back l = refl

pub number_in_front : (front back : List ℕ) → 4 ≤ length front → little_number 4 (front ++ back) ≡ little_number 4 front
number_in_front [] back l = absurd (omega arith)
number_in_front (a ∷ []) back l = absurd (omega arith)
number_in_front (a ∷ b ∷ []) back l = absurd (omega arith)
number_in_front (a ∷ b ∷ c ∷ []) back l = absurd (omega arith)
number_in_front (a ∷ b ∷ c ∷ d ∷ front) back l = refl

-- what bytes add up to is at most 255 for each of them
pub sum_small : (bytes : List ℕ) → AreBytes bytes → sum bytes ≤ 255 * length bytes
sum_small [] h = omega arith
sum_small (a ∷ bytes) h =
    let first : a < 256 = h 0 in
    let more : sum bytes ≤ 255 * length bytes = sum_small bytes (λ i. h (suc i)) in
    let all : sum (a ∷ bytes) ≡ a + sum bytes = grind (arith, common_steps) in
    omega (arith, first, more, all)

pub take_bytes : (k : ℕ) (bytes : List ℕ) → AreBytes bytes → AreBytes (take k bytes)
take_bytes zero bytes h i = omega arith
take_bytes (suc k) [] h i = omega arith
take_bytes (suc k) (x ∷ bytes) h zero = h 0
take_bytes (suc k) (x ∷ bytes) h (suc i) = take_bytes k bytes (λ j. h (suc j)) i

-- bytes that are as long as the longest page show what stands in front
pub fault_stays : (front back : List ℕ) (fault : PageFault) → AreBytes front → 65307 ≤ length front → page_at front ≡ Err fault → page_at (front ++ back) ≡ Err fault
unfolding tests_of
fault_stays front back fault h long e =
    let bytes : List ℕ = front ++ back in
    let k : ℕ = slice_index front 26 in
    let small : k < 256 = h 26 in
    let longer : length bytes ≡ length front + length back = length-append front back in
    let tail : drop 27 bytes ≡ drop 27 front ++ back = drop-append-le 27 front back (omega (arith, long)) in
    let tail_long : length (drop 27 front) ≡ length front - 27 = length-drop 27 front in
    let at_4 : slice_index bytes 4 ≡ slice_index front 4 = get_or_append_left front back 0 4 (omega (arith, long)) in
    let at_26 : slice_index bytes 26 ≡ k = get_or_append_left front back 0 26 (omega (arith, long)) in
    let table : lacing_at bytes ≡ lacing_at front =
    ap (λ n. take n (drop 27 bytes)) at_26 ∙ ap (take k) tail ∙ take-append-le k (drop 27 front) back (omega (arith, long, tail_long, small)) in
    let behind : behind_lacing bytes ≡ behind_lacing front ++ back =
    ap (λ n. drop n (drop 27 bytes)) at_26 ∙ ap (drop k) tail ∙ drop-append-le k (drop 27 front) back (omega (arith, long, tail_long, small)) in
    let behind_long : length (behind_lacing front) ≡ length (drop 27 front) - k = length-drop k (drop 27 front) in
    let table_long : length (lacing_at front) ≡ k = length-take-le k (drop 27 front) (omega (arith, long, tail_long, small)) in
    let body_small : sum (lacing_at front) ≤ 255 * length (lacing_at front) = sum_small (lacing_at front) (take_bytes k (drop 27 front) (drop_bytes 27 front h)) in
    let size : size_at bytes ≡ size_at front = ap (λ n. 27 + n + sum (lacing_at bytes)) at_26 ∙ ap (λ l. 27 + k + sum l) table in
    let whole : take (size_at bytes) bytes ≡ take (size_at front) front =
    ap (λ n. take n bytes) size ∙ take-append-le (size_at front) front back (omega (arith, long, small, table_long, body_small)) in
    let number : little_number 4 (drop 22 bytes) ≡ little_number 4 (drop 22 front) =
    ap (little_number 4) (drop-append-le 22 front back (omega (arith, long))) ∙ number_in_front (drop 22 front) back (omega (arith, long, length-drop 22 front)) in
    let t1 : nat_lt (length bytes) 27 ≡ nat_lt (length front) 27 =
    le-ltb (length bytes) 27 (omega (arith, long, longer)) ∙ sym (le-ltb (length front) 27 (omega (arith, long))) in
    let t2 : not (starts_with nat_eq bytes (codes "OggS")) ≡ not (starts_with nat_eq front (codes "OggS")) = ap not (pattern_in_front front back (omega (arith, long))) in
    let t3 : not (nat_eq (slice_index bytes 4) 0) ≡ not (nat_eq (slice_index front 4) 0) = ap (λ n. not (nat_eq n 0)) at_4 in
    let t4 : nat_lt (length bytes) (27 + slice_index bytes 26) ≡ nat_lt (length front) (27 + k) =
    le-ltb (length bytes) (27 + slice_index bytes 26) (omega (arith, long, longer, at_26, small)) ∙ sym (le-ltb (length front) (27 + k) (omega (arith, long, small))) in
    let t5 : nat_lt (length (behind_lacing bytes)) (sum (lacing_at bytes)) ≡ nat_lt (length (behind_lacing front)) (sum (lacing_at front)) =
    le-ltb (length (behind_lacing bytes)) (sum (lacing_at bytes)) (omega (arith, long, small, tail_long, behind_long, table_long, body_small, ap length behind, length-append (behind_lacing front) back, ap sum table))
    ∙ sym (le-ltb (length (behind_lacing front)) (sum (lacing_at front)) (omega (arith, long, small, tail_long, behind_long, table_long, body_small))) in
    let t6 : not (nat_eq (little_number 4 (drop 22 bytes)) (checksum_of (blanked (take (size_at bytes) bytes))))
    ≡ not (nat_eq (little_number 4 (drop 22 front)) (checksum_of (blanked (take (size_at front) front)))) =
    ap (λ n. not (nat_eq n (checksum_of (blanked (take (size_at bytes) bytes))))) number
    ∙ ap (λ l. not (nat_eq (little_number 4 (drop 22 front)) (checksum_of (blanked l)))) whole in
    let a1 : Bool = nat_lt (length front) 27 in
    let a2 : Bool = not (starts_with nat_eq front (codes "OggS")) in
    let a3 : Bool = not (nat_eq (slice_index front 4) 0) in
    let a4 : Bool = nat_lt (length front) (27 + k) in
    let a5 : Bool = nat_lt (length (behind_lacing front)) (sum (lacing_at front)) in
    let a6 : Bool = not (nat_eq (little_number 4 (drop 22 front)) (checksum_of (blanked (take (size_at front) front)))) in
    let page : Page = fields_at bytes in
    as_tests bytes
    ∙ ap (λ t. judged t (not (starts_with nat_eq bytes (codes "OggS"))) (not (nat_eq (slice_index bytes 4) 0)) (nat_lt (length bytes) (27 + slice_index bytes 26)) (nat_lt (length (behind_lacing bytes)) (sum (lacing_at bytes))) (not (nat_eq (little_number 4 (drop 22 bytes)) (checksum_of (blanked (take (size_at bytes) bytes))))) page) t1
    ∙ ap (λ t. judged a1 t (not (nat_eq (slice_index bytes 4) 0)) (nat_lt (length bytes) (27 + slice_index bytes 26)) (nat_lt (length (behind_lacing bytes)) (sum (lacing_at bytes))) (not (nat_eq (little_number 4 (drop 22 bytes)) (checksum_of (blanked (take (size_at bytes) bytes))))) page) t2
    ∙ ap (λ t. judged a1 a2 t (nat_lt (length bytes) (27 + slice_index bytes 26)) (nat_lt (length (behind_lacing bytes)) (sum (lacing_at bytes))) (not (nat_eq (little_number 4 (drop 22 bytes)) (checksum_of (blanked (take (size_at bytes) bytes))))) page) t3
    ∙ ap (λ t. judged a1 a2 a3 t (nat_lt (length (behind_lacing bytes)) (sum (lacing_at bytes))) (not (nat_eq (little_number 4 (drop 22 bytes)) (checksum_of (blanked (take (size_at bytes) bytes))))) page) t4
    ∙ ap (λ t. judged a1 a2 a3 a4 t (not (nat_eq (little_number 4 (drop 22 bytes)) (checksum_of (blanked (take (size_at bytes) bytes))))) page) t5
    ∙ ap (λ t. judged a1 a2 a3 a4 a5 t page) t6
    ∙ same_fault a1 a2 a3 a4 a5 a6 (fields_at front) page fault (sym (as_tests front) ∙ e)

-- the same of the first bytes of a list: all of them, or as many as the longest page has
pub fault_in_front : (n : ℕ) (bytes : List ℕ) (fault : PageFault) → AreBytes (take n bytes) → 65307 ≤ n → page_at (take n bytes) ≡ Err fault → page_at bytes ≡ Err fault
fault_in_front n bytes fault h long e = by_length (nat_lt n (length bytes)) refl
  where
    by_length : (longer : Bool) → nat_lt n (length bytes) ≡ longer → page_at bytes ≡ Err fault
    by_length true is =
        let size : length (take n bytes) ≡ n = length-take-le n bytes (omega (arith, ltb-true n (length bytes) is)) in
        ap page_at (sym (take-append-drop n bytes)) ∙ fault_stays (take n bytes) (drop n bytes) fault h (omega (arith, size, long)) e
    by_length false is = ap page_at (sym (take_all n bytes (ltb-false n (length bytes) is))) ∙ e

-- and so is a page in them
pub page_in_front : (n : ℕ) (bytes : List ℕ) (page : Page) → AreBytes (take n bytes) → page_at (take n bytes) ≡ Ok page → page_at bytes ≡ Ok page
page_in_front n bytes page h e = ap page_at (sym (take-append-drop n bytes)) ∙ page_stays (take n bytes) (drop n bytes) page h e

-- so they show what stands there
pub shows_in_front : (n : ℕ) (bytes : List ℕ) → AreBytes (take n bytes) → 65307 ≤ n → page_at (take n bytes) ≡ page_at bytes
shows_in_front n bytes h long = by_read (page_at (take n bytes)) refl
  where
    by_read : (read : Result Page PageFault) → page_at (take n bytes) ≡ read → page_at (take n bytes) ≡ page_at bytes
    by_read (Ok page) e = e ∙ sym (page_in_front n bytes page h e)
    by_read (Err fault) e = e ∙ sym (fault_in_front n bytes fault h long e)

-- what is read stands there
pub found_there : (bytes : List ℕ) (page : Page) → AreBytes bytes → page_at bytes ≡ Ok page → IsPage page × (more : List ℕ) × (bytes ≡ page_bytes page ++ more)
found_there bytes page h e =
    let both = read_is_page bytes page h e in
    (both.0, drop (sum page.lacing) (drop (length page.lacing) (drop 27 bytes)), both.1)

pub no_page : (bytes : List ℕ) (fault : PageFault) → page_at bytes ≡ Err fault → (page : Page) (more : List ℕ) → IsPage page → bytes ≢ page_bytes page ++ more
no_page bytes fault f page more is e =
    let read : page_at bytes ≡ Ok page = ap page_at e ∙ page_is_read page more is in
    cc
