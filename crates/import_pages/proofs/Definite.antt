-- What is wrong with bytes, and isn't want of bytes, stays wrong, whatever follows.
use Rattle.std.proofs.Common.{◌≡◌, ◌≢◌, ℕ, ◌+◌, ◌-◌, ◌*◌, ◌<◌, ◌≤◌, Bool, true, false, not, List, ◌++◌, length, take, drop, sum, refl, sym, ◌∙◌, ap, arith, length-append, length-take, Result, Ok, Err}
use Rattle.std.specs.Prelude.{nat_eq, nat_lt, if◌then◌else◌, codes, slice_index}
use Rattle.std.specs.List.{starts_with}
use Rattle.std.proofs.lemmas.Bool.{le-ltb, ltb-true, ltb-false}
use Rattle.std.proofs.lemmas.List.{length-drop, take-append-le, drop-append-le, get_or_append_left}
use Rattle.byteorder.specs.Endian.{little_number}
use Rattle.page_checksum.specs.Checksum.{checksum_of}
use Rattle.ogg_page.specs.Page.{Page, AreBytes}
use Rattle.ogg_page.specs.Reading.{page_at, fields_at, lacing_at, behind_lacing, size_at, blanked}
use Rattle.ogg_page.specs.declared.fault.PageFault.{PageFault}
use Rattle.ogg_page.specs.declared.fault.PageFault.TheVariants.{Short, Pattern, Version, Checksum}
use Rattle.ogg_page.specs.Laws.ReadAgain.{drop_bytes}
use Rattle.ogg_page.specs.Laws.Sight.{number_in_front, pattern_in_front, sum_small, take_bytes}

-- the tests that a reading makes, in their order
judged : Bool → Bool → Bool → Bool → Bool → Bool → Page → Result Page PageFault
judged fixed pattern version table body checksum page =
    if fixed then Err Short
    else (if pattern then Err Pattern
    else (if version then Err Version
    else (if table then Err Short
    else (if body then Err Short
    else (if checksum then Err Checksum
    else Ok page)))))

abbrev no_pattern : List ℕ → Bool
no_pattern bytes = not (starts_with nat_eq bytes (codes "OggS"))

abbrev no_version : List ℕ → Bool
no_version bytes = not (nat_eq (slice_index bytes 4) 0)

abbrev no_table : List ℕ → Bool
no_table bytes = nat_lt (length bytes) (27 + slice_index bytes 26)

abbrev no_body : List ℕ → Bool
no_body bytes = nat_lt (length (behind_lacing bytes)) (sum (lacing_at bytes))

abbrev no_checksum : List ℕ → Bool
no_checksum bytes = not (nat_eq (little_number 4 (drop 22 bytes)) (checksum_of (blanked (take (size_at bytes) bytes))))

as_tests : (bytes : List ℕ) →
    page_at bytes ≡ judged (nat_lt (length bytes) 27) (no_pattern bytes) (no_version bytes) (no_table bytes) (no_body bytes) (no_checksum bytes) (fields_at bytes)
unfolding page_at judged
as_tests bytes = refl

-- the head at the front is the same in these bytes and in all of them
record SameHead (front all : List ℕ) : Type 0 where
  fixed : nat_lt (length all) 27 ≡ false
  pattern : no_pattern all ≡ no_pattern front
  version : no_version all ≡ no_version front

same_head : (front back : List ℕ) → nat_lt (length front) 27 ≡ false → SameHead front (front ++ back)
same_head front back is =
    let long : 27 ≤ length front = ltb-false (length front) 27 is in
    record {
      fixed = le-ltb (length (front ++ back)) 27 (omega (arith, long, length-append front back));
      pattern = ap not (pattern_in_front front back (omega (arith, long)));
      version = ap (λ n. not (nat_eq n 0)) (get_or_append_left front back 0 4 (omega (arith, long)));
    }

-- the same of a page's body
record SameBody (front all : List ℕ) : Type 0 where
  table : no_table all ≡ false
  body : no_body all ≡ false
  checksum : no_checksum all ≡ no_checksum front

same_body : (front back : List ℕ) → nat_lt (length front) 27 ≡ false → no_table front ≡ false → no_body front ≡ false → SameBody front (front ++ back)
same_body front back fixed table_there body_there =
    let bytes : List ℕ = front ++ back in
    let k : ℕ = slice_index front 26 in
    let long : 27 ≤ length front = ltb-false (length front) 27 fixed in
    let table_long : 27 + k ≤ length front = ltb-false (length front) (27 + k) table_there in
    let body_long : sum (lacing_at front) ≤ length (behind_lacing front) = ltb-false (length (behind_lacing front)) (sum (lacing_at front)) body_there in
    let longer : length bytes ≡ length front + length back = length-append front back in
    let tail : drop 27 bytes ≡ drop 27 front ++ back = drop-append-le 27 front back long in
    let tail_long : length (drop 27 front) ≡ length front - 27 = length-drop 27 front in
    let at_26 : slice_index bytes 26 ≡ k = get_or_append_left front back 0 26 (omega (arith, long)) in
    let table : lacing_at bytes ≡ lacing_at front =
    ap (λ n. take n (drop 27 bytes)) at_26 ∙ ap (take k) tail ∙ take-append-le k (drop 27 front) back (omega (arith, table_long, tail_long)) in
    let behind : behind_lacing bytes ≡ behind_lacing front ++ back =
    ap (λ n. drop n (drop 27 bytes)) at_26 ∙ ap (drop k) tail ∙ drop-append-le k (drop 27 front) back (omega (arith, table_long, tail_long)) in
    let behind_long : length (behind_lacing front) ≡ length (drop 27 front) - k = length-drop k (drop 27 front) in
    let size : size_at bytes ≡ size_at front = ap (λ n. 27 + n + sum (lacing_at bytes)) at_26 ∙ ap (λ l. 27 + k + sum l) table in
    let whole : take (size_at bytes) bytes ≡ take (size_at front) front =
    ap (λ n. take n bytes) size ∙ take-append-le (size_at front) front back (omega (arith, table_long, tail_long, behind_long, body_long)) in
    let number : little_number 4 (drop 22 bytes) ≡ little_number 4 (drop 22 front) =
    ap (little_number 4) (drop-append-le 22 front back (omega (arith, long))) ∙ number_in_front (drop 22 front) back (omega (arith, long, length-drop 22 front)) in
    record {
      table = le-ltb (length bytes) (27 + slice_index bytes 26) (omega (arith, longer, at_26, table_long));
      body = le-ltb (length (behind_lacing bytes)) (sum (lacing_at bytes))
          (omega (arith, body_long, ap length behind, length-append (behind_lacing front) back, ap sum table));
      checksum = ap (λ n. not (nat_eq n (checksum_of (blanked (take (size_at bytes) bytes))))) number
          ∙ ap (λ l. not (nat_eq (little_number 4 (drop 22 front)) (checksum_of (blanked l)))) whole;
    }

some_fault : (fault other : PageFault) (r : Result Page PageFault) → r ≡ Err other → r ≡ Err fault → other ≡ fault
some_fault fault other r e f = cc

by_tests : (a b c d e f : Bool) (front all : List ℕ) (p q : Page) (fault : PageFault) → fault ≢ Short →
    (a ≡ false → (nat_lt (length all) 27 ≡ false) × (no_pattern all ≡ b) × (no_version all ≡ c)) →
    (a ≡ false → d ≡ false → e ≡ false → (no_table all ≡ false) × (no_body all ≡ false) × (no_checksum all ≡ f)) →
    judged a b c d e f p ≡ Err fault →
    judged (nat_lt (length all) 27) (no_pattern all) (no_version all) (no_table all) (no_body all) (no_checksum all) q ≡ Err fault
unfolding judged
by_tests true b c d e f front all p q fault other head body is = absurd (other (sym (some_fault fault Short _ refl is)))
by_tests false true c d e f front all p q fault other head body is =
    let (fixed, pattern, version) = head refl in rw fixed (rw pattern is)
by_tests false false true d e f front all p q fault other head body is =
    let (fixed, pattern, version) = head refl in rw fixed (rw pattern (rw version is))
by_tests false false false true e f front all p q fault other head body is = absurd (other (sym (some_fault fault Short _ refl is)))
by_tests false false false false true f front all p q fault other head body is = absurd (other (sym (some_fault fault Short _ refl is)))
by_tests false false false false false true front all p q fault other head body is =
    let (fixed, pattern, version) = head refl in
    let (table, whole, checksum) = body refl refl refl in
    rw fixed (rw pattern (rw version (rw table (rw whole (rw checksum is)))))
by_tests false false false false false false front all p q fault other head body is = absurd (ok_err p fault is)
  where
    ok_err : (p : Page) (fault : PageFault) → (let r : Result Page PageFault = Ok p in r) ≡ Err fault → ⊥
    ok_err p fault e = cc

pub fault_stays : (front back : List ℕ) (fault : PageFault) → fault ≢ Short → page_at front ≡ Err fault → page_at (front ++ back) ≡ Err fault
fault_stays front back fault other is =
    as_tests (front ++ back)
    ∙ by_tests (nat_lt (length front) 27) (no_pattern front) (no_version front) (no_table front) (no_body front) (no_checksum front) front (front ++ back)
    (fields_at front) (fields_at (front ++ back)) fault other
    (λ fixed. let same = same_head front back fixed in (same.fixed, same.pattern, same.version))
    (λ fixed table body. let same = same_body front back fixed table body in (same.table, same.body, same.checksum))
    (sym (as_tests front) ∙ is)

-- bytes that are too few are fewer than the longest page's
short_by : (a b c d e f : Bool) (p : Page) (n k s m : ℕ) → (a ≡ true → n < 27) → (d ≡ true → n < 27 + k) → (a ≡ false → d ≡ false → e ≡ true → m < s) →
    k < 256 → (27 + k ≤ n → m ≡ n - 27 - k) → s ≤ 65025 → judged a b c d e f p ≡ Err Short → n < 65307
unfolding judged
short_by true b c d e f p n k s m ha hd he hk hm hs is = omega (arith, ha refl)
short_by false true c d e f p n k s m ha hd he hk hm hs is = cc
short_by false false true d e f p n k s m ha hd he hk hm hs is = cc
short_by false false false true e f p n k s m ha hd he hk hm hs is = omega (arith, hd refl, hk)
short_by false false false false true f p n k s m ha hd he hk hm hs is = by_length (nat_lt n (27 + k)) refl
  where
    by_length : (shorter : Bool) → nat_lt n (27 + k) ≡ shorter → n < 65307
    by_length true less = omega (arith, ltb-true n (27 + k) less, hk)
    by_length false less = omega (arith, hm (ltb-false n (27 + k) less), he refl refl refl, hs, hk, ltb-false n (27 + k) less)
short_by false false false false false true p n k s m ha hd he hk hm hs is = cc
short_by false false false false false false p n k s m ha hd he hk hm hs is = cc

pub short_is_small : (bytes : List ℕ) → AreBytes bytes → page_at bytes ≡ Err Short → length bytes < 65307
short_is_small bytes small is =
    let k : ℕ = slice_index bytes 26 in
    let tail : List ℕ = drop 27 bytes in
    let few : length (take k tail) ≤ k = length-take-most k tail in
    let sum_is : sum (lacing_at bytes) ≤ 255 * length (lacing_at bytes) = sum_small (lacing_at bytes) (take_bytes k tail (drop_bytes 27 bytes small)) in
    let k_small : k < 256 = small 26 in
    short_by (nat_lt (length bytes) 27) (no_pattern bytes) (no_version bytes) (no_table bytes) (no_body bytes) (no_checksum bytes) (fields_at bytes)
    (length bytes) k (sum (lacing_at bytes)) (length (behind_lacing bytes))
    (ltb-true (length bytes) 27)
    (ltb-true (length bytes) (27 + k))
    (λ a d e. ltb-true (length (behind_lacing bytes)) (sum (lacing_at bytes)) e)
    k_small
    (λ long. length-drop k tail ∙ ap (λ n. n - k) (length-drop 27 bytes))
    (omega (arith, few, sum_is, k_small))
    (sym (as_tests bytes) ∙ is)
  where
    length-take-most : (k : ℕ) (xs : List ℕ) → length (take k xs) ≤ k
    length-take-most k xs = omega (arith, length-take {A = ℕ} k xs)
