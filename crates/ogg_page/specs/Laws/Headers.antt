-- The header of a page, and the page.
use Rattle.std.proofs.Common.{◌≡◌, ◌≢◌, ℕ, ◌+◌, ◌<◌, ◌≤◌, Bool, true, false, not, List, length, take, drop, sum, refl, sym, ◌∙◌, ap, arith, length-drop, Result, Ok, Err}
use Rattle.std.specs.Prelude.{nat_eq, nat_lt, if◌then◌else◌, codes, slice_index}
use Rattle.std.specs.List.{starts_with}
use Rattle.std.proofs.lemmas.Bool.{le-ltb, lt-ltb, ltb-false, eq-eqb, ne_eqb}
use Rattle.byteorder.specs.Endian.{little_number}
use Rattle.page_checksum.specs.Checksum.{checksum_of}
use Rattle.ogg_page.specs.Page.{Page}
use Rattle.ogg_page.specs.Reading.{page_at, header_at, head_at, fields_at, lacing_at, behind_lacing, size_at, blanked}
use Rattle.ogg_page.specs.declared.fault.PageFault.{PageFault}
use Rattle.ogg_page.specs.declared.fault.PageFault.TheVariants.{Short, Pattern, Version, Checksum}
use Rattle.ogg_page.specs.declared.head.PageHeader.{PageHeader}

-- the first tests of a reading, in their order, and then what is left
header_tests : {A : Type 0} → Bool → Bool → Bool → Bool → Result A PageFault → Result A PageFault
header_tests fixed pattern version table then_so =
    if fixed then Err Short
    else (if pattern then Err Pattern
    else (if version then Err Version
    else (if table then Err Short
    else then_so)))

-- what is left of a page whose header is there
abbrev pub behind_header : List ℕ → Result Page PageFault
behind_header bytes =
    if nat_lt (length (behind_lacing bytes)) (sum (lacing_at bytes)) then Err Short
    else (if not (nat_eq (little_number 4 (drop 22 bytes)) (checksum_of (blanked (take (size_at bytes) bytes)))) then Err Checksum
    else Ok (fields_at bytes))

-- what the header says of the page
pub record IsHeaderOf (bytes : List ℕ) (header : PageHeader) : Type 0 where
  pub head : header.head ≡ head_at bytes
  pub checksum : header.checksum ≡ little_number 4 (drop 22 bytes)
  pub values : header.values ≡ slice_index bytes 26
  pub body : header.body ≡ sum (lacing_at bytes)
  pub table : 27 + slice_index bytes 26 ≤ length bytes
  pub rest : page_at bytes ≡ behind_header bytes

passed : (a b c d : Bool) (x : Result Page PageFault) (h found : PageHeader) → header_tests a b c d (Ok h) ≡ Ok found
    → (d ≡ false) × (h ≡ found) × (header_tests a b c d x ≡ x)
unfolding header_tests
passed true b c d x h found is = (cc, cc, cc)
passed false true c d x h found is = (cc, cc, cc)
passed false false true d x h found is = (cc, cc, cc)
passed false false false true x h found is = (cc, cc, cc)
passed false false false false x h found is = (refl, cc, refl)

refused : (a b c d : Bool) (x : Result Page PageFault) (h : PageHeader) (fault : PageFault) → header_tests a b c d (Ok h) ≡ Err fault
    → header_tests a b c d x ≡ Err fault
unfolding header_tests
refused true b c d x h fault is = cc
refused false true c d x h fault is = cc
refused false false true d x h fault is = cc
refused false false false true x h fault is = cc
refused false false false false x h fault is = cc

-- if its header is there, its body and its checksum decide
pub header_found : (bytes : List ℕ) (header : PageHeader) → header_at bytes ≡ Ok header → IsHeaderOf bytes header
unfolding page_at header_at header_tests
header_found bytes header is =
    let p = passed (nat_lt (length bytes) 27) (not (starts_with nat_eq bytes (codes "OggS"))) (not (nat_eq (slice_index bytes 4) 0))
    (nat_lt (length bytes) (27 + slice_index bytes 26)) (behind_header bytes)
    (record { head = head_at bytes; checksum = little_number 4 (drop 22 bytes); values = slice_index bytes 26; body = sum (lacing_at bytes) }) header is in
    record {
      head = sym (ap (λ h. h.head) p.1);
      checksum = sym (ap (λ h. h.checksum) p.1);
      values = sym (ap (λ h. h.values) p.1);
      body = sym (ap (λ h. h.body) p.1);
      table = ltb-false (length bytes) (27 + slice_index bytes 26) p.0;
      rest = p.2;
    }

-- a fault of the header is the page's
pub header_fault : (bytes : List ℕ) (fault : PageFault) → header_at bytes ≡ Err fault → page_at bytes ≡ Err fault
unfolding page_at header_at header_tests
header_fault bytes fault is =
    refused (nat_lt (length bytes) 27) (not (starts_with nat_eq bytes (codes "OggS"))) (not (nat_eq (slice_index bytes 4) 0))
    (nat_lt (length bytes) (27 + slice_index bytes 26)) (behind_header bytes)
    (record { head = head_at bytes; checksum = little_number 4 (drop 22 bytes); values = slice_index bytes 26; body = sum (lacing_at bytes) }) fault is

-- how many bytes are behind the header
pub bytes_behind : (bytes : List ℕ) → 27 + slice_index bytes 26 ≤ length bytes → 27 + slice_index bytes 26 + length (behind_lacing bytes) ≡ length bytes
bytes_behind bytes table = omega (arith, table, length-drop (slice_index bytes 26) (drop 27 bytes), length-drop 27 bytes)

-- the page is refused whose body isn't whole
pub body_is_short : (bytes : List ℕ) (header : PageHeader) → IsHeaderOf bytes header → length bytes < 27 + header.values + header.body → page_at bytes ≡ Err Short
body_is_short bytes header is short =
    is.rest ∙ ap (λ t. if t then Err Short else (if not (nat_eq (little_number 4 (drop 22 bytes)) (checksum_of (blanked (take (size_at bytes) bytes)))) then Err Checksum else Ok (fields_at bytes)))
    (lt-ltb (length (behind_lacing bytes)) (sum (lacing_at bytes)) (omega (arith, short, is.values, is.body, bytes_behind bytes is.table)))

-- the page that is whole is decided by its checksum
checksum_decides : (bytes : List ℕ) (header : PageHeader) (right : Bool) → IsHeaderOf bytes header → 27 + header.values + header.body ≤ length bytes
    → nat_eq header.checksum (checksum_of (blanked (take (27 + header.values + header.body) bytes))) ≡ right
    → page_at bytes ≡ (if not right then Err Checksum else Ok (fields_at bytes))
checksum_decides bytes header right is whole told =
    is.rest ∙ ap (λ t. if t then Err Short else (if not (nat_eq (little_number 4 (drop 22 bytes)) (checksum_of (blanked (take (size_at bytes) bytes)))) then Err Checksum else Ok (fields_at bytes)))
    (le-ltb (length (behind_lacing bytes)) (sum (lacing_at bytes)) (omega (arith, whole, is.values, is.body, bytes_behind bytes is.table)))
    ∙ ap (λ n. if not (nat_eq n (checksum_of (blanked (take (size_at bytes) bytes)))) then Err Checksum else Ok (fields_at bytes)) (sym is.checksum)
    ∙ ap (λ n. if not (nat_eq header.checksum (checksum_of (blanked (take n bytes)))) then Err Checksum else Ok (fields_at bytes))
    (let size : 27 + slice_index bytes 26 + sum (lacing_at bytes) ≡ 27 + header.values + header.body = omega (arith, is.values, is.body) in size)
    ∙ ap (λ t. if not t then Err Checksum else Ok (fields_at bytes)) told

pub checksum_is_wrong : (bytes : List ℕ) (header : PageHeader) → IsHeaderOf bytes header → 27 + header.values + header.body ≤ length bytes
    → header.checksum ≢ checksum_of (blanked (take (27 + header.values + header.body) bytes)) → page_at bytes ≡ Err Checksum
checksum_is_wrong bytes header is whole wrong = checksum_decides bytes header false is whole (ne_eqb _ _ wrong)

pub page_is_right : (bytes : List ℕ) (header : PageHeader) → IsHeaderOf bytes header → 27 + header.values + header.body ≤ length bytes
    → header.checksum ≡ checksum_of (blanked (take (27 + header.values + header.body) bytes)) → page_at bytes ≡ Ok (fields_at bytes)
page_is_right bytes header is whole right = checksum_decides bytes header true is whole (eq-eqb _ _ right)

not_short : (b : Bool) (page : Page) → (if b then Err Checksum else (let r : Result Page PageFault = Ok page in r)) ≢ Err Short
not_short true page is = cc
not_short false page is = cc

-- a page whose bytes are all there isn't refused for want of bytes
pub whole_is_not_short : (bytes : List ℕ) (header : PageHeader) → IsHeaderOf bytes header → 27 + header.values + header.body ≤ length bytes
    → page_at bytes ≢ Err Short
whole_is_not_short bytes header is whole short =
    let right : Bool = nat_eq header.checksum (checksum_of (blanked (take (27 + header.values + header.body) bytes))) in
    not_short (not right) (fields_at bytes) (sym (checksum_decides bytes header right is whole refl) ∙ short)
