-- What the head of a record says of the bytes.
use Rattle.std.proofs.Common.{◌≡◌, ℕ, ◌<◌, ◌≤◌, ◌^◌, List, ◌∷◌, ◌++◌, length, refl, sym, ap, ◌∙◌, arith, length-append, Bool, None, Some, true, false}
use Rattle.std.specs.Prelude.{slice_index, nat_lt}
use Rattle.std.proofs.lemmas.Bool.{lt-ltb, le-ltb}
use Rattle.byteorder.specs.Numbers.{little_number-reads_back}
use Rattle.ogg_page.specs.Numbers.{u32_bytes}
use Rattle.feed_records.specs.Record.{most_payload}
use Rattle.feed_codec.specs.Feed.{is_kind, head_fault, payload_length}
use Rattle.feed_codec.specs.RecordKind.{number_of}
use Rattle.feed_codec.specs.declared.head.RecordKind.{RecordKind}
use Rattle.ogg_page.specs.Laws.NumberBytes.{length-u32_bytes}
use Rattle.feed_replies.specs.declared.fault.FeedFault.TheVariants.{Length}

fault_length : (first : Bool) (bytes : List ℕ) → 5 ≤ length bytes → is_kind first (slice_index bytes 0) ≡ true → most_payload < payload_length bytes → head_fault first bytes ≡ Some Length
fault_length first bytes l kind n =
    let long : nat_lt (length bytes) 5 ≡ false = le-ltb (length bytes) 5 l in
    let over : nat_lt most_payload (payload_length bytes) ≡ true = lt-ltb most_payload (payload_length bytes) n in
    rw (long, kind, over) refl

fault_none : (first : Bool) (bytes : List ℕ) → 5 ≤ length bytes → is_kind first (slice_index bytes 0) ≡ true → payload_length bytes ≤ most_payload → head_fault first bytes ≡ None
fault_none first bytes l kind n =
    let long : nat_lt (length bytes) 5 ≡ false = le-ltb (length bytes) 5 l in
    let within : nat_lt most_payload (payload_length bytes) ≡ false = le-ltb most_payload (payload_length bytes) n in
    rw (long, kind, within) refl

pub length_field : (number n : ℕ) (more : List ℕ) → n < 2 ^ 32 → payload_length (number ∷ (u32_bytes n ++ more)) ≡ n
unfolding u32_bytes
length_field number n more small = little_number-reads_back 4 n more small

-- if a kind and a length stand in front, and the length is within bounds, the head has no fault
pub head_is_fine : (first : Bool) (kind : RecordKind) (n : ℕ) (more : List ℕ) → is_kind first (number_of kind) ≡ true → n ≤ most_payload → head_fault first (number_of kind ∷ (u32_bytes n ++ more)) ≡ None
head_is_fine first kind n more named fits =
    let size = length_field (number_of kind) n more (omega (arith, fits)) in
    fault_none first (number_of kind ∷ (u32_bytes n ++ more)) (omega (arith, length-append (u32_bytes n) more, length-u32_bytes n)) named (omega (arith, size, fits))

pub head_is_long : (first : Bool) (bytes rest more : List ℕ) (kind : RecordKind) (number n : ℕ) → n < 2 ^ 32 → most_payload < n → number_of kind ≡ number → is_kind first number ≡ true → bytes ≡ number ∷ rest → rest ≡ u32_bytes n ++ more
    → head_fault first bytes ≡ Some Length
head_is_long first bytes rest more kind number n small over named is e f =
    let whole : bytes ≡ number_of kind ∷ (u32_bytes n ++ more) = e ∙ ap (λ k. k ∷ rest) (sym named) ∙ ap (λ l. number_of kind ∷ l) f in
    let size = length_field (number_of kind) n more small in
    ap (head_fault first) whole
    ∙ fault_length first (number_of kind ∷ (u32_bytes n ++ more)) (omega (arith, length-append (u32_bytes n) more, length-u32_bytes n)) (ap (is_kind first) named ∙ is) (omega (arith, size, over))
