-- The packets that end in a page, and what is left of the one that goes on.
use Rattle.std.proofs.Common.{◌≡◌, ◌≢◌, ℕ, zero, suc, ◌+◌, ◌*◌, ◌/◌, ◌%◌, ◌<◌, Bool, true, false, not, List, [], ◌∷◌, ◌++◌, length, take, drop, sum, map, refl, sym, ◌∙◌, ap, subst, arith, append_assoc, length-append, append-nil, Option}
use Rattle.std.specs.Prelude.{nat_eq, replicate}
use Rattle.std.specs.List.{AllByRecursion, flat_map, concat}
use Rattle.std.proofs.lemmas.Bool.{eqb-true, eq-eqb, false≢true}
use Rattle.std.proofs.lemmas.List.{take_all, take-append-drop, length-take-le, length-drop}
use Rattle.std.proofs.lemmas.List.Sums.{sum_by-cons}
use Rattle.ogg_page.specs.Page.{IsByte}
use Rattle.ogg_page.specs.Lacing.{lace, lacing_of}
use Rattle.packet_view.specs.Packets.{Part, PacketParts, with_part, joined_parts, is_some_part, packets_in, parts_behind}
use Rattle.packet_view.proofs.Fronts.{other, ended, pick_false}
use Rattle.packet_view.proofs.Walks.{pick_true}
use Rattle.packet_view.proofs.Opened.{joined-with_part}

abbrev pub texts : List PacketParts → List (List ℕ)
texts packets = map (λ packet. joined_parts packet.parts) packets

-- these packets end in the page, and these parts go on after it, if `segments` values of 255 of the first packet lie
-- before `lacing`
pub record Cuts (segments : ℕ) (before lacing body : List ℕ) (packets : List PacketParts) (behind : List Part) : Type 0 where
  pub left : ℕ
  pub values : replicate segments 255 ++ lacing ≡ flat_map lace (texts packets) ++ replicate left 255
  pub bytes : before ++ body ≡ concat (texts packets) ++ joined_parts behind
  pub size : length (joined_parts behind) ≡ 255 * left
  pub some : is_some_part behind ≡ not (nat_eq left 0)

no_segment : (n : ℕ) → n ≢ 0 → not (nat_eq n 0) ≡ true
no_segment n ne = ap not (other n 0 ne)

pub some_pushed : (parts : List Part) (part : Part) → is_some_part (parts ++ part ∷ []) ≡ true
some_pushed [] part = refl
some_pushed (p ∷ parts) part = refl

some_with : (parts : List Part) (place : ℕ) (bytes : List ℕ) (a b segments : ℕ) → is_some_part parts ≡ not (nat_eq a 0) → length bytes ≡ 255 * b → segments ≡ a + b →
    is_some_part (with_part parts place bytes) ≡ not (nat_eq segments 0)
some_with parts place [] a b segments some size e =
    let same : a ≡ segments = omega (arith, size) in
    some ∙ ap (λ n. not (nat_eq n 0)) same
some_with parts place (byte ∷ bytes) a b segments some size e = some_pushed parts _ ∙ sym (no_segment segments (λ z. omega (arith, size)))

one_more_full : (n : ℕ) (lacing : List ℕ) → replicate n 255 ++ 255 ∷ lacing ≡ replicate (suc n) 255 ++ lacing
one_more_full zero lacing = refl
one_more_full (suc n) lacing = ap (λ l. 255 ∷ l) (one_more_full n lacing)

lace_of : (packet : List ℕ) (segments value : ℕ) → value < 255 → length packet ≡ 255 * segments + value → lace packet ≡ replicate segments 255 ++ value ∷ []
unfolding lacing_of
lace_of packet segments value small e =
    let whole : length packet / 255 ≡ segments = omega arith in
    let last : length packet % 255 ≡ value = omega arith in
    ap (λ n. replicate n 255 ++ length packet % 255 ∷ []) whole ∙ ap (λ n. replicate segments 255 ++ n ∷ []) last

-- a packet that ends adds its own values and bytes
one_packet : (segments value : ℕ) (before lacing body piece rest : List ℕ) (packet : PacketParts) (packets : List PacketParts) (behind : List Part) →
    value < 255 → joined_parts packet.parts ≡ before ++ piece → body ≡ piece ++ rest → length (before ++ piece) ≡ 255 * segments + value →
    Cuts 0 [] lacing rest packets behind → Cuts segments before (value ∷ lacing) body (packet ∷ packets) behind
one_packet segments value before lacing body piece rest packet packets behind small text split size later =
    let text_of : List ℕ = joined_parts packet.parts in
    let laced : lace text_of ≡ replicate segments 255 ++ value ∷ [] = lace_of text_of segments value small (ap length text ∙ size) in
    record {
      left = later.left;
      values =
          ap (λ l. replicate segments 255 ++ value ∷ l) later.values
          ∙ sym (append_assoc (replicate segments 255) (value ∷ []) (flat_map lace (texts packets) ++ replicate later.left 255))
          ∙ ap (λ l. l ++ (flat_map lace (texts packets) ++ replicate later.left 255)) (sym laced)
          ∙ sym (append_assoc (lace text_of) (flat_map lace (texts packets)) (replicate later.left 255));
      bytes =
          ap (λ l. before ++ l) split
          ∙ sym (append_assoc before piece rest)
          ∙ ap (λ l. l ++ rest) (sym text)
          ∙ ap (λ l. text_of ++ l) later.bytes
          ∙ sym (append_assoc text_of (concat (texts packets)) (joined_parts behind));
      size = later.size;
      some = later.some;
    }

same_cuts : (segments : ℕ) (before lacing body : List ℕ) (packets packets' : List PacketParts) (behind behind' : List Part) → packets ≡ packets' → behind ≡ behind' →
    Cuts segments before lacing body packets behind → Cuts segments before lacing body packets' behind'
same_cuts segments before lacing body packets packets' behind behind' e f c =
    subst (λ (l : List Part). Cuts segments before lacing body packets' l) f (subst (λ (l : List PacketParts). Cuts segments before lacing body l behind) e c)

-- a value of 255 goes on
one_value : (segments : ℕ) (before : List ℕ) (value : ℕ) (lacing body : List ℕ) (packets : List PacketParts) (behind : List Part) → value ≡ 255 →
    Cuts (suc segments) before lacing body packets behind → Cuts segments before (value ∷ lacing) body packets behind
one_value segments before value lacing body packets behind full c = record {
  left = c.left;
  values = ap (λ v. replicate segments 255 ++ v ∷ lacing) full ∙ one_more_full segments lacing ∙ c.values;
  bytes = c.bytes;
  size = c.size;
  some = c.some;
}

not_equal : (m n : ℕ) → nat_eq m n ≡ false → m ≢ n
not_equal m n e is = false≢true (sym e ∙ eq-eqb m n is)

pub cuts : (lacing : List ℕ) (a b size segments place : ℕ) (position : Option ℕ) (parts : List Part) (body : List ℕ) → AllByRecursion IsByte lacing →
    size + sum lacing ≡ length body → size ≡ 255 * b → segments ≡ a + b → length (joined_parts parts) ≡ 255 * a → is_some_part parts ≡ not (nat_eq a 0) →
    Cuts segments (joined_parts parts) lacing body (packets_in position parts place size lacing body) (parts_behind parts place size lacing body)
unfolding packets_in parts_behind
cuts [] a b size segments place position parts body all whole hb hs ha some =
    let all_of : take size body ≡ body = take_all size body (omega (arith, whole)) in
    let joined : joined_parts (with_part parts place (take size body)) ≡ joined_parts parts ++ body = joined-with_part parts place (take size body) ∙ ap (λ l. joined_parts parts ++ l) all_of in
    record {
      left = segments;
      values = append-nil (replicate segments 255);
      bytes = sym joined;
      size = ap length joined ∙ length-append (joined_parts parts) body ∙ omega (arith, whole, hb, hs, ha);
      some = some_with parts place (take size body) a b segments some (ap length all_of ∙ omega (arith, whole, hb)) hs;
    }
cuts (value ∷ lacing) a b size segments place position parts body all whole hb hs ha some = by_cases (nat_eq value 255) refl
    (λ full. cuts lacing a (b + 1) (size + 255) (suc segments) place position parts body all.1 (omega (arith, whole, sum_by-cons (λ x. x) value lacing, full)) (omega (arith, hb)) (omega (arith, hs)) ha some)
    (λ w. cuts lacing 0 0 0 0 (place + (size + value)) position [] (drop (size + value) body) all.1 w (omega arith) (omega arith) (omega arith) refl)
  where
    by_cases : (t : Bool) → nat_eq value 255 ≡ t →
        (value ≡ 255 → Cuts (suc segments) (joined_parts parts) lacing body (packets_in position parts place (size + 255) lacing body) (parts_behind parts place (size + 255) lacing body)) →
        (0 + sum lacing ≡ length (drop (size + value) body) →
        Cuts 0 [] lacing (drop (size + value) body) (packets_in position [] (place + (size + value)) 0 lacing (drop (size + value) body)) (parts_behind [] (place + (size + value)) 0 lacing (drop (size + value) body))) →
        Cuts segments (joined_parts parts) (value ∷ lacing) body (packets_in position parts place size (value ∷ lacing) body) (parts_behind parts place size (value ∷ lacing) body)
    by_cases true t goes_on ends =
        let full : value ≡ 255 = eqb-true value 255 t in
        same_cuts segments (joined_parts parts) (value ∷ lacing) body _ _ _ _ (sym (pick_true (nat_eq value 255) _ _ t)) (sym (pick_true (nat_eq value 255) _ _ t))
        (one_value segments (joined_parts parts) value lacing body _ _ full (goes_on full))
    by_cases false t goes_on ends =
        let small : value < 255 = omega (arith, all.0, not_equal value 255 t) in
        let room : size + value + sum lacing ≡ length body = omega (arith, whole, sum_by-cons (λ x. x) value lacing) in
        let piece : length (take (size + value) body) ≡ size + value = length-take-le (size + value) body (omega (arith, room)) in
        same_cuts segments (joined_parts parts) (value ∷ lacing) body _ _ _ _ (sym (pick_false (nat_eq value 255) _ _ t)) (sym (pick_false (nat_eq value 255) _ _ t))
        (one_packet segments value (joined_parts parts) lacing body (take (size + value) body) (drop (size + value) body) (ended position parts place (size + value) lacing body)
        (packets_in position [] (place + (size + value)) 0 lacing (drop (size + value) body)) (parts_behind [] (place + (size + value)) 0 lacing (drop (size + value) body))
        small (joined-with_part parts place (take (size + value) body)) (sym (take-append-drop (size + value) body))
        (length-append (joined_parts parts) (take (size + value) body) ∙ omega (arith, ha, piece, hb, hs))
        (ends (omega (arith, room, length-drop (size + value) body))))
