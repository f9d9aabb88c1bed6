-- What a pull takes of a text and of what follows it, and what is left of both.
use Rattle.std.proofs.Common.{◌≡◌, ◌⊎◌, inl, inr, ℕ, ◌+◌, ◌-◌, ◌<◌, ◌≤◌, List, ◌++◌, length, take, drop, min, sym, ◌∙◌, ap, subst, arith, length-take, length-drop, length-append, take_all, drop_of_length-le, drop-drop}
use Rattle.std.proofs.lemmas.Bool.{cases_lt}
use Rattle.std.proofs.lemmas.List.{take-take, drop-take}
use Rattle.std.proofs.Math.Seq.{take-append-add}
use Rattle.ogg_page.specs.Laws.Halves.{Halves, halves}
use Rattle.serve_live.specs.Listening.{ArePagesLeft, Gives, part_at}
use Rattle.serve_live.specs.Pulling.{ArePulled, GivesBehind, names_kept}
use Rattle.serve_live.specs.declared.names.StreamName.{StreamName}
use Rattle.serve_live.specs.declared.pages.PageLeft.{PageLeft}

-- the pages that were pulled are as many as go in
record Filled (pages : List ℕ) (size h : ℕ) : Type 0 where
  pub count : h ≡ min (length pages) size
  pub taken : take h pages ≡ take size pages
  pub left : drop h pages ≡ drop size pages

filled : (pages : List ℕ) (size h : ℕ) → (h ≡ size) ⊎ (h ≡ length pages) → h ≤ size → h ≤ length pages → Filled pages size h
filled pages size h (inl full) le some = record {
  count = grind (arith, full, some);
  taken = ap (λ k. take k pages) full;
  left = ap (λ k. drop k pages) full;
}
filled pages size h (inr all) le some = record {
  count = grind (arith, all, le);
  taken = take_all h pages (omega (arith, all)) ∙ sym (take_all size pages (omega (arith, all, le)));
  left = drop_of_length-le pages (let e : length pages ≤ h = omega (arith, all) in e) ∙ sym (drop_of_length-le pages (let e : length pages ≤ size = omega (arith, all, le) in e));
}

-- two parts of a buffer, one after the other
pub two_parts : (a b : List ℕ) (m n : ℕ) → m ≡ length a → take (m + n) (a ++ b) ≡ a ++ take n b
two_parts a b m n is = ap (λ k. take (k + n) (a ++ b)) is ∙ take-append-add a b n

pub gives_behind : (committed text pages : List ℕ) (names : List StreamName) (after : PageLeft) (size told heard : ℕ) (front room now : List ℕ) →
    told ≡ min (length text) size → front ≡ take size text → now ≡ front ++ room →
    ArePulled committed pages names after heard room → (heard ≡ size - told) ⊎ (heard ≡ length pages) → heard ≤ size - told →
    GivesBehind committed names text pages size now told heard after
gives_behind committed text pages names after size told heard front room now told_is front_is now_is b full le =
    let h : Halves text pages size told = halves text pages size told told_is in
    let f : Filled pages (size - told) heard = filled pages (size - told) heard full le b.some in
    let len : length front ≡ told = ap length front_is ∙ grind (arith, told_is, length-take) in
    record {
      told_is = told_is;
      count = h.count heard f.count;
      given = ap (take (told + heard)) now_is ∙ two_parts front room told heard (sym len) ∙ ap (λ l. l ++ take heard room) front_is
          ∙ ap (λ l. take size text ++ l) (b.taken ∙ f.taken) ∙ sym h.given;
      rest = h.left;
      left = subst (ArePagesLeft committed (names_kept names after) after.place after.skip) f.left b.left_is;
    }

-- ---- a part of the file, and then both
-- the front of a part
front_of_part : (xs : List ℕ) (count size begun : ℕ) → begun ≡ min count size → take begun xs ≡ take size (take count xs)
front_of_part xs count size begun is = elim (cases_lt count size) [
  | inl more ↦
      let all : begun ≡ count = grind (arith, is, more) in
      ap (λ k. take k xs) all
      ∙ sym (take_all size (take count xs) (let e : length (take count xs) ≤ size = grind (arith, length-take, more) in e))
  | inr le ↦
      let all : begun ≡ size = grind (arith, is, le) in
      ap (λ k. take k xs) all ∙ sym (take-take size count xs le)
]

back_of_part : (xs : List ℕ) (count begun : ℕ) → begun ≤ count → drop begun (take count xs) ≡ take (count - begun) (drop begun xs)
back_of_part xs count begun le =
    ap (λ k. drop begun (take k xs)) (let e : count ≡ begun + (count - begun) = omega (arith, le) in e) ∙ drop-take begun (count - begun) xs

pub pulled_all : (committed rest : List ℕ) (place count : ℕ) (text pages : List ℕ) (names : List StreamName) (after : PageLeft) (size begun told heard : ℕ) (front room now : List ℕ) →
    rest ≡ part_at place count committed ++ (text ++ pages) → place + count ≤ length committed → begun ≡ min count size → front ≡ part_at place begun committed →
    now ≡ front ++ room → GivesBehind committed names text pages (size - begun) room told heard after →
    Gives committed rest size now (begun + told + heard)
    (record { begin_place = place + begun; begin_left = count - begun; text = drop told text; names = names_kept names after; place = after.place; skip = after.skip })
pulled_all committed rest place count text pages names after size begun told heard front room now rest_is inside begun_is front_is now_is b =
    let bytes : List ℕ = drop place committed in
    let part : List ℕ = part_at place count committed in
    let there : count ≤ length bytes = omega (arith, inside, length-drop place committed) in
    let len : length part ≡ count = grind (arith, length-take, there) in
    let few : begun ≤ count = grind (arith, begun_is) in
    let h : Halves part (text ++ pages) size begun = halves part (text ++ pages) size begun (begun_is ∙ ap (λ k. min k size) (sym len)) in
    let front_len : begun ≡ length front = sym (ap length front_is ∙ grind (arith, length-take, there, few)) in
    let sum : begun + told + heard ≡ begun + (told + heard) = omega arith in
    record {
      count_is = sum ∙ h.count (told + heard) b.count ∙ ap (λ l. min (length l) size) (sym rest_is);
      given = ap (λ k. take k now) sum ∙ ap (take (begun + (told + heard))) now_is ∙ two_parts front room begun (told + heard) front_len
          ∙ ap (λ l. l ++ take (told + heard) room) (front_is ∙ front_of_part bytes count size begun begun_is)
          ∙ ap (λ l. take size part ++ l) b.given ∙ sym h.given ∙ ap (take size) (sym rest_is);
      left = record {
        begins = omega (arith, inside, few);
        pages = drop (size - begun - told) pages;
        pages_left = b.left;
        joined = ap (drop size) rest_is ∙ h.left
            ∙ ap (λ l. drop begun part ++ l) b.rest
            ∙ ap (λ l. l ++ (drop told text ++ drop (size - begun - told) pages)) (back_of_part bytes count begun few ∙ ap (take (count - begun)) (drop-drop begun place committed));
      };
    }

-- ---- a byte was to be given
pub some_behind : (text pages : List ℕ) (size told room : ℕ) → told ≡ min (length text) size → room ≡ size - told → 0 < min (length pages) room →
    0 < min (length (text ++ pages)) size
some_behind text pages size told room told_is room_is some =
    let len = length-append text pages in
    grind (arith, told_is, room_is, some, len)

pub some_of_part : (committed rest : List ℕ) (place count : ℕ) (behind : List ℕ) (size : ℕ) → rest ≡ part_at place count committed ++ behind → place + count ≤ length committed →
    0 < min count size → 0 < min (length rest) size
some_of_part committed rest place count behind size is inside some =
    let bytes : List ℕ = drop place committed in
    let there : count ≤ length bytes = omega (arith, inside, length-drop place committed) in
    let len : length (part_at place count committed) ≡ count = grind (arith, length-take, there) in
    let all : length rest ≡ count + length behind = ap length is ∙ length-append (part_at place count committed) behind ∙ ap (λ n. n + length behind) len in
    grind (arith, all, some)

pub some_after_part : (committed rest : List ℕ) (place count : ℕ) (behind : List ℕ) (size begun room : ℕ) → rest ≡ part_at place count committed ++ behind →
    place + count ≤ length committed → begun ≡ min count size → room ≡ size - begun → 0 < min (length behind) room → 0 < min (length rest) size
some_after_part committed rest place count behind size begun room is inside begun_is room_is some =
    let bytes : List ℕ = drop place committed in
    let there : count ≤ length bytes = omega (arith, inside, length-drop place committed) in
    let len : length (part_at place count committed) ≡ count = grind (arith, length-take, there) in
    let all : length rest ≡ count + length behind = ap length is ∙ length-append (part_at place count committed) behind ∙ ap (λ n. n + length behind) len in
    grind (arith, all, begun_is, room_is, some)
