-- The lacing values of one packet in a page, and what comes after them.
use Rattle.std.proofs.Common.{◌≡◌, ◌≢◌, ℕ, zero, suc, ◌+◌, ◌*◌, ◌<◌, ◌≤◌, Bool, true, false, List, [], ◌∷◌, ◌++◌, length, take, drop, get_or, refl, sym, ◌∙◌, ap, subst, arith, Option, None, sum}
use Rattle.std.specs.Prelude.{nat_eq, if◌then◌else◌, replicate, cond}
use Rattle.std.specs.List.{prefix_len}
use Rattle.std.proofs.lemmas.Bool.{eqb-true, eq-eqb, false≢true}
use Rattle.std.proofs.lemmas.List.{take_all}
use Rattle.std.proofs.lemmas.List.Sums.{sum_by-cons}
use Rattle.packet_view.specs.Packets.{Part, PacketParts, with_part, ends_packet, packets_in, parts_behind}
use Rattle.packet_view.specs.Front.{front_size}

abbrev pub ended_with : Option ℕ → List Part → ℕ → List ℕ → List ℕ → PacketParts
ended_with position parts place piece lacing = record { parts = with_part parts place piece; position = if ends_packet lacing then None else position }

abbrev pub ended : Option ℕ → List Part → ℕ → ℕ → List ℕ → List ℕ → PacketParts
ended position parts place size lacing body = ended_with position parts place (take size body) lacing

pub pick_false : {A : Type 0} (b : Bool) (x y : A) → b ≡ false → (if b then x else y) ≡ y
pick_false true x y e = absurd (cc)
pick_false false x y e = refl

pub other : (m n : ℕ) → m ≢ n → nat_eq m n ≡ false
other m n ne = by_cases (nat_eq m n) refl
  where
    by_cases : (b : Bool) → nat_eq m n ≡ b → nat_eq m n ≡ false
    by_cases true e = absurd (ne (eqb-true m n e))
    by_cases false e = e

-- values that end a packet of the page
packets-ends : (full total size : ℕ) (position : Option ℕ) (parts : List Part) (place value : ℕ) (lacing body : List ℕ) → value ≢ 255 → size + (255 * full + value) ≡ total →
    packets_in position parts place size (replicate full 255 ++ value ∷ lacing) body
    ≡ ended position parts place total lacing body ∷ packets_in position [] (place + total) 0 lacing (drop total body)
unfolding packets_in
packets-ends zero total size position parts place value lacing body ne e =
    let exact : size + value ≡ total = omega arith in
    pick_false (nat_eq value 255) _ _ (other value 255 ne)
    ∙ ap (λ n. ended position parts place n lacing body ∷ packets_in position [] (place + n) 0 lacing (drop n body)) exact
packets-ends (suc full) total size position parts place value lacing body ne e =
    packets-ends full total (size + 255) position parts place value lacing body ne (omega arith)

parts-ends : (full total size : ℕ) (parts : List Part) (place value : ℕ) (lacing body : List ℕ) → value ≢ 255 → size + (255 * full + value) ≡ total →
    parts_behind parts place size (replicate full 255 ++ value ∷ lacing) body ≡ parts_behind [] (place + total) 0 lacing (drop total body)
unfolding parts_behind
parts-ends zero total size parts place value lacing body ne e =
    let exact : size + value ≡ total = omega arith in
    pick_false (nat_eq value 255) _ _ (other value 255 ne)
    ∙ ap (λ n. parts_behind [] (place + n) 0 lacing (drop n body)) exact
parts-ends (suc full) total size parts place value lacing body ne e =
    parts-ends full total (size + 255) parts place value lacing body ne (omega arith)

front_size-ends : (full value : ℕ) (lacing : List ℕ) → value ≢ 255 → front_size (replicate full 255 ++ value ∷ lacing) ≡ 255 * full + value
unfolding front_size
front_size-ends zero value lacing ne = pick_false (nat_eq value 255) _ _ (other value 255 ne) ∙ omega arith
front_size-ends (suc full) value lacing ne = ap (λ n. 255 + n) (front_size-ends full value lacing ne) ∙ omega arith

-- values that end no packet
packets-open : (full size : ℕ) (position : Option ℕ) (parts : List Part) (place : ℕ) (body : List ℕ) → packets_in position parts place size (replicate full 255) body ≡ []
unfolding packets_in
packets-open zero size position parts place body = refl
packets-open (suc full) size position parts place body = packets-open full (size + 255) position parts place body

parts-open : (full total size : ℕ) (parts : List Part) (place : ℕ) (body : List ℕ) → size + 255 * full ≡ total → parts_behind parts place size (replicate full 255) body ≡ with_part parts place (take total body)
unfolding parts_behind
parts-open zero total size parts place body e =
    let exact : size ≡ total = omega arith in
    ap (λ n. with_part parts place (take n body)) exact
parts-open (suc full) total size parts place body e = parts-open full total (size + 255) parts place body (omega arith)

front_size-open : (full : ℕ) → front_size (replicate full 255) ≡ 255 * full
unfolding front_size
front_size-open zero = refl
front_size-open (suc full) = ap (λ n. 255 + n) (front_size-open full) ∙ omega arith

-- the values before the first that ends a packet, and that one
abbrev pub full_values : List ℕ → ℕ
full_values lacing = prefix_len (λ value. nat_eq value 255) lacing

pub record SplitsAt (lacing : List ℕ) (full value : ℕ) (rest : List ℕ) : Type 0 where
  pub whole : lacing ≡ replicate full 255 ++ value ∷ rest
  pub ends : value ≢ 255
  pub added : sum lacing ≡ 255 * full + value + sum rest

cond_at : (b : Bool) (m n : ℕ) (t : Bool) → b ≡ t → cond b m n ≡ cond t m n
cond_at b m n t e = ap (λ x. cond x m n) e

pub splits_at : (lacing : List ℕ) (full : ℕ) → full ≡ full_values lacing → full < length lacing → SplitsAt lacing full (get_or lacing full 0) (drop (full + 1) lacing)
splits_at [] full e lt = absurd (omega arith)
splits_at (first ∷ lacing) full e lt = by_cases (nat_eq first 255) refl (λ more. splits_at lacing (full_values lacing) refl more)
  where
    by_cases : (b : Bool) → nat_eq first 255 ≡ b →
        (full_values lacing < length lacing → SplitsAt lacing (full_values lacing) (get_or lacing (full_values lacing) 0) (drop (full_values lacing + 1) lacing)) →
        SplitsAt (first ∷ lacing) full (get_or (first ∷ lacing) full 0) (drop (full + 1) (first ∷ lacing))
    by_cases true t later =
        let n : ℕ = full_values lacing in
        let one_more : full ≡ 1 + n = e ∙ cond_at (nat_eq first 255) (1 + n) 0 true t in
        let same : full ≡ suc n = omega arith in
        let behind : SplitsAt lacing n (get_or lacing n 0) (drop (n + 1) lacing) = later (omega arith) in
        let is : first ≡ 255 = eqb-true first 255 t in
        let rest : drop (suc n + 1) (first ∷ lacing) ≡ drop (n + 1) lacing = ap (λ k. drop k (first ∷ lacing)) (let k : suc n + 1 ≡ suc (n + 1) = omega arith in k) in
        let found : SplitsAt (first ∷ lacing) (suc n) (get_or lacing n 0) (drop (n + 1) lacing) = record {
          whole = ap (λ v. v ∷ lacing) is ∙ ap (λ l. 255 ∷ l) behind.whole;
          ends = behind.ends;
          added = sum_by-cons (λ x. x) first lacing ∙ omega (arith, is, behind.added);
        } in
        subst (λ (m : ℕ). SplitsAt (first ∷ lacing) m (get_or (first ∷ lacing) m 0) (drop (m + 1) (first ∷ lacing))) (sym same)
        (subst (λ (l : List ℕ). SplitsAt (first ∷ lacing) (suc n) (get_or lacing n 0) l) (sym rest) found)
    by_cases false t later =
        let none : full ≡ 0 = e ∙ cond_at (nat_eq first 255) (1 + full_values lacing) 0 false t in
        let found : SplitsAt (first ∷ lacing) 0 first lacing = record {
          whole = refl;
          ends = λ is. false≢true (sym t ∙ eq-eqb first 255 is);
          added = sum_by-cons (λ x. x) first lacing ∙ omega arith;
        } in
        subst (λ (m : ℕ). SplitsAt (first ∷ lacing) m (get_or (first ∷ lacing) m 0) (drop (m + 1) (first ∷ lacing))) (sym none) found

pub all_full : (lacing : List ℕ) (full : ℕ) → full ≡ full_values lacing → length lacing ≤ full → lacing ≡ replicate full 255
all_full [] full e le = ap (λ n. replicate n 255) (sym e)
all_full (first ∷ lacing) full e le = by_cases (nat_eq first 255) refl (λ more. all_full lacing (full_values lacing) refl more)
  where
    by_cases : (b : Bool) → nat_eq first 255 ≡ b → (length lacing ≤ full_values lacing → lacing ≡ replicate (full_values lacing) 255) → first ∷ lacing ≡ replicate full 255
    by_cases true t later =
        let n : ℕ = full_values lacing in
        let one_more : full ≡ 1 + n = e ∙ cond_at (nat_eq first 255) (1 + n) 0 true t in
        let same : full ≡ suc n = omega arith in
        ap (λ v. v ∷ lacing) (eqb-true first 255 t) ∙ ap (λ l. 255 ∷ l) (later (omega arith)) ∙ ap (λ m. replicate m 255) (sym same)
    by_cases false t later =
        let none : full ≡ 0 = e ∙ cond_at (nat_eq first 255) (1 + full_values lacing) 0 false t in
        absurd (omega arith)

pub sum-full : (full : ℕ) → sum (replicate full 255) ≡ 255 * full
sum-full zero = refl
sum-full (suc full) = sum_by-cons (λ x. x) 255 (replicate full 255) ∙ ap (λ n. 255 + n) (sum-full full) ∙ omega arith

-- a page in which no packet ends
pub record OpenFacts (position : Option ℕ) (place : ℕ) (lacing body : List ℕ) : Type 0 where
  pub packets : (parts : List Part) → packets_in position parts place 0 lacing body ≡ []
  pub behind : (parts : List Part) → parts_behind parts place 0 lacing body ≡ with_part parts place body
  pub front : body ≡ take (front_size lacing) body

pub open_facts : (position : Option ℕ) (place full : ℕ) (lacing body : List ℕ) → lacing ≡ replicate full 255 → sum lacing ≡ length body → OpenFacts position place lacing body
open_facts position place full lacing body e whole =
    let size : 255 * full ≡ length body = sym (sum-full full) ∙ ap sum (sym e) ∙ whole in
    let all : take (length body) body ≡ body = take_all (length body) body (omega arith) in
    record {
      packets = λ parts. ap (λ l. packets_in position parts place 0 l body) e ∙ packets-open full 0 position parts place body;
      behind = λ parts. ap (λ l. parts_behind parts place 0 l body) e ∙ parts-open full (length body) 0 parts place body (omega arith) ∙ ap (with_part parts place) all;
      front = sym (ap (λ n. take n body) (ap front_size e ∙ front_size-open full ∙ size) ∙ all);
    }

-- a page in which a packet ends
pub record EndFacts (position : Option ℕ) (place total : ℕ) (lacing rest body : List ℕ) : Type 0 where
  pub packets : (parts : List Part) → packets_in position parts place 0 lacing body ≡ ended position parts place total rest body ∷ packets_in position [] (place + total) 0 rest (drop total body)
  pub behind : (parts : List Part) → parts_behind parts place 0 lacing body ≡ parts_behind [] (place + total) 0 rest (drop total body)
  pub front : front_size lacing ≡ total

pub end_facts : (position : Option ℕ) (place full value total : ℕ) (lacing rest body : List ℕ) → SplitsAt lacing full value rest → 255 * full + value ≡ total → EndFacts position place total lacing rest body
end_facts position place full value total lacing rest body at e = record {
  packets = λ parts. ap (λ l. packets_in position parts place 0 l body) at.whole ∙ packets-ends full total 0 position parts place value rest body at.ends (omega arith);
  behind = λ parts. ap (λ l. parts_behind parts place 0 l body) at.whole ∙ parts-ends full total 0 parts place value rest body at.ends (omega arith);
  front = ap front_size at.whole ∙ front_size-ends full value rest at.ends ∙ e;
}
