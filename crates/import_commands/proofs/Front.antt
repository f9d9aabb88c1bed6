-- Lacing values spell their packets in one way only, from the front on.
use Rattle.std.proofs.Common.{◌≡◌, ℕ, zero, suc, ◌/◌, ◌%◌, ◌<◌, List, [], ◌∷◌, ◌++◌, length, take, replicate, refl, sym, ◌∙◌, ap, arith, append_assoc, append-nil}
use Rattle.std.specs.List.{flat_map, concat}
use Rattle.std.proofs.lemmas.List.Concat.{flat_map-append}
use Rattle.ogg_page.specs.Page.{Page}
use Rattle.ogg_page.specs.Lacing.{lace, lacing_of}
use Rattle.ogg_page.specs.LogicalStream.{HoldsPackets, joined_lacing, joined_bodies}
use Rattle.packetiser.specs.Run.{packets_ended}
use Rattle.import_commands.specs.Laws.{ended_app, ended_full, ended_packets}
use Rattle.link_chain.specs.Laws.Fronts.{parts_of}
use Rattle.ogg_page.specs.StreamLaws.{same_lacing}

same_values : (m a n b : ℕ) (xs ys : List ℕ) → a < 255 → b < 255 → replicate m 255 ++ a ∷ xs ≡ replicate n 255 ++ b ∷ ys → (m ≡ n) × (a ≡ b) × (xs ≡ ys)
same_values zero a zero b xs ys small few e =
    let parts : (a ≡ b) × (xs ≡ ys) = parts_of a b xs ys e in
    (refl, parts.0, parts.1)
same_values zero a (suc n) b xs ys small few e =
    let parts : (a ≡ 255) × (xs ≡ replicate n 255 ++ b ∷ ys) = parts_of a 255 xs (replicate n 255 ++ b ∷ ys) e in
    absurd (omega (arith, small, parts.0))
same_values (suc m) a zero b xs ys small few e =
    let parts : (255 ≡ b) × (replicate m 255 ++ a ∷ xs ≡ ys) = parts_of 255 b (replicate m 255 ++ a ∷ xs) ys e in
    absurd (omega (arith, few, parts.0))
same_values (suc m) a (suc n) b xs ys small few e =
    let parts : (255 ≡ 255) × (replicate m 255 ++ a ∷ xs ≡ replicate n 255 ++ b ∷ ys) =
    parts_of 255 255 (replicate m 255 ++ a ∷ xs) (replicate n 255 ++ b ∷ ys) e in
    let rest : (m ≡ n) × (a ≡ b) × (xs ≡ ys) = same_values m a n b xs ys small few parts.1 in
    (ap suc rest.0, rest.1, rest.2)

spelled : (packet xs : List ℕ) → lace packet ++ xs ≡ replicate (length packet / 255) 255 ++ length packet % 255 ∷ xs
unfolding lacing_of
spelled packet xs = append_assoc (replicate (length packet / 255) 255) (length packet % 255 ∷ []) xs

not_nothing : (n a : ℕ) (xs : List ℕ) → replicate n 255 ++ a ∷ xs ≡ [] → ⊥
not_nothing zero a xs e = cc
not_nothing (suc n) a xs e = cc

same_parts : {X : Type 0} (p q xs ys : List X) → length p ≡ length q → p ++ xs ≡ q ++ ys → (p ≡ q) × (xs ≡ ys)
same_parts [] [] xs ys n e = (refl, e)
same_parts [] (y ∷ q) xs ys n e = absurd (omega (arith, n))
same_parts (x ∷ p) [] xs ys n e = absurd (omega (arith, n))
same_parts (x ∷ p) (y ∷ q) xs ys n e =
    let parts : (x ≡ y) × (p ++ xs ≡ q ++ ys) = parts_of x y (p ++ xs) (q ++ ys) e in
    let rest : (p ≡ q) × (xs ≡ ys) = same_parts p q xs ys (omega (arith, n)) parts.1 in
    (ap (λ z. z ∷ p) parts.0 ∙ ap (λ l. y ∷ l) rest.0, rest.1)

firsts : (packets all : List (List ℕ)) (values bytes : List ℕ) → flat_map lace packets ++ values ≡ flat_map lace all → concat packets ++ bytes ≡ concat all →
    take (length packets) all ≡ packets
firsts [] all values bytes e f = refl
firsts (p ∷ packets) [] values bytes e f =
    absurd (not_nothing (length p / 255) (length p % 255) (flat_map lace packets ++ values)
    (sym (append_assoc (lace p) (flat_map lace packets) values ∙ spelled p (flat_map lace packets ++ values)) ∙ e))
firsts (p ∷ packets) (q ∷ all) values bytes e f =
    let same : (length p ≡ length q) × (flat_map lace packets ++ values ≡ flat_map lace all) =
    same_lacing p q (flat_map lace packets ++ values) (flat_map lace all) (sym (append_assoc (lace p) (flat_map lace packets) values) ∙ e) in
    let parts : (p ≡ q) × (concat packets ++ bytes ≡ concat all) =
    same_parts p q (concat packets ++ bytes) (concat all) same.0 (sym (append_assoc p (concat packets) bytes) ∙ f) in
    ap (λ l. q ∷ l) (firsts packets all values bytes same.1 parts.1) ∙ ap (λ l. l ∷ packets) (sym parts.0)

pub front_first : (front back : List Page) (packets all : List (List ℕ)) (segments : ℕ) (rest : List ℕ) →
    HoldsPackets front packets segments rest → HoldsPackets (front ++ back) all 0 [] →
    (take (length packets) all ≡ packets) × (packets_ended (joined_lacing front) ≡ length packets)
front_first front back packets all segments rest h g = (
  firsts packets all (replicate segments 255 ++ joined_lacing back) (rest ++ joined_bodies back)
      (sym (append_assoc (flat_map lace packets) (replicate segments 255) (joined_lacing back)) ∙ ap (λ l. l ++ joined_lacing back) (sym h.lacing)
      ∙ sym (flat_map-append (λ (p : Page). p.lacing) front back) ∙ g.lacing ∙ append-nil (flat_map lace all))
      (sym (append_assoc (concat packets) rest (joined_bodies back)) ∙ ap (λ l. l ++ joined_bodies back) (sym h.bodies)
      ∙ sym (flat_map-append (λ (p : Page). p.body) front back) ∙ g.bodies ∙ append-nil (concat all)),
  ap packets_ended h.lacing ∙ ended_app (flat_map lace packets) (replicate segments 255) ∙ omega (arith, ended_packets packets, ended_full segments),
)
