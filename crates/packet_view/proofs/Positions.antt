-- The positions of the packets that end in a page.
use Rattle.std.proofs.Common.{◌≡◌, ℕ, zero, suc, ◌+◌, Bool, true, false, not, List, [], ◌∷◌, drop, map, refl, sym, ◌∙◌, ap, arith, Option, None}
use Rattle.std.specs.Prelude.{cond, ◌||◌, if◌then◌else◌, nat_eq, nat_lt}
use Rattle.std.proofs.lemmas.Bool.{lt-ltb}
use Rattle.std.proofs.lemmas.List.Sums.{sum_by-cons}
use Rattle.packet_view.specs.Packets.{Part, PacketParts, ends_packet, packets_in}
use Rattle.packet_view.specs.Held.{last_alone, packets_ended}
use Rattle.packet_view.proofs.Fronts.{pick_false}
use Rattle.packet_view.proofs.Walks.{pick_true}

abbrev ended : Bool → ℕ
ended b = cond b 1 0

abbrev ending : ℕ → ℕ
ending value = ended (not (nat_eq value 255))

-- a full value ends no packet, and any other value ends one
ended_full : (value : ℕ) (lacing : List ℕ) → nat_eq value 255 ≡ true → packets_ended (value ∷ lacing) ≡ packets_ended lacing
ended_full value lacing t =
    let cell : ending value ≡ 0 = ap (λ b. ended (not b)) t in
    omega (arith, cell, sum_by-cons ending value lacing)

ended_small : (value : ℕ) (lacing : List ℕ) → nat_eq value 255 ≡ false → packets_ended (value ∷ lacing) ≡ suc (packets_ended lacing)
ended_small value lacing t =
    let cell : ending value ≡ 1 = ap (λ b. ended (not b)) t in
    omega (arith, cell, sum_by-cons ending value lacing)

-- a packet ends if, and only if, the count of those that end isn't 0
counted : (lacing : List ℕ) → ends_packet lacing ≡ nat_lt 0 (packets_ended lacing)
counted [] = refl
counted (value ∷ lacing) = by_cases (nat_eq value 255) refl (counted lacing)
  where
    by_cases : (t : Bool) → nat_eq value 255 ≡ t → ends_packet lacing ≡ nat_lt 0 (packets_ended lacing) → ends_packet (value ∷ lacing) ≡ nat_lt 0 (packets_ended (value ∷ lacing))
    by_cases true t others = ap (λ b. not b || ends_packet lacing) t ∙ others ∙ ap (λ n. nat_lt 0 n) (sym (ended_full value lacing t))
    by_cases false t others =
        ap (λ b. not b || ends_packet lacing) t ∙ sym (lt-ltb 0 (packets_ended (value ∷ lacing)) (omega (arith, ended_small value lacing t)))

-- one more packet in front
one_more : (position : Option ℕ) (n : ℕ) → (if nat_lt 0 n then None else position) ∷ last_alone position n ≡ last_alone position (suc n)
one_more position zero = refl
one_more position (suc n) = ap (λ b. (if b then None else position) ∷ last_alone position (suc n)) (lt-ltb 0 (suc n) (omega arith))

pub positions_in : (lacing : List ℕ) (position : Option ℕ) (parts : List Part) (place size : ℕ) (body : List ℕ) →
    map (λ (packet : PacketParts). packet.position) (packets_in position parts place size lacing body) ≡ last_alone position (packets_ended lacing)
unfolding packets_in
positions_in [] position parts place size body = refl
positions_in (value ∷ lacing) position parts place size body =
    by_cases (nat_eq value 255) refl (positions_in lacing position parts place (size + 255) body) (positions_in lacing position [] (place + (size + value)) 0 (drop (size + value) body))
  where
    by_cases : (t : Bool) → nat_eq value 255 ≡ t →
        map (λ (packet : PacketParts). packet.position) (packets_in position parts place (size + 255) lacing body) ≡ last_alone position (packets_ended lacing) →
        map (λ (packet : PacketParts). packet.position) (packets_in position [] (place + (size + value)) 0 lacing (drop (size + value) body)) ≡ last_alone position (packets_ended lacing) →
        map (λ (packet : PacketParts). packet.position) (packets_in position parts place size (value ∷ lacing) body) ≡ last_alone position (packets_ended (value ∷ lacing))
    by_cases true t same others =
        ap (map (λ (packet : PacketParts). packet.position)) (pick_true (nat_eq value 255) _ _ t)
        ∙ same
        ∙ ap (last_alone position) (sym (ended_full value lacing t))
    by_cases false t same others =
        let n : ℕ = packets_ended lacing in
        ap (map (λ (packet : PacketParts). packet.position)) (pick_false (nat_eq value 255) _ _ t)
        ∙ ap (λ l. (if ends_packet lacing then None else position) ∷ l) others
        ∙ ap (λ b. (if b then None else position) ∷ last_alone position n) (counted lacing)
        ∙ one_more position n
        ∙ ap (last_alone position) (sym (ended_small value lacing t))
