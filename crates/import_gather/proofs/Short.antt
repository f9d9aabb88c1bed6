-- No packet is longer than the longest that there may be.
use Rattle.std.proofs.Common.{◌≡◌, ℕ, zero, suc, ◌+◌, ◌*◌, ◌/◌, ◌%◌, ◌<◌, ◌≤◌, List, [], ◌∷◌, ◌++◌, length, replicate, refl, sym, ◌∙◌, ap, arith, append_assoc, length-append}
use Rattle.std.specs.Prelude.{nat_lt}
use Rattle.std.specs.List.{AllByRecursion, flat_map, concat}
use Rattle.std.proofs.lemmas.Bool.{lt-ltb, cond-true}
use Rattle.ogg_page.specs.Page.{Page, IsPage}
use Rattle.ogg_page.specs.PageLaws.{page_fits}
use Rattle.ogg_page.specs.Lacing.{lace, lacing_of}
use Rattle.import_gather.specs.Limits.{longest_packet}
use Rattle.import_gather.specs.Cutting.{CutsInto, EndIn, first_size}
use Rattle.link_chain.specs.Laws.Fronts.{parts_of}

first_ends : (value : ℕ) (values : List ℕ) → value < 255 → first_size (value ∷ values) ≡ value
first_ends value values small = cond-true (nat_lt value 255) value (value + first_size values) (lt-ltb value 255 small)

-- the first packet ends after `full` whole segments
first_is : (before full value : ℕ) (values others : List ℕ) → value < 255 → replicate before 255 ++ values ≡ replicate full 255 ++ value ∷ others → 255 * full + value ≡ 255 * before + first_size values
first_is zero zero value values others small e = omega (arith, ap first_size e ∙ first_ends value others small)
first_is zero (suc full) value values others small e =
    let rest : 255 * full + value ≡ 255 * 0 + first_size (replicate full 255 ++ value ∷ others) = first_is zero full value (replicate full 255 ++ value ∷ others) others small refl in
    omega (arith, ap first_size e, rest)
first_is (suc before) zero value values others small e =
    let head : 255 ≡ value = (parts_of 255 value (replicate before 255 ++ values) others e).0 in
    absurd (omega (arith, head, small))
first_is (suc before) (suc full) value values others small e =
    let tail : replicate before 255 ++ values ≡ replicate full 255 ++ value ∷ others = (parts_of 255 255 (replicate before 255 ++ values) (replicate full 255 ++ value ∷ others) e).1 in
    omega (arith, first_is before full value values others small tail)

-- no packet ends
goes_on : (before full : ℕ) (values : List ℕ) → replicate before 255 ++ values ≡ replicate full 255 → 255 * full ≡ 255 * before + first_size values
goes_on zero zero values e = omega (arith, ap first_size e)
goes_on zero (suc full) values e = omega (arith, ap first_size e, goes_on zero full (replicate full 255) refl)
goes_on (suc before) zero values e = cc
goes_on (suc before) (suc full) values e = omega (arith, goes_on before full values (parts_of 255 255 (replicate before 255 ++ values) (replicate full 255) e).1)

first_packet : (before : ℕ) (values packet others : List ℕ) → replicate before 255 ++ values ≡ lace packet ++ others → length packet ≡ 255 * before + first_size values
unfolding lacing_of
first_packet before values packet others e =
    omega (arith, first_is before (length packet / 255) (length packet % 255) values others (omega arith) (e ∙ append_assoc (replicate (length packet / 255) 255) (length packet % 255 ∷ []) others))

within : (n : ℕ) (packets : List (List ℕ)) (left : List ℕ) → length (concat packets) + length left ≤ n → AllByRecursion (λ packet. length packet ≤ n) (packets ++ left ∷ [])
within n [] left h = (omega (arith, h), tt)
within n (packet ∷ packets) left h =
    let long : length (packet ++ concat packets) ≡ length packet + length (concat packets) = length-append packet (concat packets) in
    (omega (arith, h, long), within n packets left (omega (arith, h, long)))

pub are_short : (rest : List ℕ) (segments : ℕ) (page : Page) (packets : List (List ℕ)) (left : List ℕ) → IsPage page → length rest ≡ 255 * segments → EndIn rest page packets left →
    length rest + first_size page.lacing ≤ longest_packet → AllByRecursion (λ packet. length packet ≤ longest_packet) (packets ++ left ∷ [])
are_short rest segments page packets left is e cut short = by_case packets (cut segments e)
  where
    small : length page.body ≤ 65307
    small = omega (arith, page_fits page is)

    by_case : (packets : List (List ℕ)) → CutsInto segments rest page.lacing page.body packets left → AllByRecursion (λ packet. length packet ≤ longest_packet) (packets ++ left ∷ [])
    by_case [] c = (omega (arith, c.left_size, goes_on segments c.later page.lacing c.lacing, e, short), tt)
    by_case (packet ∷ packets) c =
        let size : length packet ≡ 255 * segments + first_size page.lacing =
        first_packet segments page.lacing packet (flat_map lace packets ++ replicate c.later 255) (c.lacing ∙ append_assoc (lace packet) (flat_map lace packets) (replicate c.later 255)) in
        let all : length rest + length page.body ≡ length packet + length (concat packets) + length left =
        sym (length-append rest page.body) ∙ ap length c.bodies ∙ length-append (packet ++ concat packets) left ∙ ap (λ n. n + length left) (length-append packet (concat packets)) in
        (omega (arith, size, e, short), within longest_packet packets left (omega (arith, all, size, e, small)))
