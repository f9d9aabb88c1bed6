-- Headers have position 0, and so have their pages.
use Rattle.std.proofs.Common.{◌≡◌, ℕ, zero, suc, ◌+◌, ◌^◌, Bool, true, false, cond, List, [], ◌∷◌, length, map, refl, ◌∙◌, ap, arith, inl, inr, ◌⊎◌}
use Rattle.std.specs.Prelude.{nat_eq, nat_lt}
use Rattle.std.specs.List.{fold, AllByRecursion}
use Rattle.std.proofs.lemmas.Bool.{cond-true, cond-false, lt-ltb, le-ltb}
use Rattle.ogg_page.specs.Page.{Page}
use Rattle.packetiser.specs.Run.{counted, page_of_run, pages_of_run, pages_for, run_lacing, page_position, position_of, packets_ended, values_at, values_before, no_position, flagged}
use Rattle.link_chain.specs.ChainState.{last_position}
use Rattle.chain_rules.specs.Encoding.{header}
use Rattle.chain_rules.proofs.Parts.{IsStill}
use Rattle.chain_rules.proofs.LastPage.{reached}

position_still : (n : ℕ) (headers : List (List ℕ)) → (position_of n (map header headers) ≡ 0) ⊎ (position_of n (map header headers) ≡ no_position)
position_still zero headers = inr refl
position_still (suc n) [] = inr refl
position_still (suc zero) (packet ∷ headers) = inl refl
position_still (suc (suc n)) (packet ∷ headers) = position_still (suc n) headers

page_still : (k : ℕ) (headers : List (List ℕ)) → (page_position k (map header headers) ≡ 0) ⊎ (page_position k (map header headers) ≡ no_position)
unfolding page_position
page_still k headers =
    either (nat_eq (packets_ended (values_at k (run_lacing (map header headers)))) 0) (position_of (packets_ended (values_before (k + 1) (run_lacing (map header headers)))) (map header headers))
    (position_still (packets_ended (values_before (k + 1) (run_lacing (map header headers)))) headers)
  where
    either : (b : Bool) (position : ℕ) → (position ≡ 0) ⊎ (position ≡ no_position) → (cond b no_position position ≡ 0) ⊎ (cond b no_position position ≡ no_position)
    either true position h = inr refl
    either false position h = h

of_run_still : (serial first : ℕ) (headers : List (List ℕ)) (k : ℕ) → IsStill (page_of_run serial first (map header headers) k)
unfolding page_of_run
of_run_still serial first headers k = page_still k headers

from_still : (serial first : ℕ) (headers : List (List ℕ)) (n j : ℕ) → AllByRecursion IsStill (map (page_of_run serial first (map header headers)) (counted j n))
from_still serial first headers zero j = tt
from_still serial first headers (suc n) j = (of_run_still serial first headers j, from_still serial first headers n (j + 1))

pub run_still : (serial first : ℕ) (headers : List (List ℕ)) → AllByRecursion IsStill (pages_of_run serial first (map header headers))
unfolding pages_of_run
run_still serial first headers = from_still serial first headers (pages_for (length (run_lacing (map header headers)))) 0

pub flagged_still : (flags : ℕ) (pages : List Page) → AllByRecursion IsStill pages → AllByRecursion IsStill (flagged flags pages)
flagged_still flags [] h = tt
flagged_still flags (page ∷ pages) h = h

stays_at_0 : (page : Page) → IsStill page → reached 0 page ≡ 0
stays_at_0 page h =
    elim h [
      | inl zero_is ↦ cond-true (nat_lt page.position (2 ^ 63)) page.position 0 (lt-ltb page.position (2 ^ 63) (omega (arith, zero_is))) ∙ zero_is
      | inr none ↦ cond-false (nat_lt page.position (2 ^ 63)) page.position 0 (le-ltb page.position (2 ^ 63) (omega (arith, none)))
    ]

pub still_position : (pages : List Page) → AllByRecursion IsStill pages → last_position pages ≡ 0
still_position [] h = refl
still_position (page ∷ pages) h = ap (λ n. fold reached n pages) (stays_at_0 page h.0) ∙ still_position pages h.1
