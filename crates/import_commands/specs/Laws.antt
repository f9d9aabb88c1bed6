-- How many packets lacing values end, and a put in the last link. Nobody needs these to read a contract.
use Rattle.std.proofs.Common.{◌≡◌, ℕ, zero, suc, ◌+◌, ◌/◌, ◌%◌, ◌<◌, cond, List, [], ◌∷◌, ◌++◌, length, replicate, refl, ◌∙◌, ap, arith, fold}
use Rattle.std.specs.Prelude.{nat_lt}
use Rattle.std.specs.List.{flat_map}
use Rattle.std.proofs.lemmas.Bool.{lt-ltb}
use Rattle.std.proofs.lemmas.List.Sums.{sum_by-append, sum_by-cons}
use Rattle.ogg_page.specs.Lacing.{lace, lacing_of}
use Rattle.packetiser.specs.Run.{packets_ended}
use Rattle.ogg_command.specs.declared.command.Entry.{Entry}
use Rattle.link_chain.specs.Laws.LastLink.{last_changed}
use Rattle.chain_rules.specs.Recording.{Stream, Recording, with_packet, after}
use Rattle.import_commands.specs.Commands.{put_of}

-- ---- how many packets end
pub ended_app : (xs ys : List ℕ) → packets_ended (xs ++ ys) ≡ packets_ended xs + packets_ended ys
ended_app xs ys = sum_by-append (λ value. cond (nat_lt value 255) 1 0) xs ys

pub ended_full : (n : ℕ) → packets_ended (replicate n 255) ≡ 0
ended_full zero = refl
ended_full (suc n) = ended_full n

ended_value : (value : ℕ) → value < 255 → packets_ended (value ∷ []) ≡ 1
ended_value value h = sum_by-cons (λ v. cond (nat_lt v 255) 1 0) value [] ∙ ap (λ b. let n : ℕ = cond b 1 0 in n + 0) (lt-ltb value 255 h)

ended_lace : (n : ℕ) → packets_ended (lacing_of n) ≡ 1
unfolding lacing_of
ended_lace n = ended_app (replicate (n / 255) 255) (n % 255 ∷ []) ∙ omega (arith, ended_full (n / 255), ended_value (n % 255) (omega arith))

pub ended_packets : (packets : List (List ℕ)) → packets_ended (flat_map lace packets) ≡ length packets
ended_packets [] = refl
ended_packets (packet ∷ packets) = ended_app (lace packet) (flat_map lace packets) ∙ omega (arith, ended_lace (length packet), ended_packets packets)

-- ---- the last link
pub after_put : (recording : Recording) (streams : List Stream) (entries : List Entry) →
    after (recording ++ streams ∷ []) (put_of entries) ≡ recording ++ fold with_packet streams entries ∷ []
after_put recording streams [] = refl
after_put recording streams (entry ∷ entries) = last_changed (λ link. fold with_packet link (entry ∷ entries)) recording streams
