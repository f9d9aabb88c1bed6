-- The lacing values and bytes of a run, counted packet by packet.
use Rattle.std.proofs.Common.{◌≡◌, ℕ, ◌+◌, ◌/◌, ◌%◌, List, [], ◌∷◌, length, map, sum_by, replicate, refl, sym, ◌∙◌, ap, arith, length-append}
use Rattle.std.proofs.lemmas.List.{length-replicate}
use Rattle.std.proofs.lemmas.List.Sums.{sum_by-cons}
use Rattle.ogg_page.specs.Lacing.{lacing_of}
use Rattle.packetiser.specs.Run.{Timed, run_lacing, run_bytes, lengths}

-- how many lacing values the packet has
abbrev pub values_in : Timed → ℕ
values_in item = length item.packet / 255 + 1

abbrev pub bytes_in : Timed → ℕ
bytes_in item = length item.packet

pub length-lacing_of : (bytes : ℕ) → length (lacing_of bytes) ≡ bytes / 255 + 1
unfolding lacing_of
length-lacing_of bytes = omega (arith, length-append (replicate (bytes / 255) 255) ((bytes % 255) ∷ []), length-replicate {A = ℕ} (bytes / 255) 255)

pub length-run_lacing : (run : List Timed) → length (run_lacing run) ≡ sum_by values_in run
unfolding run_lacing
length-run_lacing [] = refl
length-run_lacing (item ∷ run) =
    length-append (lacing_of (length item.packet)) (run_lacing run)
    ∙ omega (arith, length-lacing_of (length item.packet), length-run_lacing run, sum_by-cons values_in item run)

pub length-run_bytes : (run : List Timed) → length (run_bytes run) ≡ lengths run
unfolding run_bytes
length-run_bytes [] = refl
length-run_bytes (item ∷ run) =
    length-append item.packet (run_bytes run)
    ∙ omega (arith, length-run_bytes run, sum_by-cons bytes_in item run)

-- a sum over packets is the sum over the items that they are made from
pub sum_by-map : {X : Type 0} (f : Timed → ℕ) (timed : X → Timed) (xs : List X) → sum_by f (map timed xs) ≡ sum_by (λ x. f (timed x)) xs
sum_by-map f timed [] = refl
sum_by-map f timed (x ∷ xs) =
    sum_by-cons f (timed x) (map timed xs) ∙ ap (λ n. f (timed x) + n) (sum_by-map f timed xs) ∙ sym (sum_by-cons (λ y. f (timed y)) x xs)
