-- Each page of a link with a Skeleton can have its number.
use Rattle.std.proofs.Common.{◌≡◌, ℕ, ◌+◌, ◌≤◌, ◌^◌, false, List, [], ◌∷◌, ◌++◌, length, Some, refl, ◌∙◌, arith}
use Rattle.std.specs.List.{list_any, flat_map, AllByRecursion}
use Rattle.std.proofs.lemmas.Bool.{or_from, or_parts}
use Rattle.std.proofs.lemmas.List.Folds.{list_any-append}
use Rattle.ogg_page.specs.Page.{Page}
use Rattle.packetiser.specs.Run.{pages_of_run}
use Rattle.skeleton3.specs.Fishead.{fishead_bytes}
use Rattle.ogg_command.specs.declared.command.NewStream.{NewStream}
use Rattle.ogg_command.specs.declared.command.SkeletonHead.{SkeletonHead}
use Rattle.command_pages.specs.Fits.{has_long_message}
use Rattle.command_pages.specs.Encoding.{header, first_flag, last_flag, fishead_of, fisbone_packet, fisbone_pages, first_pages, header_pages, skeleton_stream, skeleton_end, pages_of_begin}
use Rattle.link_chain.specs.Size.{has_no_number}
use Rattle.command_pages.proofs.BeginPages.{IsSmall, flagged_numbers, first_numbered, headers_numbered, all_numbered}
use Rattle.command_pages.proofs.RunPages.{within}
use Rattle.command_pages.specs.Laws.Short.{one_each, short_fishead, short_fisbone}

both_numbered : (xs ys : List Page) → list_any has_no_number xs ≡ false → list_any has_no_number ys ≡ false → list_any has_no_number (xs ++ ys) ≡ false
both_numbered xs ys a b = list_any-append has_no_number xs ys ∙ or_from (list_any has_no_number xs) (list_any has_no_number ys) a b

-- the page of a short packet
alone_numbered : (serial first : ℕ) (packet : List ℕ) → length packet ≤ 65024 → first + 1 ≤ 2 ^ 32 → list_any has_no_number (pages_of_run serial first (header packet ∷ [])) ≡ false
alone_numbered serial first packet short few = within serial first (header packet ∷ []) (omega (arith, one_each packet short, few))

fisbones_numbered : (serial first : ℕ) (streams : List NewStream) → list_any has_long_message streams ≡ false → first + length streams ≤ 2 ^ 32 →
    list_any has_no_number (fisbone_pages serial first streams) ≡ false
fisbones_numbered serial first [] short few = refl
fisbones_numbered serial first (s ∷ streams) short few =
    let parts : (has_long_message s ≡ false) × (list_any has_long_message streams ≡ false) = or_parts (has_long_message s) (list_any has_long_message streams) short in
    both_numbered (pages_of_run serial first (header (fisbone_packet s) ∷ [])) (fisbone_pages serial (first + 1) streams)
    (alone_numbered serial first (fisbone_packet s) (short_fisbone s parts.0) (omega (arith, few)))
    (fisbones_numbered serial (first + 1) streams parts.1 (omega (arith, few)))

pub described_numbered : (head : SkeletonHead) (streams : List NewStream) → AllByRecursion IsSmall streams → length head.utc ≡ 20 → list_any has_long_message streams ≡ false →
    length streams ≤ 64 → list_any has_no_number (pages_of_begin (Some head) streams) ≡ false
described_numbered head streams small size short few =
    let first : List Page = first_pages (skeleton_stream head streams) in
    let fisbones : List Page = fisbone_pages head.serial 1 streams in
    let ends : List Page = skeleton_end head.serial (length streams + 1) in
    both_numbered ((first ++ flat_map first_pages streams) ++ (fisbones ++ flat_map header_pages streams)) ends
    (both_numbered (first ++ flat_map first_pages streams) (fisbones ++ flat_map header_pages streams)
    (both_numbered first (flat_map first_pages streams)
    (flagged_numbers first_flag (pages_of_run head.serial 0 (header (fishead_bytes (fishead_of head)) ∷ []))
    ∙ alone_numbered head.serial 0 (fishead_bytes (fishead_of head)) (short_fishead head size) (omega arith))
    (all_numbered first_pages first_numbered streams small))
    (both_numbered fisbones (flat_map header_pages streams) (fisbones_numbered head.serial 1 streams short (omega (arith, few))) (all_numbered header_pages headers_numbered streams small)))
    (flagged_numbers last_flag (pages_of_run head.serial (length streams + 1) (header [] ∷ []))
    ∙ alone_numbered head.serial (length streams + 1) [] (omega arith) (omega (arith, few)))
