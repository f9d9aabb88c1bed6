-- A Skeleton is a part of its link, and its last page ends it.
use Rattle.std.proofs.Common.{◌≡◌, ◌≢◌, ℕ, ℤ, rules, ◌+◌, ◌<◌, ◌^◌, false, List, [], ◌∷◌, ◌++◌, length, map, refl, sym, ◌∙◌, ap, subst, arith, append_assoc, length-append, codes}
use Rattle.std.specs.Prelude.{nat_lt, ◌||◌}
use Rattle.std.specs.List.{AllByRecursion, flat_map, list_any}
use Rattle.std.proofs.lemmas.List.{append-nil}
use Rattle.std.proofs.lemmas.List.Concat.{flat_map-append}
use Rattle.std.proofs.lemmas.List.Folds.{list_any-append}
use Rattle.std.proofs.lemmas.Bool.{ne_eqb, or_from, or_parts, le-ltb}
use Rattle.ogg_page.specs.Page.{Page, IsPage, IsByte}
use Rattle.ogg_page.specs.Lacing.{ends_open, lacing_of}
use Rattle.ogg_page.specs.LogicalStream.{HoldsPackets, FitsBehind, EachBehind, joined_lacing, number_behind, is_first, is_last}
use Rattle.packetiser.specs.Run.{Timed, pages_of_run, page_of_run, page_position, run_lacing, run_bytes, values_at, values_before}
use Rattle.packetiser.specs.Laws.Pieces.{run_is_held, run_pages}
use Rattle.ogg_page.specs.StreamLaws.{behind_both, held_both, finished, ends_open-append}
use Rattle.packetiser.specs.Laws.Behind.{run_fits, number_behind_run}
use Rattle.packetiser.specs.Laws.Ranges.{run_is_pages}
use Rattle.ogg_page.specs.Numbers.{u16_bytes, u32_bytes, i64_bytes}
use Rattle.skeleton3.specs.Fishead.{fishead_bytes, fishead_with}
use Rattle.skeleton3.specs.Fisbone.{fisbone_name, fixed_part}
use Rattle.skeleton3.specs.Fields.{NamedValue, content_type, field_line, message_of}
use Rattle.ogg_command.specs.declared.command.NewStream.{NewStream}
use Rattle.ogg_command.specs.declared.command.SkeletonHead.{SkeletonHead}
use Rattle.ogg_command.specs.Command.{AreFieldBytes, IsNewStream, IsSkeletonHead}
use Rattle.chain_rules.specs.Decision.{has_long_message}
use Rattle.chain_rules.specs.Encoding.{header, fishead_of, fisbone_packet, fisbone_pages, skeleton_stream, skeleton_end, first_pages}
use Rattle.link_chain.specs.Laws.Grow.{any_none, Own, Unmarked, GoOn}
use Rattle.chain_rules.proofs.Beginning.{IsGood, is_first_page, first_page, first_held, first_is_page, not_last, number_of_first, headers_timed}
use Rattle.chain_rules.proofs.Parts.{Part, IsPart, IsStill}
use Rattle.command_pages.specs.Laws.Short.{short_fishead, short_fisbone, one_each}
use Rattle.link_chain.specs.Laws.LastLink.{all_split}
use Rattle.chain_rules.proofs.RunState.{run_own, run_unmarked, run_goes_on}
use Rattle.chain_rules.proofs.Still.{run_still}
use Rattle.ogg_page.specs.Laws.PageBytes.{all_both}

-- ---- the fisbones' pages
fisbones_own : (serial first : ℕ) (streams : List NewStream) → Own serial (fisbone_pages serial first streams)
fisbones_own serial first [] = tt
fisbones_own serial first (s ∷ streams) =
    all_both (λ (p : Page). p.serial ≡ serial) (pages_of_run serial first (header (fisbone_packet s) ∷ [])) (fisbone_pages serial (first + 1) streams)
    (run_own serial first (header (fisbone_packet s) ∷ [])) (fisbones_own serial (first + 1) streams)

fisbones_unmarked : (serial first : ℕ) (streams : List NewStream) → Unmarked (fisbone_pages serial first streams)
fisbones_unmarked serial first [] = tt
fisbones_unmarked serial first (s ∷ streams) =
    all_both (λ (p : Page). is_first p ≡ false) (pages_of_run serial first (header (fisbone_packet s) ∷ [])) (fisbone_pages serial (first + 1) streams)
    (run_unmarked serial first (header (fisbone_packet s) ∷ [])) (fisbones_unmarked serial (first + 1) streams)

fisbones_go_on : (serial first : ℕ) (streams : List NewStream) → GoOn (fisbone_pages serial first streams)
fisbones_go_on serial first [] = tt
fisbones_go_on serial first (s ∷ streams) =
    all_both (λ (p : Page). is_last p ≡ false) (pages_of_run serial first (header (fisbone_packet s) ∷ [])) (fisbone_pages serial (first + 1) streams)
    (run_goes_on serial first (header (fisbone_packet s) ∷ [])) (fisbones_go_on serial (first + 1) streams)

fisbones_still : (serial first : ℕ) (streams : List NewStream) → AllByRecursion IsStill (fisbone_pages serial first streams)
fisbones_still serial first [] = tt
fisbones_still serial first (s ∷ streams) =
    all_both IsStill (pages_of_run serial first (header (fisbone_packet s) ∷ [])) (fisbone_pages serial (first + 1) streams)
    (run_still serial first (fisbone_packet s ∷ [])) (fisbones_still serial (first + 1) streams)

fisbones_held : (serial first : ℕ) (streams : List NewStream) → HoldsPackets (fisbone_pages serial first streams) (map fisbone_packet streams) 0 []
fisbones_held serial first [] = record { lacing = refl; bodies = refl; rest_size = refl }
fisbones_held serial first (s ∷ streams) =
    held_both (pages_of_run serial first (header (fisbone_packet s) ∷ [])) (fisbone_pages serial (first + 1) streams) (fisbone_packet s ∷ []) (map fisbone_packet streams)
    (run_is_held serial first (header (fisbone_packet s) ∷ [])) (fisbones_held serial (first + 1) streams)

some_more : (xs ys : List Page) → xs ≢ [] → xs ++ ys ≢ []
some_more [] ys ne e = absurd (ne refl)
some_more (x ∷ xs) ys ne e = cc

fisbones_fit : (serial first : ℕ) (streams : List NewStream) (before : List Page) → list_any has_long_message streams ≡ false →
    before ≢ [] → ends_open (joined_lacing before) ≡ false → list_any is_last before ≡ false → number_behind before ≡ first →
    EachBehind FitsBehind before (fisbone_pages serial first streams)
fisbones_fit serial first [] before short some closed unended number = tt
fisbones_fit serial first (s ∷ streams) before short some closed unended number =
    let parts : (has_long_message s ≡ false) × (list_any has_long_message streams ≡ false) = or_parts (has_long_message s) (list_any has_long_message streams) short in
    let run : List Timed = header (fisbone_packet s) ∷ [] in
    let own : List Page = pages_of_run serial first run in
    let held : HoldsPackets own (fisbone_packet s ∷ []) 0 [] = run_is_held serial first run in
    behind_both FitsBehind before own (fisbone_pages serial (first + 1) streams) (run_fits serial first run before some closed unended number)
    (fisbones_fit serial (first + 1) streams (before ++ own) parts.1 (some_more before own some)
    (ap ends_open (flat_map-append (λ (p : Page). p.lacing) before own) ∙ ends_open-append (joined_lacing before) (joined_lacing own) closed ∙ finished own (fisbone_packet s ∷ []) held)
    (list_any-append is_last before own ∙ or_from (list_any is_last before) (list_any is_last own) unended (any_none is_last own (run_goes_on serial first run)))
    (number_behind_run serial first run before number ∙ ap (λ n. first + n) (one_each (fisbone_packet s) (short_fisbone s parts.0))))

fisbones_number : (serial first : ℕ) (streams : List NewStream) (before : List Page) → list_any has_long_message streams ≡ false → number_behind before ≡ first →
    number_behind (before ++ fisbone_pages serial first streams) ≡ first + length streams
fisbones_number serial first [] before short number = ap number_behind (append-nil before) ∙ omega (arith, number)
fisbones_number serial first (s ∷ streams) before short number =
    let parts : (has_long_message s ≡ false) × (list_any has_long_message streams ≡ false) = or_parts (has_long_message s) (list_any has_long_message streams) short in
    let run : List Timed = header (fisbone_packet s) ∷ [] in
    let own : List Page = pages_of_run serial first run in
    ap number_behind (sym (append_assoc before own (fisbone_pages serial (first + 1) streams)))
    ∙ fisbones_number serial (first + 1) streams (before ++ own) parts.1
    (number_behind_run serial first run before number ∙ ap (λ n. first + n) (one_each (fisbone_packet s) (short_fisbone s parts.0)))
    ∙ omega arith

pub fisbones_count : (serial first : ℕ) (streams : List NewStream) → list_any has_long_message streams ≡ false → length (fisbone_pages serial first streams) ≡ length streams
fisbones_count serial first [] short = refl
fisbones_count serial first (s ∷ streams) short =
    let parts : (has_long_message s ≡ false) × (list_any has_long_message streams ≡ false) = or_parts (has_long_message s) (list_any has_long_message streams) short in
    let run : List Timed = header (fisbone_packet s) ∷ [] in
    omega (
      arith,
      length-append (pages_of_run serial first run) (fisbone_pages serial (first + 1) streams),
      run_pages serial first run,
      one_each (fisbone_packet s) (short_fisbone s parts.0),
      fisbones_count serial (first + 1) streams parts.1,
    )

-- ---- the Skeleton as a part
abbrev pub skeleton_part : SkeletonHead → List NewStream → Part
skeleton_part head streams = record { stream = skeleton_stream head streams; later = fisbone_pages head.serial 1 streams }

good_skeleton : (head : SkeletonHead) (streams : List NewStream) → length head.utc ≡ 20 → IsGood (skeleton_stream head streams)
good_skeleton head streams size = record {
  some = ne_eqb (length (skeleton_stream head streams).headers) 0 (λ e. omega (arith, e));
  short = or_from (nat_lt 65024 (length (fishead_bytes (fishead_of head)))) false (le-ltb 65024 (length (fishead_bytes (fishead_of head))) (short_fishead head size)) refl;
}

pub is_skeleton_part : (head : SkeletonHead) (streams : List NewStream) → length head.utc ≡ 20 → list_any has_long_message streams ≡ false → IsPart (skeleton_part head streams)
is_skeleton_part head streams size short =
    let stream : NewStream = skeleton_stream head streams in
    let page : Page = first_page stream in
    let good : IsGood stream = good_skeleton head streams size in
    let number : number_behind (page ∷ []) ≡ 1 = ap (λ n. n + 1) (number_of_first stream) in
    let closed : ends_open (joined_lacing (page ∷ [])) ≡ false =
    finished (page ∷ []) (fishead_bytes (fishead_of head) ∷ [])
    (subst (λ (l : List Page). HoldsPackets l (fishead_bytes (fishead_of head) ∷ []) 0 []) (is_first_page stream good).alone (first_held stream)) in
    record {
      good = good;
      own = fisbones_own head.serial 1 streams;
      unmarked = fisbones_unmarked head.serial 1 streams;
      goes_on = fisbones_go_on head.serial 1 streams;
      fits = fisbones_fit head.serial 1 streams (page ∷ []) short (λ e. cc) closed (ap (λ b. b || false) (not_last stream)) number;
      held = fisbones_held head.serial 1 streams;
      number = fisbones_number head.serial 1 streams (page ∷ []) short number ∙ ap (λ n. 1 + n) (sym (fisbones_count head.serial 1 streams short));
      still = fisbones_still head.serial 1 streams;
    }

-- ---- the last page
-- the last page has one packet, which is empty
abbrev pub last_page : ℕ → ℕ → Page
last_page serial sequence = record { flags = 4; position = 0; serial = serial; sequence = sequence; lacing = 0 ∷ []; body = [] }

raw_end : (serial first : ℕ) → skeleton_end serial first ≡ last_page serial (first + 0) ∷ []
unfolding pages_of_run page_of_run page_position run_lacing run_bytes values_at values_before lacing_of
raw_end serial first = refl

pub end_is : (serial first : ℕ) → skeleton_end serial first ≡ last_page serial first ∷ []
end_is serial first = raw_end serial first ∙ ap (λ n. last_page serial n ∷ []) (let e : first + 0 ≡ first = omega arith in e)

-- ---- bytes
all_bytes : (xs ys : List ℕ) → AllByRecursion IsByte xs → AllByRecursion IsByte ys → AllByRecursion IsByte (xs ++ ys)
all_bytes xs ys a b = all_both IsByte xs ys a b

bytes_u16 : (n : ℕ) → AllByRecursion IsByte (u16_bytes n)
unfolding u16_bytes
bytes_u16 n = (omega arith, (omega arith, tt))

bytes_u32 : (n : ℕ) → AllByRecursion IsByte (u32_bytes n)
unfolding u32_bytes
bytes_u32 n = (omega arith, (omega arith, (omega arith, (omega arith, tt))))

bytes_i64 : (n : ℤ) → AllByRecursion IsByte (i64_bytes n)
unfolding i64_bytes
bytes_i64 n = (omega arith, (omega arith, (omega arith, (omega arith, (omega arith, (omega arith, (omega arith, (omega arith, tt))))))))

fraction_is_bytes : (fraction : ℤ × ℤ) → AllByRecursion IsByte (i64_bytes fraction.0 ++ i64_bytes fraction.1)
fraction_is_bytes fraction = all_bytes (i64_bytes fraction.0) (i64_bytes fraction.1) (bytes_i64 fraction.0) (bytes_i64 fraction.1)

name_is_bytes : AllByRecursion IsByte (codes "fishead" ++ 0 ∷ []) × AllByRecursion IsByte (codes "fisbone" ++ 0 ∷ [])
name_is_bytes = (search rules, search rules)

fishead_is_bytes : (head : SkeletonHead) → AllByRecursion IsByte head.utc → AllByRecursion IsByte (fishead_bytes (fishead_of head))
unfolding fishead_with
fishead_is_bytes head utc =
    all_both IsByte (codes "fishead" ++ 0 ∷ []) _ name_is_bytes.0
    (all_both IsByte (u16_bytes 3) _ (bytes_u16 3)
    (all_both IsByte (u16_bytes 0) _ (bytes_u16 0)
    (all_both IsByte (i64_bytes head.presentation.0 ++ i64_bytes head.presentation.1) _ (fraction_is_bytes head.presentation)
    (all_both IsByte (i64_bytes head.base.0 ++ i64_bytes head.base.1) head.utc (fraction_is_bytes head.base) utc))))

bytes_around : (media : List ℕ) → AllByRecursion IsByte media → AllByRecursion IsByte (codes "Content-Type: " ++ media ++ codes "\r\n")
bytes_around media h =
    let front : AllByRecursion IsByte (codes "Content-Type: ") = search rules in
    let back : AllByRecursion IsByte (codes "\r\n") = search rules in
    all_both IsByte (codes "Content-Type: " ++ media) (codes "\r\n") (all_both IsByte (codes "Content-Type: ") media front h) back

line_is_bytes : (field : NamedValue) → AreFieldBytes field → AllByRecursion IsByte (field_line field)
line_is_bytes field are =
    let between : AllByRecursion IsByte (codes ": ") = search rules in
    let back : AllByRecursion IsByte (codes "\r\n") = search rules in
    all_both IsByte (field.0 ++ codes ": " ++ field.1) (codes "\r\n")
    (all_both IsByte (field.0 ++ codes ": ") field.1 (all_both IsByte field.0 (codes ": ") are.0 between) are.1) back

lines_are_bytes : (fields : List NamedValue) → AllByRecursion AreFieldBytes fields → AllByRecursion IsByte (flat_map field_line fields)
lines_are_bytes [] are = tt
lines_are_bytes (field ∷ fields) are = all_both IsByte (field_line field) (flat_map field_line fields) (line_is_bytes field are.0) (lines_are_bytes fields are.1)

fisbone_is_bytes : (stream : NewStream) → IsNewStream stream → AllByRecursion IsByte (fisbone_packet stream)
unfolding fixed_part
fisbone_is_bytes stream is =
    let last : List ℕ = stream.shift ∷ 0 ∷ 0 ∷ 0 ∷ [] in
    let last_are : AllByRecursion IsByte last = (is.shift, (omega arith, (omega arith, (omega arith, tt)))) in
    all_both IsByte
    (fisbone_name ++ (u32_bytes 44 ++ (u32_bytes stream.serial ++ (u32_bytes (length stream.headers) ++ ((i64_bytes stream.rate.0 ++ i64_bytes stream.rate.1)
    ++ (i64_bytes stream.base_granule ++ (u32_bytes stream.preroll ++ last)))))))
    (message_of stream.media stream.fields)
    (all_both IsByte (codes "fisbone" ++ 0 ∷ []) _ name_is_bytes.1
    (all_both IsByte (u32_bytes 44) _ (bytes_u32 44)
    (all_both IsByte (u32_bytes stream.serial) _ (bytes_u32 stream.serial)
    (all_both IsByte (u32_bytes (length stream.headers)) _ (bytes_u32 (length stream.headers))
    (all_both IsByte (i64_bytes stream.rate.0 ++ i64_bytes stream.rate.1) _ (fraction_is_bytes stream.rate)
    (all_both IsByte (i64_bytes stream.base_granule) _ (bytes_i64 stream.base_granule)
    (all_both IsByte (u32_bytes stream.preroll) last (bytes_u32 stream.preroll) last_are)))))))
    (all_both IsByte (content_type stream.media) (flat_map field_line stream.fields) (bytes_around stream.media is.media) (lines_are_bytes stream.fields is.fields))

-- ---- the pages are pages
pub fisbones_pages : (serial first : ℕ) (streams : List NewStream) → serial < 2 ^ 32 → AllByRecursion IsNewStream streams → AllByRecursion (λ (p : Page). p.sequence < 2 ^ 32) (fisbone_pages serial first streams) →
    AllByRecursion IsPage (fisbone_pages serial first streams)
fisbones_pages serial first [] small new numbers = tt
fisbones_pages serial first (s ∷ streams) small new numbers =
    let own : List Page = pages_of_run serial first (header (fisbone_packet s) ∷ []) in
    let both : AllByRecursion (λ (p : Page). p.sequence < 2 ^ 32) own × AllByRecursion (λ (p : Page). p.sequence < 2 ^ 32) (fisbone_pages serial (first + 1) streams) =
    all_split (λ (p : Page). p.sequence < 2 ^ 32) own (fisbone_pages serial (first + 1) streams) numbers in
    all_both IsPage own (fisbone_pages serial (first + 1) streams)
    (run_is_pages serial first (header (fisbone_packet s) ∷ []) small (headers_timed (fisbone_packet s ∷ []) (fisbone_is_bytes s new.0, tt)) both.0)
    (fisbones_pages serial (first + 1) streams small new.1 both.1)

-- the Skeleton's first page
pub fishead_page : (head : SkeletonHead) (streams : List NewStream) → IsSkeletonHead head → AllByRecursion IsPage (first_pages (skeleton_stream head streams))
fishead_page head streams is =
    let stream : NewStream = skeleton_stream head streams in
    let good : IsGood stream = good_skeleton head streams is.utc_length in
    subst (AllByRecursion IsPage) (sym (is_first_page stream good).alone)
    (first_is_page stream good is.serial (fishead_is_bytes head is.utc, tt), tt)

pub end_is_page : (serial first : ℕ) → serial < 2 ^ 32 → AllByRecursion (λ (p : Page). p.sequence < 2 ^ 32) (skeleton_end serial first) → AllByRecursion IsPage (skeleton_end serial first)
end_is_page serial first small numbers =
    let number : AllByRecursion (λ (p : Page). p.sequence < 2 ^ 32) (last_page serial first ∷ []) = subst (AllByRecursion (λ (p : Page). p.sequence < 2 ^ 32)) (end_is serial first) numbers in
    subst (AllByRecursion IsPage) (sym (end_is serial first)) (
      record {
        flags = omega arith;
        position = omega arith;
        serial = small;
        sequence = number.0;
        values = omega arith;
        lacing = (omega arith, tt);
        body = tt;
        whole = refl;
      },
      tt,
    )
