-- A stream's first page.
use Rattle.std.proofs.Common.{◌≡◌, ℕ, ◌+◌, ◌≤◌, Bool, true, false, cond, List, [], ◌∷◌, ◌++◌, refl, sym, ◌∙◌, ap, subst, arith, append-nil}
use Rattle.std.specs.Prelude.{not, ◌||◌, min}
use Rattle.std.specs.List.{list_any}
use Rattle.std.proofs.lemmas.Bool.{and_parts}
use Rattle.ogg_page.specs.Page.{Page, IsPage}
use Rattle.ogg_page.specs.Lacing.{lace, lacing_of}
use Rattle.ogg_page.specs.LogicalStream.{HoldsPackets, is_last, is_continued}
use Rattle.link_chain.specs.Links.{pages_with}
use Rattle.link_chain.specs.Recording.{Stream}
use Rattle.link_chain.specs.Taking.{is_one_packet, is_whole_packet}
use Rattle.link_chain.specs.Laws.Grow.{with_own}
use Rattle.link_chain.specs.Laws.TakenLinks.{whole_lacing}
use Rattle.import_commands.specs.Headers.{header_count, is_vorbis, is_theora, is_opus, is_flac, is_speex, flac_headers, speex_headers}
use Rattle.import_gather.specs.Headers.{is_skeleton, wanted_by}
use Rattle.import_gather.specs.Limits.{most_headers}
use Rattle.import_gather.specs.Kept.{entered}
use Rattle.import_gather.specs.Gathered.{KeepsUp}
use Rattle.import_gather.proofs.Issued.{stream_of}
use Rattle.std.proofs.Math.Bool.{or-false}

-- the stream that the page begins
abbrev pub begun_by : Page → Stream
begun_by page = stream_of page.serial (page.body ∷ []) (is_last page)

pub keeps_first : (pages : List Page) (page : Page) → IsPage page → is_whole_packet page ≡ true → pages_with page.serial pages ≡ [] → KeepsUp (pages ++ page ∷ []) (entered page) (begun_by page)
keeps_first pages page is whole none =
    let own : pages_with page.serial (pages ++ page ∷ []) ≡ page ∷ [] = with_own page.serial pages (page ∷ []) (refl, tt) ∙ ap (λ (l : List Page). l ++ page ∷ []) none in
    let lacing : page.lacing ≡ lace page.body = whole_lacing page.lacing (and_parts (not (is_continued page)) (is_one_packet page.lacing) whole).1 ∙ ap lacing_of is.whole in
    record {
      serial = refl;
      segments = 0;
      packets = subst (λ (l : List Page). HoldsPackets l (page.body ∷ []) 0 []) (sym own)
          (record { lacing = append-nil page.lacing ∙ lacing ∙ sym (append-nil (lace page.body)) ∙ sym (append-nil (lace page.body ++ [])); bodies = sym (append-nil (page.body ++ [])); rest_size = refl });
      ended = sym (or-false (is_last page)) ∙ ap (list_any is_last) (sym own);
      marked = refl;
    }

-- at least the first packet is wanted
cases5 : (a b c d e : Bool) (f g : ℕ) → 1 ≤ cond (a || b) 3 (cond c 2 (cond d (1 + f) (cond e (2 + g) 1)))
cases5 true b c d e f g = omega arith
cases5 false true c d e f g = omega arith
cases5 false false true d e f g = omega arith
cases5 false false false true e f g = omega arith
cases5 false false false false true f g = omega arith
cases5 false false false false false f g = omega arith

counted : (first : List ℕ) → 1 ≤ header_count first
counted first = cases5 (is_vorbis first) (is_theora first) (is_opus first) (is_flac first) (is_speex first) (flac_headers first) (speex_headers first)

pub one_wanted : (first : List ℕ) → 1 ≤ wanted_by first
unfolding wanted_by
one_wanted first = by_case (is_skeleton first)
  where
    small : 1 ≤ min (header_count first) most_headers
    small = omega (arith, counted first)

    by_case : (b : Bool) → 1 ≤ cond b most_headers (min (header_count first) most_headers)
    by_case true = omega arith
    by_case false = small
