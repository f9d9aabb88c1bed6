-- The pages of a Skeleton: how many bytes they have, one after the other.
use Rattle.std.proofs.Common.{◌≡◌, ℕ, ◌+◌, ◌/◌, ◌<◌, List, [], ◌∷◌, ◌++◌, length, take, get_or, sym, ◌∙◌, ap, arith, append_assoc, length-take}
use Rattle.std.proofs.lemmas.List.{take_more, append-nil}
use Rattle.std.proofs.lemmas.List.Sums.{sum_by-cons, sum_by-append}
use Rattle.ogg_page.specs.Page.{Page, page_size}
use Rattle.packetiser.specs.Run.{pages_of_run, run_lacing, run_bytes, size_for}
use Rattle.packetiser.specs.Laws.Pieces.{run_bytes_all}
use Rattle.packetiser.specs.Laws.Sizes.{length-run_lacing, length-run_bytes, values_in, bytes_in}
use Rattle.ogg_command.specs.declared.command.NewStream.{NewStream}
use Rattle.command_pages.specs.Encoding.{header, fisbone_packet, fisbone_pages}
use Rattle.link_chain.specs.Size.{size_of_pages}

-- a packet's lacing values, and its bytes
values_alone : (packet : List ℕ) → length (run_lacing (header packet ∷ [])) ≡ length packet / 255 + 1
values_alone packet = length-run_lacing (header packet ∷ []) ∙ omega (arith, sum_by-cons values_in (header packet) [])

bytes_alone : (packet : List ℕ) → length (run_bytes (header packet ∷ [])) ≡ length packet
bytes_alone packet = length-run_bytes (header packet ∷ []) ∙ omega (arith, sum_by-cons bytes_in (header packet) [])

pub size_alone : (serial first : ℕ) (packet : List ℕ) → size_of_pages (pages_of_run serial first (header packet ∷ [])) ≡ size_for (length packet / 255 + 1) (length packet)
size_alone serial first packet =
    run_bytes_all serial first (header packet ∷ [])
    ∙ ap (λ n. size_for n (length (run_bytes (header packet ∷ [])))) (values_alone packet)
    ∙ ap (λ n. size_for (length packet / 255 + 1) n) (bytes_alone packet)

-- ---- one fisbone more
pages_push : (serial first : ℕ) (streams : List NewStream) (stream : NewStream) →
    fisbone_pages serial first (streams ++ stream ∷ []) ≡ fisbone_pages serial first streams ++ pages_of_run serial (first + length streams) (header (fisbone_packet stream) ∷ [])
pages_push serial first [] stream =
    append-nil (pages_of_run serial first (header (fisbone_packet stream) ∷ []))
    ∙ ap (λ n. pages_of_run serial n (header (fisbone_packet stream) ∷ [])) (let e : first ≡ first + 0 = omega arith in e)
pages_push serial first (s ∷ streams) stream =
    let own : List Page = pages_of_run serial first (header (fisbone_packet s) ∷ []) in
    let next : first + 1 + length streams ≡ first + length (s ∷ streams) = omega arith in
    ap (λ l. own ++ l) (pages_push serial (first + 1) streams stream)
    ∙ sym (append_assoc own (fisbone_pages serial (first + 1) streams) (pages_of_run serial (first + 1 + length streams) (header (fisbone_packet stream) ∷ [])))
    ∙ ap (λ n. (own ++ fisbone_pages serial (first + 1) streams) ++ pages_of_run serial n (header (fisbone_packet stream) ∷ [])) next

pub pages_more : (serial first : ℕ) (streams : List NewStream) (i : ℕ) (d : NewStream) → i < length streams →
    fisbone_pages serial first (take (i + 1) streams) ≡ fisbone_pages serial first (take i streams) ++ pages_of_run serial (first + i) (header (fisbone_packet (get_or streams i d)) ∷ [])
pages_more serial first streams i d lt =
    let count : length (take i streams) ≡ i = omega (arith, length-take i streams, lt) in
    ap (fisbone_pages serial first) (take_more streams i d lt)
    ∙ pages_push serial first (take i streams) (get_or streams i d)
    ∙ ap (λ n. fisbone_pages serial first (take i streams) ++ pages_of_run serial (first + n) (header (fisbone_packet (get_or streams i d)) ∷ [])) count

pub size_more : (serial first : ℕ) (streams : List NewStream) (i : ℕ) (d : NewStream) → i < length streams →
    size_of_pages (fisbone_pages serial first (take (i + 1) streams))
    ≡ size_of_pages (fisbone_pages serial first (take i streams)) + size_of_pages (pages_of_run serial (first + i) (header (fisbone_packet (get_or streams i d)) ∷ []))
size_more serial first streams i d lt =
    ap size_of_pages (pages_more serial first streams i d lt)
    ∙ sum_by-append page_size (fisbone_pages serial first (take i streams)) (pages_of_run serial (first + i) (header (fisbone_packet (get_or streams i d)) ∷ []))
