use Rattle.std.proofs.Common.{◌≡◌, ◌+◌, ℕ, List, length, map, drop, sym, ap, ◌∙◌, arith, length-drop}
use Rattle.packetiser.specs.Run.{run_lacing, pages_for}
use Rattle.packetiser.specs.Laws.Pieces.{run_pages}
use Rattle.ogg_command.specs.declared.command.NewStream.{NewStream}
use Rattle.chain_rules.specs.Begun.{new_state}
use Rattle.chain_rules.specs.Encoding.{header, header_pages}
use Rattle.command_pages.specs.Laws.Headers.{few_pages, split_lengths}
use Rattle.chain_rules.proofs.accepting.begun.Goals as goal

-- as many pages as the other headers have
page_count : (stream : NewStream) (lent whole : List (List ℕ)) (count : ℕ) → count ≡ pages_for (length (run_lacing (map header lent))) →
    lent ≡ drop 1 whole → whole ≡ stream.headers → count ≡ length (header_pages stream)
page_count stream lent whole count e l w =
    e ∙ ap (λ h. pages_for (length (run_lacing (map header h)))) (l ∙ ap (drop 1) w) ∙ sym (run_pages stream.serial 1 (map header (drop 1 stream.headers)))

pub returns : goal.returns
returns c =
    let stream : NewStream = c.args.stream.now in
    ap (λ n. record (new_state stream) { next_sequence = 1 + n })
    (page_count stream c.split_headers.result.1.now c.as_slice.result.now c.pages_of_run.result c.pages_of_run.ensures c.split_headers.ensures.others c.as_slice.ensures)

pub overflow_add-result : goal.overflow_add-result
overflow_add-result c =
    let stream : NewStream = c.args.stream.now in
    let count : c.pages_of_run.result ≡ length (header_pages stream) =
    page_count stream c.split_headers.result.1.now c.as_slice.result.now c.pages_of_run.result c.pages_of_run.ensures c.split_headers.ensures.others c.as_slice.ensures in
    let few = few_pages (drop 1 stream.headers) (omega (arith, split_lengths stream.headers, c.requires.short)) (omega (arith, length-drop 1 stream.headers, c.requires.few)) in
    omega (arith, count, run_pages stream.serial 1 (map header (drop 1 stream.headers)), few)
