use Rattle.std.proofs.Common.{◌≡◌, ℕ, List, length, map, take, drop, sym, ap, ◌∙◌, arith}
use Rattle.packetiser.specs.Run.{run_lacing, run_bytes, size_for}
use Rattle.ogg_command.specs.declared.command.NewStream.{NewStream}
use Rattle.command_pages.specs.Encoding.{header, first_pages, header_pages}
use Rattle.link_chain.specs.Size.{size_of_pages}
use Rattle.command_pages.proofs.BeginPages.{first_size, headers_size, small_stream}
use Rattle.command_pages.proofs.sizes.size_of_stream.Goals as goal

-- the size of the pages of headers
size_of_headers : List (List ℕ) → ℕ
size_of_headers headers = size_for (length (run_lacing (map header headers))) (length (run_bytes (map header headers)))

first_is : (stream : NewStream) (lent whole : List (List ℕ)) (size : ℕ) → size ≡ size_of_headers lent → lent ≡ take 1 whole → whole ≡ stream.headers → size ≡ size_of_pages (first_pages stream)
unfolding size_of_headers
first_is stream lent whole size s l w = s ∙ ap size_of_headers (l ∙ ap (take 1) w) ∙ sym (first_size stream)

others_is : (stream : NewStream) (lent whole : List (List ℕ)) (size : ℕ) → size ≡ size_of_headers lent → lent ≡ drop 1 whole → whole ≡ stream.headers → size ≡ size_of_pages (header_pages stream)
unfolding size_of_headers
others_is stream lent whole size s l w = s ∙ ap size_of_headers (l ∙ ap (drop 1) w) ∙ sym (headers_size stream)

pub returns-clause-value : goal.returns-clause-value
unfolding size_of_headers
returns-clause-value c =
    let stream : NewStream = c.args.stream.now in
    let first : c.size_of_run.result ≡ size_of_pages (first_pages stream) =
    first_is stream c.split_headers.result.0.now c.as_slice.result.now c.size_of_run.result c.size_of_run.ensures c.split_headers.ensures.first c.as_slice.ensures in
    let others : c.size_of_run-2.result ≡ size_of_pages (header_pages stream) =
    others_is stream c.split_headers.result.1.now c.as_slice.result.now c.size_of_run-2.result c.size_of_run-2.ensures c.split_headers.ensures.others c.as_slice.ensures in
    omega (arith, first, others)

pub returns-clause-small : goal.returns-clause-small
unfolding size_of_headers
returns-clause-small c =
    let stream : NewStream = c.args.stream.now in
    let first : c.size_of_run.result ≡ size_of_pages (first_pages stream) =
    first_is stream c.split_headers.result.0.now c.as_slice.result.now c.size_of_run.result c.size_of_run.ensures c.split_headers.ensures.first c.as_slice.ensures in
    let others : c.size_of_run-2.result ≡ size_of_pages (header_pages stream) =
    others_is stream c.split_headers.result.1.now c.as_slice.result.now c.size_of_run-2.result c.size_of_run-2.ensures c.split_headers.ensures.others c.as_slice.ensures in
    omega (arith, first, others, small_stream stream)

pub overflow_add-result : goal.overflow_add-result
unfolding size_of_headers
overflow_add-result c =
    let stream : NewStream = c.args.stream.now in
    let first : c.size_of_run.result ≡ size_of_pages (first_pages stream) =
    first_is stream c.split_headers.result.0.now c.as_slice.result.now c.size_of_run.result c.size_of_run.ensures c.split_headers.ensures.first c.as_slice.ensures in
    let others : c.size_of_run-2.result ≡ size_of_pages (header_pages stream) =
    others_is stream c.split_headers.result.1.now c.as_slice.result.now c.size_of_run-2.result c.size_of_run-2.ensures c.split_headers.ensures.others c.as_slice.ensures in
    omega (arith, first, others, small_stream stream, c.requires.short, c.requires.few)
