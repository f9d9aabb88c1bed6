use Rattle.std.proofs.Common.{◌≡◌, ℕ, List, length, map, take, drop, sym, ap, ◌∙◌, arith}
use Rattle.packetiser.specs.Laws.Pieces.{run_pages}
use Rattle.ogg_command.specs.declared.command.NewStream.{NewStream}
use Rattle.command_pages.specs.Encoding.{header, first_pages, header_pages, first_flag}
use Rattle.command_pages.proofs.LaidHeaders.{first_count, others_count, page_count}
use Rattle.command_pages.proofs.MadePages.{flagged_count}
use Rattle.command_pages.proofs.beginning.count_stream.Goals as goal

first_is : (stream : NewStream) (lent whole : List (List ℕ)) → lent ≡ take 1 whole → whole ≡ stream.headers → page_count lent ≡ length (first_pages stream)
first_is stream lent whole l w = ap page_count (l ∙ ap (take 1) w) ∙ sym (flagged_count stream.serial 0 first_flag (map header (take 1 stream.headers)))

others_is : (stream : NewStream) (lent whole : List (List ℕ)) → lent ≡ drop 1 whole → whole ≡ stream.headers → page_count lent ≡ length (header_pages stream)
others_is stream lent whole l w = ap page_count (l ∙ ap (drop 1) w) ∙ sym (run_pages stream.serial 1 (map header (drop 1 stream.headers)))

pub returns-clause-value : goal.returns-clause-value
returns-clause-value c =
    let stream : NewStream = c.args.stream.now in
    omega (
      arith,
      c.pages_of_run.ensures,
      c.pages_of_run-2.ensures,
      first_is stream c.split_headers.result.0.now c.as_slice.result.now c.split_headers.ensures.first c.as_slice.ensures,
      others_is stream c.split_headers.result.1.now c.as_slice.result.now c.split_headers.ensures.others c.as_slice.ensures,
    )

pub returns-clause-few : goal.returns-clause-few
returns-clause-few c =
    omega (
      arith,
      c.pages_of_run.ensures,
      c.pages_of_run-2.ensures,
      first_count c.args.stream.now c.split_headers.result.0.now c.as_slice.result.now c.split_headers.ensures.first c.as_slice.ensures c.requires.short c.requires.few,
      others_count c.args.stream.now c.split_headers.result.1.now c.as_slice.result.now c.split_headers.ensures.others c.as_slice.ensures c.requires.short c.requires.few,
    )

pub overflow_add-result : goal.overflow_add-result
overflow_add-result c =
    omega (
      arith,
      c.pages_of_run.ensures,
      c.pages_of_run-2.ensures,
      first_count c.args.stream.now c.split_headers.result.0.now c.as_slice.result.now c.split_headers.ensures.first c.as_slice.ensures c.requires.short c.requires.few,
      others_count c.args.stream.now c.split_headers.result.1.now c.as_slice.result.now c.split_headers.ensures.others c.as_slice.ensures c.requires.short c.requires.few,
    )
