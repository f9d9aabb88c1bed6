use Rattle.std.proofs.Common.{ap, take, ◌∙◌}
use Rattle.std.specs.Option.{option_map}
use Rattle.std.specs.Io.Buffered.{reader_buffer, reader_capacity}
use Rattle.std.specs.Io.Take.{take_inner, take_limit}
use Rattle.serve_actions.proofs.FirstLine.{known_of, line_of}
use Rattle.serve_actions.proofs.passwords.first_line.Goals as goal

pub returns : goal.returns
returns g c =
    let reader = c.in_ok-file.file in
    let made = c.in_ok-file.ensures in record {
      line = line_of (g.R.Read.remaining c.args.file) _ c.new-line.result.items c.read_until.new.buf.items c.new-line.ensures.items
          (known_of (reader_capacity reader) reader.inner.limit (reader_buffer reader) (g.R.Read.remaining reader.inner.inner) made.capacity made.empty
          (ap take_limit made.inner ∙ c.take.ensures.limit)
          ∙ ap (λ file. option_map (take 4097) (g.R.Read.remaining file)) (ap take_inner made.inner ∙ c.take.ensures.inner)) c.in_ok-read_until.ensures.bytes;
    }
