use Rattle.std.proofs.Common.{◌≡◌, ◌++◌, map, take, drop}
use Rattle.serve_live.specs.Noting.{stream_with}
use Rattle.serve_live.proofs.joined.note_page.Given as goal

-- the page was noted for the streams so far
abbrev pub invariant-loop-stream : goal.invariant-loop-stream
invariant-loop-stream l = l.streams ≡ map (stream_with l.part l.page) (take l.stream-index l.initial.streams) ++ drop l.stream-index l.initial.streams
