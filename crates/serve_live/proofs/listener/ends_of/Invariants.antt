use Rattle.std.proofs.Common.{◌≡◌, take}
use Rattle.ogg_page.specs.Page.{bytes_of_pages}
use Rattle.serve_live.specs.Joined.{ends_of}
use Rattle.serve_live.proofs.listener.ends_of.Given as goal

abbrev pub invariant-loop-stream : goal.invariant-loop-stream
invariant-loop-stream l = l.text.items ≡ bytes_of_pages (ends_of (take l.stream-index l.streams))
