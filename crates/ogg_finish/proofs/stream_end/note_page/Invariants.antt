use Rattle.std.proofs.Common.{◌≡◌, ◌++◌, map, take, drop}
use Rattle.ogg_finish.specs.Ends.{after_page}
use Rattle.ogg_finish.proofs.stream_end.note_page.Given as goal

-- the page was noted for the streams so far
abbrev pub invariant-loop-end : goal.invariant-loop-end
invariant-loop-end l = l.ends ≡ map (after_page l.page) (take l.end-index l.initial.ends) ++ drop l.end-index l.initial.ends
