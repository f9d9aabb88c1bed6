use Rattle.std.proofs.Common.{◌≡◌, ◌≤◌, ◌*◌, ℕ, take}
use Rattle.command_pages.specs.Encoding.{fisbone_pages}
use Rattle.link_chain.specs.Size.{size_of_pages}
use Rattle.command_pages.proofs.skeleton.size_of_fisbones.Given as goal

-- the fisbones so far are counted
abbrev pub invariant-loop-stream : goal.invariant-loop-stream
invariant-loop-stream l = record {
  value : (serial : ℕ) → l.size ≡ size_of_pages (fisbone_pages serial 1 (take l.stream-index l.streams));
  small : l.size ≤ 11100 * l.stream-index;
}
