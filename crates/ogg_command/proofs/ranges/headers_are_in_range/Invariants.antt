use Rattle.std.proofs.Common.{take}
use Rattle.std.specs.List.{AllByRecursion}
use Rattle.ogg_page.specs.Page.{IsByte}
use Rattle.ogg_command.proofs.ranges.headers_are_in_range.Given as goal

-- those so far are in range
abbrev pub invariant-loop-header : goal.invariant-loop-header
invariant-loop-header l = AllByRecursion (AllByRecursion IsByte) (take l.header-index l.headers)
