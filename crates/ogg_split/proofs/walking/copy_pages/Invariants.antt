use Rattle.std.proofs.Common.{◌≡◌, ◌≤◌, ◌+◌, List, length}
use Rattle.std.specs.List.{AllByRecursion}
use Rattle.ogg_page.specs.Page.{Page, IsPage, bytes_of_pages}
use Rattle.ogg_split.proofs.Copied.{InWork}
use Rattle.ogg_split.proofs.walking.copy_pages.Given as goal

abbrev pub invariant-loop-rest : goal.invariant-loop-rest
invariant-loop-rest g l = record {
  small : l.count + length l.rest ≤ length l.fn.bytes;
  copied : (pages : List Page) → AllByRecursion IsPage pages → l.fn.bytes ≡ bytes_of_pages pages
      → InWork l.serial pages l.rest (g.W.Write.contents l.fn.out) (g.W.Write.contents l.out) l.count;
}

abbrev pub decreases-loop-rest : goal.decreases-loop-rest
decreases-loop-rest g l = length l.rest
