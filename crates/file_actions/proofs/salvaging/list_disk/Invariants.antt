use Rattle.std.proofs.Common.{◌≡◌, ◌≤◌, ◌-◌, ◌↔◌, List, length}
use Rattle.std.specs.Io.KnownBytes.{Appends}
use Rattle.ogg_split.specs.declared.salvaging.GoodPage.{GoodPage}
use Rattle.file_actions.specs.Salvage.{AreGoodBetween, page_lines, piece_size}
use Rattle.file_actions.proofs.salvaging.list_disk.Given as goal

abbrev pub invariant-loop-at : goal.invariant-loop-at
invariant-loop-at g l = record {
  inside : l.at ≤ l.size;
  room : length l.room.items ≡ piece_size;
  honest : g.D.Disk.is_honest l.fn.disk ↔ g.D.Disk.is_honest l.disk;
  same : g.D.Disk.is_honest l.fn.disk → g.D.Disk.state l.disk ≡ g.D.Disk.state l.fn.disk;
  listed : g.D.Disk.is_honest l.fn.disk → (pages : List GoodPage) × AreGoodBetween 0 l.at (g.D.Disk.state l.fn.disk).contents pages
      × Appends (g.W.Write.contents l.fn.out) (g.W.Write.contents l.out) (page_lines pages);
}

abbrev pub decreases-loop-at : goal.decreases-loop-at
decreases-loop-at g l = l.size - l.at
