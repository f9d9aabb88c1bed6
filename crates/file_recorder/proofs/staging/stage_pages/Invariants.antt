use Rattle.std.proofs.Common.{◌≡◌, ◌↔◌, ◌≤◌, true, false, ◌++◌, length}
use Rattle.std.specs.List.{AllByRecursion}
use Rattle.disk_model.specs.Leaving.{LeavesOnly}
use Rattle.ogg_page.specs.Page.{IsPage, bytes_of_pages}
use Rattle.gate_file.specs.Commit.{CommitsTo}
use Rattle.gate_file.specs.GateFile.{committed, staged_bytes}
use Rattle.file_recorder.proofs.staging.stage_pages.Given as goal

abbrev pub invariant-pages : goal.invariant-pages
invariant-pages g l =
    let d = g.D.Disk in
    record {
      are : AllByRecursion IsPage l.pages;
      good : l.file.failed ≡ false;
      whole : length l.pages ≡ 0 → l.file.whole ≡ true;
      end : l.file.end ≡ l.fn.file.end;
      staged : d.is_honest l.fn.file.disk → staged_bytes d.state l.file ++ bytes_of_pages l.pages ≡ staged_bytes d.state l.fn.file ++ bytes_of_pages l.fn.pages;
      front : d.is_honest l.fn.file.disk → committed d.state l.file ≡ committed d.state l.fn.file;
      any_moment : d.is_honest l.fn.file.disk → LeavesOnly d l.fn.file.disk l.file.disk (CommitsTo (committed d.state l.fn.file));
      honest : d.is_honest l.fn.file.disk ↔ d.is_honest l.file.disk;
      later : d.failures l.fn.file.disk ≤ d.failures l.file.disk;
    }

abbrev pub decreases-pages : goal.decreases-pages
decreases-pages g l = length l.pages
