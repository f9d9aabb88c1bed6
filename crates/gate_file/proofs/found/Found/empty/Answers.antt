use Rattle.std.proofs.Common.{[], false, refl, sym, subst, arith}
use Rattle.disk_model.specs.Image.{DiskState, settled}
use Rattle.gate_file.specs.CommitLaws.{commits_to, no_pages}
use Rattle.gate_file.specs.Found.{HasEnd}
use Rattle.gate_file.proofs.found.Found.empty.Goals as goal

-- no byte is committed, and none follows
nothing_there : HasEnd 0 0 false (settled [])
nothing_there = record {
  settled = record { synced = refl; unwritten = λ k none. none; least = omega arith; greatest = omega arith };
  ends = record { within = omega arith; commits = commits_to [] [] [] no_pages refl tt };
  whole = refl;
  is_closed = λ closed. absurd cc;
  is_open = λ closed. absurd (omega (arith, closed.0));
}

pub at-requires-clause-ends : goal.at-requires-clause-ends
at-requires-clause-ends g c = λ honest. subst (λ (disk : DiskState). HasEnd 0 0 false disk) (sym (c.requires honest)) nothing_there
