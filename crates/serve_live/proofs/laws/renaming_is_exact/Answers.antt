use Rattle.serve_live.specs.RenamingLaws.{new_bytes, old_names, retold_bytes}
use Rattle.serve_live.proofs.laws.renaming_is_exact.Goals as goal

pub returns : goal.returns
returns c = record { fields = new_bytes; old = old_names; new = retold_bytes }
