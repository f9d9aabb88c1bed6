use Rattle.std.proofs.Common.{refl}
use Rattle.gate_file.proofs.Kept.{kept_ready, not_whole}
use Rattle.gate_file.proofs.file.GateFile.at.Goals as goal

pub invariant_of-result : goal.invariant_of-result
invariant_of-result g c = kept_ready g.D.Disk c.args.disk c.args.end 0 _ c.requires.short refl (not_whole 0) c.requires.ready
