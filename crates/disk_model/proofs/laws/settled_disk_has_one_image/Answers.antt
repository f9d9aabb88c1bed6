use Rattle.std.proofs.Common.{refl, arith}
use Rattle.disk_model.specs.Torn.{settled_image}
use Rattle.disk_model.proofs.laws.settled_disk_has_one_image.Goals as goal

pub returns-clause-is_image : goal.returns-clause-is_image
returns-clause-is_image c = λ contents. record { no_shorter = omega arith; no_longer = omega arith; kept = λ k below none. refl }

pub returns-clause-only : goal.returns-clause-only
returns-clause-only c = λ disk image. settled_image disk disk.contents image
