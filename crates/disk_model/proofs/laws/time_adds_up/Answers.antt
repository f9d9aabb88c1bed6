use Rattle.disk_model.specs.Clock.{time_adds_up}
use Rattle.disk_model.proofs.laws.time_adds_up.Goals as goal

pub returns : goal.returns
returns g c = λ old mid new bound first second. time_adds_up g.D.Disk.moment g.D.Disk.images_since old mid new bound bound bound first second (λ image is. is) (λ image is. is)
