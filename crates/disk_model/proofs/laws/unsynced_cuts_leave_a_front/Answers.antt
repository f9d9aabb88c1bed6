use Rattle.disk_model.specs.Torn.{shortened_image}
use Rattle.disk_model.proofs.laws.unsynced_cuts_leave_a_front.Goals as goal

pub returns : goal.returns
returns c = λ disk image to. shortened_image disk disk.contents image to
