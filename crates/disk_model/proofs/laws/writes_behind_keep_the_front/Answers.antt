use Rattle.disk_model.specs.Torn.{settled_front, keeps_front, front_image}
use Rattle.disk_model.proofs.laws.writes_behind_keep_the_front.Goals as goal

pub returns-clause-keeps : goal.returns-clause-keeps
returns-clause-keeps c = keeps_front

pub returns-clause-image : goal.returns-clause-image
returns-clause-image c = front_image

pub returns-clause-settled : goal.returns-clause-settled
returns-clause-settled c = settled_front
