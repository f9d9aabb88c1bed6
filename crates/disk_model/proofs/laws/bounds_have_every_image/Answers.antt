use Rattle.disk_model.specs.Torn.{image_within, within_both}
use Rattle.disk_model.proofs.laws.bounds_have_every_image.Goals as goal

pub returns-clause-image : goal.returns-clause-image
returns-clause-image c = image_within

pub returns-clause-within : goal.returns-clause-within
returns-clause-within c = within_both
