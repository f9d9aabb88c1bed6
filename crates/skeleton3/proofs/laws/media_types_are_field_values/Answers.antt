use Rattle.skeleton3.proofs.MediaFacts.{media_is_value}
use Rattle.skeleton3.proofs.laws.media_types_are_field_values.Goals as goal

pub returns : goal.returns
returns c = media_is_value
