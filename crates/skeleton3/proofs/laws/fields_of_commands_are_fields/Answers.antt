use Rattle.skeleton3.proofs.MediaFacts.{field_is_field}
use Rattle.skeleton3.proofs.laws.fields_of_commands_are_fields.Goals as goal

pub returns : goal.returns
returns c = field_is_field
