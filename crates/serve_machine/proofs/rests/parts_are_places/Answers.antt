use Rattle.serve_machine.proofs.Parts.{part_stays, part_front, part_rest}
use Rattle.serve_machine.proofs.rests.parts_are_places.Goals as goal

pub returns : goal.returns
returns c = record { stays = part_stays; front = part_front; rest = part_rest }
