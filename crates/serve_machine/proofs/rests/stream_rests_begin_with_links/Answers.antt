use Rattle.serve_machine.proofs.LinkPlaces.{begins_with_link}
use Rattle.serve_machine.proofs.rests.stream_rests_begin_with_links.Goals as goal

pub returns : goal.returns
returns c = begins_with_link
