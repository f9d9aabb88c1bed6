use Rattle.serve_machine.proofs.StreamRest.{stream_rest_is}
use Rattle.serve_machine.proofs.rests.stream_rests_are_found.Goals as goal

pub returns : goal.returns
returns c = stream_rest_is c.longest_prefix_of_pages_is_unique.ensures c.pages_are_found_in_turn.ensures
