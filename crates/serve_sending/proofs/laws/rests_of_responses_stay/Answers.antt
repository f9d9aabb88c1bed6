use Rattle.serve_sending.proofs.Staying.{left_stays, left_found}
use Rattle.serve_sending.proofs.laws.rests_of_responses_stay.Goals as goal

pub returns : goal.returns
returns c = record {
  stays = left_stays c.parts_are_places.ensures.stays c.stream_rests_are_places.ensures.stays;
  found = left_found c.stream_rests_are_found.ensures;
}
