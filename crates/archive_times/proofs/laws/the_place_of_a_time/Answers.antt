use Rattle.archive_times.proofs.Places.{is_found, is_known, is_place, lines_rise, rises}
use Rattle.archive_times.proofs.laws.the_place_of_a_time.Goals as goal

pub returns : goal.returns
returns c = record { place = is_place; known = is_known; rises = rises; found = is_found; read = lines_rise }
