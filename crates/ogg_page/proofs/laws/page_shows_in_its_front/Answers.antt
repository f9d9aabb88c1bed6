use Rattle.ogg_page.specs.ReadingLaws.{shows_in_front}
use Rattle.ogg_page.proofs.laws.page_shows_in_its_front.Goals as goal

pub returns : goal.returns
returns c = shows_in_front
