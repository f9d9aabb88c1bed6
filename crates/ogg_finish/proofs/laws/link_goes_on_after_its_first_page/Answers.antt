use Rattle.ogg_finish.proofs.Found.{goes_on}
use Rattle.ogg_finish.proofs.laws.link_goes_on_after_its_first_page.Goals as goal

pub returns : goal.returns
returns c = goes_on
