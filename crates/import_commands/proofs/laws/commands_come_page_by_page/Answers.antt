use Rattle.import_commands.proofs.PageByPage.{in_turn, known_by_now}
use Rattle.import_commands.proofs.laws.commands_come_page_by_page.Goals as goal

pub returns : goal.returns
returns c = record { turn = in_turn; packets = known_by_now }
