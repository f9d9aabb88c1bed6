use Rattle.import_commands.specs.Commands.{headers_by}
use Rattle.import_commands.specs.Headers.{header_count}
use Rattle.import_commands.proofs.AddUp.{add_up}
use Rattle.import_commands.proofs.AreCommands.{are_commands, are_held}
use Rattle.import_commands.proofs.ByInput.{by_input}
use Rattle.import_commands.proofs.Fit.{by_whole}
use Rattle.import_commands.proofs.laws.commands_of_links_add_up.Goals as goal

pub returns : goal.returns
returns c =
    let law = c.command_adds_its_packets.ensures.links in
    record { recording = add_up; told = add_up (headers_by header_count); commands = are_commands; held = are_held c.commands_add_their_packets.ensures.holds; refused = by_input law; whole = by_whole law }
