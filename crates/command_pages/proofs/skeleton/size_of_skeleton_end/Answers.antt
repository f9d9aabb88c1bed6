use Rattle.std.proofs.Common.{[], ◌∷◌, refl, sym, ◌∙◌}
use Rattle.packetiser.specs.Run.{pages_of_run}
use Rattle.command_pages.specs.Encoding.{header, last_flag}
use Rattle.packetiser.specs.Laws.Appending.{flagged_size}
use Rattle.command_pages.proofs.skeleton.size_of_skeleton_end.Goals as goal

pub returns-clause-value : goal.returns-clause-value
returns-clause-value c = λ serial first.
    c.size_of_packet.ensures.value serial first [] refl ∙ sym (flagged_size last_flag (pages_of_run serial first (header [] ∷ [])))
