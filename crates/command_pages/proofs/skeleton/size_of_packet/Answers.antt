use Rattle.std.proofs.Common.{◌+◌, ◌/◌, sym, ◌∙◌, ap}
use Rattle.packetiser.specs.Run.{size_for}
use Rattle.command_pages.proofs.FisbonePages.{size_alone}
use Rattle.command_pages.proofs.skeleton.size_of_packet.Goals as goal

pub returns-clause-value : goal.returns-clause-value
returns-clause-value c = λ serial first packet e.
    c.size_of.ensures ∙ ap (λ n. size_for n c.args.len) c.values_of.ensures
    ∙ ap (λ n. size_for (n / 255 + 1) n) (sym e)
    ∙ sym (size_alone serial first packet)
