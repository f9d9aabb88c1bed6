use Rattle.std.proofs.Common.{subst}
use Rattle.serve_hub.specs.Showing.{ShowsPlace}
use Rattle.serve_hub.proofs.commanding.command_file.Goals as goal

pub returns-in-Some-clause-linked : goal.returns-in-Some-clause-linked
returns-in-Some-clause-linked g c = λ lost before after s step linked.
    let d = g.D.Disk in
    c.record_command.ensures.linked before after (subst (λ file. ShowsPlace d file lost before) c.in-Some.is s) step linked
