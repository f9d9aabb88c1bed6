use Rattle.std.proofs.Common.{ap, ◌∙◌}
use Rattle.ogg_http.specs.Target.{named_by}
use Rattle.ogg_http.proofs.TargetPaths.{named_each, found_has_path}
use Rattle.ogg_http.proofs.target.Resource.of.Goals as goal

pub returns-clause-named : goal.returns-clause-named
returns-clause-named c =
    found_has_path _ c.named_by.result (c.named_by.ensures ∙ ap named_by c.path_of.ensures)

pub returns-clause-each : goal.returns-clause-each
returns-clause-each c resource small path =
    c.named_by.ensures ∙ ap named_by (c.path_of.ensures ∙ path) ∙ named_each resource small
