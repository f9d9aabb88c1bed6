use Rattle.std.proofs.Common.{Some, [], sym, ◌∙◌, ap, subst}
use Rattle.chain_rules.specs.Recording.{add}
use Rattle.file_recorder.specs.Recovery.{Accepts, Shows}
use Rattle.history.specs.History.{AreSteps}
use Rattle.history.specs.World.{World, run}
use Rattle.link_chain.specs.Recording.{Recording}
use Rattle.ogg_command.specs.declared.command.Command.{Command}
use Rattle.archive_record.specs.Reaching.{in_world}
use Rattle.archive_record.proofs.Leading.{steps_lead}
use Rattle.archive_record.proofs.laws.records_lead_on.Goals as goal

pub returns : goal.returns
returns g c begun last done kept stands first a file folder disks is stays world here named =
    let d = g.D.Disk in
    let f = g.F.Folder in
    let law = c.files_lead_on.ensures in
    let s = kept.steps in
    let disk = begun.progress.now.file.disk in
    let are = subst (λ (w : World Command). AreSteps d Shows Accepts add [] w disk s.steps) (sym world)
    (subst (λ (r : Recording). AreSteps d Shows Accepts add r begun.progress.world disk s.steps) first (s.are stands)) in
    let (b, after, newest, ended, there, names_are, leads) =
    steps_lead f.names f.moment f.left_since d law s.steps a file disks folder disk s.are_commands is named stays here are in (
      b,
      after,
      newest ∙ ap (λ (w : World Command). Some (in_world file w)) (ap (λ (w : World Command). run w s.steps) world ∙ s.leads),
      ended,
      there ∙ s.ends,
      names_are,
      leads,
      s.stands stands,
    )
