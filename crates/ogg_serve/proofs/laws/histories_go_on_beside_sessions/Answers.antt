use Rattle.std.proofs.Common.{◌≡◌, ◌∙◌, ◌++◌, List, ap, subst, subst₂, sym}
use Rattle.chain_rules.specs.Recording.{add}
use Rattle.ogg_command.specs.declared.command.Command.{Command}
use Rattle.history.specs.World.{World, Step, disk_after, run, start}
use Rattle.history.specs.History.{AreSteps, disk_after-append, run-append, steps-append}
use Rattle.file_recorder.specs.Recovery.{Shows, Accepts}
use Rattle.ogg_serve.proofs.laws.histories_go_on_beside_sessions.Goals as goal

pub returns : goal.returns
returns g c = λ first begun disk w steps old new history stands goes.
    let d = g.D.Disk in
    let on = goes first w disk stands in (
      on.steps,
      disk_after disk on.steps,
      record {
        begins = history.begins;
        are =
            steps-append d Shows Accepts add first start begun steps on.steps history.are
            (subst₂ (λ (world : World Command) (at : _). AreSteps d Shows Accepts add first world at on.steps)
            (sym history.leads) (sym history.ends) on.are);
        leads = run-append start steps on.steps ∙ ap (λ (world : World Command). run world on.steps) history.leads;
        ends = disk_after-append begun steps on.steps ∙ ap (λ (at : _). disk_after at on.steps) history.ends;
      },
      on.stands,
    )
