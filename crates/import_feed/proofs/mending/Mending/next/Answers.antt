use Rattle.std.proofs.Common.{◌≡◌, ◌++◌, List, refl, sym, ap, ◌∙◌, subst}
use Rattle.ogg_command.specs.declared.command.Command.{Command}
use Rattle.import_mend.specs.Importing.{IsStep}
use Rattle.import_feed.proofs.mending.Mending.next.Goals as goal

pub returns-in-Ok-clause-ok : goal.returns-in-Ok-clause-ok
returns-in-Ok-clause-ok g c =
    let (more, all, is) = c.in-Ok.ensures.steps in
    let given : c.next.new.commands.items ≡ more = all ∙ ap (λ (l : List Command). l ++ more) c.new-commands.ensures.items in
    record {
      is = subst (λ (l : List Command). IsStep c.args.self.now.import c.next.new.self c.in-Ok.step l) (sym given) is;
      changes = refl;
      made = refl;
    }
