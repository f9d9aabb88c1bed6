use Rattle.std.proofs.Common.{◌≡◌, [], List, sym, subst}
use Rattle.archive_folder.specs.Names.{Name, IsLeft, AreRising}
use Rattle.archive_folder.specs.NamesLaws.{rising_removed}
use Rattle.archive_folder.specs.Calls.{after_calls}
use Rattle.archive_folder.specs.declared.memory.Call.TheVariants.{Remove}
use Rattle.archive_folder.proofs.Moments.{replayed_push, passes}
use Rattle.archive_folder.proofs.memory.MemFolderFolder.remove.Goals as goal

pub invariant_of-self : goal.invariant_of-self
invariant_of-self c =
    let self = c.args.self.now in
    record {
      replayed = replayed_push self.calls.items c.remove.new.calls.items (Remove c.args.name.number) self.names.items c.remove.new.names.items self.replayed c.in-Ok.ensures.recorded c.in-Ok.ensures.names;
      rising = subst AreRising (sym c.in-Ok.ensures.names) (rising_removed self.names.items c.args.name.number self.rising);
    }

pub returns-in-Ok-clause-time : goal.returns-in-Ok-clause-time
returns-in-Ok-clause-time c = λ honest.
    let self = c.args.self.now in
    let replayed : after_calls c.remove.new.calls.items [] ≡ c.remove.new.names.items =
    replayed_push self.calls.items c.remove.new.calls.items (Remove c.args.name.number) self.names.items c.remove.new.names.items self.replayed c.in-Ok.ensures.recorded c.in-Ok.ensures.names in
    passes self.calls.items c.remove.new.calls.items (Remove c.args.name.number) c.remove.new.names.items _ c.in-Ok.ensures.recorded replayed
    (λ left is. subst (λ (names : List Name). IsLeft names left) c.in-Ok.ensures.names is)
