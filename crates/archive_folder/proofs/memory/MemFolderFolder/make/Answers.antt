use Rattle.std.proofs.Common.{◌≡◌, [], List, None, ◌∙◌, ap, sym, subst}
use Rattle.archive_folder.specs.Names.{Name, IsLeft, AreRising}
use Rattle.archive_folder.specs.NamesLaws.{rising_made}
use Rattle.archive_folder.specs.Calls.{after_calls}
use Rattle.archive_folder.specs.Slots.{place_of}
use Rattle.archive_folder.specs.declared.memory.Slot.{Slot}
use Rattle.archive_folder.specs.declared.memory.Call.TheVariants.{Make}
use Rattle.archive_folder.proofs.Moments.{replayed_push, passes}
use Rattle.archive_folder.proofs.Slots.{place_put, place_put_other}
use Rattle.archive_folder.proofs.memory.MemFolderFolder.make.Goals as goal

pub invariant_of-self-in-Ok-make : goal.invariant_of-self-in-Ok-make
invariant_of-self-in-Ok-make c =
    let self = c.args.self.now in
    record {
      replayed = replayed_push self.calls.items c.make.new.calls.items (Make c.args.name.number) self.names.items c.make.new.names.items self.replayed c.in-Ok-make.ensures.recorded c.in-Ok-make.ensures.names;
      rising = subst AreRising (sym c.in-Ok-make.ensures.names) (rising_made self.names.items c.args.name.number self.rising (c.requires tt));
    }

pub returns-in-Ok-make-clause-out : goal.returns-in-Ok-make-clause-out
returns-in-Ok-make-clause-out c = λ honest.
    ap (λ (slots : List Slot). place_of c.args.name.number slots) c.in-Ok-make.ensures.slots ∙ place_put c.args.self.now.slots.items c.args.name.number None

pub returns-in-Ok-make-clause-others : goal.returns-in-Ok-make-clause-others
returns-in-Ok-make-clause-others c = λ honest n other.
    ap (λ (slots : List Slot). place_of n slots) c.in-Ok-make.ensures.slots ∙ place_put_other c.args.self.now.slots.items n c.args.name.number None other

pub returns-in-Ok-make-clause-time : goal.returns-in-Ok-make-clause-time
returns-in-Ok-make-clause-time c = λ honest.
    let self = c.args.self.now in
    let replayed : after_calls c.make.new.calls.items [] ≡ c.make.new.names.items =
    replayed_push self.calls.items c.make.new.calls.items (Make c.args.name.number) self.names.items c.make.new.names.items self.replayed c.in-Ok-make.ensures.recorded c.in-Ok-make.ensures.names in
    passes self.calls.items c.make.new.calls.items (Make c.args.name.number) c.make.new.names.items _ c.in-Ok-make.ensures.recorded replayed
    (λ left is. subst (λ (names : List Name). IsLeft names left) c.in-Ok-make.ensures.names is)
