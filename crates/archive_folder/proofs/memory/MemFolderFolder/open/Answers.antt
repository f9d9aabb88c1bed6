use Rattle.std.proofs.Common.{List, None, ◌∙◌, ap}
use Rattle.archive_folder.specs.Slots.{place_of}
use Rattle.archive_folder.specs.declared.memory.Slot.{Slot}
use Rattle.archive_folder.proofs.Slots.{place_put, place_put_other}
use Rattle.archive_folder.proofs.memory.MemFolderFolder.open.Goals as goal

pub returns-in-Some-clause-out : goal.returns-in-Some-clause-out
returns-in-Some-clause-out c = λ honest.
    ap (λ (slots : List Slot). place_of c.args.name.number slots) c.take_out.ensures.out ∙ place_put c.args.self.now.slots.items c.args.name.number None

pub returns-in-Some-clause-others : goal.returns-in-Some-clause-others
returns-in-Some-clause-others c = λ honest n other.
    ap (λ (slots : List Slot). place_of n slots) c.take_out.ensures.out ∙ place_put_other c.args.self.now.slots.items n c.args.name.number None other
