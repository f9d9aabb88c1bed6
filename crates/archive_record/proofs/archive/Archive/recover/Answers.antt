use Rattle.std.proofs.Common.{None, Option, Some, inr, ◌∙◌, ap, subst, sym}
use Rattle.std.proofs.lemmas.Result.{IfOk-weaker}
use Rattle.archive_record.specs.Recovering.{IsGivenBack}
use Rattle.archive_record.specs.declared.archive.Archive.{Archive}
use Rattle.archive_record.specs.declared.newest.Newest.{Newest}
use Rattle.archive_record.specs.declared.rotation.Rotation.{Rotation}
use Rattle.archive_record.specs.declared.rotation.Rules.{Rules}
use Rattle.archive_record.proofs.Recovered.{aside_within, recovered}
use Rattle.archive_record.proofs.Going.{by_same_files, from_other, given_free, given_room, given_then, goes_none, none_given}
use Rattle.archive_record.proofs.archive.Archive.recover.Goals as goal

pub returns-then-make_room-clause-recovers : goal.returns-then-make_room-clause-recovers
returns-then-make_room-clause-recovers g c newest is =
    let given = subst (λ (one : Option (Newest _)). IsGivenBack one (Some c.in-Some.failed)) is c.in-Some.ensures.given in
    IfOk-weaker c.open_again.result _ _
    (recovered g.D.Disk newest.name c.in-Some.failed.name c.args.self.now.rotation.rules.keeping.bytes c.make_room.new.self.rules.keeping.bytes
    newest.recorder.chain.serials c.args.import.now c.open_again.new.import c.open_again.new.self.newest given.0
    (λ none. let unset = ap (λ (r : Rules). r.keeping.bytes) c.give_back_newest.ensures.rules ∙ none in
    ap (λ (r : Rotation _ _). r.rules.keeping.bytes) (c.make_room.ensures.bound unset).1 ∙ unset))
    (c.open_again.ensures.opened newest.recorder.chain.serials c.give_back_newest.ensures.taken given.1)

pub returns-in-1-clause-recovers : goal.returns-in-1-clause-recovers
returns-in-1-clause-recovers g c newest is =
    let given = subst (λ (one : Option (Newest _)). IsGivenBack one (Some c.in-Some.failed)) is c.in-Some.ensures.given in
    IfOk-weaker c.open_again-in-1.result _ _
    (recovered g.D.Disk newest.name c.in-Some.failed.name c.args.self.now.rotation.rules.keeping.bytes c.count_loss.new.self.rotation.rules.keeping.bytes
    newest.recorder.chain.serials c.args.import.now c.open_again-in-1.new.import c.open_again-in-1.new.self.newest given.0
    (λ none. let unset = ap (λ (r : Rules). r.keeping.bytes) c.give_back_newest.ensures.rules ∙ none in
    ap (λ (a : Archive _ _). a.rotation.rules.keeping.bytes) c.count_loss.ensures
    ∙ ap (λ (r : Rotation _ _). r.rules.keeping.bytes) (c.make_room.ensures.bound unset).1 ∙ unset))
    (c.open_again-in-1.ensures.opened newest.recorder.chain.serials (ap (λ (a : Archive _ _). a.newest) c.count_loss.ensures ∙ c.give_back_newest.ensures.taken) given.1)

pub returns-in-2-clause-recovers : goal.returns-in-2-clause-recovers
returns-in-2-clause-recovers g c newest is =
    let given = subst (λ (one : Option (Newest _)). IsGivenBack one (Some c.in-Some.failed)) is c.in-Some.ensures.given in
    IfOk-weaker c.set_aside.result _ _
    (λ answered aside. inr (aside_within g.D.Disk c.args.self.now.rotation.rules.keeping.bytes c.count_loss.new.self.rotation.rules.keeping.bytes
    newest.recorder.chain.serials c.args.import.now c.set_aside.new.import answered c.set_aside.new.self.newest
    (λ none. let unset = ap (λ (r : Rules). r.keeping.bytes) c.give_back_newest.ensures.rules ∙ none in
    ap (λ (a : Archive _ _). a.rotation.rules.keeping.bytes) c.count_loss.ensures
    ∙ ap (λ (r : Rotation _ _). r.rules.keeping.bytes) (c.make_room.ensures.bound unset).1 ∙ unset) aside))
    (c.set_aside.ensures.aside newest.recorder.chain.serials (ap (λ (a : Archive _ _). a.newest) c.count_loss.ensures ∙ c.give_back_newest.ensures.taken) given.1)

pub returns-in_default-clause-goes : goal.returns-in_default-clause-goes
returns-in_default-clause-goes g c =
    let files = c.args.self.now.rotation.files in
    let was = c.args.self.now.newest in
    let none = none_given was c.give_back_newest.result c.in_default.is c.give_back_newest.ensures.given in
    let same = c.give_back_newest.ensures.none none in
    by_same_files g.F.Folder.names g.F.Folder.moment g.F.Folder.left_since g.F.Folder.is_honest g.D.Disk files files c.give_back_newest.new.self.rotation.files was was c.give_back_newest.new.self.newest
    (ap (λ (a : Archive _ _). a.rotation.files) same) (ap (λ (a : Archive _ _). a.newest) same) (goes_none g.F.Folder.names g.F.Folder.moment g.F.Folder.left_since g.F.Folder.is_honest g.F.Folder.file g.D.Disk c.files_lead_on.ensures files was)

pub returns-then-make_room-clause-goes : goal.returns-then-make_room-clause-goes
returns-then-make_room-clause-goes g c =
    let files = c.args.self.now.rotation.files in
    let was = c.args.self.now.newest in
    let n = c.in-Some.failed.name.number in
    let mid = c.give_back_newest.new.self.rotation.files in
    let room = c.make_room.new.self.files in
    let given = given_room g.F.Folder.names g.F.Folder.moment g.F.Folder.left_since g.F.Folder.is_honest g.F.Folder.file g.D.Disk c.files_lead_on.ensures files mid room was n c.give_back_newest.ensures.honest.0 c.in-Some.ensures.goes c.make_room.ensures.left c.make_room.ensures.places c.make_room.ensures.leads in
    given_then g.F.Folder.names g.F.Folder.moment g.F.Folder.left_since g.F.Folder.is_honest g.F.Folder.file g.D.Disk c.files_lead_on.ensures files room c.open_again.new.self.rotation.files was c.open_again.new.self.newest n (λ is. c.make_room.ensures.honest.0 (c.give_back_newest.ensures.honest.0 is)) given
    (c.open_again.ensures.goes c.give_back_newest.ensures.taken)

pub returns-in-1-clause-goes : goal.returns-in-1-clause-goes
returns-in-1-clause-goes g c =
    let files = c.args.self.now.rotation.files in
    let was = c.args.self.now.newest in
    let n = c.in-Some.failed.name.number in
    let mid = c.give_back_newest.new.self.rotation.files in
    let room = c.make_room.new.self.files in
    let given = given_room g.F.Folder.names g.F.Folder.moment g.F.Folder.left_since g.F.Folder.is_honest g.F.Folder.file g.D.Disk c.files_lead_on.ensures files mid room was n c.give_back_newest.ensures.honest.0 c.in-Some.ensures.goes c.make_room.ensures.left c.make_room.ensures.places c.make_room.ensures.leads in
    let counted = ap (λ (a : Archive _ _). a.rotation.files) c.count_loss.ensures in
    given_then g.F.Folder.names g.F.Folder.moment g.F.Folder.left_since g.F.Folder.is_honest g.F.Folder.file g.D.Disk c.files_lead_on.ensures files room c.open_again-in-1.new.self.rotation.files was c.open_again-in-1.new.self.newest n (λ is. c.make_room.ensures.honest.0 (c.give_back_newest.ensures.honest.0 is)) given
    (from_other g.F.Folder.names g.F.Folder.moment g.F.Folder.left_since g.F.Folder.is_honest g.F.Folder.file g.D.Disk c.files_lead_on.ensures room c.count_loss.new.self.rotation.files c.open_again-in-1.new.self.rotation.files n c.open_again-in-1.new.self.newest (sym counted)
    (c.open_again-in-1.ensures.goes (ap (λ (a : Archive _ _). a.newest) c.count_loss.ensures ∙ c.give_back_newest.ensures.taken)))

pub returns-in-2-clause-goes : goal.returns-in-2-clause-goes
returns-in-2-clause-goes g c =
    let files = c.args.self.now.rotation.files in
    let was = c.args.self.now.newest in
    let n = c.in-Some.failed.name.number in
    let mid = c.give_back_newest.new.self.rotation.files in
    let room = c.make_room.new.self.files in
    let given = given_room g.F.Folder.names g.F.Folder.moment g.F.Folder.left_since g.F.Folder.is_honest g.F.Folder.file g.D.Disk c.files_lead_on.ensures files mid room was n c.give_back_newest.ensures.honest.0 c.in-Some.ensures.goes c.make_room.ensures.left c.make_room.ensures.places c.make_room.ensures.leads in
    let counted = ap (λ (a : Archive _ _). a.rotation.files) c.count_loss.ensures in
    given_then g.F.Folder.names g.F.Folder.moment g.F.Folder.left_since g.F.Folder.is_honest g.F.Folder.file g.D.Disk c.files_lead_on.ensures files room c.set_aside.new.self.rotation.files was c.set_aside.new.self.newest n (λ is. c.make_room.ensures.honest.0 (c.give_back_newest.ensures.honest.0 is)) given
    (from_other g.F.Folder.names g.F.Folder.moment g.F.Folder.left_since g.F.Folder.is_honest g.F.Folder.file g.D.Disk c.files_lead_on.ensures room c.count_loss.new.self.rotation.files c.set_aside.new.self.rotation.files n c.set_aside.new.self.newest (sym counted)
    (c.set_aside.ensures.goes (ap (λ (a : Archive _ _). a.newest) c.count_loss.ensures ∙ c.give_back_newest.ensures.taken)))

pub returns-in_default-count_loss-clause-goes : goal.returns-in_default-count_loss-clause-goes
returns-in_default-count_loss-clause-goes g c =
    let files = c.args.self.now.rotation.files in
    let was = c.args.self.now.newest in
    let n = c.in-Some.failed.name.number in
    let mid = c.give_back_newest.new.self.rotation.files in
    let room = c.make_room.new.self.files in
    let given = given_room g.F.Folder.names g.F.Folder.moment g.F.Folder.left_since g.F.Folder.is_honest g.F.Folder.file g.D.Disk c.files_lead_on.ensures files mid room was n c.give_back_newest.ensures.honest.0 c.in-Some.ensures.goes c.make_room.ensures.left c.make_room.ensures.places c.make_room.ensures.leads in
    by_same_files g.F.Folder.names g.F.Folder.moment g.F.Folder.left_since g.F.Folder.is_honest g.D.Disk files room c.count_loss.new.self.rotation.files was None c.count_loss.new.self.newest
    (ap (λ (a : Archive _ _). a.rotation.files) c.count_loss.ensures) (ap (λ (a : Archive _ _). a.newest) c.count_loss.ensures ∙ c.give_back_newest.ensures.taken)
    (given_free g.F.Folder.names g.F.Folder.moment g.F.Folder.left_since g.F.Folder.is_honest g.F.Folder.file g.D.Disk c.files_lead_on.ensures files room was n (λ is. c.make_room.ensures.honest.0 (c.give_back_newest.ensures.honest.0 is)) given)
