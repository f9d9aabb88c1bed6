use Rattle.std.proofs.Common.{◌≡◌, Some, None, sym, ◌∙◌, ap}
use Rattle.serve_sessions.specs.Laws.Found.{found, not_found}
use Rattle.serve_sessions.specs.Sessions.{place_in}
use Rattle.serve_hub.specs.Parts.{fault_without_file}
use Rattle.serve_hub.proofs.reading.fault_without_file.Goals as goal

pub returns-in-Some-clause-fault : goal.returns-in-Some-clause-fault
returns-in-Some-clause-fault c machine bytes are =
    let at : place_in c.args.id c.args.sessions.now ≡ Some c.in-Some.field-0 = sym c.place_of.ensures ∙ c.in-Some.is in
    let f = found bytes c.args.id c.in-Some.field-0 c.args.sessions.now machine.sessions are at in
    ap fault_without_file (sym f.phase_is)

pub returns-in-None-clause-fault : goal.returns-in-None-clause-fault
returns-in-None-clause-fault c machine bytes are =
    let at : place_in c.args.id c.args.sessions.now ≡ None = sym c.place_of.ensures ∙ c.in-None.is in
    ap fault_without_file (sym (not_found bytes c.args.id c.args.sessions.now machine.sessions are at))
