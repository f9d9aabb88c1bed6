use Rattle.std.proofs.Common.{ℕ, ◌+◌, ◌-◌, List, [], ◌∷◌, length, take, ◌∙◌, ap, arith}
use Rattle.std.proofs.lemmas.Result.{on_ok_weaker}
use Rattle.disk_model.specs.Image.{overwritten}
use Rattle.disk_model.specs.Leaving.{and_then, weakened}
use Rattle.gate_file.specs.Commit.{CommitsToEither}
use Rattle.gate_file.specs.Gate.{pages_in}
use Rattle.gate_file.proofs.Crash.{behind_the_gate, at_the_gate, opened, grown, first_written, front_stays}
use Rattle.gate_file.proofs.Staged.{has_grown}
use Rattle.gate_file.proofs.committing.append_pages.Goals as goal

pub returns-in_err-write_synced-clause-any_moment : goal.returns-in_err-write_synced-clause-any_moment
returns-in_err-write_synced-clause-any_moment g c = λ honest.
    let d = g.D.Disk in
    let ready = c.requires.ready honest in
    let bytes = c.args.bytes.now in
    let b = take c.args.end (d.state c.args.disk.now).contents in
    weakened d _ _ _ (CommitsToEither b (pages_in bytes)) (c.write_synced.ensures.any_moment honest)
    (λ image torn. behind_the_gate b _ bytes image _ _ ready.stands (omega (arith, ready.long)) torn)

pub returns-clause-any_moment : goal.returns-clause-any_moment
returns-clause-any_moment g c = λ honest.
    let d = g.D.Disk in
    let s = (c.requires.ready honest).stands in
    let long = (c.requires.ready honest).long in
    let bytes = c.args.bytes.now in
    let b = take c.args.end (d.state c.args.disk.now).contents in
    let (body, begins, lies) = first_written b bytes _ _ (c.args.end + 1) s c.requires.pages (omega (arith, long)) (c.in_ok-write_synced.ensures.written honest).1 in
    and_then d _ _ _ _ _ (CommitsToEither b (pages_in bytes)) (c.write_synced.ensures.any_moment honest) (c.write_synced-2.ensures.any_moment (c.write_synced.ensures.frame.honest.0 honest))
    (λ image torn. behind_the_gate b _ bytes image _ _ s (omega (arith, long)) torn)
    (λ image torn. at_the_gate b body _ bytes _ image s.gate _ s.pages c.requires.pages begins long lies torn)

pub returns-clause-grown : goal.returns-clause-grown
returns-clause-grown g c = on_ok_weaker c.write_synced-2.result (λ wrote honest.
    let d = g.D.Disk in
    let s = (c.requires.ready honest).stands in
    let long = (c.requires.ready honest).long in
    let bytes = c.args.bytes.now in
    let b = take c.args.end (d.state c.args.disk.now).contents in
    let (body, begins, lies) = first_written b bytes _ _ (c.args.end + 1) s c.requires.pages (omega (arith, long)) (c.in_ok-write_synced.ensures.written honest).1 in
    let is = wrote (c.write_synced.ensures.frame.honest.0 honest) in
    has_grown (pages_in bytes) _ _ c.args.end (length bytes - 1)
    (grown b body _ bytes _ (c.args.end + (length bytes - 1)) s.pages c.requires.pages begins
    (is.1 ∙ ap (λ (l : List ℕ). overwritten l c.args.end (79 ∷ [])) lies ∙ opened b s.gate 79 _ c.args.end long) (omega (arith, long)) is.0)) c.write_synced-2.ensures.written

pub returns-in_err-write_synced-clause-front : goal.returns-in_err-write_synced-clause-front
returns-in_err-write_synced-clause-front g c = λ honest.
    let still = c.write_synced.ensures.frame.honest.0 honest in
    front_stays g.D.Disk _ _ _ _ _ (g.met.D.Disk.laws _ still) (c.requires.ready honest).long (returns-in_err-write_synced-clause-any_moment g c honest)

pub returns-clause-front : goal.returns-clause-front
returns-clause-front g c = λ honest.
    let still = c.write_synced-2.ensures.frame.honest.0 (c.write_synced.ensures.frame.honest.0 honest) in
    front_stays g.D.Disk _ _ _ _ _ (g.met.D.Disk.laws _ still) (c.requires.ready honest).long (returns-clause-any_moment g c honest)
