use Rattle.std.proofs.Common.{◌≡◌, ℕ, Bool, false, take}
use Rattle.disk_model.specs.declared.disk.Disk.{Ghosts as DiskModel}
use Rattle.disk_model.specs.Leaving.{LeavesOnly, started, weakened}
use Rattle.disk_model.specs.Torn.{IsTorn, settled_image}
use Rattle.gate_file.specs.Commit.{CommitsTo}
use Rattle.gate_file.specs.Found.{HasEnd}
use Rattle.gate_file.proofs.Crash.{cut_same, short_tail, torn_end, not_both, end_long, front_kept}
use Rattle.gate_file.proofs.found.close_behind.Goals as goal

pub returns-else-not-closed-clause-any_moment : goal.returns-else-not-closed-clause-any_moment
returns-else-not-closed-clause-any_moment g c = λ honest.
    let d = g.D.Disk in
    let disk = c.args.disk.now in
    let contents = (d.state disk).contents in
    let has = (c.requires.ends honest).1 in
    started d disk (CommitsTo (take c.args.end contents))
    (λ image since. cut_same _ contents image has.ends.commits (settled_image _ _ image has.settled ((g.met.D.Disk.laws disk honest).only_now image since)))

-- a closed byte is written there, which may be torn
end_torn : {D : Type 0} (model : DiskModel D) (old new : D) (end tail : ℕ) (closed : Bool) → HasEnd end tail closed (model.state old) → closed ≡ false
    → LeavesOnly model old new (IsTorn end 1 (model.state old).contents) → LeavesOnly model old new (CommitsTo (take end (model.state old).contents))
end_torn model old new end tail closed has none leaves =
    let contents = (model.state old).contents in
    let long = end_long contents end has.ends in
    let short = short_tail _ contents end has.ends.commits long (λ there. not_both closed none (has.is_open there)) in
    weakened model old new _ (CommitsTo (take end contents)) leaves (λ image torn. torn_end _ contents image end has.ends.commits long short torn)

pub returns-in_err-write_synced-clause-any_moment : goal.returns-in_err-write_synced-clause-any_moment
returns-in_err-write_synced-clause-any_moment g c = λ honest.
    end_torn g.D.Disk _ _ c.args.end _ _ (c.requires.ends honest).1 c.if-not-closed.true (c.write_synced.ensures.any_moment honest)

pub returns-in_ok-write_synced-clause-any_moment : goal.returns-in_ok-write_synced-clause-any_moment
returns-in_ok-write_synced-clause-any_moment g c = λ honest.
    end_torn g.D.Disk _ _ c.args.end _ _ (c.requires.ends honest).1 c.if-not-closed.true (c.write_synced.ensures.any_moment honest)

pub returns-in_err-write_synced-clause-front : goal.returns-in_err-write_synced-clause-front
returns-in_err-write_synced-clause-front g c = λ honest.
    let still = c.write_synced.ensures.frame.honest.0 honest in
    front_kept g.D.Disk _ _ _ _ (g.met.D.Disk.laws _ still) (end_long _ c.args.end (c.requires.ends honest).1.ends) (returns-in_err-write_synced-clause-any_moment g c honest)
