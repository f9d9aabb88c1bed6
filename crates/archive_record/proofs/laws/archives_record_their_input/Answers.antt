use Rattle.std.proofs.Common.{◌++◌, refl}
use Rattle.import_record.specs.Steps.{state_of}
use Rattle.import_record.specs.Whole.{pages_in}
use Rattle.archive_record.specs.Recorded.{came_in, mends_of, more_of, pages_of}
use Rattle.archive_record.proofs.Fed.{good_pages}
use Rattle.archive_record.proofs.Given.{all_give}
use Rattle.archive_record.proofs.Kept.{AreKept, kept_in, kept_on}
use Rattle.archive_record.proofs.Followed.{changed_once, first_begun, follows, joins, recovered_once, taken}
use Rattle.archive_record.proofs.laws.archives_record_their_input.Goals as goal

pub returns-clause-so_far : goal.returns-clause-so_far
returns-clause-so_far g c bound calls old new run last before is called =
    let whole = follows g.D.Disk g.F.Folder.is_honest g.F.Folder.file bound calls old run new last before is called in
    let over = whole.over in
    let fed = whole.fed (state_of run).begun in
    let all = taken g.D.Disk g.F.Folder.is_honest g.F.Folder.file bound c.recordings_are_runs_of_mended_commands.ensures.takes before (state_of run) new (state_of last) over in (
      over,
      all.0,
      all.1,
      λ on small. good_pages run.input.pages last.input.pages (state_of run).mending (state_of last).mending (came_in calls)
          (pages_in over.events ++ pages_of over.parts) (state_of run).begun c.pages_that_come_are_the_good_pages.ensures.so_far fed on small,
    )

pub returns-clause-gives : goal.returns-clause-gives
returns-clause-gives g c bound before now start new begins over =
    let all = taken g.D.Disk g.F.Folder.is_honest g.F.Folder.file bound c.recordings_are_runs_of_mended_commands.ensures.takes before start now new over in
    let pages = pages_in over.events ++ pages_of over.parts in
    let mends = over.done.mends ++ mends_of over.parts in
    let more = over.done.more ++ more_of over.parts in
    let (links, holds) = c.commands_hold_sound_links.ensures.pages pages start.mending new.mending mends more begins all.0 in
    let become = c.recordings_are_runs_of_mended_commands.ensures.changed in (
      links,
      holds,
      become over.events start over.mid over.done before over.last over.on over.records,
      all_give g.D.Disk g.F.Folder.is_honest g.F.Folder.file bound become over.done.more over.parts over.last over.mid over.after new
          (c.commands_begin_links_without_a_skeleton.ensures.pages pages start.mending new.mending mends more begins all.0) over.follow,
    )

pub returns-clause-ends : goal.returns-clause-ends
returns-clause-ends g c bound before now after start run last taken begins over finished =
    let (links, holds, become, give) = returns-clause-gives g c bound before now start (state_of run) begins over in
    c.commands_hold_sound_links.ensures.end links (state_of run).mending.gathered (state_of last).mending.gathered
    (over.done.more ++ more_of over.parts) finished.ends.more finished.ends.ended holds

pub returns-clause-kept : goal.returns-clause-kept
returns-clause-kept g c bound before now old new over =
    let law : AreKept g.D.Disk = λ events x y done begun last records same. record {
      same = same;
      steps = c.recordings_are_steps_of_their_file.ensures.steps events x y done begun.progress last.progress records;
      bytes = c.recordings_are_steps_of_their_file.ensures.bytes events x y done begun.progress last.progress records;
    } in (
      kept_in g.D.Disk law over.events old over.mid over.done before over.last over.records,
      kept_on g.D.Disk g.F.Folder.is_honest g.F.Folder.file bound law over.parts over.last over.mid over.after new over.follow,
    )

pub returns-clause-first : goal.returns-clause-first
returns-clause-first g c bound answered now begun = first_begun g.D.Disk bound answered now begun

pub returns-clause-took : goal.returns-clause-took
returns-clause-took g c bound step old now run next needs steps = (now, next, needs, steps, (refl, refl))

pub returns-clause-joins : goal.returns-clause-joins
returns-clause-joins g c bound = joins g.D.Disk g.F.Folder.is_honest g.F.Folder.file bound

pub returns-clause-changed : goal.returns-clause-changed
returns-clause-changed g c bound = changed_once g.D.Disk g.F.Folder.is_honest g.F.Folder.file bound

pub returns-clause-recovered : goal.returns-clause-recovered
returns-clause-recovered g c bound = recovered_once g.D.Disk g.F.Folder.is_honest g.F.Folder.file bound
