use Rattle.std.proofs.Common.{refl, sym, ◌∙◌, ap, ◌++◌}
use Rattle.import_record.specs.Steps.{state_of}
use Rattle.station_sources.specs.Importing.{rest_of}
use Rattle.station_sources.specs.Taking.{input_of}
use Rattle.station_laws.specs.Recorded.{file_of}
use Rattle.station_laws.proofs.Called.{all_go_on, fed_more, finished, joins, moves_of, passed, stepped_once}
use Rattle.station_laws.proofs.sources.stations_import_their_sources.Goals as goal

pub returns-clause-so_far : goal.returns-clause-so_far
returns-clause-so_far g c calls old new live last machine called shows =
    let (moves, after, shown, moved, fed) = moves_of g.D.Disk calls old new live last machine called shows in
    let (taken, feeds, bytes_are) = c.sources_are_imported.ensures.so_far moves old new (file_of machine) (file_of after) moved in (
      after,
      shown,
      taken,
      feeds,
      λ none.
          let is = bytes_are none in
          (ap (λ l. rest_of old ++ l) (sym fed) ∙ is.0, is.1),
      c.pages_that_come_are_the_good_pages.ensures.so_far taken (input_of old.import) (input_of new.import) (file_of machine) (file_of after) feeds,
    )

pub returns-clause-joins : goal.returns-clause-joins
returns-clause-joins g c = joins g.D.Disk

pub returns-clause-fed : goal.returns-clause-fed
returns-clause-fed g c bytes old now live last fed keeps = fed_more g.D.Disk bytes old now live last (fed.0 refl) keeps

pub returns-clause-passed : goal.returns-clause-passed
returns-clause-passed g c = passed g.D.Disk

pub returns-clause-stepped : goal.returns-clause-stepped
returns-clause-stepped g c = stepped_once g.D.Disk

pub returns-clause-ended : goal.returns-clause-ended
returns-clause-ended g c calls last old mid new live between ending gone next machine offset junk taken refused called lasts ends shows =
    let (moves, after, shown, moved, fed) = moves_of g.D.Disk calls old mid live between machine called shows in
    let is = finished g.D.Disk last offset junk taken mid new between ending after lasts ends shown in
    let found = input_of is.between in
    let (bytes, events, imports, bytes_are) =
    c.sources_are_imported.ensures.all moves is.steps old mid found (file_of machine) (file_of after) is.reached moved is.finishes in
    let good = c.pages_that_come_are_the_good_pages.ensures in record {
      bytes = bytes;
      events = events;
      found = found;
      run = is.run;
      reached = is.reached;
      after = is.after;
      imports = imports;
      ends = is.ends;
      bytes_are = λ none. ap (λ l. rest_of old ++ l) (sym fed) ∙ bytes_are none;
      pages = good.all bytes events (input_of old.import) found (file_of machine) is.reached imports;
      recorded = λ options serials fresh.
          let (done, records) = good.records bytes events (input_of old.import) found (file_of machine) is.reached imports in (
            done,
            records,
            c.recordings_are_runs_of_mended_commands.ensures.recorded events serials (state_of old.import) found.intake done (file_of machine) is.reached
                fresh.fresh.mending fresh.fresh.changes (all_go_on events imports.calls imports.last imports.events_are) records,
          );
    }
