use Rattle.std.proofs.Common.{[], ◌∷◌, ◌++◌}
use Rattle.import_record.proofs.Turns.{all_plain, all_split, answered_in_turn, become_in_turn, both_take, commands_in_turn, resumed_in_turn, streams_in_turn, takes_pages}
use Rattle.import_record.specs.Whole.{pages_in}
use Rattle.import_record.specs.Whole.Event.{Resuming}
use Rattle.import_record.proofs.laws.recordings_are_runs_of_mended_commands.Goals as goal

pub returns-clause-takes : goal.returns-clause-takes
returns-clause-takes g c events old new done before after records = (
  takes_pages g.T.Runner.answers events old new done before after records,
  streams_in_turn g.T.Runner.answers events old new done before after records,
)

pub returns-clause-changed : goal.returns-clause-changed
returns-clause-changed g c events old new done before after on records = become_in_turn g.T.Runner.answers events old new done before after on records

pub returns-clause-recorded : goal.returns-clause-recorded
returns-clause-recorded g c events serials start new done before after begins has on records =
    let pages = takes_pages g.T.Runner.answers events start new done before after records in
    let (links, holds) = c.commands_hold_sound_links.ensures.pages (pages_in events) start.mending new.mending done.mends done.more begins pages in
    let plain = c.commands_begin_links_without_a_skeleton.ensures.pages (pages_in events) start.mending new.mending done.mends done.more begins pages in
    let (bytes, all) = answered_in_turn g.T.Runner.answers events start new done before after records in
    record {
      links = links;
      mended = holds;
      changed = become_in_turn g.T.Runner.answers events start new done before after on records serials [] [] has (all_plain done.more plain);
      bytes = bytes;
      answered = all;
      commands = commands_in_turn g.T.Runner.answers events start new done before after records;
    }

pub returns-clause-resumed : goal.returns-clause-resumed
returns-clause-resumed g c events later streams serials start old new earlier done first stopped before after begins records on resumes =
    let front = takes_pages g.T.Runner.answers events start old earlier first stopped records in
    let back = takes_pages g.T.Runner.answers (Resuming streams serials ∷ later) old new done before after resumes in
    let pages = both_take (pages_in events) (pages_in later) start.mending old.mending new.mending earlier.mends done.mends earlier.more done.more front back in
    let plain = c.commands_begin_links_without_a_skeleton.ensures.pages (pages_in events ++ pages_in later) start.mending new.mending (earlier.mends ++ done.mends) (earlier.more ++ done.more) begins pages in
    let (front_plain, back_plain) = all_split earlier.more done.more (all_plain (earlier.more ++ done.more) plain) in
    let (bytes, all) = answered_in_turn g.T.Runner.answers (Resuming streams serials ∷ later) old new done before after resumes in
    record {
      gives = resumed_in_turn g.T.Runner.answers streams serials later old new done before after on back_plain resumes;
      bytes = bytes;
      answered = all;
      commands = commands_in_turn g.T.Runner.answers (Resuming streams serials ∷ later) old new done before after resumes;
    }
