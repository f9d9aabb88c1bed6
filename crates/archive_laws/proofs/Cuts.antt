-- Every image of an archive can be cut.
use Rattle.std.specs.Prelude.{◌≡◌, ℕ, None, List, [], ◌∷◌, ◌++◌, length, map}
use Rattle.std.specs.List.{fold, AllByRecursion}
use Rattle.std.proofs.Common.{sym, ◌∙◌, subst}
use Rattle.disk_model.specs.declared.disk.Disk.{Ghosts as DiskModel}
use Rattle.gate_file.specs.Commit.{CommitsTo}
use Rattle.gate_file.specs.CommitLaws.{one_commit}
use Rattle.link_chain.specs.Links.{AreLinks}
use Rattle.link_chain.specs.Recording.{Recording, HoldsLinks}
use Rattle.ogg_command.specs.Command.{IsCommand}
use Rattle.ogg_command.specs.declared.command.Command.{Command}
use Rattle.chain_rules.specs.Commands.{AreKept, bytes_of_commands, links_behind}
use Rattle.chain_rules.specs.Encoding.{links_after}
use Rattle.chain_rules.specs.Recording.{after}
use Rattle.archive_times.specs.declared.line.Line.{Line}
use Rattle.archive_times.specs.Times.{AreTimes}
use Rattle.archive_cut.specs.declared.placing.Recorded.{Recorded}
use Rattle.archive_cut.specs.Times.{AddUp, AreBoundaries, NeverFall, stood}
use Rattle.archive_folder.specs.declared.names.Name.{Name}
use Rattle.history.specs.Commands.{AreAccepted}
use Rattle.file_recorder.specs.Recovery.{Links}
use Rattle.archive_history.specs.Archive.{Archive, nothing, names}
use Rattle.archive_history.specs.Showing.{ShowsArchive}
use Rattle.archive_history.specs.Accounted.{AreSafe, NewestSafe, StandsAs}
use Rattle.archive_history.specs.History.{Point, Event, IsEvent, AreEvents, IsArchiveHistory, account_after, point_after}
use Rattle.archive_laws.specs.Committing.{ShowsLinks, AcceptsAfter}
use Rattle.archive_laws.specs.CommittingLaws.{none_whole}
use Rattle.archive_laws.specs.Cutting.{HasBytesOf, IsCutByTimes, ShowsCuts}
use Rattle.archive_laws.proofs.Accepted.{AccountIs, event_is, nothing_is}
use Rattle.archive_laws.proofs.Shown.{shown_parts}

-- ---- the laws of crates below
-- `commands_add_their_packets`
abbrev pub AllAdd : Type 0
AllAdd = (bytes : List ℕ) (links : Links) (recording : Recording) (commands : List Command) → AllByRecursion IsCommand commands →
    AreLinks bytes links → HoldsLinks links recording → AreKept links commands →
    AreLinks (bytes ++ bytes_of_commands links commands) (links_behind links commands) × HoldsLinks (links_behind links commands) (after recording commands)

-- `cuts_of_times_add_up`
abbrev pub TimesAddUp : Type 0
TimesAddUp = (commands : List Command) (file : Recorded) (lines : List Line) (start : ℕ) (times : List ℕ) → AllByRecursion IsCommand commands → AreKept [] commands
    → AreTimes file.committed None lines → AreBoundaries commands lines → file.committed ≡ length (bytes_of_commands [] commands) → NeverFall start times
    → AddUp commands (stood file lines start) (map (stood file lines) times)

-- ---- one file
are_both : (links : Links) (commands : List Command) → AreAccepted AcceptsAfter links_after links commands → AllByRecursion IsCommand commands × AreKept links commands
are_both links [] are = (tt, tt)
are_both links (command ∷ commands) are =
    let rest = are_both (links_after links command) commands are.1 in
    ((are.0.0, rest.0), (are.0.1, rest.1))

pub has_bytes : AllAdd → (image : List ℕ) (commands : List Command) → AreAccepted AcceptsAfter links_after [] commands → ShowsLinks image (fold links_after [] commands) → HasBytesOf image commands
has_bytes adds image commands are shown =
    let both = are_both [] commands are in
    let here : AreLinks (bytes_of_commands [] commands) (links_behind [] commands) =
    (adds [] [] none_whole.recording commands both.0 none_whole.are_links none_whole.holds both.1).0 in
    let same : shown.bytes ≡ bytes_of_commands [] commands = shown.held.are_links.spelled ∙ sym here.spelled in
    record { are_commands = both.0; kept = both.1; commits = subst (λ (b : List ℕ). CommitsTo b image) same shown.commits }

pub is_cut : AllAdd → TimesAddUp → (image : List ℕ) (commands : List Command) → AreAccepted AcceptsAfter links_after [] commands → ShowsLinks image (fold links_after [] commands) → IsCutByTimes image commands
is_cut adds times image commands are shown =
    let has : HasBytesOf image commands = has_bytes adds image commands are shown in
    record {
      has = has;
      reads = λ bytes commits. one_commit bytes (bytes_of_commands [] commands) image commits has.commits;
      cuts = λ file lines start later lines_are at all rise. times commands file lines start later has.are_commands has.kept lines_are at all rise;
    }

-- ---- all files
pub shows_cuts : AllAdd → TimesAddUp → (a : Archive Command) (image : List (ℕ × List ℕ)) → AreSafe a.ended → NewestSafe a.newest → AccountIs AcceptsAfter links_after [] a
    → ShowsArchive ShowsLinks links_after [] a image → ShowsCuts a image
shows_cuts adds times a image safe newest_safe is shown =
    let all = shown_parts ShowsLinks AcceptsAfter links_after [] IsCutByTimes (is_cut adds times) a image safe newest_safe is shown in
    record {
      files = all.parts.files;
      among = all.parts.among;
      commands = all.parts.commands;
      each = all.parts.each;
      held = all.parts.held;
      has_all = all.has_all;
    }

module _ {F D : Type 0} (names_in : F → List Name) (moment : F → ℕ) (left_since : F → ℕ → List ℕ → Type 0) (model : DiskModel D) where
  abbrev Stands : Archive Command → Point F D → Type 0
  Stands a point = StandsAs names_in model ShowsLinks links_after [] a point

  abbrev Is : Archive Command → Event Command → Archive Command → Point F D → Point F D → Type 0
  Is a event b old new = IsEvent names_in moment left_since model ShowsLinks AcceptsAfter links_after [] a event b old new

  -- an event leaves the folder as its account says: `folders_stand_as_their_account`
  abbrev pub StandsOn : Type 0
  StandsOn = (a b : Archive Command) (event : Event Command) (old new : Point F D) → Stands a old → Is a event b old new → names_in new.folder ≡ names b → Stands b new

  events_stand : StandsOn → (a : Archive Command) (old : Point F D) (events : List (Event Command × Archive Command × Point F D)) → Stands a old → AccountIs AcceptsAfter links_after [] a
      → AreEvents names_in moment left_since model ShowsLinks AcceptsAfter links_after [] a old events
      → Stands (account_after a events) (point_after old events) × AccountIs AcceptsAfter links_after [] (account_after a events)
  events_stand on a old [] stands is are = (stands, is)
  events_stand on a old ((event, b, new) ∷ events) stands is are =
      events_stand on b new events (on a b event old new stands are.0 are.1) (event_is AcceptsAfter links_after [] names_in moment left_since model ShowsLinks a event b old new is are.0) are.2

  pub history_stands : StandsOn → (start : Point F D) (events : List (Event Command × Archive Command × Point F D)) (a : Archive Command) (now : Point F D)
      → IsArchiveHistory names_in moment left_since model ShowsLinks AcceptsAfter links_after [] start events a now
      → Stands a now × AccountIs AcceptsAfter links_after [] a
  history_stands on start events a now history =
      let begins : Stands nothing start = record { names_are = history.begins; stands = record { files = tt; newest = tt; safe = tt; newest_safe = tt; above = tt } } in
      let all = events_stand on nothing start events begins (nothing_is AcceptsAfter links_after []) history.are in (
        subst (λ (b : Archive Command). Stands b now) history.leads (subst (λ (p : Point F D). Stands (account_after nothing events) p) history.ends all.0),
        subst (AccountIs AcceptsAfter links_after []) history.leads all.1,
      )
