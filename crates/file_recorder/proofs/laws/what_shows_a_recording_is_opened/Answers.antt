use Rattle.std.proofs.Common.{ℕ, List, take, subst}
use Rattle.gate_file.specs.CommitLaws.{none_commits, one_commit}
use Rattle.link_chain.specs.Recording.{Holds}
use Rattle.file_recorder.proofs.Opened.{holds_of}
use Rattle.file_recorder.proofs.Reopened.{not_broken, not_unfinished}
use Rattle.file_recorder.proofs.laws.what_shows_a_recording_is_opened.Goals as goal

pub returns-clause-damaged : goal.returns-clause-damaged
returns-clause-damaged c = λ contents recording shows offset fault at. none_commits at.pages at.rest contents at.begins at.no_tail shows.bytes shows.commits

pub returns-clause-broken : goal.returns-clause-broken
returns-clause-broken c = λ contents recording shows end ends offset fault at.
    let same = one_commit shows.bytes (take end contents) contents shows.commits ends.commits in
    not_broken (take end contents) recording offset fault (subst (λ (l : List ℕ). Holds l recording) same shows.held) at

pub returns-clause-unfinished : goal.returns-clause-unfinished
returns-clause-unfinished c = λ contents recording shows end ends serial at.
    let same = one_commit shows.bytes (take end contents) contents shows.commits ends.commits in
    not_unfinished (take end contents) recording serial (subst (λ (l : List ℕ). Holds l recording) same shows.held) at

pub returns-clause-shown : goal.returns-clause-shown
returns-clause-shown c = λ contents end chain ends held.
    (held.recording, record { bytes = take end contents; commits = ends.commits; held = holds_of (take end contents) chain held })
