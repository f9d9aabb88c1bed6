-- An image's committed bytes are one chain of links at most.
use Rattle.std.proofs.Common.{◌≡◌, [], refl, ap, arith}
use Rattle.history.specs.Showing.{ShowsOne}
use Rattle.history.specs.Recovery.{HoldsOne, recovers_one}
use Rattle.gate_file.specs.CommitLaws.{commits}
use Rattle.link_chain.specs.LinkLaws.{one_chain}
use Rattle.chain_rules.specs.Encoding.{links_after}
use Rattle.ogg_command.specs.declared.command.Command.{Command}
use Rattle.file_recorder.specs.Recovery.{Links, Commits}
use Rattle.file_recorder.specs.RecoveryLaws.{commits_one}
use Rattle.archive_laws.specs.Committing.{AreWhole, ShowsLinks, AcceptsAfter}

pub holds_one : HoldsOne AreWhole
holds_one bytes links others p q = one_chain bytes links others p.are_links q.are_links

pub shows_one : ShowsOne ShowsLinks
shows_one = recovers_one Commits AreWhole commits_one holds_one

pub adds : (links others : Links) (command : Command) → AcceptsAfter links command → links ≡ others → links_after links command ≡ links_after others command
adds links others command accepted same = ap (λ (l : Links). links_after l command) same

-- no bytes are no links
pub none_whole : AreWhole [] []
none_whole = record { recording = []; are_links = record { spelled = refl; pages = tt; few = omega arith; each = tt; ended = tt }; holds = tt }

-- of an empty image no bytes are committed
pub new_shows : ShowsLinks [] []
new_shows = record { bytes = []; commits = commits [] [] [] tt refl tt; held = none_whole }
