-- An image shows one recording at most.
use Rattle.std.proofs.Common.{◌≡◌, [], refl, ap, arith}
use Rattle.history.specs.Showing.{ShowsOne}
use Rattle.history.specs.Recovery.{CommitsOne, HoldsOne, recovers_one}
use Rattle.gate_file.specs.CommitLaws.{one_commit, commits}
use Rattle.link_chain.specs.LinkLaws.{one_held}
use Rattle.link_chain.specs.Recording.{Recording, Holds}
use Rattle.chain_rules.specs.Recording.{add}
use Rattle.ogg_command.specs.declared.command.Command.{Command}
use Rattle.file_recorder.specs.Recovery.{Commits, Shows, Accepts}

pub commits_one : CommitsOne Commits
commits_one image b c p q = one_commit b c image p q

pub holds_one : HoldsOne Holds
holds_one bytes recording other p q = one_held bytes recording other p q

pub shows_one : ShowsOne Shows
shows_one = recovers_one Commits Holds commits_one holds_one

pub adds : (state recording : Recording) (command : Command) → Accepts state command → state ≡ recording → add state command ≡ add recording command
adds state recording command accepted same = ap (λ (r : Recording). add r command) same

-- an empty image shows the recording of no links
pub new_shows : Shows [] []
new_shows = record {
  bytes = [];
  commits = commits [] [] [] tt refl tt;
  held = ([], record { spelled = refl; pages = tt; few = omega arith; each = tt; ended = tt }, tt);
}
