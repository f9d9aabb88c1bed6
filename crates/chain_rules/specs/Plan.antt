-- What a chain will be after a command, as it is planned before. Ours.
use Rattle.std.specs.Prelude.{◌≡◌, ℕ, ◌+◌, List, map, Ok}
use Rattle.std.specs.List.{fold}
use Rattle.link_chain.specs.declared.stream_state.StreamState.{StreamState}
use Rattle.link_chain.specs.ChainState.{ChainState}
use Rattle.link_chain.specs.Followed.{with_link, moved_on}
use Rattle.link_chain.specs.Places.{HaveOwnSerials}
use Rattle.link_chain.specs.Progress.{change_at, ended_by, next_in}
use Rattle.chain_rules.specs.Begun.{states_of, has_more_pages}
use Rattle.chain_rules.specs.Decision.{decision}
use Rattle.chain_rules.specs.Encoding.{runs_of, with_run}
use Rattle.ogg_command.specs.declared.command.Command.{Command}
use Rattle.ogg_command.specs.declared.command.Command.TheVariants.{Begin as BeginOf, Put as PutOf, End as EndOf}

pub record PlanState : Type 0 where
  -- the streams of the last link, after the command
  pub streams : List StreamState
  -- how many bytes the command's pages have
  pub size : ℕ

-- the streams of the last link after a command
abbrev pub streams_after : ChainState → Command → List StreamState
streams_after chain (BeginOf begin) = states_of begin.skeleton begin.streams
streams_after chain (PutOf put) = fold with_run chain.streams (runs_of put.entries)
streams_after chain (EndOf serial) = map (change_at serial (ended_by (next_in chain.streams serial + 1))) chain.streams

-- The command isn't refused, and the plan is what the chain will be after it. No two of its streams have one serial.
pub record IsPlanOf (chain : ChainState) (command : Command) (plan : PlanState) : Type 0 where
  pub decided : decision chain command ≡ Ok plan.size
  pub after : plan.streams ≡ streams_after chain command
  pub own : HaveOwnSerials plan.streams

-- the chain after a command of this plan
abbrev pub chain_by : ChainState → Command → PlanState → ChainState
chain_by chain (BeginOf begin) plan = with_link chain plan.streams (has_more_pages begin.skeleton begin.streams) plan.size
chain_by chain (PutOf put) plan = moved_on chain plan.streams plan.size
chain_by chain (EndOf serial) plan = moved_on chain plan.streams plan.size
