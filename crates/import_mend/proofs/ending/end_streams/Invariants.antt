use Rattle.std.proofs.Common.{◌≡◌, ◌≤◌, ◌++◌, List}
use Rattle.std.specs.Prelude.{vec_capacity}
use Rattle.ogg_command.specs.declared.command.Command.{Command}
use Rattle.import_mend.specs.Gives.{EndsStreams}
use Rattle.import_mend.specs.Room.{HasRoom, StillHasRoom}
use Rattle.import_mend.proofs.ending.end_streams.Given as goal

-- each turn ended the first open stream; no growth was refused, and the room to make a page in hasn't shrunk
abbrev pub invariant-loop : goal.invariant-loop
invariant-loop l =
    ((more : List Command) × (l.commands.items ≡ l.initial.commands.items ++ more) × EndsStreams l.initial.gatherer l.gatherer more)
    × (HasRoom l.initial.gatherer.chain → StillHasRoom l.count l.counter l.gatherer.chain)
    × (l.gatherer.refused ≡ l.initial.gatherer.refused)
    × (vec_capacity l.initial.room ≤ vec_capacity l.room)
