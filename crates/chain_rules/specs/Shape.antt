-- What a shape keeps, and the room that it has.
use Rattle.std.specs.Prelude.{◌≤◌, ⊤}
use Rattle.chain_rules.specs.Begun.{stream_count}
pub use Rattle.link_chain.specs.Room.{ChainWithRoom as ShapeState}
use Rattle.ogg_command.specs.declared.command.Command.{Command}
use Rattle.ogg_command.specs.declared.command.Command.TheVariants.{Begin as BeginOf, Put as PutOf, End as EndOf}

-- there is room for what the command adds
abbrev pub HasRoom : ShapeState → Command → Type 0
HasRoom shape (BeginOf begin) = (stream_count begin ≤ shape.stream_room) × (stream_count begin ≤ shape.serial_room)
HasRoom shape (PutOf put) = ⊤
HasRoom shape (EndOf serial) = ⊤
