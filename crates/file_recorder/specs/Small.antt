-- Which commands are made in room that a recorder keeps, and which take memory. Ours.
use Rattle.std.specs.Prelude.{ℕ, Bool, true, false, ◌&&◌, nat_eq, nat_le, length}
use Rattle.ogg_command.specs.declared.command.Command.{Command}
use Rattle.ogg_command.specs.declared.command.Command.TheVariants.{Begin as BeginOf, Put as PutOf, End as EndOf}

-- the greatest length of a small command's pages, in bytes
abbrev pub most_small : ℕ
most_small = 4096

-- whether a command whose pages have this many bytes ends a stream or puts one packet, and is short
abbrev pub is_small : Command → ℕ → Bool
is_small (BeginOf begin) size = false
is_small (PutOf put) size = nat_eq (length put.entries) 1 && nat_le size most_small
is_small (EndOf serial) size = nat_le size most_small

-- whether a command begins a link
abbrev pub begins_link : Command → Bool
begins_link (BeginOf begin) = true
begins_link (PutOf put) = false
begins_link (EndOf serial) = false
