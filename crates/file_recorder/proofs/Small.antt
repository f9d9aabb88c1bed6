-- Small commands.
use Rattle.std.proofs.Common.{◌≡◌, ◌≤◌, ◌&&◌, ℕ, Bool, true, false}
use Rattle.std.specs.Prelude.{nat_eq, nat_le, length}
use Rattle.std.proofs.lemmas.Bool.{leb-true}
use Rattle.ogg_command.specs.declared.command.Command.{Command}
use Rattle.ogg_command.specs.declared.command.Command.TheVariants.{Begin as BeginOf, Put as PutOf, End as EndOf}
use Rattle.file_recorder.proofs.Lasting.{never}
use Rattle.file_recorder.specs.Small.{is_small, most_small}

both : (a b : Bool) → a && b ≡ true → b ≡ true
both true b e = e
both false b e = absurd (never e)

pub small_size : (command : Command) (size : ℕ) → is_small command size ≡ true → size ≤ most_small
small_size (BeginOf begin) size e = absurd (never e)
small_size (PutOf put) size e = leb-true size most_small (both (nat_eq (length put.entries) 1) (nat_le size most_small) e)
small_size (EndOf serial) size e = leb-true size most_small e
