-- How a seat is told by a number. Ours.
use Rattle.std.specs.Prelude.{ℕ, ◌+◌, ◌*◌, ◌%◌, ◌^◌}
use Rattle.station_files.specs.declared.seats.Seat.{Seat}

abbrev pub token_of : Seat → ℕ
token_of seat = (seat.station % 2 ^ 31) * 2 ^ 32 + seat.key % 2 ^ 32
