-- The kinds of records. Their numbers are ours.
use Rattle.std.specs.Prelude.{ℕ}
use Rattle.feed_codec.specs.declared.head.RecordKind.{RecordKind}
use Rattle.feed_codec.specs.declared.head.RecordKind.TheVariants.{Announcement, Begin, Put, End, Flush}

abbrev pub number_of : RecordKind → ℕ
number_of Announcement = 0
number_of Begin = 1
number_of Put = 2
number_of End = 3
number_of Flush = 4
