-- The line that tells how a station does, with its line feed. Ours.
use Rattle.std.specs.Prelude.{Bool, true, false, List, ℕ, ◌++◌, codes}
use Rattle.feed_replies.specs.Reply.{line_end}
use Rattle.import_record.specs.Lines.{counted}
use Rattle.station_sources.specs.declared.lines.Shown.{Shown}

abbrev pub air_text : Bool → List ℕ
air_text true = codes "on air, "
air_text false = codes "off air, "

abbrev pub station_line : Shown → List ℕ
station_line shown =
    air_text shown.on_air ++ (counted shown.listeners (codes " listen, ") (counted shown.packets (codes " packets, ")
    (counted shown.bytes (codes " bytes, ") (counted shown.commits (codes " commits/s") line_end))))
