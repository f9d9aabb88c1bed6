-- What is told of a page that is taken. Ours.
use Rattle.std.specs.Prelude.{ℕ, Bool, nat_lt, ◌&&◌, if◌then◌else◌, Option, Some, None}
use Rattle.ogg_page.specs.Page.{Page}
use Rattle.ogg_page.specs.Lacing.{ends_open}
use Rattle.ogg_page.specs.LogicalStream.{is_last}
use Rattle.link_chain.specs.declared.stream_state.StreamState.{StreamState}
use Rattle.import_mend.specs.Ways.{number_due}
use Rattle.import_mend.specs.Mended.{is_joined}
use Rattle.import_mend.specs.declared.mend.Mend.{Mend}
use Rattle.import_mend.specs.declared.mend.Mend.TheVariants.{Gap, Unfinished, TooLong}

-- Pages are missing before it, or a packet is cut off: at its front, since it isn't joined with the page before, or at
-- the end of its stream.
abbrev pub mend_of : ℕ → ℕ → StreamState → Bool → Page → Option Mend
mend_of offset lost stream too_long page =
    if nat_lt (number_due lost stream) page.sequence then Some (Gap offset page.serial (number_due lost stream) page.sequence)
    else (if is_joined lost stream too_long page then (if is_last page && ends_open page.lacing then Some (Unfinished offset page.serial) else None)
    else (if too_long then Some (TooLong offset page.serial) else Some (Unfinished offset page.serial)))
