-- The stream of a link's packets, part by part. Ours.
use Rattle.std.specs.Prelude.{◌+◌, Result, Ok, Err}
use Rattle.ogg_page.specs.Window.{WindowState, window}
use Rattle.link_index.specs.declared.info.LinkInfo.{LinkInfo}
use Rattle.ogg_split.specs.declared.fault.SplitFault.{SplitFault}

-- the window that has lent nothing of the link's bytes
abbrev pub window_of_link : {S : Type 0} → S → LinkInfo → WindowState S
window_of_link source link = window source link.start (link.start + link.length)

-- the answer, without the window that is given back with a fault
abbrev pub answer_of : {T W : Type 0} → Result T (SplitFault × W) → Result T SplitFault
answer_of (Ok value) = Ok value
answer_of (Err given) = Err given.0
