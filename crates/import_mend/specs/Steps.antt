-- What a page does to the chain of the pages before it. Ours.
use Rattle.std.specs.Prelude.{◌≡◌, ◌⊎◌, ℕ, Bool, true, false, if◌then◌else◌, Option, Some, None}
use Rattle.ogg_page.specs.Page.{Page}
use Rattle.ogg_page.specs.LogicalStream.{is_first}
use Rattle.link_chain.specs.declared.stream_state.StreamState.{StreamState}
use Rattle.link_chain.specs.ChainState.{ChainState, is_open}
use Rattle.link_chain.specs.Followed.{after_page}
use Rattle.link_chain.specs.Progress.{stream_in}
use Rattle.import_gather.specs.Gathered.{Gathered, without_packet}
use Rattle.import_gather.specs.Kept.{is_too_long}
use Rattle.import_mend.specs.Mended.{end_page, is_joined, mended}
use Rattle.import_mend.specs.Telling.{mend_of}
use Rattle.import_mend.specs.declared.mend.Mend.{Mend}
use Rattle.import_mend.specs.declared.mend.Mend.TheVariants.{Restart as RestartOf, Stranger as StrangerOf, Repeated as RepeatedOf, Misshapen as MisshapenOf, Full as FullOf}
use Rattle.import_mend.specs.declared.ways.Way.{Way}
use Rattle.import_mend.specs.declared.ways.Way.TheVariants.{Take, Restart, Stranger, Repeated, Misshapen, Full}

-- the unfinished packet is dropped, unless the next page is joined with the page that it begins in
abbrev pub broken_off : Bool → ℕ → Gathered → Gathered
broken_off joined serial gathered = if joined then gathered else without_packet serial gathered

-- a page of a stream, taken as it is left
abbrev pub after_mended : Bool → ℕ → Page → Gathered → ChainState
after_mended joined number page gathered = after_page (broken_off joined page.serial gathered).chain (mended joined number page)

-- the same, as it is joined with the pages before
abbrev pub after_later : ℕ → StreamState → Page → Gathered → ChainState
after_later lost stream page gathered =
    after_mended (is_joined lost stream (is_too_long gathered.link page) page) stream.next_sequence page gathered

-- a stream, ended by a page without packets
abbrev pub after_end : StreamState → Gathered → ChainState
after_end stream gathered =
    after_page (without_packet stream.serial gathered).chain (end_page stream.next_sequence stream)

-- ---- what a page does, by what is done with it
-- a page that isn't its stream's first
abbrev pub MendsLater : ℕ → ℕ → Page → Gathered → Gathered → Option Mend → Type 0
MendsLater offset lost page old new mend =
    (stream : StreamState) → stream_in old.chain.streams page.serial ≡ Some stream →
    (new.chain ≡ after_later lost stream page old) × (mend ≡ mend_of offset lost stream (is_too_long old.link page) page)

-- a first page that begins a link after the open one was ended, if that could be done
abbrev pub Restarts : ℕ → Page → Gathered → Option Mend → Type 0
Restarts offset page new mend =
    ((closed : ChainState) × (is_open closed ≡ false) × (new.chain ≡ after_page closed page) × (mend ≡ Some (RestartOf offset)))
    ⊎ (mend ≡ Some (FullOf offset page.serial))

abbrev pub Mends : Way → ℕ → ℕ → Page → Gathered → Gathered → Option Mend → Type 0
Mends Take offset lost page old new mend =
    (is_first page ≡ true → (new.chain ≡ after_page old.chain page) × (mend ≡ None)) × (is_first page ≡ false → MendsLater offset lost page old new mend)
Mends Restart offset lost page old new mend = Restarts offset page new mend
Mends Stranger offset lost page old new mend = (new ≡ old) × (mend ≡ Some (StrangerOf offset page.serial))
Mends Repeated offset lost page old new mend = (new ≡ old) × (mend ≡ Some (RepeatedOf offset page.serial))
Mends Misshapen offset lost page old new mend = (new ≡ old) × (mend ≡ Some (MisshapenOf offset page.serial))
Mends Full offset lost page old new mend = (new ≡ old) × (mend ≡ Some (FullOf offset page.serial))
