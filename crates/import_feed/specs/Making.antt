-- What was written of what was read. Ours.
use Rattle.std.specs.Prelude.{◌≡◌, ℕ, ◌+◌, ◌-◌, ◌^◌, ◌≤◌, min, true, false, Option, Some, None, List, [], ◌++◌, length}
use Rattle.std.specs.List.{AllByRecursion}
use Rattle.std.specs.Io.KnownBytes.{Appends, Consumes, IsAtEnd}
use Rattle.ogg_page.specs.Output.{WritesPrefix}
use Rattle.ogg_page.specs.Page.{Page as PageValue, IsPage, page_bytes, page_size}
use Rattle.import_pages.specs.Reader.{IsFaultOf}
use Rattle.link_chain.specs.Links.{AreLinks, flattened}
use Rattle.link_chain.specs.ChainState.{chain_state_of}
use Rattle.link_chain.specs.Taking.{fault_of_page, unfinished_stream}
use Rattle.chain_rules.specs.Recording.{Recording, HoldsLinks, after}
use Rattle.ogg_command.specs.declared.command.Command.{Command}
use Rattle.import_gather.specs.Kept.{is_too_long, waits}
use Rattle.import_gather.specs.Gathered.{Gathered, HasGathered}
use Rattle.import_changes.specs.Changed.{IsChanged}
use Rattle.import_changes.specs.Skeletons.{BeginThose, IsBegunAs}
use Rattle.import_feed.specs.Source.{HasSourced, Sourced}
use Rattle.import_feed.specs.Feed.{Fits, HasTooLong, feed_of}
use Rattle.import_feed.specs.declared.made.Made.{Made}
use Rattle.import_feed.specs.declared.fault.MakingFault.{MakingFault}
use Rattle.import_feed.specs.declared.fault.MakingFault.TheVariants.{Page, Chain, PacketTooLong, Unfinished, TooLong, Read, Limit, Write, Memory}
use Rattle.import_changes.specs.declared.options.ChangeOptions.{ChangeOptions}

-- These links of the input were taken, which end at this offset. Then this rest was read, which is of none of their
-- pages.
pub record HasTaken (from left : Option (List ℕ)) (links : List (List PageValue)) (offset : ℕ) (rest : List ℕ) : Type 0 where
  pub bytes : List ℕ
  pub are : AreLinks bytes links
  pub consumed : Consumes from left (bytes ++ rest)
  pub offset_is : offset ≡ length bytes

-- The commands of the links became these, changed as asked, and the announcement and their records are written.
pub record HasGiven (options : ChangeOptions) (before now : Option (List ℕ)) (links : List (List PageValue)) (gathered : Sourced) (given : List Command) : Type 0 where
  pub gathers : HasSourced options links gathered given
  pub fits : AllByRecursion Fits given
  pub written : Appends before now (feed_of given)

-- nothing waits: all whole packets of the links are written
pub record HasGivenAll (options : ChangeOptions) (before now : Option (List ℕ)) (links : List (List PageValue)) : Type 0 where
  pub gathered : Sourced
  pub given : List Command
  pub all : HasGiven options before now links gathered given
  pub none_waits : waits gathered.link ≡ false

-- If a command was too long for a record, the writer failed or memory was refused, the feed was written in part.
pub record HasBroken (options : ChangeOptions) (before now : Option (List ℕ)) (links : List (List PageValue)) : Type 0 where
  pub gathered : Sourced
  pub given : List Command
  pub gathers : HasSourced options links gathered given
  pub written : WritesPrefix before now (feed_of given)

-- the input ended, and this was made of it: links with no packet unfinished, all of which is written
pub record MakesFeed (options : ChangeOptions) (from left before now : Option (List ℕ)) (made : Made) : Type 0 where
  pub links : List (List PageValue)
  pub offset : ℕ
  pub taken : HasTaken from left links offset []
  pub at_end : IsAtEnd left
  pub whole : unfinished_stream (chain_state_of links) ≡ None
  pub given : List Command
  pub fits : AllByRecursion Fits given
  pub written : Appends before now (feed_of given)
  -- the commands add up to what the links hold, changed as asked
  pub held : (recording : Recording) → HoldsLinks links recording → IsChanged options recording (after [] given)
  -- and none of the commands begins a Skeleton otherwise than asked
  pub begun : AllByRecursion (IsBegunAs options) given
  -- commands that hold exactly the recording became these: of each link those streams begin that stay
  pub commands : List Command
  pub gathered : (recording : Recording) → HoldsLinks links recording → after [] commands ≡ recording
  pub stay : BeginThose options commands given
  pub pages : made.pages ≡ length (flattened links)
  pub counted : made.commands ≡ min (length given) (2 ^ 64 - 1)

-- this page stands at the front of what follows
pub record BeginsWith (rest : List ℕ) (page : PageValue) : Type 0 where
  pub is_page : IsPage page
  pub more : List ℕ
  pub joined : rest ≡ page_bytes page ++ more

-- With this page a packet is longer than a packet may be.
pub record IsPacketTooLong (links : List (List PageValue)) (page : PageValue) : Type 0 where
  pub follows : fault_of_page (chain_state_of links) page ≡ None
  pub gathered : Gathered
  pub given : List Command
  pub gathers : HasGathered links gathered given
  pub long : is_too_long gathered.link page ≡ true

-- why no further page of the input is taken after these links
abbrev pub IsFaultOfInput : MakingFault → List (List PageValue) → ℕ → List ℕ → Option (List ℕ) → Type 0
IsFaultOfInput (Page at fault) links offset rest left = (at ≡ offset) × IsFaultOf rest left fault
IsFaultOfInput (Chain at fault) links offset rest left =
    (at ≡ offset) × (page : PageValue) × BeginsWith rest page × (fault_of_page (chain_state_of links) page ≡ Some fault)
IsFaultOfInput (PacketTooLong at) links offset rest left = (at ≡ offset) × (page : PageValue) × BeginsWith rest page × IsPacketTooLong links page
IsFaultOfInput (Unfinished at serial) links offset rest left =
    (at ≡ offset) × (rest ≡ []) × IsAtEnd left × (unfinished_stream (chain_state_of links) ≡ Some serial)
IsFaultOfInput (TooLong at) links offset rest left = (at ≡ offset) × (page : PageValue) × BeginsWith rest page × (2 ^ 63 ≤ offset + page_size page)
IsFaultOfInput (Read at) links offset rest left = at ≡ offset
IsFaultOfInput Limit links offset rest left = ⊥
IsFaultOfInput Write links offset rest left = ⊥
IsFaultOfInput Memory links offset rest left = ⊥

-- if the input has a fault, all that was taken before it is written
pub record StopsAtFault (options : ChangeOptions) (from left before now : Option (List ℕ)) (fault : MakingFault) : Type 0 where
  pub links : List (List PageValue)
  pub offset : ℕ
  pub rest : List ℕ
  pub taken : HasTaken from left links offset rest
  pub fault_is : IsFaultOfInput fault links offset rest left
  pub all : HasGivenAll options before now links

pub record Breaks (options : ChangeOptions) (from left before now : Option (List ℕ)) : Type 0 where
  pub links : List (List PageValue)
  pub offset : ℕ
  pub rest : List ℕ
  pub taken : HasTaken from left links offset rest
  pub broken : HasBroken options before now links

-- the feed was written in part, and one of its commands is too long for a record
abbrev pub BreaksAtLimit : ChangeOptions → Option (List ℕ) → Option (List ℕ) → Option (List ℕ) → Option (List ℕ) → Type 0
BreaksAtLimit options from left before now = (breaks : Breaks options from left before now) × HasTooLong breaks.broken.given

-- why a feed ended before its input did, and what was written
abbrev pub Stops : ChangeOptions → MakingFault → Option (List ℕ) → Option (List ℕ) → Option (List ℕ) → Option (List ℕ) → Type 0
Stops options Limit from left before now = BreaksAtLimit options from left before now
Stops options Write from left before now = Breaks options from left before now
Stops options Memory from left before now = Breaks options from left before now
Stops options fault from left before now = StopsAtFault options from left before now fault
