-- One page after the other: what each turn leaves. Ours.
use Rattle.std.specs.Prelude.{◌≡◌, ℕ, ◌+◌, ◌-◌, ◌^◌, ◌≤◌, ◌<◌, min, Bool, true, false, Option, Some, None, Result, Ok, Err, List, [], ◌++◌, length}
use Rattle.std.specs.List.{AllByRecursion}
use Rattle.std.specs.Io.KnownBytes.{Appends, Consumes, IsAtEnd}
use Rattle.ogg_page.specs.Page.{Page as PageValue, IsPage, page_bytes, page_size}
use Rattle.import_pages.specs.Reader.{IsFaultOf, started}
use Rattle.import_pages.specs.declared.fault.PageReaderFault.{PageReaderFault}
use Rattle.import_pages.specs.declared.fault.PageReaderFault.TheVariants.{Page as PageOf, Read as ReadOf}
use Rattle.link_chain.specs.Links.{flattened}
use Rattle.link_chain.specs.Taking.{fault_of_page}
use Rattle.ogg_command.specs.declared.command.Command.{Command}
use Rattle.import_gather.specs.Kept.{is_too_long, waits}
use Rattle.import_gather.specs.Gathered.{Gathered}
use Rattle.import_feed.specs.Source.{Gathers, GoesFurther, HasSourced, Sourced}
use Rattle.import_feed.specs.Feed.{Fits, GivesNot, records_of}
use Rattle.import_feed.specs.Making.{BeginsWith, Breaks, BreaksAtLimit, HasGiven, HasTaken, IsFaultOfInput, MakesFeed, Stops}
use Rattle.import_feed.specs.declared.made.Made.{Made}
use Rattle.import_feed.specs.declared.maker.Maker.{Maker}
use Rattle.import_feed.specs.declared.fault.MakingFault.{MakingFault}
use Rattle.import_feed.specs.declared.fault.MakingFault.TheVariants.{Page, Chain, PacketTooLong, Unfinished, TooLong, Read, Limit, Write, Memory}
use Rattle.import_changes.specs.declared.options.ChangeOptions.{ChangeOptions}

abbrev pub fault_at : ℕ → PageReaderFault → MakingFault
fault_at at (PageOf fault) = Page at fault
fault_at at ReadOf = Read at

-- ---- one page
-- the page may follow, and no packet is too long with it
abbrev pub HasNoFault : Gathered → PageValue → Type 0
HasNoFault old page = (fault_of_page old.chain page ≡ None) × (is_too_long old.link page ≡ false)

-- why a page at this offset isn't gathered; but for want of memory, what was gathered stays
abbrev pub RefusesPage : Gathered → PageValue → ℕ → Type 0 → MakingFault → Type 0
RefusesPage old page offset stays (Chain at fault) = (at ≡ offset) × (fault_of_page old.chain page ≡ Some fault) × stays
RefusesPage old page offset stays (PacketTooLong at) =
    (at ≡ offset) × (fault_of_page old.chain page ≡ None) × (is_too_long old.link page ≡ true) × stays
RefusesPage old page offset stays (TooLong at) = (at ≡ offset) × (2 ^ 63 ≤ offset + page_size page) × stays
RefusesPage old page offset stays Memory = HasNoFault old page
RefusesPage old page offset stays fault = ⊥

-- ---- what is kept between the pages
pub record IsStarted (options : ChangeOptions) (maker : Maker) : Type 0 where
  pub pages : maker.pages ≡ started
  pub gathers : HasSourced options [] maker.gatherer []
  pub goes : GoesFurther maker.gatherer
  pub no_pages : maker.made.pages ≡ 0
  pub no_commands : maker.made.commands ≡ 0

pub record GoesOn (maker : Maker) : Type 0 where
  pub unended : maker.pages.outcome ≡ None
  pub place : maker.gatherer.chain.length_of ≡ maker.pages.offset
  pub small : maker.pages.offset < 2 ^ 63
  pub counted : maker.made.pages ≤ maker.pages.offset

-- these links were taken, and the commands gathered of them were written
pub record HasMade (options : ChangeOptions) (from left before now : Option (List ℕ)) (maker : Maker) (links : List (List PageValue)) (given : List Command) : Type 0 where
  pub taken : HasTaken from left links maker.pages.offset maker.pages.unread
  pub all : HasGiven options before now links maker.gatherer given
  pub goes : GoesFurther maker.gatherer
  pub pages : maker.made.pages ≡ length (flattened links)
  pub counted : maker.made.commands ≡ min (length given) (2 ^ 64 - 1)

-- ---- the next page
pub record TakesPage (old new : Maker) (from left : Option (List ℕ)) : Type 0 where
  pub page : PageValue
  pub is_page : IsPage page
  pub taken : List ℕ
  pub consumed : Consumes from left taken
  pub joined : old.pages.unread ++ taken ≡ page_bytes page ++ new.pages.unread
  pub offset : new.pages.offset ≡ old.pages.offset + page_size page
  pub small : new.pages.offset < 2 ^ 63
  pub unended : new.pages.outcome ≡ None
  pub gathers : Gathers old.gatherer page new.gatherer [] new.commands.items
  pub made : new.made ≡ old.made

pub record MeetsEnd (old new : Maker) (from left : Option (List ℕ)) : Type 0 where
  pub taken : List ℕ
  pub consumed : Consumes from left taken
  pub none : old.pages.unread ++ taken ≡ []
  pub unread : new.pages.unread ≡ []
  pub at_end : IsAtEnd left
  pub offset : new.pages.offset ≡ old.pages.offset
  pub gatherer : new.gatherer ≡ old.gatherer
  pub made : new.made ≡ old.made

-- why no page is taken after those that were gathered
abbrev pub IsFaultBehind : MakingFault → Sourced → ℕ → List ℕ → Option (List ℕ) → Type 0
IsFaultBehind (Page at fault) gathered offset rest left = (at ≡ offset) × IsFaultOf rest left fault
IsFaultBehind (Read at) gathered offset rest left = at ≡ offset
IsFaultBehind (Chain at fault) gathered offset rest left =
    (at ≡ offset) × (page : PageValue) × BeginsWith rest page × (fault_of_page gathered.chain page ≡ Some fault)
IsFaultBehind (PacketTooLong at) gathered offset rest left =
    (at ≡ offset) × (page : PageValue) × BeginsWith rest page × (fault_of_page gathered.chain page ≡ None) × (is_too_long gathered.link page ≡ true)
IsFaultBehind (TooLong at) gathered offset rest left = (at ≡ offset) × (page : PageValue) × BeginsWith rest page × (2 ^ 63 ≤ offset + page_size page)
IsFaultBehind fault gathered offset rest left = ⊥

pub record MeetsFault (fault : MakingFault) (old new : Maker) (from left : Option (List ℕ)) : Type 0 where
  pub taken : List ℕ
  pub consumed : Consumes from left taken
  pub fault_is : IsFaultBehind fault old.gatherer old.pages.offset (old.pages.unread ++ taken) left
  pub gatherer : new.gatherer ≡ old.gatherer
  pub made : new.made ≡ old.made

pub record MeetsMemory (from left : Option (List ℕ)) : Type 0 where
  pub taken : List ℕ
  pub consumed : Consumes from left taken

abbrev pub NextOf : Result Bool MakingFault → Maker → Maker → Option (List ℕ) → Option (List ℕ) → Type 0
NextOf (Ok true) old new from left = TakesPage old new from left
NextOf (Ok false) old new from left = MeetsEnd old new from left
NextOf (Err Memory) old new from left = MeetsMemory from left
NextOf (Err fault) old new from left = MeetsFault fault old new from left

-- ---- commands written
pub record Gives (old new : Maker) (before now : Option (List ℕ)) : Type 0 where
  pub fits : AllByRecursion Fits old.commands.items
  pub written : Appends before now (records_of old.commands.items)
  pub pages : new.pages ≡ old.pages
  pub gatherer : new.gatherer ≡ old.gatherer
  pub page_count : new.made.pages ≡ old.made.pages
  pub counted : new.made.commands ≡ min (old.made.commands + length old.commands.items) (2 ^ 64 - 1)

pub record GivesNoFurther (old new : Maker) (before now : Option (List ℕ)) (fault : MakingFault) : Type 0 where
  pub not : GivesNot before now (records_of old.commands.items) old.commands.items fault
  pub gatherer : new.gatherer ≡ old.gatherer

-- ---- a turn, and all turns
-- the input has a fault after these links, whose commands are written, but for those that wait
pub record EndsAt (options : ChangeOptions) (fault : MakingFault) (from left before now : Option (List ℕ)) (maker : Maker) : Type 0 where
  pub links : List (List PageValue)
  pub given : List Command
  pub offset : ℕ
  pub rest : List ℕ
  pub taken : HasTaken from left links offset rest
  pub fault_is : IsFaultOfInput fault links offset rest left
  pub all : HasGiven options before now links maker.gatherer given

-- the input has ended after these links
pub record EndsWell (options : ChangeOptions) (from left before now : Option (List ℕ)) (maker : Maker) : Type 0 where
  pub links : List (List PageValue)
  pub given : List Command
  pub made : HasMade options from left before now maker links given
  pub at_end : IsAtEnd left
  pub unread : maker.pages.unread ≡ []

pub record StillMakes (options : ChangeOptions) (from left before now : Option (List ℕ)) (maker : Maker) : Type 0 where
  pub links : List (List PageValue)
  pub given : List Command
  pub made : HasMade options from left before now maker links given

abbrev pub Turns : ChangeOptions → Result Bool MakingFault → Option (List ℕ) → Option (List ℕ) → Option (List ℕ) → Option (List ℕ) → Maker → Type 0
Turns options (Ok true) from left before now maker = StillMakes options from left before now maker
Turns options (Ok false) from left before now maker = EndsWell options from left before now maker
Turns options (Err Limit) from left before now maker = BreaksAtLimit options from left before now
Turns options (Err Write) from left before now maker = Breaks options from left before now
Turns options (Err Memory) from left before now maker = Breaks options from left before now
Turns options (Err fault) from left before now maker = EndsAt options fault from left before now maker

abbrev pub TakesAll : ChangeOptions → Result (Unit {0}) MakingFault → Option (List ℕ) → Option (List ℕ) → Option (List ℕ) → Option (List ℕ) → Maker → Type 0
TakesAll options (Ok done) from left before now maker = Turns options (Ok false) from left before now maker
TakesAll options (Err fault) from left before now maker = Turns options (Err fault) from left before now maker

-- ---- the end
-- the commands that waited, and their records
pub record GivesRest (old new : Maker) (before now : Option (List ℕ)) : Type 0 where
  pub more : List Command
  pub gathers : (options : ChangeOptions) (links : List (List PageValue)) (given : List Command) → HasSourced options links old.gatherer given
      → HasSourced options links new.gatherer (given ++ more)
  pub none_waits : waits new.gatherer.link ≡ false
  pub fits : AllByRecursion Fits more
  pub written : Appends before now (records_of more)
  pub pages : new.pages ≡ old.pages
  pub page_count : new.made.pages ≡ old.made.pages
  pub counted : new.made.commands ≡ min (old.made.commands + length more) (2 ^ 64 - 1)

pub record GivesRestNot (fault : MakingFault) (old : Maker) (before now : Option (List ℕ)) : Type 0 where
  pub more : List Command
  pub new : Sourced
  pub gathers : (options : ChangeOptions) (links : List (List PageValue)) (given : List Command) → HasSourced options links old.gatherer given
      → HasSourced options links new (given ++ more)
  pub not : GivesNot before now (records_of more) more fault

abbrev pub Closes : Result (Unit {0}) MakingFault → Maker → Maker → Option (List ℕ) → Option (List ℕ) → Type 0
Closes (Ok done) old new before now = GivesRest old new before now
Closes (Err fault) old new before now = GivesRestNot fault old before now

-- it is the input that has the fault
abbrev pub of_input : MakingFault → Bool
of_input (Page at fault) = true
of_input (Chain at fault) = true
of_input (PacketTooLong at) = true
of_input (Unfinished at serial) = true
of_input (TooLong at) = true
of_input (Read at) = true
of_input Limit = false
of_input Write = false
of_input Memory = false

abbrev pub Finishes : ChangeOptions → Result Made MakingFault → Option (List ℕ) → Option (List ℕ) → Option (List ℕ) → Option (List ℕ) → Type 0
Finishes options (Ok made) from left before now = MakesFeed options from left before now made
Finishes options (Err fault) from left before now = Stops options fault from left before now
