-- The commands that a page completes, and what stays.
use Rattle.std.specs.Prelude.{◌≡◌, ℕ, Bool, true, false, not, ◌||◌, ◌&&◌, if◌then◌else◌, None, pos, List, [], ◌∷◌, ◌++◌, map, ⊤}
use Rattle.ogg_page.specs.Page.{Page}
use Rattle.ogg_page.specs.LogicalStream.{is_first}
use Rattle.ogg_command.specs.declared.command.Command.{Command}
use Rattle.ogg_command.specs.declared.command.Command.TheVariants.{Begin as BeginOf, Put as PutOf, End as EndOf}
use Rattle.ogg_command.specs.declared.command.NewStream.{NewStream}
use Rattle.import_commands.specs.Commands.{entry_of, put_of, end_of}
use Rattle.import_gather.specs.Kept.{KeptStream, KeptLink, TakenBy, has_some, has_kept, is_ready, no_link, waits, entered, ends_by}

-- a new stream with the headers that are kept; nothing else is said of it
abbrev pub new_stream : KeptStream → NewStream
new_stream stream =
    record {
      serial = stream.serial;
      headers = stream.headers;
      media = [];
      fields = [];
      rate = (pos 0, pos 0);
      base_granule = pos 0;
      preroll = 0;
      shift = 0;
    }

-- the `Begin` of a link, and the ends that waited for it
abbrev pub link_begin : KeptLink → List Command
link_begin link = BeginOf (record { skeleton = None; streams = map new_stream link.streams }) ∷ map (λ serial. EndOf serial) link.ends

-- what stays of a stream, and of its link, after the `Begin`
abbrev pub bare : KeptStream → KeptStream
bare stream = record stream { headers = [] }

abbrev pub begun_link : KeptLink → KeptLink
begun_link link = record { streams = map bare link.streams; begun = true; ends = [] }

abbrev pub begun_if : Bool → KeptLink → KeptLink
begun_if begins link = if begins then begun_link link else link

abbrev pub begin_if : Bool → KeptLink → List Command
begin_if begins link = if begins then link_begin link else []

-- ---- the end of a page's stream: it waits if the link waits
abbrev pub marked : Page → KeptLink → KeptLink
marked page link = if link.begun then link else record link { ends = link.ends ++ ends_by page }

abbrev pub page_end : Page → KeptLink → List Command
page_end page link = if link.begun then end_of page else []

-- ---- a page that isn't its stream's first
-- the link begins if there is a packet that isn't kept, or if it is ready
abbrev pub begins_now : KeptLink → List (List ℕ) → Bool
begins_now link later = not link.begun && (has_some later || is_ready link.streams)

-- these packets aren't kept, and with these commands the link becomes this one
pub record PassesOn (page : Page) (link new : KeptLink) (later : List (List ℕ)) (given : List Command) : Type 0 where
  pub stays : new ≡ marked page (begun_if (begins_now link later) link)
  pub commands : given
      ≡ begin_if (begins_now link later) link
      ++ (put_of (map (entry_of page) later) ++ page_end page (begun_if (begins_now link later) link))

pub record Follows (page : Page) (old new : KeptLink) (given : List Command) : Type 0 where
  pub streams : List KeptStream
  pub later : List (List ℕ)
  pub taken : TakenBy old.begun page old.streams streams later
  pub passed : PassesOn page (record old { streams = streams }) new later given

-- ---- a stream's first page
abbrev pub with_first : Page → KeptLink → KeptLink
with_first page link = record link { streams = link.streams ++ entered page ∷ []; ends = link.ends ++ ends_by page }

-- any page, whether the link is open or not
pub record TakesOn (page : Page) (is_open : Bool) (old new : KeptLink) (given : List Command) : Type 0 where
  pub opens : is_first page ≡ true → is_open ≡ false → (new ≡ with_first page no_link) × (given ≡ begin_if (waits old) old)
  pub joins : is_first page ≡ true → is_open ≡ true → (new ≡ with_first page old) × (given ≡ [])
  pub follows : is_first page ≡ false → has_kept page.serial old.streams ≡ true → Follows page old new given

-- ---- the links are begun without a Skeleton
abbrev pub IsPlain : Command → Type 0
IsPlain (BeginOf begin) = begin.skeleton ≡ None
IsPlain (PutOf put) = ⊤
IsPlain (EndOf serial) = ⊤
