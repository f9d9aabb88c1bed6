-- An input whose bytes come piece by piece, as from a socket, and what is taken of it. Ours.
use Rattle.std.specs.Prelude.{◌≡◌, ◌≢◌, ℕ, Option, Some, None, Err, List, [], ◌∷◌, ◌++◌, ⊤}
use Rattle.ogg_page.specs.Reading.{page_at}
use Rattle.ogg_page.specs.Window.{LentAt}
use Rattle.ogg_page.specs.declared.fault.PageFault.TheVariants.{Short}
use Rattle.feed_records.specs.declared.item.Record.{Record}
use Rattle.feed_replies.specs.declared.reply.Reply.{Reply}
use Rattle.import_pages.specs.Reader.{ReaderState, ReadsOnce}
use Rattle.import_record.specs.Reading.{Steps}
use Rattle.import_record.specs.Steps.{IntakeState}
use Rattle.import_record.specs.Whole.{Event}
use Rattle.import_record.specs.Whole.Event.{Flushing, Taking}
use Rattle.import_record.specs.declared.reading.Step.{Step}
use Rattle.import_record.specs.declared.reading.Step.TheVariants.{Flushed, PassedOver, Page, Ended}

-- what is done with the input: these bytes come, or a step is taken, after which this page is lent
pub data Call : Type 0 where
  Came : (bytes : List ℕ) → Call
  Stepped : (step : Step) (lent : Option LentAt) → Call

-- all bytes that come
abbrev pub bytes_in : List Call → List ℕ
bytes_in [] = []
bytes_in (Came bytes ∷ later) = bytes ++ bytes_in later
bytes_in (Stepped step lent ∷ later) = bytes_in later

-- the event that a step is for the recording: a page that is taken, or a flush
abbrev pub event_of : Step → Option LentAt → List Event
event_of (Flushed reply) lent = Flushing ∷ []
event_of PassedOver lent = []
event_of (Page offset junk taken) None = []
event_of (Page offset junk taken) (Some lent) = Taking lent ∷ []
event_of (Ended junk) lent = []

abbrev pub events_in : List Call → List Event
events_in [] = []
events_in (Came bytes ∷ later) = events_in later
events_in (Stepped step lent ∷ later) = event_of step lent ++ events_in later

-- what the next calls depend on
pub record InputState : Type 0 where
  pub pages : ReaderState
  pub intake : IntakeState

-- these bytes come: one read gives them
pub record Comes (bytes : List ℕ) (old new : InputState) : Type 0 where
  pub from : Option (List ℕ)
  pub left : Option (List ℕ)
  pub count : ℕ
  pub reads : ReadsOnce old.pages from count new.pages left
  pub bytes_are : reads.taken ≡ bytes
  pub same : new.intake ≡ old.intake

-- A step needs no more bytes than those that came.
abbrev pub NeedsNone : Step → ReaderState → Type 0
NeedsNone (Flushed reply) pages = ⊤
NeedsNone PassedOver pages = page_at pages.unread ≢ Err Short
NeedsNone (Page offset junk taken) pages = page_at pages.unread ≢ Err Short
NeedsNone (Ended junk) pages = page_at pages.unread ≢ Err Short

module _ {S : Type 0} (answers : S → Record → Reply → List ℕ → S → Type 0) where
  -- a step is taken whose reader has these bytes, and keeps them
  pub record IsStepped (bytes : List ℕ) (step : Step) (lent : Option LentAt) (old new : InputState) (before after : S) : Type 0 where
    pub output : Option (List ℕ)
    pub new_output : Option (List ℕ)
    pub steps : Steps answers step old.pages old.intake (Some bytes) output before new.pages new.intake (Some bytes) new_output after
    pub lent_is : new.pages.lent ≡ lent

  -- In turn bytes come, or a step is taken that needs no more of them.
  abbrev pub Feeds : List Call → InputState → InputState → S → S → Type 0
  Feeds [] old new before after = (new ≡ old) × (after ≡ before)
  Feeds (Came bytes ∷ later) old new before after = (next : InputState) × Comes bytes old next × Feeds later next new before after
  Feeds (Stepped step lent ∷ later) old new before after =
      (next : InputState) × (mid : S) × (bytes : List ℕ) × NeedsNone step old.pages × IsStepped bytes step lent old next before mid
      × Feeds later next new mid after

  -- No more bytes come: steps are taken up to the one that finds the end.
  abbrev pub Drains : List Call → InputState → InputState → S → S → Type 0
  Drains [] old new before after = ⊥
  Drains (Came bytes ∷ later) old new before after = ⊥
  Drains (Stepped (Ended junk) lent ∷ later) old new before after = IsStepped [] (Ended junk) lent old new before after × (later ≡ [])
  Drains (Stepped (Flushed reply) lent ∷ later) old new before after =
      (next : InputState) × (mid : S) × IsStepped [] (Flushed reply) lent old next before mid × Drains later next new mid after
  Drains (Stepped PassedOver lent ∷ later) old new before after =
      (next : InputState) × (mid : S) × IsStepped [] PassedOver lent old next before mid × Drains later next new mid after
  Drains (Stepped (Page offset junk taken) lent ∷ later) old new before after =
      (next : InputState) × (mid : S) × IsStepped [] (Page offset junk taken) lent old next before mid × Drains later next new mid after

  -- An input of these bytes came in some pieces, and was taken to its end; these are the events of its recording.
  pub record Imports (bytes : List ℕ) (events : List Event) (old new : InputState) (before after : S) : Type 0 where
    pub calls : List Call
    pub last : List Call
    pub mid : InputState
    pub between : S
    pub feeds : Feeds calls old mid before between
    pub drains : Drains last mid new between after
    pub bytes_are : bytes ≡ bytes_in calls
    pub events_are : events ≡ events_in calls ++ events_in last
