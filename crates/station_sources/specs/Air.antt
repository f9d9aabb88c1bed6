-- The source that is on the air. Ours.
use Rattle.std.specs.Prelude.{◌≡◌, ◌⊎◌, ℕ, ◌+◌, ◌-◌, ◌<◌, vec_len, vec_capacity, List, [], ◌++◌, drop, slice_range, Bool, true, false, ◌&&◌, ◌||◌, not, if◌then◌else◌, Option, Some, None, Err, is_some}
use Rattle.ogg_page.specs.Reading.{page_at}
use Rattle.ogg_page.specs.declared.fault.PageFault.TheVariants.{Short}
use Rattle.import_record.specs.declared.intake.Taken.{Taken}
use Rattle.import_record.specs.declared.reading.Step.{Step}
use Rattle.serve_sources.specs.declared.body.Body.{Body}
use Rattle.serve_sources.specs.declared.outcome.Outcome.{Outcome}
use Rattle.serve_sources.specs.declared.outcome.Outcome.TheVariants.{Whole, Broken, Lost, Foreign}
use Rattle.station_sources.specs.Faring.{HasDecoded, Look, look}
use Rattle.station_sources.specs.Taking.{IsOver, PassesOn, is_foreign, is_page, loses}
use Rattle.station_sources.specs.declared.air.Feeder.{Feeder}
use Rattle.station_sources.specs.declared.air.OnAir.{OnAir}

-- nothing that has come says what comes next, and more may come
pub record IsStarved (air : OnAir) : Type 0 where
  pub goes_on : air.ended ≡ false
  pub starved : air.starved ≡ true
  pub none : air.decoded ≡ 0
  pub waits : page_at air.import.input.pages.unread ≡ Err Short

-- That is so, and there was room for all that came: only further bytes, or the end, can make it go on.
pub record IsWaiting (air : OnAir) : Type 0 where
  pub starved : IsStarved air
  pub has_room : air.short ≡ false

-- who sends the stream that is recorded, if a source is on the air
abbrev pub feeder_in : Option OnAir → Option Feeder
feeder_in None = None
feeder_in (Some air) = Some air.feeder

-- bytes of this feeder are taken now
abbrev pub IsFedBy : Feeder → Option OnAir → Type 0
IsFedBy feeder None = ⊥
IsFedBy feeder (Some air) = (air.feeder ≡ feeder) × IsStarved air

-- ---- what became of a source by its end
-- A body whose end is marked is whole once the end was found. One that ends with the connection, and an input without a
-- framing, can't break off.
abbrev pub outcome_in : Bool → Option Body → Outcome
outcome_in complete None = Whole
outcome_in complete (Some body) = if (body.framed && not complete) then Broken else Whole

abbrev pub outcome_of : Bool → Bool → Option Body → Outcome
outcome_of true complete body = Lost
outcome_of false complete body = outcome_in complete body

-- the source waits for an answer at its end
abbrev pub wants_answer : Option Body → Bool
wants_answer None = false
wants_answer (Some body) = body.framed && not body.answered

-- What a source is answered that isn't Ogg, before its end: unless it has its last answer already.
abbrev pub foreign_answer : Option Body → Option Outcome
foreign_answer None = None
foreign_answer (Some body) = if body.answered then None else Some Foreign

-- what it is answered otherwise, if it waits for that: something of it may be lost, as was noted before or is known now
abbrev pub parting_in : Bool → Bool → Bool → Option Body → Option Outcome
parting_in true lost complete body = foreign_answer body
parting_in false lost complete body = if wants_answer body then Some (outcome_of lost complete body) else None

abbrev pub parting_answer : Bool → OnAir → Option Outcome
parting_answer lost air = parting_in air.foreign (lost || air.lost) air.complete air.body

-- packets that were refused are lost
abbrev pub noted : Taken → OnAir → OnAir
noted taken air = record air { lost = is_some taken.answered.refused || air.lost }

-- What was found of a source, and what was noted, is as it was: who sends it, how many bytes are known to be of the
-- stream, whether the end of its body was found, and whether something of it is lost.
pub record KeepsNotes (old new : OnAir) : Type 0 where
  pub feeder : new.feeder ≡ old.feeder
  pub decoded : new.decoded ≡ old.decoded
  pub complete : new.complete ≡ old.complete
  pub lost : new.lost ≡ old.lost
  pub searched : (new.has_page ≡ old.has_page) × (new.foreign ≡ old.foreign)

-- What has come of the source and isn't taken yet is followed by these bytes, and is looked at again. Nothing else is
-- another: neither its stream nor its body, nor what was noted of it; and more may come exactly if it might before.
pub record HoldsMore (bytes : List ℕ) (old new : OnAir) : Type 0 where
  pub kept : drop new.at new.pending.items ≡ drop old.at old.pending.items ++ bytes
  pub looked_at : new.starved ≡ false
  pub short : new.short ≡ old.short
  pub ended : new.ended ≡ old.ended
  pub import : new.import ≡ old.import
  pub body : new.body ≡ old.body
  pub rest : KeepsNotes old new

-- There was no room for this many bytes, which is noted, and no further byte comes. What came before them is kept, and
-- is looked at again. Nothing else is another.
pub record IsShort (count : ℕ) (old new : OnAir) : Type 0 where
  pub full : vec_capacity old.pending < vec_len old.pending - old.at + count
  pub kept : drop new.at new.pending.items ≡ drop old.at old.pending.items
  pub looked_at : new.starved ≡ false
  pub noted : new.short ≡ true
  pub ended : new.ended ≡ true
  pub import : new.import ≡ old.import
  pub body : new.body ≡ old.body
  pub rest : KeepsNotes old new

-- ---- a stream that isn't Ogg
-- No page was found in the first bytes of its stream, which were as many as these or more: it isn't Ogg. This one sends it.
pub record HasNoPage (sender : Feeder) (passed : ℕ) (air : OnAir) : Type 0 where
  pub feeder : air.feeder ≡ sender
  pub foreign : is_foreign air.has_page air.import.input.pages.offset ≡ true
  pub passed_is : air.import.input.pages.offset ≡ passed

-- ---- what goes on to the pages
abbrev pub look_of : OnAir → Look
look_of air = look air.body air.at air.decoded air.starved air.ended air.complete

-- all that came of it is taken, and no more comes
abbrev pub HasAllTaken : OnAir → Type 0
HasAllTaken air = IsOver air.ended air.starved air.decoded

-- The next bytes of the stream were looked for among those that came, which weren't looked at before. Or the next ones
-- that were found came to it.
abbrev pub GoesOn : OnAir → OnAir → Type 0
GoesOn old new =
    ((old.decoded ≡ 0) × (old.starved ≡ false) × (new.import ≡ old.import) × HasDecoded (drop old.at old.pending.items) (look_of old) (look_of new)
    × ((new.pending ≡ old.pending) ⊎ ((new.pending.items ≡ []) × (new.starved ≡ true) × (new.ended ≡ true))))
    ⊎ ((count : ℕ) × PassesOn (slice_range old.pending.items old.at (old.at + old.decoded)) count old.import new.import
    × (look_of new ≡ look old.body (old.at + count) (old.decoded - count) old.starved old.ended old.complete)
    × (new.pending ≡ old.pending))

-- A step of its stream takes nothing of what came and isn't taken yet.
pub record KeepsBytes (step : Step) (old new : OnAir) : Type 0 where
  pub seen : look_of new ≡ look_of old
  pub pending : new.pending ≡ old.pending
  pub feeder : new.feeder ≡ old.feeder
  pub short : new.short ≡ old.short
  pub lost : new.lost ≡ (loses step || old.lost)
  pub has_page : new.has_page ≡ (is_page step || old.has_page)
