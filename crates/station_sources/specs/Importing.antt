-- What is done with a source that has the air, call by call. Ours.
use Rattle.std.specs.Prelude.{◌≡◌, ℕ, List, [], ◌∷◌, ◌++◌, drop}
use Rattle.feed_records.specs.declared.item.Record.{Record}
use Rattle.feed_replies.specs.declared.reply.Reply.{Reply}
use Rattle.import_record.specs.Pushing.{InputState, IsStepped, NeedsNone}
use Rattle.import_record.specs.declared.reading.Step.{Step}
use Rattle.import_record.specs.declared.reading.Step.TheVariants.{Flushed, PassedOver, Page, Ended}
use Rattle.station_sources.specs.Air.{GoesOn, HoldsMore, KeepsBytes}
use Rattle.station_sources.specs.Taking.{input_of}
use Rattle.station_sources.specs.declared.air.OnAir.{OnAir}

-- Further bytes have come; or it is noted that none come, or that there was no room for some. Or the next ones of the stream
-- were looked for among those that have come, or came to it. Or a step was taken of the stream.
pub data Move : Type 0 where
  Fed : (bytes : List ℕ) → Move
  Noted : Move
  WentOn : Move
  Took : (step : Step) → Move

-- all bytes that have come
abbrev pub fed_in : List Move → List ℕ
fed_in [] = []
fed_in (Fed bytes ∷ later) = bytes ++ fed_in later
fed_in (Noted ∷ later) = fed_in later
fed_in (WentOn ∷ later) = fed_in later
fed_in (Took step ∷ later) = fed_in later

-- what has come and isn't taken yet
abbrev pub rest_of : OnAir → List ℕ
rest_of air = drop air.at air.pending.items

-- Nothing has come, and nothing was taken.
pub record IsUntaken (old new : OnAir) : Type 0 where
  pub kept : rest_of new ≡ rest_of old
  pub import : new.import ≡ old.import
  pub body : new.body ≡ old.body

module _ {S : Type 0} (answers : S → Record → Reply → List ℕ → S → Type 0) where
  -- These were done in turn. No step needed more bytes than those that had come to the stream.
  abbrev pub Moves : List Move → OnAir → OnAir → S → S → Type 0
  Moves [] old new before after = (new ≡ old) × (after ≡ before)
  Moves (Fed bytes ∷ later) old new before after =
      (next : OnAir) × HoldsMore bytes old next × Moves later next new before after
  Moves (Noted ∷ later) old new before after = (next : OnAir) × IsUntaken old next × Moves later next new before after
  Moves (WentOn ∷ later) old new before after = (next : OnAir) × GoesOn old next × Moves later next new before after
  Moves (Took step ∷ later) old new before after =
      (next : OnAir) × (mid : S) × KeepsBytes step old next × NeedsNone step old.import.input.pages
      × IsStepped answers [] step next.import.input.pages.lent (input_of old.import) (input_of next.import) before mid × Moves later next new mid after

  -- No more bytes come: steps were taken up to the one that found the end.
  abbrev pub Finishes : List Step → OnAir → InputState → S → S → Type 0
  Finishes [] old new before after = ⊥
  Finishes (Ended junk ∷ later) old new before after =
      IsStepped answers [] (Ended junk) new.pages.lent (input_of old.import) new before after × (later ≡ [])
  Finishes (Flushed reply ∷ later) old new before after =
      (next : OnAir) × (mid : S) × IsStepped answers [] (Flushed reply) next.import.input.pages.lent (input_of old.import) (input_of next.import) before mid
      × Finishes later next new mid after
  Finishes (PassedOver ∷ later) old new before after =
      (next : OnAir) × (mid : S) × IsStepped answers [] PassedOver next.import.input.pages.lent (input_of old.import) (input_of next.import) before mid
      × Finishes later next new mid after
  Finishes (Page offset junk taken ∷ later) old new before after =
      (next : OnAir) × (mid : S)
      × IsStepped answers [] (Page offset junk taken) next.import.input.pages.lent (input_of old.import) (input_of next.import) before mid
      × Finishes later next new mid after
