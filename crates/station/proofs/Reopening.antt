-- A step that opened the file again, or couldn't: the source has left the air only if it was given up.
use Rattle.std.proofs.Common.{◌≡◌, Option, None, Some, true, false, refl, sym, subst}
use Rattle.file_recorder.specs.Recorder.{RecorderState}
use Rattle.import_record.specs.declared.answering.Answered.{Answered}
use Rattle.import_record.specs.declared.fault.RecordFault.{RecordFault}
use Rattle.ogg_command.specs.declared.refusal.Refusal.{Refusal}
use Rattle.serve_clients.specs.Client.{ClientState}
use Rattle.slab.specs.Slab.{Slab}
use Rattle.station_sources.specs.Air.{parting_answer}
use Rattle.station_sources.specs.declared.air.OnAir.{OnAir}
use Rattle.station.specs.Parting.{FeederParts}
use Rattle.station.specs.Stepping.{FreesBy, PartsBy, reopens}
use Rattle.station.specs.declared.stepping.Done.{Done}
use Rattle.station.specs.declared.stepping.Done.TheVariants.{Ended, Foreign, GivenUp, Reopened}

false_true : false ≡ true → ⊥
false_true e = cc

-- the source has left the air only if it was given up
pub parts_if_given_up : (done : Done) (air : OnAir) (old new : Slab ClientState) → reopens done ≡ true
    → ((fault : RecordFault) (refused : Option Refusal) → done ≡ GivenUp fault refused → FeederParts (parting_answer true air) air old new)
    → PartsBy done air old new
parts_if_given_up (Ended offset junk taken refused) air old new e parts = absurd (false_true e)
parts_if_given_up (Foreign feeder passed refused) air old new e parts = absurd (false_true e)
parts_if_given_up (GivenUp fault refused) air old new e parts = parts fault refused refl
parts_if_given_up done air old new e parts = tt

-- a file that wasn't opened again owes nothing
pub frees_none : {D : Type 0} (done : Done) (air : Option OnAir) (file : Option (RecorderState D)) → ((answered : Answered) → done ≡ Reopened answered → ⊥)
    → FreesBy done air file
frees_none (Reopened answered) None file isnt = absurd (isnt answered refl)
frees_none (Reopened answered) (Some one) file isnt = tt
frees_none done air file isnt = tt

pub parts_given : (done : Done) (fault : RecordFault) (refused : Option Refusal) (air : OnAir) (old new : Slab ClientState) → done ≡ GivenUp fault refused
    → FeederParts (parting_answer true air) air old new → PartsBy done air old new
parts_given done fault refused air old new is parts = subst (λ (one : Done). PartsBy one air old new) (sym is) parts
