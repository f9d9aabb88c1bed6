-- A source that leaves the air, and of which something is lost.
use Rattle.std.proofs.Common.{◌≡◌, ◌⊎◌, ◌||◌, ℕ, Bool, true, Option, Some, None, Result, Ok, if◌then◌else◌, sym, ◌∙◌, ap, subst, inl, inr}
use Rattle.std.proofs.lemmas.Bool.{cases_Bool}
use Rattle.gate_file.specs.declared.fault.OpenFault.{OpenFault}
use Rattle.import_record.specs.declared.answering.Answered.{Answered}
use Rattle.import_record.specs.declared.fault.RecordFault.{RecordFault}
use Rattle.ogg_command.specs.declared.refusal.Refusal.{Refusal}
use Rattle.serve_clients.specs.Client.{ClientState}
use Rattle.serve_sources.specs.declared.body.Body.{Body}
use Rattle.serve_sources.specs.declared.outcome.Outcome.TheVariants.{Lost}
use Rattle.station_sources.specs.Taking.{is_foreign}
use Rattle.station_sources.specs.declared.air.Feeder.{Feeder}
use Rattle.station_sources.specs.Air.{HasNoPage, foreign_answer, parting_answer, parting_in, wants_answer}
use Rattle.station.specs.Parting.{HasParted}
use Rattle.station_sources.specs.declared.air.OnAir.{OnAir}
use Rattle.station.specs.declared.stepping.Done.{Done}
use Rattle.station.specs.declared.stepping.Done.TheVariants.{Failed, GivenUp, Lost as LostFile, Reopened}

pub same_air : (one other : OnAir) → Some one ≡ Some other → one ≡ other
same_air one other e = cc

-- what it is answered depends on its body, and on whether it is Ogg
pub lost_answer : (one other : OnAir) (client after : ClientState) → one.body ≡ other.body → one.foreign ≡ other.foreign
    → HasParted (parting_answer true one) client after → HasParted (parting_answer true other) client after
lost_answer one other client after same kind parted = elim (cases_Bool other.foreign) [
  | inl is ↦
      subst (λ (b : Bool). HasParted (parting_in b true other.complete other.body) client after) (sym is)
      (subst (λ (body : Option Body). HasParted (foreign_answer body) client after) same
      (subst (λ (b : Bool). HasParted (parting_in b true one.complete one.body) client after) (kind ∙ is) parted))
  | inr isnt ↦
      subst (λ (b : Bool). HasParted (parting_in b true other.complete other.body) client after) (sym isnt)
      (subst (λ (body : Option Body). HasParted (if wants_answer body then Some Lost else None) client after) same
      (subst (λ (b : Bool). HasParted (parting_in b true one.complete one.body) client after) (kind ∙ isnt) parted))
]

-- it goes on, and something is lost
pub resumed : (before lost after air : OnAir) → before ≡ air → lost ≡ record before { lost = true } → after ≡ record lost { import = after.import }
    → after ≡ record air { import = after.import; lost = true }
resumed before lost after air same is resumes =
    resumes ∙ ap (λ (one : OnAir). record one { import = after.import }) (is ∙ ap (λ (one : OnAir). record one { lost = true }) same)

-- a source that is resumed doesn't wait, and the file was opened
reopened_failed : (answered : Answered) → Reopened answered ≡ Failed → ⊥
reopened_failed answered e = cc

given_up_failed : (fault : RecordFault) (refused : Option Refusal) → GivenUp fault refused ≡ Failed → ⊥
given_up_failed fault refused e = cc

reopened_lost : (answered : Answered) (why : OpenFault) → Reopened answered ≡ LostFile why → ⊥
reopened_lost answered why e = cc

given_up_lost : (fault : RecordFault) (refused : Option Refusal) (why : OpenFault) → GivenUp fault refused ≡ LostFile why → ⊥
given_up_lost fault refused why e = cc

pub same_answered : (one other : Answered) → Reopened one ≡ Reopened other → one ≡ other
same_answered one other e = cc

abbrev succeeded : Answered → Result Answered RecordFault
succeeded answered = Ok answered

pub answered_so : (one other : Answered) → succeeded one ≡ succeeded other → one ≡ other
answered_so one other e = cc

-- what resuming comes to
abbrev pub IsResumed : Done → Type 0
IsResumed done = ((answered : Answered) × (done ≡ Reopened answered)) ⊎ ((fault : RecordFault) × (refused : Option Refusal) × (done ≡ GivenUp fault refused))

pub isnt_failed : (done : Done) → IsResumed done → done ≡ Failed → ⊥
isnt_failed done (inl (answered, is)) failed = reopened_failed answered (sym is ∙ failed)
isnt_failed done (inr (fault, refused, is)) failed = given_up_failed fault refused (sym is ∙ failed)

pub isnt_lost : (done : Done) (why : OpenFault) → IsResumed done → done ≡ LostFile why → ⊥
isnt_lost done why (inl (answered, is)) lost = reopened_lost answered why (sym is ∙ lost)
isnt_lost done why (inr (fault, refused, is)) lost = given_up_lost fault refused why (sym is ∙ lost)

-- the answer depends on what is noted of the source
pub same_answer : (failed : Bool) (one other : OnAir) → one.body ≡ other.body → one.lost ≡ other.lost → one.complete ≡ other.complete
    → one.foreign ≡ other.foreign → parting_answer failed one ≡ parting_answer failed other
same_answer failed one other bodies losses ends kinds =
    ap (λ (body : Option Body). parting_in one.foreign (failed || one.lost) one.complete body) bodies
    ∙ ap (λ (lost : Bool). parting_in one.foreign (failed || lost) one.complete other.body) losses
    ∙ ap (λ (complete : Bool). parting_in one.foreign (failed || other.lost) complete other.body) ends
    ∙ ap (λ (foreign : Bool). parting_in foreign (failed || other.lost) other.complete other.body) kinds

pub has_no_page : (one other : OnAir) (sender : Feeder) (passed : ℕ) → one ≡ other → is_foreign one.has_page one.import.input.pages.offset ≡ true
    → passed ≡ one.import.input.pages.offset → sender ≡ one.feeder → HasNoPage sender passed other
has_no_page one other sender passed same none passed_is from = record {
  feeder = sym (ap (λ (air : OnAir). air.feeder) same) ∙ sym from;
  foreign = subst (λ (air : OnAir). is_foreign air.has_page air.import.input.pages.offset ≡ true) same none;
  passed_is = sym (ap (λ (air : OnAir). air.import.input.pages.offset) same) ∙ sym passed_is;
}

-- a source that was found not to be Ogg is told so
pub foreign_parts : (failed : Bool) (one other : OnAir) → one ≡ record other { foreign = true } → parting_answer failed one ≡ foreign_answer other.body
foreign_parts failed one other is = ap (λ (air : OnAir). parting_answer failed air) is
