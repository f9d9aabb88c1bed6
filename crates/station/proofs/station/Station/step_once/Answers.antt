use Rattle.std.proofs.Common.{refl}
use Rattle.station.proofs.Reopening.{frees_none, parts_if_given_up}
use Rattle.station.specs.Stepping.{HasFlushed}
use Rattle.station.specs.declared.stepping.Done.TheVariants.{Flushed}
use Rattle.station.proofs.Recorded.{by_flush, flushed}
use Rattle.station.proofs.station.Station.step_once.Given.{Over}
use Rattle.station.proofs.station.Station.step_once.Goals as goal

pub returns-then-is_failed-clause-parts : goal.returns-then-is_failed-clause-parts
returns-then-is_failed-clause-parts g c air is =
    parts_if_given_up c.reopen.result air c.args.self.now.clients.slots c.reopen.new.self.clients.slots
    c.reopen.ensures.reopens (λ fault refused given_up. c.reopen.ensures.parts air fault refused is given_up)

pub returns-then-is_due-clause-records : goal.returns-then-is_due-clause-records
returns-then-is_due-clause-records g c =
    by_flush g.D.Disk c.args.self.now.live c.run_flush.new.self c.run_flush.result c.run_flush.ensures.answers

has_flushed : (g : Over) (c : goal.After-run_flush g) → HasFlushed g.D.Disk (Flushed c.run_flush.result) c.args.self.now.live c.run_flush.new.self
has_flushed g c = record {
  reply = c.run_flush.result;
  flushed = refl;
  answered = flushed g.D.Disk c.args.self.now.live c.run_flush.new.self c.run_flush.result c.run_flush.ensures.answers;
}

pub returns-then-is_due-clause-commits : goal.returns-then-is_due-clause-commits
returns-then-is_due-clause-commits g c machine shows works due = has_flushed g c

pub returns-then-is_due-clause-flushed : goal.returns-then-is_due-clause-flushed
returns-then-is_due-clause-flushed g c reply is = (refl, has_flushed g c)

pub returns-then-is_failed-clause-succeeded : goal.returns-then-is_failed-clause-succeeded
returns-then-is_failed-clause-succeeded g c = c.reopen.ensures.succeeded

pub returns-then-is_failed-clause-begins : goal.returns-then-is_failed-clause-begins
returns-then-is_failed-clause-begins g c = c.reopen.ensures.begins

pub returns-then-is_failed-clause-noted : goal.returns-then-is_failed-clause-noted
returns-then-is_failed-clause-noted g c = c.reopen.ensures.noted

pub returns-then-is_failed-clause-resumes : goal.returns-then-is_failed-clause-resumes
returns-then-is_failed-clause-resumes g c = c.reopen.ensures.resumes

pub returns-then-is_failed-clause-records : goal.returns-then-is_failed-clause-records
returns-then-is_failed-clause-records g c = c.reopen.ensures.records

pub returns-then-is_failed-clause-kept : goal.returns-then-is_failed-clause-kept
returns-then-is_failed-clause-kept g c = c.reopen.ensures.kept

pub returns-then-is_failed-clause-failed : goal.returns-then-is_failed-clause-failed
returns-then-is_failed-clause-failed g c failed = c.reopen.ensures.reopens

pub returns-then-not-waited-clause-takes : goal.returns-then-not-waited-clause-takes
returns-then-not-waited-clause-takes g c = c.step_air-done.ensures.takes

pub returns-then-not-waited-clause-parts : goal.returns-then-not-waited-clause-parts
returns-then-not-waited-clause-parts g c = c.step_air-done.ensures.parts

pub returns-then-not-waited-clause-succeeded : goal.returns-then-not-waited-clause-succeeded
returns-then-not-waited-clause-succeeded g c = c.step_air-done.ensures.succeeded

pub returns-then-not-waited-clause-begins : goal.returns-then-not-waited-clause-begins
returns-then-not-waited-clause-begins g c = c.step_air-done.ensures.begins

pub returns-then-not-waited-clause-nothing : goal.returns-then-not-waited-clause-nothing
returns-then-not-waited-clause-nothing g c = c.step_air-done.ensures.nothing

pub returns-then-not-waited-clause-records : goal.returns-then-not-waited-clause-records
returns-then-not-waited-clause-records g c = c.step_air-done.ensures.records

pub returns-then-not-waited-clause-kept : goal.returns-then-not-waited-clause-kept
returns-then-not-waited-clause-kept g c = c.step_air-done.ensures.kept

pub returns-then-not-waited-clause-noted : goal.returns-then-not-waited-clause-noted
returns-then-not-waited-clause-noted g c air answered is reopened = absurd (c.step_air-done.ensures.goes_on answered reopened)

pub returns-then-not-waited-clause-resumes : goal.returns-then-not-waited-clause-resumes
returns-then-not-waited-clause-resumes g c air answered machine is shows reopened = absurd (c.step_air-done.ensures.goes_on answered reopened)

pub returns-then-not-waited-clause-flushed : goal.returns-then-not-waited-clause-flushed
returns-then-not-waited-clause-flushed g c reply is = absurd (c.step_air-done.ensures.rests reply is)

pub returns-then-not-waited-clause-rests : goal.returns-then-not-waited-clause-rests
returns-then-not-waited-clause-rests g c machine reply shows is = absurd (c.step_air-done.ensures.rests reply is)

pub returns-else-not-waited-clause-takes : goal.returns-else-not-waited-clause-takes
returns-else-not-waited-clause-takes g c = c.step_air-done.ensures.takes

pub returns-else-not-waited-clause-parts : goal.returns-else-not-waited-clause-parts
returns-else-not-waited-clause-parts g c = c.step_air-done.ensures.parts

pub returns-else-not-waited-clause-succeeded : goal.returns-else-not-waited-clause-succeeded
returns-else-not-waited-clause-succeeded g c = c.step_air-done.ensures.succeeded

pub returns-else-not-waited-clause-begins : goal.returns-else-not-waited-clause-begins
returns-else-not-waited-clause-begins g c = c.step_air-done.ensures.begins

pub returns-else-not-waited-clause-nothing : goal.returns-else-not-waited-clause-nothing
returns-else-not-waited-clause-nothing g c = c.step_air-done.ensures.nothing

pub returns-else-not-waited-clause-records : goal.returns-else-not-waited-clause-records
returns-else-not-waited-clause-records g c = c.step_air-done.ensures.records

pub returns-else-not-waited-clause-kept : goal.returns-else-not-waited-clause-kept
returns-else-not-waited-clause-kept g c = c.step_air-done.ensures.kept

pub returns-else-not-waited-clause-noted : goal.returns-else-not-waited-clause-noted
returns-else-not-waited-clause-noted g c air answered is reopened = absurd (c.step_air-done.ensures.goes_on answered reopened)

pub returns-else-not-waited-clause-resumes : goal.returns-else-not-waited-clause-resumes
returns-else-not-waited-clause-resumes g c air answered machine is shows reopened = absurd (c.step_air-done.ensures.goes_on answered reopened)

pub returns-else-not-waited-clause-flushed : goal.returns-else-not-waited-clause-flushed
returns-else-not-waited-clause-flushed g c reply is = absurd (c.step_air-done.ensures.rests reply is)

pub returns-else-not-waited-clause-rests : goal.returns-else-not-waited-clause-rests
returns-else-not-waited-clause-rests g c machine reply shows is = absurd (c.step_air-done.ensures.rests reply is)

pub returns-then-is_failed-clause-at_rest : goal.returns-then-is_failed-clause-at_rest
returns-then-is_failed-clause-at_rest g c = c.reopen.ensures.at_rest

pub returns-then-is_failed-clause-frees : goal.returns-then-is_failed-clause-frees
returns-then-is_failed-clause-frees g c = c.reopen.ensures.frees

pub returns-then-not-waited-clause-at_rest : goal.returns-then-not-waited-clause-at_rest
returns-then-not-waited-clause-at_rest g c = c.step_air-done.ensures.at_rest

pub returns-else-not-waited-clause-at_rest : goal.returns-else-not-waited-clause-at_rest
returns-else-not-waited-clause-at_rest g c = c.step_air-done.ensures.at_rest

pub returns-then-not-waited-clause-frees : goal.returns-then-not-waited-clause-frees
returns-then-not-waited-clause-frees g c = frees_none c.step_air-done.result c.args.self.now.air c.step_air-done.new.self.live.hub.file c.step_air-done.ensures.goes_on

pub returns-else-not-waited-clause-frees : goal.returns-else-not-waited-clause-frees
returns-else-not-waited-clause-frees g c = frees_none c.step_air-done.result c.args.self.now.air c.step_air-done.new.self.live.hub.file c.step_air-done.ensures.goes_on

pub returns-then-not-waited-clause-again : goal.returns-then-not-waited-clause-again
returns-then-not-waited-clause-again g c failed = absurd (c.step_air-done.ensures.works failed)

pub returns-else-not-waited-clause-again : goal.returns-else-not-waited-clause-again
returns-else-not-waited-clause-again g c failed = absurd (c.step_air-done.ensures.works failed)

pub returns-then-not-waited-clause-cause : goal.returns-then-not-waited-clause-cause
returns-then-not-waited-clause-cause g c air fault refused is works gave = c.step_air-done.ensures.cause air fault refused is gave

pub returns-else-not-waited-clause-cause : goal.returns-else-not-waited-clause-cause
returns-else-not-waited-clause-cause g c air fault refused is works gave = c.step_air-done.ensures.cause air fault refused is gave
