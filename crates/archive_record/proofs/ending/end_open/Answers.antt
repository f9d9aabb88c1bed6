use Rattle.std.proofs.Common.{◌∙◌, [], ap, refl, subst, sym}
use Rattle.file_recorder.specs.Recorder.{RecorderState}
use Rattle.file_recorder.specs.Running.{progress}
use Rattle.history.specs.World.{start}
use Rattle.link_chain.specs.ChainState.{is_open}
use Rattle.archive_record.proofs.Going.{FlushLeaves, and_one, flush_leaves, on_ok_where}
use Rattle.archive_record.proofs.ending.end_open.Goals as goal

pub returns-then-is_failed-clause-does : goal.returns-then-is_failed-clause-does
returns-then-is_failed-clause-does g c = λ first w.
    let (mid, now, done) = c.end_streams-ended.ensures.does first w in
    let (after, answered, is) = c.run_flush.ensures.answers mid now in
    (after, is, and_one g.D.Disk (progress first w c.args.recorder.now) mid after done _ _ _ answered)

pub returns-clause-does : goal.returns-clause-does
returns-clause-does g c = λ first w.
    let (mid, now, done) = c.end_streams-ended.ensures.does first w in
    let (after, answered, is) = c.run_flush.ensures.answers mid now in
    (after, is, and_one g.D.Disk (progress first w c.args.recorder.now) mid after done _ _ _ answered)

pub returns-clause-rests : goal.returns-clause-rests
returns-clause-rests g c =
    let old = c.end_streams-ended.new.recorder in
    let (after, answered, is) = c.run_flush.ensures.answers (progress [] start old) refl in
    let leaves = subst (λ (new : RecorderState _). FlushLeaves old new) is (flush_leaves old after.now c.run_flush.result answered.replies) in
    let works = sym c.is_failed.ensures ∙ c.if-is_failed.false in
    on_ok_where c.end_streams-ended.result _ _ (λ ended. record {
      ended = ap is_open leaves.chain ∙ ended;
      kept = leaves.kept works;
      works = works;
    }) c.end_streams-ended.ensures.ended

pub returns-clause-refused : goal.returns-clause-refused
returns-clause-refused g c = λ refusal is_refused.
    let old = c.end_streams-ended.new.recorder in
    let (after, answered, is) = c.run_flush.ensures.answers (progress [] start old) refl in
    let leaves = subst (λ (new : RecorderState _). FlushLeaves old new) is (flush_leaves old after.now c.run_flush.result answered.replies) in
    ap is_open leaves.chain ∙ c.end_streams-ended.ensures.refused refusal is_refused

pub returns-clause-met : goal.returns-clause-met
returns-clause-met g c = λ first w refusal is_refused.
    let old = c.end_streams-ended.new.recorder in
    let (mid, replies, now, refused) = c.end_streams-ended.ensures.met first w refusal is_refused in
    let (after, answered, is) = c.run_flush.ensures.answers (progress [] start old) refl in
    let leaves = subst (λ (new : RecorderState _). FlushLeaves old new) is (flush_leaves old after.now c.run_flush.result answered.replies) in
    (mid, replies, ap (λ (r : RecorderState _). r.chain) now ∙ sym leaves.chain, refused)
