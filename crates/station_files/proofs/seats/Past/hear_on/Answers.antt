use Rattle.std.proofs.Common.{◌≡◌, Option, Some, Result, Ok, Err, List, sym, subst}
use Rattle.std.specs.Prelude.{IfSome, OnOk}
use Rattle.link_chain.specs.declared.stream_state.StreamState.{StreamState}
use Rattle.station.specs.Changing.{HearsOn}
use Rattle.station_files.specs.declared.seats.Meeting.{Meeting}
use Rattle.station_files.proofs.seats.Past.hear_on.Goals as goal

on_ok : {X E P Q : Type 0} (r : Result X E) → OnOk r P → (P → Q) → OnOk r Q
on_ok (Ok x) is goes = goes is
on_ok (Err e) is goes = tt

on_some : (P : Meeting → Type 0) (found : Option Meeting) (meeting : Meeting) → found ≡ Some meeting → P meeting → IfSome found P
on_some P found meeting is p = subst (λ (one : Option Meeting). IfSome one P) (sym is) p

pub returns-in-Some-clause-on : goal.returns-in-Some-clause-on
returns-in-Some-clause-on g c =
    let meeting = c.in-Some.meeting in
    let old_is : c.as_slice.result.now ≡ meeting.open.items = c.as_slice.ensures.value in
    let new_is : c.as_slice-in-Some.result.now ≡ meeting.begun.items = c.as_slice-in-Some.ensures.value in
    on_ok c.hear_on.result c.hear_on.ensures.on (λ goes. on_some _ c.args.self.now.meeting meeting c.in-Some.is (λ client heard found hears.
    let (after, is, on) = goes client heard found hears in (
      after,
      is,
      subst (λ (streams : List StreamState). HearsOn meeting.begun_end meeting.open.items streams heard client after) new_is
          (subst (λ (streams : List StreamState). HearsOn meeting.begun_end streams c.as_slice-in-Some.result.now heard client after) old_is on),
    )))
