use Rattle.std.proofs.Common.{◌≡◌, List, ◌++◌, length, take, drop, map, refl, sym, ◌∙◌, ap}
use Rattle.std.proofs.Math.Seq.{take-append_seam}
use Rattle.serve_live.specs.Joined.{as_of_now}
use Rattle.serve_live.specs.Noting.{noted}
use Rattle.serve_live.specs.declared.joined.JoinedStream.{JoinedStream}
use Rattle.serve_live.specs.declared.joined.LinkPart.TheVariants.{Beginning, Since}
use Rattle.serve_live.proofs.Places.{joins_by}
use Rattle.serve_live.proofs.listener.Listener.join.Goals as goal

pub returns-in-Ok-clause-joins : goal.returns-in-Ok-clause-joins
returns-in-Ok-clause-joins g c committed more links moment sure is end l states at =
    let place = c.args.place in
    let told = c.in-Ok.ensures.noted committed more links moment sure is end l at in
    let first : c.as_mut_slice.result.now ≡ map as_of_now c.args.states.now = c.as_mut_slice.ensures.value ∙ c.in_ok-streams.ensures.streams in
    let now : List JoinedStream = c.note_link.new.streams in
    let size : length now ≡ c.in_ok-streams.streams.len = c.note_link.auto.streams ∙ c.as_mut_slice.ensures.len in
    let seam : c.as_slice.result.now ≡ now = c.as_slice.ensures.value ∙ ap (λ n. take n (now ++ drop (length now) c.in_ok-streams.streams.items)) (sym size) ∙ take-append_seam now _ in
    let streams : c.as_slice.result.now ≡ map (noted Since at.since) (map (noted Beginning moment.begin) (map as_of_now c.args.states.now)) =
    seam ∙ told ∙ ap (λ (x : List JoinedStream). map (noted Since at.since) (map (noted Beginning moment.begin) x)) first in
    joins_by committed links moment place c.args.states.now c.as_slice.result.now c.in_ok-new_listener-in-Ok.field-0 l states at streams c.in_ok-new_listener-in-Ok.ensures.new

pub returns-clause-cause : goal.returns-clause-cause
returns-clause-cause g c committed more links moment sure is end l states at fault =
    c.in-Err.ensures.cause committed more links moment sure is end l at refl
