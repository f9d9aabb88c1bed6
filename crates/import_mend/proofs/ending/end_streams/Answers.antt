use Rattle.std.proofs.Common.{◌≡◌, ◌<◌, ◌^◌, [], ◌++◌, ◌∷◌, List, Some, length, refl, sym, ◌∙◌, ap, subst, arith, append_assoc, append-nil}
use Rattle.std.specs.Prelude.{nat_eq}
use Rattle.std.proofs.lemmas.Bool.{false≢true}
use Rattle.std.specs.List.{find}
use Rattle.link_chain.specs.ChainState.{ChainState}
use Rattle.link_chain.specs.Places.{HaveOwnSerials}
use Rattle.link_chain.specs.Progress.{stream_in}
use Rattle.link_chain.specs.declared.stream_state.StreamState.{StreamState}
use Rattle.ogg_command.specs.declared.command.Command.{Command}
use Rattle.import_gather.specs.Gathered.{Gathered}
use Rattle.import_mend.specs.Gives.{is_unended, open_streams}
use Rattle.import_mend.proofs.Ends.{ends_none, ends_one, one_less}
use Rattle.import_mend.proofs.Rooms.{less_room, on_err, all_closed, found_is_open, none_ended, number_of, one_ended}
use Rattle.import_mend.proofs.ending.end_streams.Goals as goal

pub loop-preserved : goal.loop-preserved
loop-preserved c =
    let (more, all, ended) = c.loop.invariant.0 in
    let (own, items, one) = c.in_ok-end_stream.ensures.gives in
    let stream : StreamState = c.in-Some.stream in
    let old : Gathered = c.loop.gatherer in
    let new : Gathered = c.end_stream.new.gatherer in
    let less : open_streams old.chain ≡ stream ∷ open_streams new.chain =
    one_less stream old new (subst (λ (s : ChainState). HaveOwnSerials s.streams) c.chain-in-loop.ensures c.in-Some.ensures.own)
    (ap (λ (s : ChainState). find is_unended s.streams) (sym c.chain-in-loop.ensures) ∙ sym c.in-Some.ensures.first) c.in_ok-end_stream.ensures.after in (
      (
        more ++ own,
        items ∙ ap (λ (l : List Command). l ++ own) all ∙ append_assoc c.args.commands.now.items more own,
        ends_one stream c.args.gatherer.now old new more own ended
            (record {
              known = ap (λ (s : ChainState). stream_in s.streams stream.serial) (sym c.chain-in-loop.ensures) ∙ c.in-Some.ensures.some.1;
              gathers = one;
              after = c.in_ok-end_stream.ensures.after;
            })
            less,
      ),
      λ room. one_ended _ _ stream old new (c.loop.invariant.1 room) c.in_ok-end_stream.ensures.after less,
      c.in_ok-end_stream.ensures.noted ∙ c.loop.invariant.2,
      omega (arith, c.in_ok-end_stream.ensures.capacity, c.loop.invariant.3),
    )

pub loop-init : goal.loop-init
loop-init c = (
  ([], sym (append-nil c.args.commands.now.items), ends_none c.args.gatherer.now),
  λ room.
      none_ended (length c.streams-count.result.now) c.args.gatherer.now.chain (ap length c.streams-count.ensures.value ∙ ap (λ (s : ChainState). length s.streams) c.chain.ensures)
      room,
  refl,
  omega arith,
)

pub returns-then-not-can_end-clause-all : goal.returns-then-not-can_end-clause-all
returns-then-not-can_end-clause-all c = λ room.
    let r = c.loop.invariant.1 room in
    let stream : StreamState = c.in-Some.stream in
    let first : find is_unended c.loop.gatherer.chain.streams ≡ Some stream =
    ap (λ (s : ChainState). find is_unended s.streams) (sym c.chain-in-loop.ensures) ∙ sym c.in-Some.ensures.first in
    let number : stream.next_sequence < 2 ^ 32 = number_of c.loop.gatherer.chain.streams stream first r.numbers in
    absurd (false≢true (sym c.if-not-can_end.true ∙ c.can_end.ensures.each
    (ap (λ (s : ChainState). nat_eq s.links 0) c.chain-in-loop-2.ensures ∙ r.links (found_is_open c.loop.gatherer.chain.streams stream first)) number
    (omega (arith, ap (λ (s : ChainState). s.length_of) c.chain-in-loop-2.ensures, r.small, r.left, r.some))))

pub returns-clause-all : goal.returns-clause-all
returns-clause-all c = λ room. all_closed _ _ c.loop.gatherer.chain (c.loop.invariant.1 room) (omega (arith, c.loop-test.false))

pub returns-in-None-clause-noted : goal.returns-in-None-clause-noted
returns-in-None-clause-noted c = c.loop.invariant.2

pub returns-in-None-clause-capacity : goal.returns-in-None-clause-capacity
returns-in-None-clause-capacity c = c.loop.invariant.3

pub returns-then-not-can_end-clause-noted : goal.returns-then-not-can_end-clause-noted
returns-then-not-can_end-clause-noted c = c.loop.invariant.2

pub returns-then-not-can_end-clause-capacity : goal.returns-then-not-can_end-clause-capacity
returns-then-not-can_end-clause-capacity c = c.loop.invariant.3

pub returns-in_err-end_stream-clause-cause : goal.returns-in_err-end_stream-clause-cause
returns-in_err-end_stream-clause-cause c = on_err c.from_residual.result (less_room c.end_stream.new.gatherer _ _ c.loop.invariant.3 c.in_err-end_stream.ensures.cause)

pub returns-in_err-end_stream-clause-capacity : goal.returns-in_err-end_stream-clause-capacity
returns-in_err-end_stream-clause-capacity c = omega (arith, c.in_err-end_stream.ensures.capacity, c.loop.invariant.3)

pub returns-clause-noted : goal.returns-clause-noted
returns-clause-noted c = c.loop.invariant.2

pub returns-clause-capacity : goal.returns-clause-capacity
returns-clause-capacity c = c.loop.invariant.3

pub returns-then-not-can_end-clause-open : goal.returns-then-not-can_end-clause-open
returns-then-not-can_end-clause-open c = λ _.
    found_is_open c.loop.gatherer.chain.streams c.in-Some.stream
    (ap (λ (s : ChainState). find is_unended s.streams) (sym c.chain-in-loop.ensures) ∙ sym c.in-Some.ensures.first)
