use Rattle.std.proofs.Common.{List, [], ◌∷◌, sym, ◌∙◌, ap, subst, Some, None}
use Rattle.ogg_command.specs.declared.command.Command.{Command}
use Rattle.ogg_command.specs.declared.command.Command.TheVariants.{Put as PutOf}
use Rattle.ogg_command.specs.declared.command.Entry.{Entry}
use Rattle.link_chain.specs.declared.stream_state.StreamState.{StreamState}
use Rattle.link_chain.specs.Places.{IsPlace}
use Rattle.link_chain.specs.Laws.Rules.{settles, passes}
use Rattle.chain_rules.specs.Decision.{put_of, entries_rules, room_rules, size_of, answer}
use Rattle.chain_rules.proofs.LonePut.{own_rules, not_long}
use Rattle.chain_rules.proofs.lone.check_one.Goals as goal

pub room_for_one-requires-clause-place : goal.room_for_one-requires-clause-place
room_for_one-requires-clause-place c =
    subst (λ (l : List StreamState). IsPlace l c.args.entry.now.serial c.place_of-place.result) (sym c.copy_from_slice.ensures.after) c.place_of-place.ensures

pub room_for_one-requires-clause-short : goal.room_for_one-requires-clause-short
room_for_one-requires-clause-short c = not_long c.args.streams.now c.args.entry.now c.in_default.ensures

pub returns-in-Some-clause-decides : goal.returns-in-Some-clause-decides
returns-in-Some-clause-decides c = λ chain s b.
    let entry : Entry = c.args.entry.now in
    let command : Command = PutOf (put_of entry) in
    sym (ap (answer (size_of chain command))
    (settles (entries_rules chain.streams (entry ∷ [])) (room_rules chain command) c.in-Some.refusal
    (own_rules chain.streams c.args.streams.now entry (Some c.in-Some.refusal) s c.in-Some.ensures)))

pub returns-clause-decides : goal.returns-clause-decides
returns-clause-decides c = λ chain s b.
    let entry : Entry = c.args.entry.now in
    let command : Command = PutOf (put_of entry) in
    c.room_for_one.ensures.decides chain (s ∙ sym c.copy_from_slice.ensures.after) b
    ∙ sym (ap (answer (size_of chain command))
    (passes (entries_rules chain.streams (entry ∷ [])) (room_rules chain command)
    (own_rules chain.streams c.args.streams.now entry None s c.in_default.ensures)))
