use Rattle.std.proofs.Common.{◌≡◌, List, sym, ◌∙◌, ap, Option, Some, None}
use Rattle.ogg_command.specs.declared.command.Command.{Command}
use Rattle.ogg_command.specs.declared.command.Command.TheVariants.{Put as PutOf}
use Rattle.ogg_command.specs.declared.command.Entry.{Entry}
use Rattle.ogg_command.specs.declared.refusal.Refusal.{Refusal}
use Rattle.link_chain.specs.declared.stream_state.StreamState.{StreamState}
use Rattle.link_chain.specs.ChainState.{ChainState}
use Rattle.link_chain.specs.Rules.{first_broken}
use Rattle.chain_rules.specs.Decision.{entries_rules, room_rules, size_of, answer}
use Rattle.link_chain.specs.Laws.Rules.{settles, passes}
use Rattle.chain_rules.proofs.checks.check_by.Goals as goal

-- what was found of the streams that were copied and of the entries that were lent holds of the chain's and the put's
of_entries : (chain : ChainState) (streams : List StreamState) (lent entries : List Entry) (broken : Option Refusal) → chain.streams ≡ streams →
    lent ≡ entries →
    broken ≡ first_broken (entries_rules streams lent) → first_broken (entries_rules chain.streams entries) ≡ broken
of_entries chain streams lent entries broken s e h =
    sym (h ∙ ap (λ l. first_broken (entries_rules streams l)) e ∙ ap (λ l. first_broken (entries_rules l entries)) (sym s))

pub returns-in-Some-clause-decides : goal.returns-in-Some-clause-decides
returns-in-Some-clause-decides c = λ chain s b.
    let command : Command = PutOf c.args.put.now in
    let entries : List Entry = c.args.put.now.entries in
    sym (ap (answer (size_of chain command))
    (settles (entries_rules chain.streams entries) (room_rules chain command) c.in-Some.refusal
    (of_entries chain c.copy_from_slice.new.self c.as_slice.result.now entries (Some c.in-Some.refusal)
    (s ∙ sym c.copy_from_slice.ensures.after) c.as_slice.ensures c.in-Some.ensures)))

pub returns-clause-decides : goal.returns-clause-decides
returns-clause-decides c = λ chain s b.
    let command : Command = PutOf c.args.put.now in
    let entries : List Entry = c.args.put.now.entries in
    c.room_for_put.ensures.decides chain (s ∙ sym c.copy_from_slice-2.ensures.after) b
    ∙ sym (ap (answer (size_of chain command))
    (passes (entries_rules chain.streams entries) (room_rules chain command)
    (of_entries chain c.copy_from_slice.new.self c.as_slice.result.now entries None
    (s ∙ sym c.copy_from_slice.ensures.after) c.as_slice.ensures c.in_default.ensures)))
