use Rattle.std.proofs.Common.{◌≡◌, ℕ, false, List, [], refl, sym, ◌∙◌, ap, Option, Some, None}
use Rattle.ogg_command.specs.declared.command.Command.{Command}
use Rattle.ogg_command.specs.declared.command.Command.TheVariants.{Begin as BeginOf}
use Rattle.ogg_command.specs.declared.command.Begin.{Begin}
use Rattle.ogg_command.specs.declared.command.NewStream.{NewStream}
use Rattle.ogg_command.specs.declared.refusal.Refusal.{Refusal}
use Rattle.link_chain.specs.ChainState.{ChainState}
use Rattle.link_chain.specs.Rules.{first_broken}
use Rattle.chain_rules.specs.Decision.{decision, begin_rules, item_rules, parts_rules, room_rules, size_of}
use Rattle.chain_rules.proofs.Kept.{items_short}
use Rattle.chain_rules.proofs.Turns.{refused_first, refused_item, by_room}
use Rattle.chain_rules.proofs.checks.check_begin.Goals as goal

-- what was found of the streams that were lent holds of the link's items
of_items : (chain : ChainState) (begin : Begin) (lent : List NewStream) (broken : Option Refusal) → lent ≡ begin.streams →
    broken ≡ first_broken (parts_rules chain begin.skeleton lent) → first_broken (item_rules chain begin) ≡ broken
of_items chain begin lent broken e h = sym (h ∙ ap (λ l. first_broken (parts_rules chain begin.skeleton l)) e)

pub returns-in-Some : goal.returns-in-Some
unfolding decision
returns-in-Some c = λ chain s t l b.
    let command : Command = BeginOf c.args.begin.now in
    refused_first (size_of chain command) (begin_rules chain c.args.begin.now) (item_rules chain c.args.begin.now) (room_rules chain command) c.in-Some.refusal
    (sym (c.in-Some.ensures.rules chain s))

pub returns-in-Some-broken_by_parts : goal.returns-in-Some-broken_by_parts
unfolding decision
returns-in-Some-broken_by_parts c = λ chain s t l b.
    let command : Command = BeginOf c.args.begin.now in
    refused_item (size_of chain command) (begin_rules chain c.args.begin.now) (item_rules chain c.args.begin.now) (room_rules chain command) c.in-Some-broken_by_parts.refusal
    (sym (c.in_default.ensures.rules chain s))
    (of_items chain c.args.begin.now c.as_slice.result.now (Some c.in-Some-broken_by_parts.refusal) c.as_slice.ensures (c.in-Some-broken_by_parts.ensures chain t))

pub returns : goal.returns
unfolding decision
returns c = λ chain s t l b.
    let command : Command = BeginOf c.args.begin.now in
    c.room_for_begin.ensures chain l b
    ∙ by_room (size_of chain command) (begin_rules chain c.args.begin.now) (item_rules chain c.args.begin.now) (room_rules chain command)
    (sym (c.in_default.ensures.rules chain s))
    (of_items chain c.args.begin.now c.as_slice.result.now None c.as_slice.ensures (c.in_default-broken_by_parts.ensures chain t))

-- a chain that has only these serials, to check rules with
abbrev some_chain : List ℕ → ChainState
some_chain serials = record { streams = []; has_data = false; serials = serials; links = 0; length_of = 0 }

pub room_for_begin-requires-clause-media : goal.room_for_begin-requires-clause-media
room_for_begin-requires-clause-media c =
    items_short (some_chain c.args.serials.now.listed) c.args.begin.now (c.in_default.ensures.few refl)
    (of_items (some_chain c.args.serials.now.listed) c.args.begin.now c.as_slice.result.now None c.as_slice.ensures (c.in_default-broken_by_parts.ensures (some_chain c.args.serials.now.listed) refl))
