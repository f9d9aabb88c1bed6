-- A put of one packet.
use Rattle.std.proofs.Common.{◌≡◌, ℕ, ◌≤◌, false, List, [], ◌∷◌, ◌++◌, length, get_or, sym, ◌∙◌, ap, subst, arith, Option, None, Result}
use Rattle.std.specs.Prelude.{nat_lt, IfOk}
use Rattle.std.specs.List.{fold}
use Rattle.std.proofs.lemmas.Bool.{ltb-false, le-ltb}
use Rattle.std.proofs.lemmas.List.{append-nil}
use Rattle.std.proofs.lemmas.List.Sums.{sum_by-cons}
use Rattle.ogg_command.specs.declared.command.Command.TheVariants.{Put as PutOf}
use Rattle.ogg_command.specs.declared.command.Entry.{Entry}
use Rattle.ogg_command.specs.declared.command.Put.{Put}
use Rattle.ogg_command.specs.declared.refusal.Refusal.{Refusal}
use Rattle.link_chain.specs.declared.stream_state.StreamState.{StreamState}
use Rattle.link_chain.specs.ChainState.{ChainState}
use Rattle.link_chain.specs.Rules.{first_broken}
use Rattle.link_chain.specs.Laws.Rules.{none_broken}
use Rattle.chain_rules.specs.Decision.{answer, decision, put_rules, put_of, entry_rules, entries_rules, room_rules, packet_bytes, size_of}
use Rattle.chain_rules.specs.Encoding.{runs_of, with_run}
use Rattle.chain_rules.specs.Limits.{longest_packet, longest_batch}
use Rattle.chain_rules.proofs.Turns.{put_decided}

-- ---- the put, by the entry that it lends
abbrev with_entries : List Entry → Put
with_entries entries = record { entries = entries }

one_of : (lent : List Entry) (entry : Entry) → length lent ≡ 1 → entry ≡ get_or lent 0 entry → lent ≡ entry ∷ []
one_of [] entry one is = absurd (omega (arith, one))
one_of (first ∷ []) entry one is = ap (λ (e : Entry). e ∷ []) (sym is)
one_of (first ∷ next ∷ lent) entry one is = absurd (omega (arith, one))

put_is : (put : Put) (lent : List Entry) (entry : Entry) → lent ≡ put.entries → length lent ≡ 1 → entry ≡ get_or lent 0 entry → put_of entry ≡ put
put_is put lent entry same one is = ap with_entries (sym (one_of lent entry one is) ∙ same)

-- it is decided as its packet is
pub one_decided : (chain : ChainState) (put : Put) (lent : List Entry) (entry : Entry) (decided : Result ℕ Refusal) → lent ≡ put.entries → length lent ≡ 1 →
    entry ≡ get_or lent 0 entry → None ≡ first_broken (put_rules chain lent) →
    decided ≡ answer (size_of chain (PutOf (put_of entry))) (first_broken (entries_rules chain.streams (entry ∷ []) ++ room_rules chain (PutOf (put_of entry)))) →
    decided ≡ decision chain (PutOf put)
one_decided chain put lent entry decided same one is whole by =
    put_decided chain put lent decided same whole
    (subst (λ (p : Put). decided ≡ answer (size_of chain (PutOf p)) (first_broken (entries_rules chain.streams p.entries ++ room_rules chain (PutOf p)))) (put_is put lent entry same one is) by)

pub one_after : (put : Put) (lent : List Entry) (entry : Entry) (decided : Result ℕ Refusal) (streams now : List StreamState) → lent ≡ put.entries → length lent ≡ 1 →
    entry ≡ get_or lent 0 entry → IfOk decided (λ _. now ≡ fold with_run streams (runs_of (entry ∷ []))) → IfOk decided (λ _. now ≡ fold with_run streams (runs_of put.entries))
one_after put lent entry decided streams now same one is after =
    subst (λ (p : Put). IfOk decided (λ _. now ≡ fold with_run streams (runs_of p.entries))) (put_is put lent entry same one is) after

-- ---- its packet
-- the rules for its entries are those for the one
pub own_rules : (streams lent : List StreamState) (entry : Entry) (broken : Option Refusal) → streams ≡ lent → broken ≡ first_broken (entry_rules lent entry) →
    first_broken (entries_rules streams (entry ∷ [])) ≡ broken
own_rules streams lent entry broken same h = ap first_broken (append-nil (entry_rules streams entry)) ∙ ap (λ l. first_broken (entry_rules l entry)) same ∙ sym h

pub not_long : (streams : List StreamState) (entry : Entry) → None ≡ first_broken (entry_rules streams entry) → length entry.packet ≤ longest_packet
not_long streams entry none = ltb-false longest_packet (length entry.packet) (none_broken (entry_rules streams entry) (sym none)).0

-- so short a packet is no long batch
pub short_batch : (entry : Entry) → length entry.packet ≤ longest_packet → nat_lt longest_batch (packet_bytes (PutOf (put_of entry))) ≡ false
short_batch entry short =
    le-ltb longest_batch (packet_bytes (PutOf (put_of entry))) (omega (arith, short, sum_by-cons (λ (e : Entry). length e.packet) entry []))
