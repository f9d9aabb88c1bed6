-- Rules that are checked group by group.
use Rattle.std.proofs.Common.{◌≡◌, ℕ, List, ◌++◌, sym, ◌∙◌, ap, append_assoc, Some, None, Err, Result}
use Rattle.ogg_command.specs.declared.command.Command.TheVariants.{Put as PutOf}
use Rattle.ogg_command.specs.declared.command.Entry.{Entry}
use Rattle.ogg_command.specs.declared.command.Put.{Put}
use Rattle.ogg_command.specs.declared.refusal.Refusal.{Refusal}
use Rattle.link_chain.specs.ChainState.{ChainState}
use Rattle.link_chain.specs.Rules.{Rule, first_broken}
use Rattle.chain_rules.specs.Decision.{answer, decision, put_rules, entries_rules, room_rules, size_of}
use Rattle.link_chain.specs.Laws.Rules.{passes, settles}

pub refused_first : (size : ℕ) (whole items room : List (Rule Refusal)) (refusal : Refusal) → first_broken whole ≡ Some refusal →
    Err refusal ≡ answer size (first_broken (whole ++ items ++ room))
refused_first size whole items room refusal e =
    sym (ap (answer size) (settles (whole ++ items) room refusal (settles whole items refusal e)))

pub refused_item : (size : ℕ) (whole items room : List (Rule Refusal)) (refusal : Refusal) → first_broken whole ≡ None → first_broken items ≡ Some refusal →
    Err refusal ≡ answer size (first_broken (whole ++ items ++ room))
refused_item size whole items room refusal w e =
    sym (ap (answer size) (settles (whole ++ items) room refusal (passes whole items w ∙ e)))

pub by_room : (size : ℕ) (whole items room : List (Rule Refusal)) → first_broken whole ≡ None → first_broken items ≡ None →
    answer size (first_broken room) ≡ answer size (first_broken (whole ++ items ++ room))
by_room size whole items room w e =
    sym (ap (answer size) (passes (whole ++ items) room (passes whole items w ∙ e)))

pub behind_whole : (size : ℕ) (whole items room : List (Rule Refusal)) → first_broken whole ≡ None →
    answer size (first_broken (items ++ room)) ≡ answer size (first_broken (whole ++ items ++ room))
behind_whole size whole items room w =
    sym (ap (λ l. answer size (first_broken l)) (append_assoc whole items room) ∙ ap (answer size) (passes whole (items ++ room) w))

-- ---- a put, by what was found of the entries that it lends
pub put_refused : (chain : ChainState) (put : Put) (lent : List Entry) (refusal : Refusal) → lent ≡ put.entries → Some refusal ≡ first_broken (put_rules chain lent) →
    Err refusal ≡ decision chain (PutOf put)
unfolding decision
put_refused chain put lent refusal same broken =
    refused_first (size_of chain (PutOf put)) (put_rules chain put.entries) (entries_rules chain.streams put.entries) (room_rules chain (PutOf put)) refusal
    (sym (broken ∙ ap (λ l. first_broken (put_rules chain l)) same))

pub put_decided : (chain : ChainState) (put : Put) (lent : List Entry) (decided : Result ℕ Refusal) → lent ≡ put.entries → None ≡ first_broken (put_rules chain lent) →
    decided ≡ answer (size_of chain (PutOf put)) (first_broken (entries_rules chain.streams put.entries ++ room_rules chain (PutOf put))) → decided ≡ decision chain (PutOf put)
unfolding decision
put_decided chain put lent decided same whole by =
    by ∙ behind_whole (size_of chain (PutOf put)) (put_rules chain put.entries) (entries_rules chain.streams put.entries) (room_rules chain (PutOf put))
    (sym (whole ∙ ap (λ l. first_broken (put_rules chain l)) same))
