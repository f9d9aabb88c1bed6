-- The answers to a command.
use Rattle.std.proofs.Common.{◌≡◌, ℕ, ◌+◌, List, [], ◌++◌, inl, inr, refl, sym, ap, ◌∙◌, subst, Result, Ok, Err}
use Rattle.link_chain.specs.ChainState.{ChainState, chain_state_of}
use Rattle.chain_rules.specs.Decision.{decision}
use Rattle.chain_rules.specs.Encoding.{command_bytes, links_after}
use Rattle.chain_rules.specs.Plan.{PlanState, IsPlanOf}
use Rattle.ogg_command.specs.declared.command.Command.{Command}
use Rattle.ogg_command.specs.declared.refusal.Refusal.{Refusal}
use Rattle.ogg_command.specs.declared.refusal.Refusal.TheVariants.{Memory}
use Rattle.feed_replies.specs.declared.reply.Reply.{Reply}
use Rattle.feed_replies.specs.declared.reply.Reply.TheVariants.{Kept as KeptOf, Refused}
use Rattle.feed_mux.specs.Progress.{Progress, end_of, with_command, Answers, AnsweredBy}
use Rattle.feed_mux.specs.Reached.{HasReached}

abbrev pub kept_reply : ℕ → ℕ → Reply
kept_reply count end = KeptOf (record { count = count; end = end })

pub is_kept : (chain : ChainState) (count : ℕ) (before : Progress) (command : Command) (size end : ℕ) → HasReached chain count before → decision chain command ≡ Ok size
    → end ≡ chain.length_of + size
    → Answers before command (kept_reply (count + 1) end) (command_bytes chain command) (with_command before command)
is_kept chain count before command size end reached decided grown =
    let there : decision (chain_state_of before.links) command ≡ Ok size = ap (λ (s : ChainState). decision s command) (sym reached.chain_is) ∙ decided in
    let reply : kept_reply (count + 1) end ≡ kept_reply (before.kept + 1) (end_of before + size) =
    ap (λ n. kept_reply (n + 1) end) reached.count_is ∙ ap (λ n. kept_reply (before.kept + 1) n) (grown ∙ ap (λ (s : ChainState). s.length_of + size) reached.chain_is) in
    let bytes : command_bytes chain command ≡ command_bytes (chain_state_of before.links) command = ap (λ (s : ChainState). command_bytes s command) reached.chain_is in
    subst (λ (r : Result ℕ Refusal). AnsweredBy r before command (kept_reply (count + 1) end) (command_bytes chain command) (with_command before command)) (sym there)
    (inl (reply, bytes, refl))

-- a vector that was empty holds exactly what was appended
pub only_appended : (cleared written whole : List ℕ) → cleared ≡ [] → whole ≡ cleared ++ written → whole ≡ written
only_appended cleared written whole empty e = e ∙ ap (λ l. l ++ written) empty

-- the count after a command that is kept is that of the links after it
pub reached_after : (new : ChainState) (count : ℕ) (before : Progress) (command : Command) → count ≡ before.kept
    → new ≡ chain_state_of (links_after before.links command) → HasReached new (count + 1) (with_command before command)
reached_after new count before command same after = record { chain_is = after; count_is = ap (λ n. n + 1) same }

-- a refusal leaves all as it was
pub reached_still : (old new : ChainState) (count : ℕ) (before : Progress) → HasReached old count before → new ≡ old → HasReached new count before
reached_still old new count before reached same = subst (λ (s : ChainState). HasReached s count before) (sym same) reached

-- a plan is that of the same chain
pub still_planned : (old new : ChainState) (command : Command) (plan : PlanState) → IsPlanOf old command plan → new ≡ old → IsPlanOf new command plan
still_planned old new command plan planned same = subst (λ (s : ChainState). IsPlanOf s command plan) (sym same) planned

pub is_refused : (chain : ChainState) (count : ℕ) (before : Progress) (command : Command) (refusal : Refusal) → HasReached chain count before
    → decision chain command ≡ Err refusal → Answers before command (Refused refusal) [] before
is_refused chain count before command refusal reached decided =
    let there : decision (chain_state_of before.links) command ≡ Err refusal = ap (λ (s : ChainState). decision s command) (sym reached.chain_is) ∙ decided in
    subst (λ (r : Result ℕ Refusal). AnsweredBy r before command (Refused refusal) [] before) (sym there) (refl, refl, refl)

pub lacks_memory : (chain : ChainState) (count : ℕ) (before : Progress) (command : Command) (size : ℕ) → HasReached chain count before
    → decision chain command ≡ Ok size → Answers before command (Refused Memory) [] before
lacks_memory chain count before command size reached decided =
    let there : decision (chain_state_of before.links) command ≡ Ok size = ap (λ (s : ChainState). decision s command) (sym reached.chain_is) ∙ decided in
    subst (λ (r : Result ℕ Refusal). AnsweredBy r before command (Refused Memory) [] before) (sym there) (inr (refl, refl, refl))
