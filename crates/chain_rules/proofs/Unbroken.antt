-- The rules that a kept command doesn't break.
use Rattle.std.proofs.Common.{◌≡◌, ℕ, ◌<◌, ◌^◌, false, List, [], ◌∷◌, refl, Option, None, Some, Ok, Err}
use Rattle.std.specs.Prelude.{nat_le}
use Rattle.std.specs.List.{AllByRecursion, list_any}
use Rattle.std.specs.Option.{option_map_or}
use Rattle.std.proofs.lemmas.Bool.{or_parts, leb-false}
use Rattle.ogg_page.specs.Page.{Page}
use Rattle.ogg_command.specs.declared.command.Command.{Command}
use Rattle.ogg_command.specs.declared.refusal.Refusal.{Refusal}
use Rattle.link_chain.specs.ChainState.{ChainState}
use Rattle.link_chain.specs.Rules.{Rule, first_broken}
use Rattle.chain_rules.specs.Decision.{decision, rules_for, size_of}
use Rattle.link_chain.specs.Laws.Rules.{NoneBroken, none_broken}

-- ---- the rules that a kept command doesn't break
no_refusal_in : (broken : Option Refusal) (own size : ℕ) → option_map_or (λ refusal. Err refusal) broken (Ok own) ≡ Ok size → broken ≡ None
no_refusal_in None own size e = refl
no_refusal_in (Some r) own size e = cc

no_refusal : (chain : ChainState) (command : Command) (size : ℕ) → decision chain command ≡ Ok size → first_broken (rules_for chain command) ≡ None
unfolding decision
no_refusal chain command size e = no_refusal_in (first_broken (rules_for chain command)) (size_of chain command) size e

abbrev pub Unbroken : List (Rule Refusal) → Type 0
Unbroken rules = NoneBroken rules

pub no_rule_broken : (chain : ChainState) (command : Command) (size : ℕ) → decision chain command ≡ Ok size → Unbroken (rules_for chain command)
no_rule_broken chain command size e = none_broken (rules_for chain command) (no_refusal chain command size e)

-- ---- the sequence numbers
pub numbers_fit : (pages : List Page) → list_any (λ page. nat_le (2 ^ 32) page.sequence) pages ≡ false → AllByRecursion (λ page. page.sequence < 2 ^ 32) pages
numbers_fit [] e = tt
numbers_fit (page ∷ pages) e =
    let parts : (nat_le (2 ^ 32) page.sequence ≡ false) × (list_any (λ p. nat_le (2 ^ 32) p.sequence) pages ≡ false) =
    or_parts (nat_le (2 ^ 32) page.sequence) (list_any (λ p. nat_le (2 ^ 32) p.sequence) pages) e in
    (leb-false (2 ^ 32) page.sequence parts.0, numbers_fit pages parts.1)
