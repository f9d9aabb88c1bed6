-- A command that is kept makes the chain longer by its size.
use Rattle.std.proofs.Common.{◌≡◌, ℕ, ◌+◌, List, sym, ap, ◌∙◌, Ok}
use Rattle.std.specs.Prelude.{⊤}
use Rattle.ogg_page.specs.Page.{Page}
use Rattle.ogg_command.specs.declared.command.Command.{Command}
use Rattle.ogg_command.specs.declared.command.Command.TheVariants.{Begin as BeginOf, Put as PutOf, End as EndOf}
use Rattle.link_chain.specs.ChainState.{ChainState, chain_state_of}
use Rattle.chain_rules.specs.Decision.{decision}
use Rattle.chain_rules.specs.Encoding.{pages_of_command, links_after}
use Rattle.chain_rules.proofs.BeginHeld.{HasText}
use Rattle.chain_rules.proofs.BeginState.{begin_state}
use Rattle.chain_rules.proofs.EndState.{end_state}
use Rattle.chain_rules.proofs.Kept.{size_is_own}
use Rattle.chain_rules.proofs.PutState.{put_state}

-- the same, of a command
abbrev pub HasTime : Command → Type 0
HasTime (BeginOf begin) = HasText begin.skeleton
HasTime (PutOf put) = ⊤
HasTime (EndOf serial) = ⊤

pub longer : (links : List (List Page)) (command : Command) (size : ℕ) → HasTime command → decision (chain_state_of links) command ≡ Ok size
    → (chain_state_of (links_after links command)).length_of ≡ (chain_state_of links).length_of + size
unfolding pages_of_command
longer links (BeginOf begin) size text e =
    let chain : ChainState = chain_state_of links in
    ap (λ (s : ChainState). s.length_of) (begin_state links begin size text e) ∙ ap (λ n. chain.length_of + n) (sym (size_is_own chain (BeginOf begin) size e))
longer links (PutOf put) size text e =
    let chain : ChainState = chain_state_of links in
    ap (λ (s : ChainState). s.length_of) (put_state links put size e) ∙ ap (λ n. chain.length_of + n) (sym (size_is_own chain (PutOf put) size e))
longer links (EndOf serial) size text e =
    let chain : ChainState = chain_state_of links in
    ap (λ (s : ChainState). s.length_of) (end_state links serial size e) ∙ ap (λ n. chain.length_of + n) (sym (size_is_own chain (EndOf serial) size e))
