-- A command that is kept adds its packets.
use Rattle.std.proofs.Common.{◌≡◌, ℕ, List, [], ◌∷◌, ◌++◌, refl, sym, subst, arith, append_assoc, Ok}
use Rattle.std.specs.List.{AllByRecursion}
use Rattle.std.proofs.lemmas.List.{append-nil}
use Rattle.ogg_page.specs.Page.{Page}
use Rattle.ogg_command.specs.declared.command.Command.{Command}
use Rattle.ogg_command.specs.declared.command.Command.TheVariants.{Begin as BeginOf, Put as PutOf, End as EndOf}
use Rattle.ogg_command.specs.Command.{IsCommand}
use Rattle.link_chain.specs.Links.{AreLinks}
use Rattle.chain_rules.specs.Recording.{Recording, HoldsLinks, Holds, add, after}
use Rattle.link_chain.specs.ChainState.{chain_state_of}
use Rattle.chain_rules.specs.Encoding.{command_bytes, links_after}
use Rattle.chain_rules.specs.Decision.{decision}
use Rattle.chain_rules.specs.Commands.{AreKept, bytes_of_commands, links_behind}
use Rattle.chain_rules.proofs.Kept.{kept_size}
use Rattle.chain_rules.proofs.BeginHeld.{begin_is_held}
use Rattle.chain_rules.proofs.Putting.{put_is_held}
use Rattle.chain_rules.proofs.Ending.{end_is_held}

pub is_held : (bytes : List ℕ) (links : List (List Page)) (recording : Recording) (command : Command) (size : ℕ) → IsCommand command →
    AreLinks bytes links → HoldsLinks links recording → decision (chain_state_of links) command ≡ Ok size →
    AreLinks (bytes ++ command_bytes (chain_state_of links) command) (links_after links command) × HoldsLinks (links_after links command) (add recording command)
is_held bytes links recording (BeginOf begin) size is l h e =
    begin_is_held bytes links recording begin size is.0 is.1 l h e
is_held bytes links recording (PutOf put) size is l h e = put_is_held bytes links recording put size is l h e
is_held bytes links recording (EndOf serial) size is l h e = end_is_held bytes links recording serial size is l h e

pub still_holds : (bytes : List ℕ) (recording : Recording) (held : Holds bytes recording) (command : Command) (size : ℕ) → IsCommand command →
    decision (chain_state_of held.0) command ≡ Ok size → Holds (bytes ++ command_bytes (chain_state_of held.0) command) (add recording command)
still_holds bytes recording held command size is e =
    let links : List (List Page) = held.0 in
    let new = is_held bytes links recording command size is held.1 held.2 e in
    (links_after links command, new.0, new.1)

pub are_held : (bytes : List ℕ) (links : List (List Page)) (recording : Recording) (commands : List Command) → AllByRecursion IsCommand commands →
    AreLinks bytes links → HoldsLinks links recording → AreKept links commands →
    AreLinks (bytes ++ bytes_of_commands links commands) (links_behind links commands) × HoldsLinks (links_behind links commands) (after recording commands)
are_held bytes links recording [] is l h kept = (subst (λ b. AreLinks b links) (sym (append-nil bytes)) l, h)
are_held bytes links recording (command ∷ commands) is l h kept =
    let size = kept_size (decision (chain_state_of links) command) kept.0 in
    let own : List ℕ = command_bytes (chain_state_of links) command in
    let left : List (List Page) = links_after links command in
    let new = is_held bytes links recording command size.0 is.0 l h size.1 in
    let rest = are_held (bytes ++ own) left (add recording command) commands is.1 new.0 new.1 kept.1 in
    (subst (λ b. AreLinks b (links_behind left commands)) (append_assoc bytes own (bytes_of_commands left commands)) rest.0, rest.1)

-- no bytes are no links, and hold no recording
pub held_from_nothing : (commands : List Command) → AllByRecursion IsCommand commands → AreKept [] commands → Holds (bytes_of_commands [] commands) (after [] commands)
held_from_nothing commands is kept =
    let none : AreLinks [] [] = record { spelled = refl; pages = tt; few = omega arith; each = tt; ended = tt } in
    let new = are_held [] [] [] commands is none tt kept in
    (links_behind [] commands, new.0, new.1)
