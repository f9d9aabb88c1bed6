-- A chain grows by a command.
use Rattle.std.proofs.Common.{◌≡◌, ℕ, ◌-◌, ◌<◌, List, [], ◌∷◌, ◌++◌, length, refl, sym, ◌∙◌, ap, subst, arith, length-append, Result, Ok, IsOk}
use Rattle.std.proofs.lemmas.List.{take_at}
use Rattle.std.specs.List.{AllByRecursion}
use Rattle.ogg_page.specs.Page.{Page, IsPage, page_bytes, bytes_of_pages}
use Rattle.ogg_page.specs.PageLaws.{length-page_bytes}
use Rattle.gate_file.specs.Commit.{ArePages}
use Rattle.gate_file.specs.Gate.{IsAppend, pages_in}
use Rattle.link_chain.specs.ChainState.{ChainState, chain_state_of}
use Rattle.link_chain.specs.Links.{AreLinks}
use Rattle.link_chain.specs.LinkLaws.{one_chain}
use Rattle.link_chain.specs.Recording.{Recording, HoldsLinks, Holds}
use Rattle.chain_rules.specs.Decision.{decision}
use Rattle.chain_rules.specs.Encoding.{command_bytes, links_after, pages_of_command}
use Rattle.chain_rules.specs.Recording.{add}
use Rattle.ogg_command.specs.Command.{IsCommand}
use Rattle.ogg_command.specs.declared.command.Command.{Command}
use Rattle.ogg_command.specs.declared.refusal.Refusal.{Refusal}
use Rattle.file_recorder.specs.Recovery.{Links, Accepts}
use Rattle.file_recorder.specs.Taking.{HoldsChain, IsWholeChain}

-- the laws of commands that aren't refused: `command_adds_its_packets` and `command_adds_pages`
abbrev pub AddsPackets : Type 0
AddsPackets = (bytes : List ℕ) (links : Links) (recording : Recording) (command : Command) (size : ℕ) → IsCommand command → AreLinks bytes links → HoldsLinks links recording → decision (chain_state_of links) command ≡ Ok size
    → AreLinks (bytes ++ command_bytes (chain_state_of links) command) (links_after links command) × HoldsLinks (links_after links command) (add recording command)

abbrev pub AddsSome : Type 0
AddsSome = (bytes : List ℕ) (links : Links) (recording : Recording) (command : Command) (size : ℕ) → IsCommand command → AreLinks bytes links → HoldsLinks links recording → decision (chain_state_of links) command ≡ Ok size
    → 0 < length (pages_of_command (chain_state_of links) command)

abbrev pub AddsPages : Type 0
AddsPages = (bytes : List ℕ) (links : Links) (recording : Recording) (command : Command) (size : ℕ) → IsCommand command → AreLinks bytes links → HoldsLinks links recording → decision (chain_state_of links) command ≡ Ok size
    → AllByRecursion IsPage (pages_of_command (chain_state_of links) command)

at_links : (chain : ChainState) (links : Links) (command : Command) (size : ℕ) → chain ≡ chain_state_of links → decision chain command ≡ Ok size → decision (chain_state_of links) command ≡ Ok size
at_links chain links command size is kept = ap (λ (s : ChainState). decision s command) (sym is) ∙ kept

pub chain_grows : AddsPackets → (bytes : List ℕ) (chain new : ChainState) (command : Command) (size : ℕ) → HoldsChain bytes chain → IsCommand command → decision chain command ≡ Ok size
    → ((links : Links) → chain ≡ chain_state_of links → new ≡ chain_state_of (links_after links command)) → HoldsChain (bytes ++ command_bytes chain command) new
chain_grows law bytes chain new command size h is kept accept =
    let held = law bytes h.links h.recording command size is h.are_links h.holds (at_links chain h.links command size h.chain_is kept) in
    record {
      links = links_after h.links command;
      recording = add h.recording command;
      chain_is = accept h.links h.chain_is;
      are_links = subst (λ (s : ChainState). AreLinks (bytes ++ command_bytes s command) (links_after h.links command)) (sym h.chain_is) held.0;
      holds = held.1;
    }

-- the chain is that of whichever links hold the recording
its_chain : (bytes : List ℕ) (chain : ChainState) (recording : Recording) → HoldsChain bytes chain → (held : Holds bytes recording) → chain ≡ chain_state_of held.0
its_chain bytes chain recording h held = h.chain_is ∙ ap chain_state_of (one_chain bytes h.links held.0 h.are_links held.1)

pub holds_grow : AddsPackets → (bytes : List ℕ) (chain : ChainState) (recording : Recording) (command : Command) (size : ℕ) → HoldsChain bytes chain → Holds bytes recording → IsCommand command → decision chain command ≡ Ok size
    → Holds (bytes ++ command_bytes chain command) (add recording command)
holds_grow law bytes chain recording command size h held is kept =
    let here : chain ≡ chain_state_of held.0 = its_chain bytes chain recording h held in
    let more = law bytes held.0 recording command size is held.1 held.2 (at_links chain held.0 command size here kept) in
    (links_after held.0 command, subst (λ (s : ChainState). AreLinks (bytes ++ command_bytes s command) (links_after held.0 command)) (sym here) more.0, more.1)

is_ok : (r : Result ℕ Refusal) (size : ℕ) → r ≡ Ok size → IsOk r
is_ok r size same = subst IsOk (sym same) refl

pub accepts_here : (bytes : List ℕ) (chain : ChainState) (recording : Recording) (command : Command) (size : ℕ) → HoldsChain bytes chain → Holds bytes recording → IsCommand command → decision chain command ≡ Ok size → Accepts recording command
accepts_here bytes chain recording command size h held is kept =
    (bytes, held, is, is_ok (decision (chain_state_of held.0) command) size (at_links chain held.0 command size (its_chain bytes chain recording h held) kept))

-- ---- its pages
pub command_pages : AddsPages → (chain : ChainState) (command : Command) (size : ℕ) → IsWholeChain chain → IsCommand command → decision chain command ≡ Ok size → AllByRecursion IsPage (pages_of_command chain command)
command_pages law chain command size (bytes, h) is kept =
    subst (λ (s : ChainState). AllByRecursion IsPage (pages_of_command s command)) (sym h.chain_is) (law bytes h.links h.recording command size is h.are_links h.holds (at_links chain h.links command size h.chain_is kept))

pub command_some : AddsSome → (chain : ChainState) (command : Command) (size : ℕ) → IsWholeChain chain → IsCommand command → decision chain command ≡ Ok size → 0 < length (pages_of_command chain command)
command_some law chain command size (bytes, h) is kept =
    subst (λ (s : ChainState). 0 < length (pages_of_command s command)) (sym h.chain_is) (law bytes h.links h.recording command size is h.are_links h.holds (at_links chain h.links command size h.chain_is kept))

bytes_some : (pages : List Page) → 0 < length pages → 0 < length (bytes_of_pages pages)
bytes_some [] some = absurd (omega (arith, some))
bytes_some (page ∷ pages) some = omega (arith, length-append (page_bytes page) (bytes_of_pages pages), length-page_bytes page)

pub command_long : AddsSome → (chain : ChainState) (command : Command) (size : ℕ) → IsWholeChain chain → IsCommand command → decision chain command ≡ Ok size → 0 < length (command_bytes chain command)
command_long law chain command size whole is kept = bytes_some (pages_of_command chain command) (command_some law chain command size whole is kept)

pages_closed : (pages : List ℕ) → pages_in (pages ++ 0 ∷ []) ≡ pages
pages_closed pages = take_at pages (0 ∷ []) (length (pages ++ 0 ∷ []) - 1) (omega (arith, length-append pages (0 ∷ [])))

-- pages and one closed byte
pub is_append : (pages bytes : List ℕ) → ArePages pages → 0 < length pages → bytes ≡ pages ++ 0 ∷ [] → IsAppend bytes
is_append pages bytes are some whole = subst IsAppend (sym whole) (record {
  pages = subst ArePages (sym (pages_closed pages)) are;
  some = λ none. absurd (omega (arith, some, ap length (sym (pages_closed pages) ∙ none)));
  closed = ap (λ (l : List ℕ). l ++ 0 ∷ []) (sym (pages_closed pages));
})

-- the pages of a command, and one closed byte
pub pages_append : (pages : List Page) (bytes : List ℕ) → AllByRecursion IsPage pages → 0 < length pages → bytes ≡ bytes_of_pages pages ++ 0 ∷ [] → IsAppend bytes
pages_append pages bytes are some whole = is_append (bytes_of_pages pages) bytes (record { pages = pages; are_pages = are; spelled = refl }) (bytes_some pages some) whole
