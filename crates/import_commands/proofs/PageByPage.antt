-- Commands are known page by page.
use Rattle.std.proofs.Common.{◌≡◌, ℕ, ◌+◌, ◌-◌, List, [], ◌∷◌, ◌++◌, length, take, drop, refl, sym, ◌∙◌, ap, subst, arith, append_assoc, append-nil}
use Rattle.std.specs.Prelude.{nat_eq}
use Rattle.std.proofs.lemmas.List.Elements.{filter-append}
use Rattle.ogg_page.specs.Page.{Page}
use Rattle.ogg_page.specs.LogicalStream.{HoldsPackets}
use Rattle.packetiser.specs.Run.{packets_ended}
use Rattle.link_chain.specs.Links.{pages_with}
use Rattle.link_chain.specs.Recording.{Stream}
use Rattle.ogg_command.specs.declared.command.Command.{Command}
use Rattle.import_commands.specs.Commands.{packets_of, ended_in, page_packets, page_commands, pages_commands}
use Rattle.import_commands.proofs.AddUp.{dropped_take, ended_more, ended_here}
use Rattle.import_commands.proofs.Front.{front_first}

-- the commands of one more page come after those of the pages before
pub in_turn : (headers : ℕ → ℕ) (streams : List Stream) (before pages : List Page) (page : Page) →
    pages_commands headers streams before (pages ++ page ∷ []) ≡ pages_commands headers streams before pages ++ page_commands headers streams (before ++ pages) page
in_turn headers streams before [] page =
    append-nil (page_commands headers streams before page) ∙ ap (λ (l : List Page). page_commands headers streams l page) (sym (append-nil before))
in_turn headers streams before (first ∷ pages) page =
    let own : List Command = page_commands headers streams before first in
    ap (λ (l : List Command). own ++ l) (in_turn headers streams (before ++ first ∷ []) pages page)
    ∙ ap (λ (l : List Page). own ++ (pages_commands headers streams (before ++ first ∷ []) pages ++ page_commands headers streams l page)) (append_assoc before (first ∷ []) pages)
    ∙ sym (append_assoc own (pages_commands headers streams (before ++ first ∷ []) pages) (page_commands headers streams (before ++ first ∷ pages) page))

-- the packets that end in a page are those of the pages so far, without those of the pages before it
pub known_by_now : (headers : ℕ → ℕ) (streams : List Stream) (before after : List Page) (page : Page) (packets now : List (List ℕ)) (segments later : ℕ) (rest left : List ℕ) →
    HoldsPackets (pages_with page.serial before) packets segments rest → HoldsPackets (pages_with page.serial (before ++ page ∷ [])) now later left →
    HoldsPackets (pages_with page.serial (before ++ page ∷ after)) (packets_of streams page.serial) 0 [] →
    page_packets headers streams before page ≡ drop (headers page.serial - length packets) (drop (length packets) now)
known_by_now headers streams before after page packets now segments later rest left h next whole =
    let s : ℕ = page.serial in
    let test = λ (p : Page). nat_eq p.serial s in
    let all : List (List ℕ) = packets_of streams s in
    let a : ℕ = ended_in before s in
    let n : ℕ = packets_ended page.lacing in
    let first_split : pages_with s (before ++ page ∷ after) ≡ pages_with s before ++ pages_with s (page ∷ after) = filter-append test before (page ∷ after) in
    let next_split : pages_with s (before ++ page ∷ after) ≡ pages_with s (before ++ page ∷ []) ++ pages_with s after =
    ap (pages_with s) (sym (append_assoc before (page ∷ []) after)) ∙ filter-append test (before ++ page ∷ []) after in
    let so_far = front_first (pages_with s before) (pages_with s (page ∷ after)) packets all segments rest h
    (subst (λ (l : List Page). HoldsPackets l all 0 []) first_split whole) in
    let by_now = front_first (pages_with s (before ++ page ∷ [])) (pages_with s after) now all later left next
    (subst (λ (l : List Page). HoldsPackets l all 0 []) next_split whole) in
    let count : a ≡ length packets = so_far.1 in
    let more : a + n ≡ length now = sym (ended_more before page s ∙ ap (λ m. a + m) (ended_here s page refl)) ∙ by_now.1 in
    let less : n ≡ (a + n) - a = omega arith in
    let here : take n (drop a all) ≡ drop (length packets) now =
    ap (λ m. take m (drop a all)) less ∙ sym (dropped_take a (a + n) all) ∙ ap (λ m. drop a (take m all)) more ∙ ap (drop a) by_now.0 ∙ ap (λ m. drop m now) count in
    ap (λ l. drop (headers s - a) l) here ∙ ap (λ m. drop (headers s - m) (drop (length packets) now)) count
