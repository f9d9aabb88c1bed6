-- The numbers of these commands are in their fields' ranges, and if none is refused they make what the links hold.
use Rattle.std.proofs.Common.{ℕ, zero, suc, ◌-◌, ◌<◌, ◌^◌, pos, List, [], ◌∷◌, ◌++◌, map, take, drop, sym, ◌∙◌, subst, arith, append-nil, FitsSigned}
use Rattle.std.specs.Prelude.{nat_eq}
use Rattle.std.specs.Int.{w64}
use Rattle.std.specs.List.{AllByRecursion, AllZip, filter, concat}
use Rattle.std.proofs.lemmas.Bool.{cond_both}
use Rattle.ogg_page.specs.Page.{Page, IsPage, IsByte}
use Rattle.ogg_page.specs.LogicalStream.{joined_bodies, is_first, is_last}
use Rattle.packetiser.specs.Run.{packets_ended}
use Rattle.link_chain.specs.Links.{AreLinks, pages_with, serials_of}
use Rattle.chain_rules.specs.Recording.{Stream, Recording, HoldsStream, HoldsLink, HoldsLinks, Holds, after}
use Rattle.ogg_command.specs.Command.{IsCommand, IsNewStream, IsEntry}
use Rattle.chain_rules.specs.Commands.{AreKept, bytes_of_commands}
use Rattle.ogg_command.specs.declared.command.Command.TheVariants.{End as EndOf}
use Rattle.ogg_command.specs.declared.command.Entry.{Entry}
use Rattle.link_chain.specs.Laws.Grow.{all_filter}
use Rattle.link_chain.specs.Laws.LastLink.{all_split}
use Rattle.ogg_command.specs.declared.command.Command.{Command}
use Rattle.import_commands.specs.Commands.{packets_of, ended_in, page_packets, entry_of, put_of, end_of, page_commands, pages_commands, new_stream, link_commands, commands_of}
use Rattle.import_commands.proofs.AddUp.{add_up}
use Rattle.ogg_page.specs.Laws.PageBytes.{all_both}

-- ---- lists
pub all_taken : {A : Type 0} (P : A → Type 0) (n : ℕ) (xs : List A) → AllByRecursion P xs → AllByRecursion P (take n xs)
all_taken P zero xs h = tt
all_taken P (suc n) [] h = tt
all_taken P (suc n) (x ∷ xs) h = (h.0, all_taken P n xs h.1)

pub all_dropped : {A : Type 0} (P : A → Type 0) (n : ℕ) (xs : List A) → AllByRecursion P xs → AllByRecursion P (drop n xs)
all_dropped P zero xs h = h
all_dropped P (suc n) [] h = tt
all_dropped P (suc n) (x ∷ xs) h = all_dropped P n xs h.1

pub all_mapped : {A B : Type 0} (P : B → Type 0) (Q : A → Type 0) (f : A → B) → ((x : A) → Q x → P (f x)) → (xs : List A) → AllByRecursion Q xs → AllByRecursion P (map f xs)
all_mapped P Q f h [] all = tt
all_mapped P Q f h (x ∷ xs) all = (h x all.0, all_mapped P Q f h xs all.1)

-- ---- streams
abbrev AreBytes : List ℕ → Type 0
AreBytes packet = AllByRecursion IsByte packet

pub record IsStream (stream : Stream) : Type 0 where
  pub serial : stream.serial < 2 ^ 32
  pub packets : AllByRecursion AreBytes stream.packets

bodies_bytes : (pages : List Page) → AllByRecursion IsPage pages → AreBytes (joined_bodies pages)
bodies_bytes [] all = tt
bodies_bytes (page ∷ pages) all = all_both IsByte page.body (joined_bodies pages) all.0.body (bodies_bytes pages all.1)

packets_bytes : (packets : List (List ℕ)) → AreBytes (concat packets) → AllByRecursion AreBytes packets
packets_bytes [] h = tt
packets_bytes (packet ∷ packets) h =
    let both : AreBytes packet × AreBytes (concat packets) = all_split IsByte packet (concat packets) h in
    (both.0, packets_bytes packets both.1)

is_stream : (link : List Page) (serial : ℕ) (stream : Stream) → AllByRecursion IsPage link → serial < 2 ^ 32 → HoldsStream link serial stream → IsStream stream
is_stream link serial stream all small h = record {
  serial = subst (λ n. n < 2 ^ 32) (sym h.serial_is) small;
  packets = packets_bytes stream.packets
      (subst AreBytes (h.packets.bodies ∙ append-nil (concat stream.packets))
      (bodies_bytes (pages_with serial link) (all_filter IsPage (λ (p : Page). nat_eq p.serial serial) link all)));
}

pub are_streams : (link : List Page) (serials : List ℕ) (streams : List Stream) → AllByRecursion IsPage link → AllByRecursion (λ n. n < 2 ^ 32) serials →
    AllZip (HoldsStream link) serials streams → AllByRecursion IsStream streams
are_streams link [] [] all small h = tt
are_streams link [] (s ∷ streams) all small h = tt_of h
  where
    tt_of : ⊥ → AllByRecursion IsStream (s ∷ streams)
    tt_of e = absurd e
are_streams link (n ∷ serials) [] all small h = tt
are_streams link (n ∷ serials) (s ∷ streams) all small h = (is_stream link n s all small.0 h.0, are_streams link serials streams all small.1 h.1)

pub small_serials : (link : List Page) → AllByRecursion IsPage link → AllByRecursion (λ n. n < 2 ^ 32) (serials_of link)
small_serials link all =
    all_mapped (λ n. n < 2 ^ 32) IsPage (λ (p : Page). p.serial) (λ p h. h.serial) (filter is_first link) (all_filter IsPage is_first link all)

own_packets : (streams : List Stream) (serial : ℕ) → AllByRecursion IsStream streams → AllByRecursion AreBytes (packets_of streams serial)
own_packets [] serial h = tt
own_packets (s ∷ streams) serial h =
    cond_both (nat_eq s.serial serial) s.packets (packets_of streams serial) (λ l. AllByRecursion AreBytes l) (λ _. h.0.packets) (λ _. own_packets streams serial h.1)

-- ---- commands
begins : (headers : ℕ → ℕ) (s : Stream) → IsStream s → IsNewStream (new_stream headers s)
begins headers s h = record {
  serial = h.serial;
  headers = all_taken AreBytes (headers s.serial) s.packets h.packets;
  media = tt;
  fields = tt;
  rate = (zero_fits, zero_fits);
  base_granule = zero_fits;
  preroll = omega arith;
  shift = omega arith;
}
  where
    zero_fits : FitsSigned w64 (pos 0)
    zero_fits = omega arith

puts : (entries : List Entry) → AllByRecursion IsEntry entries → AllByRecursion IsCommand (put_of entries)
puts [] h = tt
puts (entry ∷ entries) h = (h, tt)

is_entry : (page : Page) → IsPage page → (packet : List ℕ) → AreBytes packet → IsEntry (entry_of page packet)
is_entry page p packet h = record { serial = p.serial; position = p.position; packet = h }

pub page_is : (headers : ℕ → ℕ) (streams : List Stream) (before : List Page) (page : Page) → AllByRecursion IsStream streams → IsPage page →
    AllByRecursion IsCommand (page_commands headers streams before page)
page_is headers streams before page are p =
    let a : ℕ = ended_in before page.serial in
    let n : ℕ = packets_ended page.lacing in
    let rest : List (List ℕ) = drop a (packets_of streams page.serial) in
    let bytes : AllByRecursion AreBytes (page_packets headers streams before page) =
    all_dropped AreBytes (headers page.serial - a) (take n rest)
    (all_taken AreBytes n rest (all_dropped AreBytes a (packets_of streams page.serial) (own_packets streams page.serial are))) in
    all_both IsCommand (put_of (map (entry_of page) (page_packets headers streams before page))) (end_of page)
    (puts (map (entry_of page) (page_packets headers streams before page))
    (all_mapped IsEntry AreBytes (entry_of page) (is_entry page p) (page_packets headers streams before page) bytes))
    (cond_both (is_last page) (EndOf page.serial ∷ []) [] (λ l. AllByRecursion IsCommand l) (λ _. (p.serial, tt)) (λ _. tt))

pages_are : (headers : ℕ → ℕ) (streams : List Stream) (before pages : List Page) → AllByRecursion IsStream streams → AllByRecursion IsPage pages →
    AllByRecursion IsCommand (pages_commands headers streams before pages)
pages_are headers streams before [] are all = tt
pages_are headers streams before (page ∷ pages) are all =
    all_both IsCommand (page_commands headers streams before page) (pages_commands headers streams (before ++ page ∷ []) pages)
    (page_is headers streams before page are all.0) (pages_are headers streams (before ++ page ∷ []) pages are all.1)

pub link_is : (headers : ℕ → ℕ) (link : List Page) (streams : List Stream) → AllByRecursion IsPage link → HoldsLink link streams →
    AllByRecursion IsCommand (link_commands headers link streams)
link_is headers link streams all h =
    let are : AllByRecursion IsStream streams = are_streams link (serials_of link) streams all (small_serials link all) h in
    ((tt, all_mapped IsNewStream IsStream (new_stream headers) (begins headers) streams are), pages_are headers streams [] link are all)

links_are : (headers : List Stream → ℕ → ℕ) (links : List (List Page)) (recording : Recording) → AllByRecursion (AllByRecursion IsPage) links → HoldsLinks links recording →
    AllByRecursion IsCommand (commands_of headers links recording)
links_are headers [] recording all h = tt
links_are headers (link ∷ links) [] all h = tt
links_are headers (link ∷ links) (r ∷ recording) all h =
    all_both IsCommand (link_commands (headers r) link r) (commands_of headers links recording) (link_is (headers r) link r all.0 h.0) (links_are headers links recording all.1 h.1)

pub are_commands : (headers : List Stream → ℕ → ℕ) (bytes : List ℕ) (links : List (List Page)) (recording : Recording) → AreLinks bytes links → HoldsLinks links recording →
    AllByRecursion IsCommand (commands_of headers links recording)
are_commands headers bytes links recording are h = links_are headers links recording are.pages h

pub are_held : ((commands : List Command) → AllByRecursion IsCommand commands → AreKept [] commands → Holds (bytes_of_commands [] commands) (after [] commands)) →
    (headers : List Stream → ℕ → ℕ) (bytes : List ℕ) (links : List (List Page)) (recording : Recording) → AreLinks bytes links → HoldsLinks links recording →
    AreKept [] (commands_of headers links recording) → Holds (bytes_of_commands [] (commands_of headers links recording)) recording
are_held law headers bytes links recording are h kept =
    subst (λ (r : Recording). Holds (bytes_of_commands [] (commands_of headers links recording)) r) (add_up headers bytes links recording are h)
    (law (commands_of headers links recording) (are_commands headers bytes links recording are h) kept)
