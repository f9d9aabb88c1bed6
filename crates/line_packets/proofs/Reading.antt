-- How an input is read on, and what is recorded of it at its end.
use Rattle.std.proofs.Common.{◌≡◌, ◌≢◌, arith, inl, inr, ℕ, Bool, true, false, List, [], ◌∷◌, ◌++◌, map, refl, ap, sym, subst, ◌∙◌, append_assoc, append-nil}
use Rattle.std.specs.List.{AllByRecursion, flat_map, fold}
use Rattle.std.proofs.lemmas.List.Sums.{fold-append}
use Rattle.std.proofs.lemmas.Grind.{flat_map-append}
use Rattle.ogg_command.specs.Command.{IsCommand}
use Rattle.ogg_command.specs.declared.command.Command.{Command}
use Rattle.ogg_command.specs.declared.command.Entry.{Entry}
use Rattle.link_chain.specs.ChainState.{ChainState}
use Rattle.chain_rules.specs.Commands.{AreKept, bytes_of_commands}
use Rattle.chain_rules.specs.Recording.{Holds, Stream, add, after, begun_link, with_packet}
use Rattle.line_packets.specs.Lines.{lines_from, rest_from}
use Rattle.line_packets.specs.Placing.{entries_of}
use Rattle.line_packets.specs.Pages.{HasEnded, HasPut, HasRead, HoldsLines, Taken, entries_in, ended_by, lines_in, put_of, recorded}
use Rattle.line_packets.specs.declared.streams.Streams.{Streams}
use Rattle.line_packets.proofs.Cutting.{lines_from-append, rest_from-append}

-- a piece more has come
pub goes_on : (input line piece : List ℕ) (taken : List Taken) → HasRead input taken line [] → HasRead (input ++ piece) taken line piece
goes_on input line piece taken read = record {
  lines_are = lines_from-append [] input piece ∙ ap (λ front. front ++ lines_from (rest_from [] input) piece) (read.lines_are ∙ append-nil (flat_map lines_in taken))
      ∙ ap (λ rest. flat_map lines_in taken ++ lines_from rest piece) read.rest_is;
  rest_is = rest_from-append [] input piece ∙ ap (λ rest. rest_from rest piece) read.rest_is;
}

-- these lines were taken too
with_last : (f : Taken → List (List ℕ)) (taken : List Taken) (last : Taken) → flat_map f (taken ++ last ∷ []) ≡ flat_map f taken ++ f last
with_last f taken last = flat_map-append f taken (last ∷ []) ∙ ap (λ l. flat_map f taken ++ l) (append-nil (f last))

module _ (streams : Streams) (taken : List Taken) (position : ℕ) (done : List (List ℕ)) where
  pub read_on : (input line piece next rest : List ℕ) → HasRead input taken line piece → lines_from line piece ≡ done ++ lines_from next rest
      → rest_from line piece ≡ rest_from next rest → HasRead input (taken ++ (position, done) ∷ []) next rest
  read_on input line piece next rest read lines_are rest_is = record {
    lines_are = read.lines_are ∙ ap (λ more. flat_map lines_in taken ++ more) lines_are
        ∙ sym (append_assoc (flat_map lines_in taken) done (lines_from next rest))
        ∙ ap (λ front. front ++ lines_from next rest) (sym (with_last lines_in taken (position, done)));
    rest_is = read.rest_is ∙ rest_is;
  }

  pub entries_on : (entries : List Entry) → entries ≡ flat_map (entries_of streams position) done
      → flat_map (entries_in streams) taken ++ entries ≡ flat_map (entries_in streams) (taken ++ (position, done) ∷ [])
  entries_on entries are = ap (λ more. flat_map (entries_in streams) taken ++ more) (are ∙ sym (append-nil (flat_map (entries_of streams position) done)))
      ∙ sym (flat_map-append (entries_in streams) taken ((position, done) ∷ []))

-- what puts add to a link
puts_add : (link : List Stream) (puts : List (List Entry))
    → fold add (link ∷ []) (map put_of puts) ≡ fold with_packet link (flat_map (λ (put : List Entry). put) puts) ∷ []
puts_add link [] = refl
puts_add link (put ∷ puts) = puts_add (fold with_packet link put) puts
    ∙ ap (λ (streams : List Stream). streams ∷ []) (sym (fold-append with_packet link put (flat_map (λ (put : List Entry). put) puts)))

module _ (media : List ℕ) (streams : Streams)
    (law : (commands : List Command) → AllByRecursion IsCommand commands → AreKept [] commands → Holds (bytes_of_commands [] commands) (after [] commands)) where
  pub holds : (taken : List Taken) (is : Bool) (chain : ChainState) (pages : List ℕ)
      → HasPut media streams is chain (flat_map (entries_in streams) taken) pages → HoldsLines media streams taken pages
  holds taken false chain pages put = inl (put.are_puts.1, put.pages_are ∙ ap (bytes_of_commands []) put.are_puts.0)
  holds taken true chain pages put =
      let are = put.are_puts in
      let all : Holds (bytes_of_commands [] put.commands) (after [] put.commands) = law put.commands put.fit put.kept in
      let recording : after [] put.commands ≡ recorded are.1 (flat_map (entries_in streams) taken) =
      ap (after []) are.4 ∙ puts_add (begun_link are.1.skeleton are.1.streams) are.3
      ∙ ap (λ (entries : List Entry). fold with_packet (begun_link are.1.skeleton are.1.streams) entries ∷ []) (sym are.5) in
      inr (
        are.0,
        are.1,
        are.2,
        subst (λ (bytes : List ℕ). Holds bytes (recorded are.1 (flat_map (entries_in streams) taken))) (sym put.pages_are)
            (subst (Holds (bytes_of_commands [] put.commands)) recording all),
      )

  -- the last line was taken, if there is one
  pub ends : (input line : List ℕ) (taken : List Taken) → HasRead input taken line [] → (position : ℕ) (entries : List Entry)
      → entries ≡ flat_map (entries_of streams position) (ended_by line) → (is : Bool) (chain : ChainState) (pages : List ℕ)
      → HasPut media streams is chain (flat_map (entries_in streams) taken ++ entries) pages
      → HasEnded media streams input (taken ++ (position, ended_by line) ∷ []) pages
  ends input line taken read position entries are is chain pages put =
      let now : List Taken = taken ++ (position, ended_by line) ∷ [] in
      record {
        lines_are = ap (λ front. front ++ ended_by (rest_from [] input)) (read.lines_are ∙ append-nil (flat_map lines_in taken))
            ∙ ap (λ rest. flat_map lines_in taken ++ ended_by rest) read.rest_is
            ∙ sym (with_last lines_in taken (position, ended_by line));
        holds = holds now is chain pages (subst (λ (all : List Entry). HasPut media streams is chain all pages)
            (entries_on streams taken position (ended_by line) entries are) put);
      }

-- the same of another name for the streams
pub has_put_on : (media : List ℕ) (streams other : Streams) (is : Bool) (chain : ChainState) (taken : List Taken) (position : ℕ) (done : List (List ℕ))
    (entries : List Entry) (pages : List ℕ) → other ≡ streams → entries ≡ flat_map (entries_of streams position) done
    → HasPut media other is chain (flat_map (entries_in streams) taken ++ entries) pages
    → HasPut media other is chain (flat_map (entries_in other) (taken ++ (position, done) ∷ [])) pages
has_put_on media streams other is chain taken position done entries pages others are put =
    subst (λ (all : List Entry). HasPut media other is chain all pages)
    (entries_on streams taken position done entries are ∙ ap (λ (s : Streams). flat_map (entries_in s) (taken ++ (position, done) ∷ [])) (sym others)) put

-- the entry of what follows the last line feed, if something does
pub last_line : (streams : Streams) (position : ℕ) (line : List ℕ) (old new : List Entry) → old ≡ [] → (line ≡ [] → new ≡ old)
    → (line ≢ [] → new ≡ old ++ entries_of streams position line) → new ≡ flat_map (entries_of streams position) (ended_by line)
last_line streams position [] old new none empty last = empty refl ∙ none
last_line streams position (byte ∷ line) old new none empty last = last some
    ∙ ap (λ (l : List Entry). l ++ entries_of streams position (byte ∷ line)) none ∙ sym (append-nil (entries_of streams position (byte ∷ line)))
  where
    some : byte ∷ line ≢ []
    some is = grind (arith, is)
