-- What a command more adds to a bitstream of lines.
use Rattle.std.proofs.Common.{◌≡◌, ℕ, Bool, true, false, List, [], ◌∷◌, ◌++◌, length, refl, arith, ap, sym, subst, ◌∙◌, append_assoc, append-nil, IsOk}
use Rattle.std.specs.List.{AllByRecursion, flat_map}
use Rattle.std.proofs.lemmas.List.{map-append}
use Rattle.std.proofs.lemmas.List.Sums.{fold-append}
use Rattle.std.proofs.lemmas.Grind.{flat_map-append}
use Rattle.ogg_page.specs.Page.{Page}
use Rattle.ogg_command.specs.Command.{IsCommand}
use Rattle.ogg_command.specs.declared.command.Begin.{Begin}
use Rattle.ogg_command.specs.declared.command.Command.{Command}
use Rattle.ogg_command.specs.declared.command.Command.TheVariants.{Begin as BeginOf}
use Rattle.ogg_command.specs.declared.command.Entry.{Entry}
use Rattle.link_chain.specs.ChainState.{ChainState, chain_state_of}
use Rattle.chain_rules.specs.Decision.{decision}
use Rattle.chain_rules.specs.Encoding.{command_bytes, links_after}
use Rattle.chain_rules.specs.Commands.{AreKept, bytes_of_commands, links_behind}
use Rattle.line_packets.specs.Begin.{BeginsAt}
use Rattle.line_packets.specs.Bitstream.{Adds}
use Rattle.line_packets.specs.Pages.{ArePuts, HasPut, put_of}
use Rattle.line_packets.specs.declared.streams.Streams.{Streams}

pub none_of : (entries : List Entry) → length entries ≡ 0 → entries ≡ []
none_of [] none = refl
none_of (entry ∷ entries) none = absurd (grind (arith, none))

all_on : {X : Type 0} (P : X → Type 0) (xs : List X) (x : X) → AllByRecursion P xs → P x → AllByRecursion P (xs ++ x ∷ [])
all_on P [] x all last = (last, record {})
all_on P (y ∷ xs) x all last = (all.0, all_on P xs x all.1 last)

kept_on : (links : List (List Page)) (commands : List Command) (command : Command)
    → AreKept links commands → IsOk (decision (chain_state_of (links_behind links commands)) command) → AreKept links (commands ++ command ∷ [])
kept_on links [] command kept ok = (ok, record {})
kept_on links (first ∷ commands) command kept ok = (kept.0, kept_on (links_after links first) commands command kept.1 ok)

bytes_on : (links : List (List Page)) (commands : List Command) (command : Command)
    → bytes_of_commands links (commands ++ command ∷ [])
    ≡ bytes_of_commands links commands ++ command_bytes (chain_state_of (links_behind links commands)) command
bytes_on links [] command = append-nil (command_bytes (chain_state_of links) command)
bytes_on links (first ∷ commands) command =
    ap (λ more. command_bytes (chain_state_of links) first ++ more) (bytes_on (links_after links first) commands command)
    ∙ sym (append_assoc (command_bytes (chain_state_of links) first) (bytes_of_commands (links_after links first) commands)
    (command_bytes (chain_state_of (links_behind (links_after links first) commands)) command))

behind_on : (links : List (List Page)) (commands : List Command) (command : Command)
    → links_behind links (commands ++ command ∷ []) ≡ links_after (links_behind links commands) command
behind_on links commands command = fold-append links_after links commands (command ∷ [])

module _ (media : List ℕ) (streams : Streams) where
  -- the link begins
  begun_now : (time : ℕ) (begin : Begin) → BeginsAt time media streams begin → (commands : List Command) (entries : List Entry)
      → ArePuts media streams false commands entries → ArePuts media streams true (commands ++ BeginOf begin ∷ []) entries
  begun_now time begin begins commands entries are =
      (time, begin, begins, [], ap (λ (front : List Command). front ++ BeginOf begin ∷ []) are.0, are.1)

  -- these are put too
  put_more : (commands : List Command) (entries more : List Entry) (command : Command) → command ≡ put_of more
      → ArePuts media streams true commands entries → ArePuts media streams true (commands ++ command ∷ []) (entries ++ more)
  put_more commands entries more command is are =
      let time : ℕ = are.0 in let begin : Begin = are.1 in let puts : List (List Entry) = are.3 in (
        time,
        begin,
        are.2,
        puts ++ more ∷ [],
        ap (λ (last : Command). commands ++ last ∷ []) is
            ∙ ap (λ (front : List Command). front ++ put_of more ∷ []) are.4
            ∙ ap (λ (behind : List Command). BeginOf begin ∷ behind) (sym (map-append put_of puts (more ∷ []))),
        ap (λ (front : List Entry). front ++ more) are.5
            ∙ ap (λ (behind : List Entry). flat_map (λ (put : List Entry). put) puts ++ behind) (sym (append-nil more))
            ∙ sym (flat_map-append (λ (put : List Entry). put) puts (more ∷ [])),
      )

  -- a command more was added
  pub added : (was is : Bool) (old new : ChainState) (entries now : List Entry) (bytes before after : List ℕ) (command : Command)
      (put : HasPut media streams was old entries bytes) → ((links : List (List Page)) → old ≡ chain_state_of links → Adds links command before after new)
      → IsCommand command
      → (ArePuts media streams was put.commands entries → ArePuts media streams is (put.commands ++ command ∷ []) now)
      → (more : List ℕ) × (after ≡ before ++ more) × HasPut media streams is new now (bytes ++ more)
  added was is old new entries now bytes before after command put adds fits are =
      let links : List (List Page) = links_behind [] put.commands in
      let one : Adds links command before after new = adds links put.chain_is in (
        command_bytes (chain_state_of links) command,
        one.pages,
        record {
          commands = put.commands ++ command ∷ [];
          are_puts = are put.are_puts;
          fit = all_on IsCommand put.commands command put.fit fits;
          kept = kept_on [] put.commands command put.kept one.taken;
          pages_are = ap (λ front. front ++ command_bytes (chain_state_of links) command) put.pages_are ∙ sym (bytes_on [] put.commands command);
          chain_is = one.chain_is ∙ ap chain_state_of (sym (behind_on [] put.commands command));
        },
      )

  pub begins : (time : ℕ) (begin : Begin) → BeginsAt time media streams begin
      → (was : Bool) → was ≡ false → (old new : ChainState) (entries : List Entry) (bytes before after : List ℕ) → HasPut media streams was old entries bytes
      → ((links : List (List Page)) → old ≡ chain_state_of links → Adds links (BeginOf begin) before after new) → IsCommand (BeginOf begin)
      → (more : List ℕ) × (after ≡ before ++ more) × HasPut media streams true new entries (bytes ++ more)
  begins time begin at was begun old new entries bytes before after put adds fits =
      let put : HasPut media streams false old entries bytes = subst (λ (b : Bool). HasPut media streams b old entries bytes) begun put in
      added false true old new entries entries bytes before after (BeginOf begin) put adds fits (begun_now time begin at put.commands entries)

  pub puts : (more_entries : List Entry) (command : Command) → command ≡ put_of more_entries
      → (was : Bool) → was ≡ true → (old new : ChainState) (entries : List Entry) (bytes before after : List ℕ) → HasPut media streams was old entries bytes
      → ((links : List (List Page)) → old ≡ chain_state_of links → Adds links command before after new) → IsCommand command
      → (more : List ℕ) × (after ≡ before ++ more) × HasPut media streams true new (entries ++ more_entries) (bytes ++ more)
  puts more_entries command is was begun old new entries bytes before after put adds fits =
      let put : HasPut media streams true old entries bytes = subst (λ (b : Bool). HasPut media streams b old entries bytes) begun put in
      added true true old new entries (entries ++ more_entries) bytes before after command put adds fits
      (put_more put.commands entries more_entries command is)

  -- nothing is put
  pub same : (is : Bool) (chain : ChainState) (entries more : List Entry) (bytes pages : List ℕ) → more ≡ [] → HasPut media streams is chain entries bytes
      → (added : List ℕ) × (pages ≡ pages ++ added) × HasPut media streams is chain (entries ++ more) (bytes ++ added)
  same is chain entries more bytes pages none put = (
    [],
    sym (append-nil pages),
    subst (λ (all : List Entry). HasPut media streams is chain all (bytes ++ [])) (sym (ap (λ (l : List Entry). entries ++ l) none ∙ append-nil entries))
        (subst (λ (all : List ℕ). HasPut media streams is chain entries all) (sym (append-nil bytes)) put),
  )

-- the same of another name for the streams, and for whether the link has begun
pub moved : (media : List ℕ) (streams other : Streams) (is now : Bool) (chain : ChainState) (entries : List Entry) (bytes before after : List ℕ)
    → other ≡ streams → now ≡ is → (more : List ℕ) × (after ≡ before ++ more) × HasPut media streams is chain entries (bytes ++ more)
    → (more : List ℕ) × (after ≡ before ++ more) × HasPut media other now chain entries (bytes ++ more)
moved media streams other is now chain entries bytes before after others nows put = (
  put.0,
  put.1,
  subst (λ (s : Streams). HasPut media s now chain entries (bytes ++ put.0)) (sym others)
      (subst (λ (b : Bool). HasPut media streams b chain entries (bytes ++ put.0)) (sym nows) put.2),
)

-- bytes were appended twice
pub twice : (P : List ℕ → Type 0) (a b c bytes first : List ℕ) → b ≡ a ++ first → (more : List ℕ) × (c ≡ b ++ more) × P ((bytes ++ first) ++ more)
    → (more : List ℕ) × (c ≡ a ++ more) × P (bytes ++ more)
twice P a b c bytes first is put = (
  first ++ put.0,
  put.1 ∙ ap (λ l. l ++ put.0) is ∙ append_assoc a first put.0,
  subst P (append_assoc bytes first put.0) put.2,
)
