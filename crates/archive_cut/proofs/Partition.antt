-- Cuts side by side are the cut of both parts.
use Rattle.std.proofs.Common.{◌≡◌, ℕ, true, false, List, [], ◌∷◌, ◌++◌, map, refl, sym, ◌∙◌, ap, subst, append_assoc, inl, inr}
use Rattle.std.specs.Prelude.{not, ◌⊎◌, ◌||◌}
use Rattle.std.specs.List.{AllByRecursion, AllZip, fold, list_any}
use Rattle.std.proofs.lemmas.List.{append-nil, map-append}
use Rattle.std.proofs.lemmas.List.Sums.{fold-append}
use Rattle.std.proofs.lemmas.Bool.{cases_Bool, cond-true, cond-false, false≢true}
use Rattle.ogg_page.specs.Page.{Page}
use Rattle.ogg_command.specs.Command.{IsCommand}
use Rattle.ogg_command.specs.declared.command.Command.{Command}
use Rattle.ogg_command.specs.declared.command.Command.TheVariants.{Begin as BeginOf, Put as PutOf, End as EndOf}
use Rattle.link_chain.specs.declared.stream_state.StreamState.{StreamState}
use Rattle.link_chain.specs.ChainState.{chain_state_of, is_open, last_link, state_of}
use Rattle.link_chain.specs.Links.{AreLinks, serials_of}
use Rattle.link_chain.specs.Recording.{Stream, Recording, HoldsLinks, HoldsStream, change_last}
use Rattle.chain_rules.specs.Commands.{AreKept, bytes_of_commands}
use Rattle.chain_rules.specs.Decision.{is_begin}
use Rattle.chain_rules.specs.Encoding.{links_after}
use Rattle.chain_rules.specs.Recording.{add, after, begun_link, with_end, with_packet}
use Rattle.serve_live.specs.Commands.{last_streams}
use Rattle.serve_live.specs.Joining.{heard_streams}
use Rattle.archive_cut.specs.Packets.{all_ended, cut_recording, ended}
use Rattle.archive_cut.specs.Parts.{AreInTurn, Place, all_of, cut_at, is_going, joined_cut, joined_cuts, place_after, place_with, start_of}
use Rattle.archive_cut.proofs.Below.{Adds}
use Rattle.archive_cut.proofs.Between.{after_behind, first_begins}
use Rattle.archive_cut.proofs.Recordings.{GoOnAlike, IsJoinedAt, go_on, heard_ended_alike, last_there, paired_end, paired_put, paired_self}

-- ---- a cut and the file, command by command
record IsStarted (place : Place) (cut : Recording) : Type 0 where
  pub front : Recording
  pub at : IsJoinedAt front place.begun cut

-- Nothing is cut yet, and no link is open. Or the last link of the cut is the file's, with the streams that it began
-- with.
abbrev Follows : Place → Recording → Type 0
Follows place cut = ((is_going place.now ≡ false) × (cut ≡ [])) ⊎ IsStarted place cut

follows_by : (place : Place) (cut : Recording) (command : Command) → (is_going place.now ≡ false → is_begin command ≡ true) → Follows place cut →
    Follows (place_with place command) (add cut command)
follows_by place cut (BeginOf begin) turn f =
    let link : List Stream = begun_link begin.skeleton begin.streams in
    inr (record { front = cut; at = record { joined = link; is = refl; paired = paired_self link } })
follows_by place cut (PutOf put) turn (inl none) = absurd (false≢true (turn none.0))
follows_by place cut (PutOf put) turn (inr s) =
    let change : List Stream → List Stream = λ link. fold with_packet link put.entries in
    inr
    (record {
      front = s.front;
      at = record {
        joined = change s.at.joined;
        is = ap (change_last change) s.at.is ∙ last_there s.front s.at.joined change [];
        paired = paired_put put.entries place.begun s.at.joined s.at.paired;
      };
    })
follows_by place cut (EndOf serial) turn (inl none) = absurd (false≢true (turn none.0))
follows_by place cut (EndOf serial) turn (inr s) =
    inr
    (record {
      front = s.front;
      at = record {
        joined = with_end serial s.at.joined;
        is = ap (change_last (with_end serial)) s.at.is ∙ last_there s.front s.at.joined (with_end serial) [];
        paired = paired_end serial place.begun s.at.joined s.at.paired;
      };
    })

follows : (place : Place) (cut : Recording) (commands : List Command) → AreInTurn place.now commands → Follows place cut →
    Follows (place_after place commands) (after cut commands)
follows place cut [] turn f = f
follows place cut (command ∷ commands) turn f =
    follows (place_with place command) (add cut command) commands turn.1 (follows_by place cut command turn.0 f)

starts : (place : Place) → Follows place (start_of place)
starts place =
    elim (cases_Bool (is_going place.now)) [
      | inl going ↦ inr
          (record {
            front = [];
            at = record {
              joined = place.begun;
              is = cond-true (is_going place.now) (place.begun ∷ []) [] going;
              paired = paired_self place.begun;
            };
          })
      | inr none ↦ inl (none, cond-false (is_going place.now) (place.begun ∷ []) [] none)
    ]

-- ---- commands in turn
pub now_after : (place : Place) (commands : List Command) → (place_after place commands).now ≡ after place.now commands
now_after place [] = refl
now_after place (command ∷ commands) = now_after (place_with place command) commands

turn_front : (recording : Recording) (first second : List Command) → AreInTurn recording (first ++ second) → AreInTurn recording first
turn_front recording [] second turn = tt
turn_front recording (command ∷ first) second turn = (turn.0, turn_front (add recording command) first second turn.1)

turn_back : (recording : Recording) (first second : List Command) → AreInTurn recording (first ++ second) → AreInTurn (after recording first) second
turn_back recording [] second turn = turn
turn_back recording (command ∷ first) second turn = turn_back (add recording command) first second turn.1

-- ---- two cuts
both_open : (begun : List Stream) (front : Recording) (cut : Recording) (second : List Command) → IsJoinedAt front begun cut →
    joined_cut (begun ∷ []) (all_ended cut) (cut_recording (begun ∷ []) second) ≡ all_ended (after cut second)
both_open begun front cut second at =
    let g : GoOnAlike front begun at.joined (after (front ++ at.joined ∷ []) second) (after (begun ∷ []) second) = go_on front begun at.joined second at.paired in
    let change : List Stream → List Stream = λ old. heard_streams old begun (map ended g.fresh) in
    ap (λ r. joined_cut (begun ∷ []) (all_ended cut) (all_ended r)) g.new_is
    ∙ ap (λ r. change_last change r ++ all_ended g.more) (ap all_ended at.is ∙ map-append (map ended) front (at.joined ∷ []))
    ∙ ap (λ r. r ++ all_ended g.more) (last_there (all_ended front) (map ended at.joined) change [])
    ∙ append_assoc (all_ended front) (change (map ended at.joined) ∷ []) (all_ended g.more)
    ∙ ap (λ l. all_ended front ++ l ∷ all_ended g.more) (heard_ended_alike begun at.joined g.now g.fresh g.alike)
    ∙ sym (map-append (map ended) front (g.now ∷ g.more))
    ∙ ap all_ended (sym g.old_is)
    ∙ ap (λ r. all_ended (after r second)) (sym at.is)

both_closed : (cut now : Recording) (second : List Command) → is_going now ≡ false → AreInTurn now second →
    all_ended cut ++ cut_recording [] second ≡ all_ended (after cut second)
both_closed cut now [] none turn = append-nil (all_ended cut)
both_closed cut now (BeginOf begin ∷ second) none turn =
    let link : List Stream = begun_link begin.skeleton begin.streams in
    sym (map-append (map ended) cut (after (link ∷ []) second)) ∙ ap all_ended (sym (after_behind cut link [] second))
both_closed cut now (PutOf put ∷ second) none turn = absurd (false≢true (turn.0 none))
both_closed cut now (EndOf serial ∷ second) none turn = absurd (false≢true (turn.0 none))

pub both_parts : (place : Place) (first second : List Command) → AreInTurn place.now (first ++ second) →
    joined_cut (start_of (place_after place first)) (cut_at place first) (cut_at (place_after place first) second) ≡ cut_at place (first ++ second)
both_parts place first second turn =
    let next : Place = place_after place first in
    let cut : Recording = after (start_of place) first in
    let whole : after (start_of place) (first ++ second) ≡ after cut second = fold-append add (start_of place) first second in
    let turn_second : AreInTurn next.now second =
    subst (λ (r : Recording). AreInTurn r second) (sym (now_after place first)) (turn_back place.now first second turn) in
    let f : Follows next cut = follows place (start_of place) first (turn_front place.now first second turn) (starts place) in
    elim (cases_Bool (is_going next.now)) [
      | inl going ↦
          (let start : start_of next ≡ next.begun ∷ [] = cond-true (is_going next.now) (next.begun ∷ []) [] going in
          let by : Follows next cut → joined_cut (next.begun ∷ []) (all_ended cut) (cut_recording (next.begun ∷ []) second) ≡ all_ended (after cut second) =
          λ f. elim f [
            | inl none ↦ absurd (false≢true (sym none.0 ∙ going))
            | inr s ↦ both_open next.begun s.front cut second s.at
          ] in
          ap (λ s. joined_cut s (all_ended cut) (cut_recording s second)) start ∙ by f ∙ ap all_ended (sym whole))
      | inr none ↦
          (let start : start_of next ≡ [] = cond-false (is_going next.now) (next.begun ∷ []) [] none in
          ap (λ s. joined_cut s (all_ended cut) (cut_recording s second)) start ∙ both_closed cut next.now second none turn_second ∙ ap all_ended (sym whole))
    ]

-- ---- two cuts among those of other files
around_open : (begun : List Stream) (front : Recording) (before later cut : Recording) (second : List Command) → IsJoinedAt front begun cut →
    joined_cut (begun ∷ []) (before ++ all_ended cut) (cut_recording (begun ∷ []) second ++ later)
    ≡ before ++ (joined_cut (begun ∷ []) (all_ended cut) (cut_recording (begun ∷ []) second) ++ later)
around_open begun front before later cut second at =
    let g : GoOnAlike front begun at.joined (after (front ++ at.joined ∷ []) second) (after (begun ∷ []) second) = go_on front begun at.joined second at.paired in
    let change : List Stream → List Stream = λ old. heard_streams old begun (map ended g.fresh) in
    let last : List Stream = map ended at.joined in
    let own : all_ended cut ≡ all_ended front ++ last ∷ [] = ap all_ended at.is ∙ map-append (map ended) front (at.joined ∷ []) in
    let parted : change_last change (all_ended cut) ≡ all_ended front ++ change last ∷ [] =
    ap (change_last change) own ∙ last_there (all_ended front) last change [] in
    ap (λ r. joined_cut (begun ∷ []) (before ++ all_ended cut) (all_ended r ++ later)) g.new_is
    ∙ ap (λ r. change_last change (before ++ r) ++ (all_ended g.more ++ later)) own
    ∙ ap (λ r. change_last change r ++ (all_ended g.more ++ later)) (sym (append_assoc before (all_ended front) (last ∷ [])))
    ∙ ap (λ r. r ++ (all_ended g.more ++ later)) (last_there (before ++ all_ended front) last change [] ∙ append_assoc before (all_ended front) (change last ∷ []))
    ∙ append_assoc before (all_ended front ++ change last ∷ []) (all_ended g.more ++ later)
    ∙ ap (λ r. before ++ r) (sym (append_assoc (all_ended front ++ change last ∷ []) (all_ended g.more) later))
    ∙ ap (λ r. before ++ ((r ++ all_ended g.more) ++ later)) (sym parted)
    ∙ ap (λ r. before ++ (joined_cut (begun ∷ []) (all_ended cut) (all_ended r) ++ later)) (sym g.new_is)

around_closed : (before first second later : Recording) → (before ++ first) ++ (second ++ later) ≡ before ++ ((first ++ second) ++ later)
around_closed before first second later =
    append_assoc before first (second ++ later) ∙ ap (λ r. before ++ r) (sym (append_assoc first second later))

pub both_among : (before later : Recording) (place : Place) (first second : List Command) → AreInTurn place.now (first ++ second) →
    joined_cut (start_of (place_after place first)) (before ++ cut_at place first) (cut_at (place_after place first) second ++ later)
    ≡ before ++ (cut_at place (first ++ second) ++ later)
both_among before later place first second turn =
    let next : Place = place_after place first in
    let cut : Recording = after (start_of place) first in
    let f : Follows next cut = follows place (start_of place) first (turn_front place.now first second turn) (starts place) in
    let sum = ap (λ r. before ++ (r ++ later)) (both_parts place first second turn) in
    elim (cases_Bool (is_going next.now)) [
      | inl going ↦
          (let start : start_of next ≡ next.begun ∷ [] = cond-true (is_going next.now) (next.begun ∷ []) [] going in
          let by : Follows next cut → joined_cut (next.begun ∷ []) (before ++ all_ended cut) (cut_recording (next.begun ∷ []) second ++ later)
          ≡ before ++ (joined_cut (next.begun ∷ []) (all_ended cut) (cut_recording (next.begun ∷ []) second) ++ later) =
          λ f. elim f [
            | inl none ↦ absurd (false≢true (sym none.0 ∙ going))
            | inr s ↦ around_open next.begun s.front before later cut second s.at
          ] in
          ap (λ s. joined_cut s (before ++ all_ended cut) (cut_recording s second ++ later)) start ∙ by f
          ∙ ap (λ s. before ++ (joined_cut s (all_ended cut) (cut_recording s second) ++ later)) (sym start) ∙ sum)
      | inr none ↦
          (let start : start_of next ≡ [] = cond-false (is_going next.now) (next.begun ∷ []) [] none in
          ap (λ s. joined_cut s (before ++ all_ended cut) (cut_recording s second ++ later)) start
          ∙ around_closed before (all_ended cut) (cut_recording [] second) later
          ∙ ap (λ s. before ++ (joined_cut s (all_ended cut) (cut_recording s second) ++ later)) (sym start) ∙ sum)
    ]

-- ---- any parts
pub all_parts : (place : Place) (parts : List (List Command)) → AreInTurn place.now (all_of parts) → joined_cuts place parts ≡ cut_at place (all_of parts)
all_parts place [] turn = refl
all_parts place (part ∷ parts) turn =
    let next : Place = place_after place part in
    let later : AreInTurn next.now (all_of parts) =
    subst (λ (r : Recording). AreInTurn r (all_of parts)) (sym (now_after place part)) (turn_back place.now part (all_of parts) turn) in
    ap (joined_cut (start_of next) (cut_at place part)) (all_parts next parts later) ∙ both_parts place part (all_of parts) turn

-- ---- commands that are kept come in turn
last_held : (links : List (List Page)) (recording : Recording) → HoldsLinks links recording → AllZip (HoldsStream (last_link links)) (serials_of (last_link links)) (last_streams recording)
last_held [] [] h = tt
last_held [] (r ∷ recording) h = absurd h
last_held (link ∷ links) [] h = absurd h
last_held (link ∷ []) (r ∷ []) h = h.0
last_held (link ∷ []) (r ∷ s ∷ recording) h = absurd h.1
last_held (link ∷ next ∷ links) (r ∷ []) h = absurd h.1
last_held (link ∷ next ∷ links) (r ∷ s ∷ recording) h = last_held (next ∷ links) (s ∷ recording) h.1

alike_open : (link : List Page) (serials : List ℕ) (streams : List Stream) → AllZip (HoldsStream link) serials streams →
    list_any (λ (s : Stream). not s.ended) streams ≡ list_any (λ (s : StreamState). not s.ended) (map (state_of link) serials)
alike_open link [] [] h = refl
alike_open link [] (s ∷ streams) h = absurd h
alike_open link (serial ∷ serials) [] h = absurd h
alike_open link (serial ∷ serials) (stream ∷ streams) h =
    ap (λ b. not b || list_any (λ (s : Stream). not s.ended) streams) h.0.ended
    ∙ ap (λ b. not (state_of link serial).ended || b) (alike_open link serials streams h.1)

pub going_is : (links : List (List Page)) (recording : Recording) → HoldsLinks links recording → is_going recording ≡ is_open (chain_state_of links)
going_is links recording h = alike_open (last_link links) (serials_of (last_link links)) (last_streams recording) (last_held links recording h)

pub in_turn : Adds → (bytes : List ℕ) (links : List (List Page)) (recording : Recording) (commands : List Command) → AllByRecursion IsCommand commands →
    AreLinks bytes links → HoldsLinks links recording → AreKept links commands → AreInTurn recording commands
in_turn adds bytes links recording [] cs l h kept = tt
in_turn adds bytes links recording (command ∷ commands) cs l h kept =
    let one = adds bytes links recording (command ∷ []) (cs.0, tt) l h (kept.0, tt) in (
      λ none. first_begins (chain_state_of links) command (sym (going_is links recording h) ∙ none) kept.0,
      in_turn adds (bytes ++ bytes_of_commands links (command ∷ [])) (links_after links command) (add recording command) commands cs.1 one.0 one.1 kept.1,
    )
