-- A hub's machine, and the places of its listeners.
use Rattle.std.proofs.Common.{◌≡◌, ℕ, ◌≤◌, Bool, true, false, Option, Some, None, IsOk, Result, Ok, Err, List, [], ◌∷◌, ◌++◌, length, refl, sym, ◌∙◌, ap, subst, inl, inr, append_assoc, append-nil, length-append, arith}
use Rattle.std.specs.Prelude.{nat_lt, not, ◌||◌, is_some}
use Rattle.std.proofs.lemmas.Bool.{cond-false}
use Rattle.std.proofs.lemmas.Bool.Decides.{leb_tells, nat_tests}
use Rattle.ogg_page.specs.Page.{Page}
use Rattle.link_chain.specs.ChainState.{chain_state_of}
use Rattle.ogg_page.specs.Laws.PageBytes.{all_both}
use Rattle.link_chain.specs.Links.{AreLinks}
use Rattle.ogg_command.specs.Command.{IsCommand}
use Rattle.ogg_command.specs.declared.command.Command.{Command}
use Rattle.ogg_command.specs.declared.refusal.Refusal.{Refusal}
use Rattle.ogg_command.specs.declared.refusal.Refusal.TheVariants.{Failed as FailedOf, Memory as NoRoom, Disk}
use Rattle.chain_rules.specs.Commands.{AreKept, links_behind}
use Rattle.chain_rules.specs.Decision.{decision, is_begin}
use Rattle.chain_rules.specs.Encoding.{command_bytes, links_after}
use Rattle.feed_replies.specs.declared.reply.Kept.{Kept}
use Rattle.feed_replies.specs.declared.reply.Reply.TheVariants.{Held, Kept as KeptReply, Refused as RefusedReply}
use Rattle.link_chain.specs.Recording.{HoldsLinks, Recording}
use Rattle.serve_live.specs.Boundaries.{no_link, place_to_join}
use Rattle.serve_live.specs.Live.{Moment}
use Rattle.serve_live.specs.Places.{IsPlaceIn}
use Rattle.serve_live.specs.declared.listener.JoinPlace.{JoinPlace}
use Rattle.file_recorder.specs.Running.{reply_of}
use Rattle.feed_replies.specs.declared.outcome.Outcome.{Outcome}
use Rattle.feed_replies.specs.declared.outcome.Outcome.TheVariants.{Held as WasHeld, Kept as WasKept}
use Rattle.serve_machine.specs.Hub.{HubState, IsAccepted, MayBeFound, command_step, committing, doubting, flush_step, holding, is_failed, reopen_step}
use Rattle.station_hub.specs.Marking.{ArePlaces, Records, Start, bytes_by, links_by}
use Rattle.station_hub.specs.Places.{PlacesState, answered_by, committed_to, noted, place_of, reopened_to}
use Rattle.station_hub.specs.Tracking.{IsOpenIn, IsTold, Tracks}
use Rattle.station_hub.specs.declared.places.Answered.{Answered}
use Rattle.station_hub.proofs.Marked.{Adds, Makes, all_parts, commits, fails, file_both, finds, joins, kept_both, waits}

-- bytes have the links of one chain
abbrev pub AreOne : Type 0
AreOne = (bytes : List ℕ) (links others : List (List Page)) → AreLinks bytes links → AreLinks bytes others → links ≡ others

-- ---- lists of commands
kept_join : (links : List (List Page)) (xs ys : List Command) → AreKept links xs → AreKept (links_behind links xs) ys → AreKept links (xs ++ ys)
kept_join links [] ys one other = other
kept_join links (x ∷ xs) ys one other = (one.0, kept_join (links_after links x) xs ys one.1 other)

first_part : (start : Start) (commands more : List Command) → Records start (commands ++ more) → Records start commands
first_part start commands more records = record {
  are_links = records.are_links;
  holds = records.holds;
  are_commands = (all_parts IsCommand commands more records.are_commands).0;
  kept = (kept_both start.links commands more records.kept).0;
}

-- what they add up to are links
links_are : Adds → (start : Start) (commands : List Command) → Records start commands → AreLinks (bytes_by start commands) (links_by start commands)
links_are adds start commands records =
    (adds start.bytes start.links start.recording commands records.are_commands records.are_links records.holds records.kept).0

-- ---- a machine that hasn't failed
not_failed : (has_file doubted : Bool) → (not has_file || doubted) ≡ false → (has_file ≡ true) × (doubted ≡ false)
not_failed true true e = (refl, e)
not_failed true false e = (refl, refl)
not_failed false doubted e = cc

none_of : (in_doubt : Option (List ℕ)) → is_some in_doubt ≡ false → in_doubt ≡ None
none_of None e = refl
none_of (Some group) e = cc

works : (machine : HubState) → is_failed machine ≡ false → (machine.has_file ≡ true) × (machine.in_doubt ≡ None)
works machine e =
    let both = not_failed machine.has_file (is_some machine.in_doubt) e in
    (both.0, none_of machine.in_doubt both.1)

-- ---- one more command
record_more : Adds → AreOne → (start : Start) (old : HubState) (commands waiting : List Command) (command : Command) (links : List (List Page))
    → Records start (commands ++ waiting) → old.committed ++ old.held ≡ bytes_by start (commands ++ waiting)
    → AreLinks (old.committed ++ old.held) links → IsCommand command → IsOk (decision (chain_state_of links) command)
    → Records start (commands ++ (waiting ++ command ∷ []))
    × (bytes_by start (commands ++ (waiting ++ command ∷ [])) ≡ (old.committed ++ old.held) ++ command_bytes (chain_state_of links) command)
record_more adds one start old commands waiting command links records is are_links named ok =
    let all = commands ++ waiting in
    let same : links ≡ links_by start all =
    one (old.committed ++ old.held) links (links_by start all) are_links (subst (λ b. AreLinks b (links_by start all)) (sym is) (links_are adds start all records)) in
    let whole : (all ++ command ∷ []) ≡ (commands ++ (waiting ++ command ∷ [])) = append_assoc commands waiting (command ∷ []) in (
      subst (Records start) whole (record {
        are_links = records.are_links;
        holds = records.holds;
        are_commands = all_both IsCommand all (command ∷ []) records.are_commands (named, tt);
        kept = kept_join start.links all (command ∷ []) records.kept (subst (λ l. IsOk (decision (chain_state_of l) command)) same ok, tt);
      }),
      ap (bytes_by start) (sym whole) ∙ file_both start all (command ∷ [])
          ∙ ap (λ b. bytes_by start all ++ b) (append-nil (command_bytes (chain_state_of (links_by start all)) command))
          ∙ ap (λ b. b ++ command_bytes (chain_state_of (links_by start all)) command) (sym is)
          ∙ ap (λ l. (old.committed ++ old.held) ++ command_bytes (chain_state_of l) command) (sym same),
    )

none_group : (group : List ℕ) → None ≡ Some group → ⊥
none_group group e = cc

some_none : (group : List ℕ) → Some group ≡ None → ⊥
some_none group e = cc

same_group : (one other : List ℕ) → Some one ≡ Some other → one ≡ other
same_group one other e = cc

-- the bytes with those of the command
added_is : (old : HubState) (added more all : List ℕ) → added ≡ more → all ≡ (old.committed ++ old.held) ++ more
    → old.committed ++ (old.held ++ added) ≡ all
added_is old added more all same is =
    sym (append_assoc old.committed old.held added) ∙ ap (λ b. (old.committed ++ old.held) ++ b) same ∙ sym is

held_on : Adds → AreOne → (start : Start) (old : HubState) (places : PlacesState) (command : Command) (added : List ℕ) (count : ℕ) (answered : Answered)
    → IsCommand command → is_failed old ≡ false → IsAccepted old command added → IsTold command old (holding added old) answered
    → Tracks start old places → Tracks start (holding added old) (answered_by (Held count) answered places)
held_on adds one start old places command added count answered named working (links, are_links, ok, added_as) told tracks =
    let (file, none) = works old working in
    let is = tracks.held file none in
    let (records, bytes) = record_more adds one start old tracks.commands tracks.waiting command links tracks.records is are_links named ok in
    let all = added_is old added (command_bytes (chain_state_of links) command) (bytes_by start (tracks.commands ++ (tracks.waiting ++ command ∷ []))) added_as bytes in
    record {
      commands = tracks.commands;
      waiting = tracks.waiting ++ command ∷ [];
      records = records;
      committed = tracks.committed;
      held = λ _ _. all;
      in_doubt = λ group doubted. absurd (none_group group (sym none ∙ doubted));
      are_places = waits start tracks.commands tracks.waiting command places answered count tracks.are_places told.begins
          (told.before none ∙ ap length is) (told.after none ∙ ap length all);
    }

kept_on : Adds → AreOne → (start : Start) (old : HubState) (places : PlacesState) (command : Command) (added : List ℕ) (kept : Kept) (answered : Answered)
    → IsCommand command → is_failed old ≡ false → IsAccepted old command added → IsTold command old (committing (holding added old)) answered
    → Tracks start old places → Tracks start (committing (holding added old)) (answered_by (KeptReply kept) answered places)
kept_on adds one start old places command added kept answered named working (links, are_links, ok, added_as) told tracks =
    let (file, none) = works old working in
    let is = tracks.held file none in
    let (records, bytes) = record_more adds one start old tracks.commands tracks.waiting command links tracks.records is are_links named ok in
    let commands = tracks.commands ++ (tracks.waiting ++ command ∷ []) in
    let all = added_is old added (command_bytes (chain_state_of links) command) (bytes_by start commands) added_as bytes in
    let whole : (committing (holding added old)).committed ++ [] ≡ bytes_by start commands = append-nil (old.committed ++ (old.held ++ added)) ∙ all in
    let noted_places = noted answered.begins (place_of answered) places in
    let waited : ArePlaces start tracks.commands (tracks.waiting ++ command ∷ []) noted_places =
    waits start tracks.commands tracks.waiting command places answered 0 tracks.are_places told.begins
    (told.before none ∙ ap length is) (told.after none ∙ ap length whole) in
    let done = commits start tracks.commands (tracks.waiting ++ command ∷ []) noted_places records waited in
    let going = told.is_open (links_by start commands) file none (subst (λ b. AreLinks b (links_by start commands)) (sym whole) (links_are adds start commands records)) in
    record {
      commands = commands;
      waiting = [];
      records = subst (Records start) (sym (append-nil commands)) records;
      committed = all;
      held = λ _ _. whole ∙ ap (bytes_by start) (sym (append-nil commands));
      in_doubt = λ group doubted. absurd (none_group group (sym none ∙ doubted));
      are_places = subst (λ (end : ℕ). ArePlaces start commands [] (committed_to end answered.is_open noted_places)) (sym (told.end ∙ ap length all))
          (subst (λ (b : Bool). ArePlaces start commands [] (committed_to (length (bytes_by start commands)) b noted_places)) (sym going) done);
    }

doubted_on : Adds → AreOne → (start : Start) (old : HubState) (places : PlacesState) (command : Command) (added : List ℕ) (answered : Answered)
    → IsCommand command → is_failed old ≡ false → IsAccepted old command added → answered.begins ≡ is_begin command
    → Tracks start old places → Tracks start (doubting (holding added old)) (answered_by (RefusedReply Disk) answered places)
doubted_on adds one start old places command added answered named working (links, are_links, ok, added_as) begins tracks =
    let (file, none) = works old working in
    let is = tracks.held file none in
    let (records, bytes) = record_more adds one start old tracks.commands tracks.waiting command links tracks.records is are_links named ok in
    let all = added_is old added (command_bytes (chain_state_of links) command) (bytes_by start (tracks.commands ++ (tracks.waiting ++ command ∷ []))) added_as bytes in
    record {
      commands = tracks.commands;
      waiting = tracks.waiting ++ command ∷ [];
      records = records;
      committed = tracks.committed;
      held = λ _ e. absurd (some_none (old.held ++ added) e);
      in_doubt = λ group e. ap (λ g. old.committed ++ g) (sym (same_group (old.held ++ added) group e)) ∙ all;
      are_places = fails start tracks.commands tracks.waiting command places answered tracks.are_places begins;
    }

pub tracks_command : Adds → AreOne → (start : Start) (old new : HubState) (places : PlacesState) (command : Command) (answer : Result Outcome Refusal)
    (answered : Answered) → IsCommand command → command_step old command answer new → IsTold command old new answered
    → Tracks start old places → Tracks start new (answered_by (reply_of answer) answered places)
tracks_command adds one start old new places command (Ok (WasHeld count)) answered named step told tracks =
    subst (λ machine. Tracks start machine (answered_by (Held count) answered places)) (sym step.5)
    (held_on adds one start old places command step.1 count answered named step.0 step.2 (subst (λ machine. IsTold command old machine answered) step.5 told) tracks)
tracks_command adds one start old new places command (Ok (WasKept kept)) answered named step told tracks =
    subst (λ machine. Tracks start machine (answered_by (KeptReply kept) answered places)) (sym step.5)
    (kept_on adds one start old places command step.1 kept answered named step.0 step.2 (subst (λ machine. IsTold command old machine answered) step.5 told) tracks)
tracks_command adds one start old new places command (Err FailedOf) answered named step told tracks =
    subst (λ machine. Tracks start machine places) (sym step.1) tracks
tracks_command adds one start old new places command (Err NoRoom) answered named step told tracks =
    subst (λ machine. Tracks start machine places) (sym step.3) tracks
tracks_command adds one start old new places command (Err Disk) answered named step told tracks =
    subst (λ machine. Tracks start machine (answered_by (RefusedReply Disk) answered places)) (sym step.3)
    (doubted_on adds one start old places command step.1 answered named step.0 step.2 told.begins tracks)
tracks_command adds one start old new places command (Err refusal) answered named step told tracks =
    subst (λ machine. Tracks start machine places) (sym step.2) tracks

-- ---- all that waits is committed
flushed_on : Adds → (start : Start) (old : HubState) (places : PlacesState) (end : ℕ) (going : Bool) → is_failed old ≡ false
    → end ≡ length (committing old).committed → IsOpenIn (committing old) going
    → Tracks start old places → Tracks start (committing old) (committed_to end going places)
flushed_on adds start old places end going working ends goes tracks =
    let (file, none) = works old working in
    let is = tracks.held file none in
    let commands = tracks.commands ++ tracks.waiting in
    let whole : (committing old).committed ++ [] ≡ bytes_by start commands = append-nil (old.committed ++ old.held) ∙ is in
    let done = commits start tracks.commands tracks.waiting places tracks.records tracks.are_places in
    let is_going = goes (links_by start commands) file none (subst (λ b. AreLinks b (links_by start commands)) (sym whole) (links_are adds start commands tracks.records)) in
    record {
      commands = commands;
      waiting = [];
      records = subst (Records start) (sym (append-nil commands)) tracks.records;
      committed = is;
      held = λ _ _. whole ∙ ap (bytes_by start) (sym (append-nil commands));
      in_doubt = λ group doubted. absurd (none_group group (sym none ∙ doubted));
      are_places = subst (λ (n : ℕ). ArePlaces start commands [] (committed_to n going places)) (sym (ends ∙ ap length is))
          (subst (λ (b : Bool). ArePlaces start commands [] (committed_to (length (bytes_by start commands)) b places)) (sym is_going) done);
    }

pub tracks_flush : Adds → (start : Start) (old new : HubState) (places : PlacesState) (kept : Kept) (end : ℕ) (going : Bool) → flush_step old (Ok kept) new
    → end ≡ length new.committed → IsOpenIn new going → Tracks start old places → Tracks start new (committed_to end going places)
tracks_flush adds start old new places kept end going step ends goes tracks =
    subst (λ machine. Tracks start machine (committed_to end going places)) (sym step.2)
    (flushed_on adds start old places end going step.0 (ends ∙ ap (λ (machine : HubState). length machine.committed) step.2)
    (subst (λ machine. IsOpenIn machine going) step.2 goes) tracks)

-- a flush that is refused: what waits may be in doubt, and the places are as they were
pub tracks_refused_flush : (start : Start) (old new : HubState) (places : PlacesState) (refusal : Refusal) → flush_step old (Err refusal) new
    → Tracks start old places → Tracks start new places
tracks_refused_flush start old new places FailedOf step tracks = subst (λ machine. Tracks start machine places) (sym step.1) tracks
tracks_refused_flush start old new places Disk step tracks =
    let (file, none) = works old step.0 in
    subst (λ machine. Tracks start machine places) (sym step.2) (record {
      commands = tracks.commands;
      waiting = tracks.waiting;
      records = tracks.records;
      committed = tracks.committed;
      held = λ _ e. absurd (some_none old.held e);
      in_doubt = λ group e. ap (λ g. old.committed ++ g) (sym (same_group old.held group e)) ∙ tracks.held file none;
      are_places = tracks.are_places;
    })
tracks_refused_flush start old new places refusal step tracks = absurd step

-- ---- the file was opened again
lost_on : (start : Start) (old new : HubState) (places : PlacesState) (going : Bool) → new.committed ≡ old.committed → new.held ≡ [] → new.in_doubt ≡ None
    → Tracks start old places → Tracks start new (record places { begun = None })
lost_on start old new places going same nothing none tracks = record {
  commands = tracks.commands;
  waiting = [];
  records = subst (Records start) (sym (append-nil tracks.commands)) (first_part start tracks.commands tracks.waiting tracks.records);
  committed = same ∙ tracks.committed;
  held = λ _ _. ap (λ b. new.committed ++ b) nothing ∙ append-nil new.committed ∙ same ∙ tracks.committed ∙ ap (bytes_by start) (sym (append-nil tracks.commands));
  in_doubt = λ group doubted. absurd (none_group group (sym none ∙ doubted));
  are_places = record { committed = tracks.are_places.committed; begun = inr tt };
}

shorter : (a b : ℕ) → b ≤ a → nat_lt a b ≡ false
shorter a b h = grind (arith, nat_tests)

no_bytes : (bytes more : List ℕ) → length (bytes ++ more) ≤ length bytes → bytes ++ more ≡ bytes
no_bytes bytes [] h = append-nil bytes
no_bytes bytes (byte ∷ more) h = absurd (omega (arith, h, length-append bytes (byte ∷ more)))

reopened_on : Adds → (start : Start) (old new : HubState) (places : PlacesState) (going : Bool) (found : List ℕ) → MayBeFound old found
    → new.committed ≡ found → new.held ≡ [] → new.in_doubt ≡ None → new.has_file ≡ true → IsOpenIn new going → Tracks start old places
    → Tracks start new (reopened_to (length old.committed) (length new.committed) going places)
reopened_on adds start old new places going found (inl same) is nothing none file goes tracks =
    subst (Tracks start new)
    (sym (cond-false (nat_lt (length old.committed) (length new.committed)) (committed_to (length new.committed) going places) (record places { begun = None })
    (shorter (length old.committed) (length new.committed) (omega (arith, ap length (is ∙ same))))))
    (lost_on start old new places going (is ∙ same) nothing none tracks)
reopened_on adds start old new places going found (inr (group, doubt, whole)) is nothing none file goes tracks =
    let commands = tracks.commands ++ tracks.waiting in
    let all : new.committed ≡ bytes_by start commands = is ∙ whole ∙ tracks.in_doubt group doubt in
    let with_held : new.committed ++ new.held ≡ bytes_by start commands = ap (λ b. new.committed ++ b) nothing ∙ append-nil new.committed ∙ all in
    elim (leb_tells (length new.committed) (length old.committed)) [
      | inl short ↦
          subst (Tracks start new)
          (sym (cond-false (nat_lt (length old.committed) (length new.committed)) (committed_to (length new.committed) going places) (record places { begun = None })
          (shorter (length old.committed) (length new.committed) short.1)))
          (lost_on start old new places going (is ∙ whole ∙ no_bytes old.committed group (omega (arith, short.1, ap length (is ∙ whole)))) nothing none tracks)
      | inr long ↦
          let going_is = goes (links_by start commands) file none (subst (λ b. AreLinks b (links_by start commands)) (sym with_held) (links_are adds start commands tracks.records)) in
          let done = finds start tracks.commands tracks.waiting places (length old.committed) tracks.records tracks.are_places (omega (arith, long.1, ap length all)) in
          record {
            commands = commands;
            waiting = [];
            records = subst (Records start) (sym (append-nil commands)) tracks.records;
            committed = all;
            held = λ _ _. with_held ∙ ap (bytes_by start) (sym (append-nil commands));
            in_doubt = λ group doubted. absurd (none_group group (sym none ∙ doubted));
            are_places = subst (λ (n : ℕ). ArePlaces start commands [] (reopened_to (length old.committed) n going places)) (sym (ap length all))
                (subst (λ (b : Bool). ArePlaces start commands [] (reopened_to (length old.committed) (length (bytes_by start commands)) b places)) (sym going_is) done);
          }
    ]

pub tracks_reopening : Adds → (start : Start) (old new : HubState) (places : PlacesState) (going : Bool) (found : List ℕ) → reopen_step old (Some found) new
    → IsOpenIn new going → Tracks start old places → Tracks start new (reopened_to (length old.committed) (length new.committed) going places)
tracks_reopening adds start old new places going found step goes tracks =
    reopened_on adds start old new places going found step.0 (ap (λ (machine : HubState). machine.committed) step.1) (ap (λ (machine : HubState). machine.held) step.1)
    (ap (λ (machine : HubState). machine.in_doubt) step.1) (ap (λ (machine : HubState). machine.has_file) step.1) goes tracks

false_true : false ≡ true → ⊥
false_true e = cc

pub tracks_lost_file : (start : Start) (old new : HubState) (places : PlacesState) → reopen_step old None new → Tracks start old places → Tracks start new places
tracks_lost_file start old new places step tracks = subst (λ machine. Tracks start machine places) (sym step) (record {
  commands = tracks.commands;
  waiting = tracks.waiting;
  records = tracks.records;
  committed = tracks.committed;
  held = λ file _. absurd (false_true file);
  in_doubt = tracks.in_doubt;
  are_places = tracks.are_places;
})

-- ---- listeners
pub tracked_places : Adds → AreOne → Makes → (start : Start) (machine : HubState) (places : PlacesState) (place : JoinPlace) (links : List (List Page))
    → Tracks start machine places → place_to_join places.boundaries ≡ Some place → AreLinks machine.committed links
    → (moment : Moment) × IsPlaceIn links moment place
tracked_places adds one makes start machine places place links tracks e are_links =
    let records = first_part start tracks.commands tracks.waiting tracks.records in
    let (moment, is) = joins adds makes start tracks.commands tracks.waiting places place records tracks.are_places e in (
      moment,
      subst (λ l. IsPlaceIn l moment place)
          (one machine.committed (links_by start tracks.commands) links
          (subst (λ b. AreLinks b (links_by start tracks.commands)) (sym tracks.committed) (links_are adds start tracks.commands records)) are_links) is,
    )

-- ---- at first
pub tracks_none : (machine : HubState) (links : List (List Page)) (recording : Recording) → AreLinks machine.committed links → HoldsLinks links recording
    → machine.held ≡ [] → machine.in_doubt ≡ None
    → Tracks (record { bytes = machine.committed; links = links; recording = recording }) machine (record { boundaries = no_link; begun = None })
tracks_none machine links recording are_links holds nothing none = record {
  commands = [];
  waiting = [];
  records = record { are_links = are_links; holds = holds; are_commands = tt; kept = tt };
  committed = sym (append-nil machine.committed);
  held = λ _ _. ap (λ b. machine.committed ++ b) nothing;
  in_doubt = λ group doubted. absurd (none_group group (sym none ∙ doubted));
  are_places = record { committed = inl refl; begun = inr tt };
}
