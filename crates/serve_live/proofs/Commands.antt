-- What is heard of links that grow by commands.
use Rattle.std.proofs.Common.{◌≡◌, ℕ, suc, ◌+◌, true, false, List, [], ◌∷◌, ◌++◌, length, drop, refl, sym, ◌∙◌, ap, subst, arith, append_assoc, length-append, inl, inr}
use Rattle.std.specs.List.{AllByRecursion, AllZip, flat_map}
use Rattle.std.proofs.lemmas.List.{append-nil}
use Rattle.std.proofs.lemmas.List.Concat.{flat_map-append}
use Rattle.std.proofs.lemmas.Bool.{cases_Bool}
use Rattle.ogg_page.specs.Page.{Page, bytes_of_pages}
use Rattle.ogg_page.specs.Lacing.{ends_open}
use Rattle.ogg_page.specs.LogicalStream.{joined_lacing, is_first}
use Rattle.ogg_page.specs.PageLaws.{bytes_both}
use Rattle.ogg_page.specs.Laws.Prefixes.{same_fronts}
use Rattle.packetiser.specs.Laws.Behind.{IsPlain, run_is_plain}
use Rattle.ogg_command.specs.declared.command.Command.{Command}
use Rattle.ogg_command.specs.declared.command.Command.TheVariants.{Begin as BeginOf, Put as PutOf, End as EndOf}
use Rattle.ogg_command.specs.declared.command.Begin.{Begin}
use Rattle.ogg_command.specs.declared.command.Entry.{Entry}
use Rattle.ogg_command.specs.Command.{IsCommand}
use Rattle.link_chain.specs.declared.stream_state.StreamState.{StreamState}
use Rattle.link_chain.specs.Progress.{next_in}
use Rattle.link_chain.specs.ChainState.{chain_state_of, is_open, last_link}
use Rattle.link_chain.specs.Links.{IsLink, AreLinks, with_pages, has_stream, all_ended, flattened}
use Rattle.link_chain.specs.Recording.{Stream, HoldsLink}
use Rattle.link_chain.specs.Laws.Grow.{all_weaker, stream_finished}
use Rattle.link_chain.specs.Laws.LastLink.{all_split, open_link}
use Rattle.link_chain.specs.Laws.InTurn.{bytes_flattened}
use Rattle.link_chain.specs.Laws.StateBehind.{last_is}
use Rattle.link_chain.specs.Laws.TakenLinks.{without}
use Rattle.command_pages.specs.Encoding.{pages_of_runs, with_run, run_serial, pages_behind}
use Rattle.chain_rules.specs.Commands.{AreKept, bytes_of_commands, links_behind}
use Rattle.chain_rules.specs.Decision.{is_begin}
use Rattle.chain_rules.specs.Encoding.{links_after, pages_of_command}
use Rattle.chain_rules.specs.Recording.{Recording, HoldsLinks, after, begun_link}
use Rattle.serve_live.specs.Heard.{heard_link}
use Rattle.serve_live.specs.Joining.{AreLater, AreWhole, IsJoined}
use Rattle.serve_live.specs.Commands.{NoneBegins, AreHeard, heard_recording, last_streams}
use Rattle.serve_live.specs.Live.{Moment}
use Rattle.serve_live.specs.Places.{IsPlaceIn}
use Rattle.serve_live.specs.declared.listener.JoinPlace.{JoinPlace}
use Rattle.serve_live.proofs.Chain.{are_links, hold_links}
use Rattle.ogg_page.specs.Laws.PageBytes.{all_both}
use Rattle.serve_live.proofs.Beginning.{spelled_last}

-- ---- pages of commands
runs_later : (streams : List StreamState) (runs : List (List Entry)) → AreLater (pages_of_runs streams runs)
runs_later streams [] = tt
runs_later streams (run ∷ runs) =
    all_both (λ (p : Page). is_first p ≡ false) (pages_behind streams run) (pages_of_runs (with_run streams run) runs)
    (all_weaker (IsPlain (run_serial run)) (λ (p : Page). is_first p ≡ false) (λ p h. h.unmarked) (pages_behind streams run)
    (run_is_plain (run_serial run) (next_in streams (run_serial run)) _))
    (runs_later (with_run streams run) runs)

-- ---- links that grow
pub with_last : (before : List (List Page)) (link : List Page) (further : List (List Page)) (pages : List Page) →
    with_pages (before ++ link ∷ further) pages ≡ before ++ with_pages (link ∷ further) pages
with_last [] link further pages = refl
with_last (b ∷ []) link further pages = refl
with_last (b ∷ c ∷ before) link further pages = ap (λ l. b ∷ l) (with_last (c ∷ before) link further pages)

-- the link has further pages, none of them a stream's first, and further links follow
record IsGrown (before : List (List Page)) (link : List Page) (links : List (List Page)) : Type 0 where
  pub later : List Page
  pub further : List (List Page)
  pub split : links ≡ before ++ (link ++ later) ∷ further
  pub unmarked : AreLater later

grown_by_pages : (before : List (List Page)) (link : List Page) (links : List (List Page)) (pages : List Page) → AreLater pages → IsGrown before link links →
    IsGrown before link (with_pages links pages)
grown_by_pages before link links pages unmarked g = by_further g.further g.split
  where
    by_further : (further : List (List Page)) → links ≡ before ++ (link ++ g.later) ∷ further → IsGrown before link (with_pages links pages)
    by_further [] split = record {
      later = g.later ++ pages;
      further = [];
      split = ap (λ l. with_pages l pages) split ∙ with_last before (link ++ g.later) [] pages ∙ ap (λ x. before ++ x ∷ []) (append_assoc link g.later pages);
      unmarked = all_both (λ (p : Page). is_first p ≡ false) g.later pages g.unmarked unmarked;
    }
    by_further (next ∷ further) split = record {
      later = g.later;
      further = with_pages (next ∷ further) pages;
      split = ap (λ l. with_pages l pages) split ∙ with_last before (link ++ g.later) (next ∷ further) pages;
      unmarked = g.unmarked;
    }

grown_by_command : (before : List (List Page)) (link : List Page) (links : List (List Page)) (command : Command) → IsGrown before link links →
    IsGrown before link (links_after links command)
unfolding pages_of_command
grown_by_command before link links (BeginOf begin) g = record {
  later = g.later;
  further = g.further ++ pages_of_command (chain_state_of links) (BeginOf begin) ∷ [];
  split = ap (λ l. l ++ pages_of_command (chain_state_of links) (BeginOf begin) ∷ []) g.split
      ∙ append_assoc before ((link ++ g.later) ∷ g.further) (pages_of_command (chain_state_of links) (BeginOf begin) ∷ []);
  unmarked = g.unmarked;
}
grown_by_command before link links (PutOf put) g =
    grown_by_pages before link links (pages_of_command (chain_state_of links) (PutOf put)) (runs_later (chain_state_of links).streams _) g
grown_by_command before link links (EndOf serial) g =
    grown_by_pages before link links (pages_of_command (chain_state_of links) (EndOf serial)) (refl, tt) g

grown_by : (before : List (List Page)) (link : List Page) (links : List (List Page)) (commands : List Command) → IsGrown before link links →
    IsGrown before link (links_behind links commands)
grown_by before link links [] g = g
grown_by before link links (command ∷ commands) g =
    grown_by before link (links_after links command) commands (grown_by_command before link links command g)

-- no further link follows if no command begins one
record IsLonger (before : List (List Page)) (link : List Page) (links : List (List Page)) : Type 0 where
  pub passed : List Page
  pub split : links ≡ before ++ (link ++ passed) ∷ []
  pub unmarked : AreLater passed

longer_by_pages : (before : List (List Page)) (link : List Page) (links : List (List Page)) (pages : List Page) → AreLater pages → IsLonger before link links →
    IsLonger before link (with_pages links pages)
longer_by_pages before link links pages unmarked g = record {
  passed = g.passed ++ pages;
  split = ap (λ l. with_pages l pages) g.split ∙ with_last before (link ++ g.passed) [] pages ∙ ap (λ x. before ++ x ∷ []) (append_assoc link g.passed pages);
  unmarked = all_both (λ (p : Page). is_first p ≡ false) g.passed pages g.unmarked unmarked;
}

longer_by_command : (before : List (List Page)) (link : List Page) (links : List (List Page)) (command : Command) → is_begin command ≡ false → IsLonger before link links →
    IsLonger before link (links_after links command)
unfolding pages_of_command
longer_by_command before link links (BeginOf begin) e g = cc
longer_by_command before link links (PutOf put) e g =
    longer_by_pages before link links (pages_of_command (chain_state_of links) (PutOf put)) (runs_later (chain_state_of links).streams _) g
longer_by_command before link links (EndOf serial) e g =
    longer_by_pages before link links (pages_of_command (chain_state_of links) (EndOf serial)) (refl, tt) g

longer_by : (before : List (List Page)) (link : List Page) (links : List (List Page)) (commands : List Command) → NoneBegins commands → IsLonger before link links →
    IsLonger before link (links_behind links commands)
longer_by before link links [] none g = g
longer_by before link links (command ∷ commands) none g =
    longer_by before link (links_after links command) commands none.1 (longer_by_command before link links command none.0 g)

-- ---- recordings
zip_length : {A B : Type 0} (R : A → B → Type 0) (xs : List A) (ys : List B) → AllZip R xs ys → length xs ≡ length ys
zip_length R [] [] z = refl
zip_length R [] (y ∷ ys) z = absurd z
zip_length R (x ∷ xs) [] z = absurd z
zip_length R (x ∷ xs) (y ∷ ys) z = ap suc (zip_length R xs ys z.1)

zip_back : {A B : Type 0} (R : A → B → Type 0) (xs more : List A) (ys : List B) → AllZip R (xs ++ more) ys → AllZip R more (drop (length xs) ys)
zip_back R [] more ys z = z
zip_back R (x ∷ xs) more [] z = absurd z
zip_back R (x ∷ xs) more (y ∷ ys) z = zip_back R xs more ys z.1

-- the last link of links holds the last of a recording
zip_last : (before : List (List Page)) (link : List Page) (recording : Recording) → HoldsLinks (before ++ link ∷ []) recording → HoldsLink link (last_streams recording)
zip_last [] link [] z = absurd z
zip_last [] link (r ∷ []) z = z.0
zip_last [] link (r ∷ s ∷ recording) z = absurd z.1
zip_last (b ∷ before) link [] z = absurd z
zip_last (b ∷ []) link (r ∷ []) z = absurd z.1
zip_last (b ∷ c ∷ before) link (r ∷ []) z = absurd z.1
zip_last (b ∷ before) link (r ∷ s ∷ recording) z = zip_last before link (s ∷ recording) z.1

-- ---- no packet is unfinished
whole : (link : List Page) (streams : List Stream) → IsLink link → HoldsLink link streams → AreWhole link
whole link streams l h serial =
    elim (cases_Bool (has_stream link serial)) [
      | inl there ↦ stream_finished link streams serial h there
      | inr none ↦ ap (λ x. ends_open (joined_lacing x)) (without link serial l none)
    ]

last_of : (recording : Recording) (streams : List Stream) → last_streams (recording ++ streams ∷ []) ≡ streams
last_of [] streams = refl
last_of (r ∷ []) streams = refl
last_of (r ∷ s ∷ recording) streams = last_of (s ∷ recording) streams

-- ---- all together
-- what commands add, as the crate below says it
abbrev pub Adds : Type 0
Adds = (bytes : List ℕ) (links : List (List Page)) (recording : Recording) (commands : List Command) → AllByRecursion IsCommand commands →
    AreLinks bytes links → HoldsLinks links recording → AreKept links commands →
    AreLinks (bytes ++ bytes_of_commands links commands) (links_behind links commands) × HoldsLinks (links_behind links commands) (after recording commands)

same_behind : (front xs ys : List ℕ) → front ++ xs ≡ front ++ ys → xs ≡ ys
same_behind front xs ys e = (same_fronts front front xs ys refl e).1

-- the link that the Begin began, with what was passed, may be joined
record JoinsAt (bytes : List ℕ) (links : List (List Page)) (recording : Recording) (begin : Begin) (passed : List Command) : Type 0 where
  pub longer : IsLonger links (pages_of_command (chain_state_of links) (BeginOf begin)) (links_behind links (BeginOf begin ∷ passed))
  pub held_begin : HoldsLink (pages_of_command (chain_state_of links) (BeginOf begin)) (begun_link begin.skeleton begin.streams)
  pub held_joined : HoldsLink (pages_of_command (chain_state_of links) (BeginOf begin) ++ longer.passed) (last_streams (after recording (BeginOf begin ∷ passed)))
  pub are_begun : AreLinks (bytes ++ bytes_of_commands links (BeginOf begin ∷ [])) (links ++ pages_of_command (chain_state_of links) (BeginOf begin) ∷ [])
  pub are_joined : AreLinks (bytes ++ bytes_of_commands links (BeginOf begin ∷ passed)) (links ++ (pages_of_command (chain_state_of links) (BeginOf begin) ++ longer.passed) ∷ [])
  pub after_both : AreLinks (bytes ++ bytes_of_commands links (BeginOf begin ∷ passed)) (links_behind links (BeginOf begin ∷ passed))
      × HoldsLinks (links_behind links (BeginOf begin ∷ passed)) (after recording (BeginOf begin ∷ passed))
  pub joins : IsJoined (pages_of_command (chain_state_of links) (BeginOf begin)) longer.passed

joins_at : Adds → (bytes : List ℕ) (links : List (List Page)) (recording : Recording) (begin : Begin) (passed : List Command) →
    AllByRecursion IsCommand (BeginOf begin ∷ passed) → AreLinks bytes links → HoldsLinks links recording →
    AreKept links (BeginOf begin ∷ passed) → NoneBegins passed → is_open (chain_state_of (links_behind links (BeginOf begin ∷ passed))) ≡ true →
    JoinsAt bytes links recording begin passed
joins_at adds bytes links recording begin passed ca l h kept none opened =
    let command : Command = BeginOf begin in
    let begun : List Stream = begun_link begin.skeleton begin.streams in
    let begin_pages : List Page = pages_of_command (chain_state_of links) command in
    let joined_links : List (List Page) = links_behind links (command ∷ passed) in
    let joined_bytes : List ℕ = bytes ++ bytes_of_commands links (command ∷ passed) in
    let joined_recording : Recording = after recording (command ∷ passed) in
    let a1 = adds bytes links recording (command ∷ []) (ca.0, tt) l h (kept.0, tt) in
    let a2 = adds bytes links recording (command ∷ passed) ca l h kept in
    let longer : IsLonger links begin_pages joined_links =
    longer_by links begin_pages (links ++ begin_pages ∷ []) passed none
    (record { passed = []; split = ap (λ x. links ++ x ∷ []) (sym (append-nil begin_pages)); unmarked = tt }) in
    let mid : List Page = longer.passed in
    let held_begin : HoldsLink begin_pages begun =
    subst (λ (s : List Stream). HoldsLink begin_pages s) (last_of recording begun) (zip_last links begin_pages (recording ++ begun ∷ []) a1.1) in
    let are_joined : AreLinks joined_bytes (links ++ (begin_pages ++ mid) ∷ []) = subst (λ (x : List (List Page)). AreLinks joined_bytes x) longer.split a2.0 in
    let held_joined : HoldsLink (begin_pages ++ mid) (last_streams joined_recording) =
    zip_last links (begin_pages ++ mid) joined_recording (subst (λ (x : List (List Page)). HoldsLinks x joined_recording) longer.split a2.1) in
    record {
      longer = longer;
      held_begin = held_begin;
      held_joined = held_joined;
      are_begun = a1.0;
      are_joined = are_joined;
      after_both = a2;
      joins = record {
        begun = longer.unmarked;
        begin_whole = whole begin_pages begun (all_split IsLink links (begin_pages ∷ []) a1.0.each).1.0 held_begin;
        passed_whole = whole (begin_pages ++ mid) (last_streams joined_recording) (all_split IsLink links ((begin_pages ++ mid) ∷ []) are_joined.each).1.0 held_joined;
        goes_on = ap all_ended (sym (ap last_link longer.split ∙ last_is links (begin_pages ++ mid))) ∙ open_link joined_links opened;
      };
    }

pub are_heard : Adds → (bytes : List ℕ) (links : List (List Page)) (recording : Recording) (begin : Begin) (passed since : List Command) →
    AllByRecursion IsCommand (BeginOf begin ∷ passed) → AllByRecursion IsCommand since → AreLinks bytes links → HoldsLinks links recording →
    AreKept links (BeginOf begin ∷ passed) → NoneBegins passed → is_open (chain_state_of (links_behind links (BeginOf begin ∷ passed))) ≡ true →
    AreKept (links_behind links (BeginOf begin ∷ passed)) since → AreHeard links recording begin passed since
are_heard adds bytes links recording begin passed since ca cs l h kept none opened kept_since =
    let command : Command = BeginOf begin in
    let begun : List Stream = begun_link begin.skeleton begin.streams in
    let begin_pages : List Page = pages_of_command (chain_state_of links) command in
    let joined_links : List (List Page) = links_behind links (command ∷ passed) in
    let joined_bytes : List ℕ = bytes ++ bytes_of_commands links (command ∷ passed) in
    let joined_recording : Recording = after recording (command ∷ passed) in
    let links_now : List (List Page) = links_behind joined_links since in
    let at : JoinsAt bytes links recording begin passed = joins_at adds bytes links recording begin passed ca l h kept none opened in
    let a2 = at.after_both in
    let a3 = adds joined_bytes joined_links joined_recording since cs a2.0 a2.1 kept_since in
    let longer : IsLonger links begin_pages joined_links = at.longer in
    let mid : List Page = longer.passed in
    let grown : IsGrown links (begin_pages ++ mid) links_now =
    grown_by links (begin_pages ++ mid) joined_links since
    (record { later = []; further = []; split = longer.split ∙ ap (λ x. links ++ x ∷ []) (sym (append-nil (begin_pages ++ mid))); unmarked = tt }) in
    let later : List Page = grown.later in
    let further : List (List Page) = grown.further in
    let now_is : links_now ≡ links ++ (begin_pages ++ (mid ++ later)) ∷ further =
    grown.split ∙ ap (λ x. links ++ x ∷ further) (append_assoc begin_pages mid later) in
    let bytes_now : List ℕ = joined_bytes ++ bytes_of_commands joined_links since in
    let are : AreLinks bytes_now (links ++ (begin_pages ++ (mid ++ later)) ∷ further) = subst (λ (x : List (List Page)). AreLinks bytes_now x) now_is a3.0 in
    let held_begin : HoldsLink begin_pages begun = at.held_begin in
    let are_joined : AreLinks joined_bytes (links ++ (begin_pages ++ mid) ∷ []) = at.are_joined in
    let held_joined : HoldsLink (begin_pages ++ mid) (last_streams joined_recording) = at.held_joined in
    let joins : IsJoined begin_pages mid = at.joins in
    let front : List ℕ = flat_map bytes_of_pages links ++ bytes_of_pages (begin_pages ++ mid) in
    let joined_is : joined_bytes ≡ front = are_joined.spelled ∙ spelled_last links (begin_pages ++ mid) in
    let rest : List ℕ = bytes_of_pages (later ++ flattened further) in
    let now_bytes : bytes_now ≡ front ++ rest =
    a3.0.spelled ∙ ap (flat_map bytes_of_pages) grown.split
    ∙ flat_map-append bytes_of_pages links (((begin_pages ++ mid) ++ later) ∷ further)
    ∙ ap (λ x. flat_map bytes_of_pages links ++ x)
    (ap (λ x. x ++ flat_map bytes_of_pages further) (bytes_both (begin_pages ++ mid) later)
    ∙ append_assoc (bytes_of_pages (begin_pages ++ mid)) (bytes_of_pages later) (flat_map bytes_of_pages further)
    ∙ ap (λ x. bytes_of_pages (begin_pages ++ mid) ++ x)
    (ap (λ x. bytes_of_pages later ++ x) (bytes_flattened further) ∙ sym (bytes_both later (flattened further))))
    ∙ sym (append_assoc (flat_map bytes_of_pages links) (bytes_of_pages (begin_pages ++ mid)) rest) in
    let recording_now : Recording = after joined_recording since in
    let held_now : HoldsLinks ((begin_pages ++ (mid ++ later)) ∷ further) (drop (length recording) recording_now) =
    subst (λ n. HoldsLinks ((begin_pages ++ (mid ++ later)) ∷ further) (drop n recording_now)) (zip_length HoldsLink links recording h)
    (zip_back HoldsLink links ((begin_pages ++ (mid ++ later)) ∷ further) recording_now (subst (λ (x : List (List Page)). HoldsLinks x recording_now) now_is a3.1)) in
    record {
      begin_pages = begin_pages;
      begin_is = refl;
      passed_pages = mid;
      joins = joins;
      held_begin = held_begin;
      held_joined = held_joined;
      joined = longer.split;
      after_pages = later ++ flattened further;
      added = same_behind front (bytes_of_commands joined_links since) rest
          (ap (λ x. x ++ bytes_of_commands joined_links since) (sym joined_is) ∙ now_bytes);
      later = later;
      further = further;
      after_are = refl;
      unmarked = grown.unmarked;
      grown = now_is;
      heard_links = heard_link begin_pages mid later ∷ further;
      are_links = are_links bytes_now links further begin_pages mid later are joins grown.unmarked;
      holds = holds_at bytes_now links further begin_pages mid later begun (last_streams joined_recording) (drop (length recording) recording_now)
          are joins grown.unmarked held_begin held_joined held_now;
    }
  where
    holds_at : (bytes : List ℕ) (before further : List (List Page)) (begin passed later : List Page) (begun joined : List Stream) (recording : Recording) →
        AreLinks bytes (before ++ (begin ++ (passed ++ later)) ∷ further) → IsJoined begin passed → AreLater later →
        HoldsLink begin begun → HoldsLink (begin ++ passed) joined → HoldsLinks ((begin ++ (passed ++ later)) ∷ further) recording →
        HoldsLinks (heard_link begin passed later ∷ further) (heard_recording begun joined recording)
    holds_at bytes before further begin passed later begun joined [] are j unmarked hb hj hn = absurd hn
    holds_at bytes before further begin passed later begun joined (now ∷ more) are j unmarked hb hj hn =
        hold_links bytes before further begin passed later begun joined now more are j unmarked hb hj hn.0 hn.1

-- ---- the place where a listener may join
pub make_place : Adds → (bytes : List ℕ) (links : List (List Page)) (recording : Recording) (begin : Begin) (passed since : List Command) (place : JoinPlace) →
    AllByRecursion IsCommand (BeginOf begin ∷ passed) → AreLinks bytes links → HoldsLinks links recording →
    AreKept links (BeginOf begin ∷ passed) → NoneBegins passed → NoneBegins since → is_open (chain_state_of (links_behind links (BeginOf begin ∷ passed))) ≡ true →
    place.begin ≡ length bytes → place.begun ≡ length (bytes ++ bytes_of_commands links (BeginOf begin ∷ [])) →
    place.boundary ≡ length (bytes ++ bytes_of_commands links (BeginOf begin ∷ passed)) →
    (moment : Moment) × IsPlaceIn (links_behind (links_behind links (BeginOf begin ∷ passed)) since) moment place
make_place adds bytes links recording begin passed since place ca l h kept none none_since opened begin_is begun_is boundary_is =
    let at : JoinsAt bytes links recording begin passed = joins_at adds bytes links recording begin passed ca l h kept none opened in
    let begin_pages : List Page = pages_of_command (chain_state_of links) (BeginOf begin) in
    let mid : List Page = at.longer.passed in
    let joined_links : List (List Page) = links_behind links (BeginOf begin ∷ passed) in
    let longer : IsLonger links (begin_pages ++ mid) (links_behind joined_links since) =
    longer_by links (begin_pages ++ mid) joined_links since none_since
    (record { passed = []; split = at.longer.split ∙ ap (λ x. links ++ x ∷ []) (sym (append-nil (begin_pages ++ mid))); unmarked = tt }) in
    let front : ℕ = length (flat_map bytes_of_pages links) in
    let own : length bytes ≡ front = ap length l.spelled in
    let begun : place.begun ≡ front + length (bytes_of_pages begin_pages) =
    begun_is ∙ ap length (at.are_begun.spelled ∙ spelled_last links begin_pages) ∙ length-append (flat_map bytes_of_pages links) (bytes_of_pages begin_pages) in
    let boundary : place.boundary ≡ front + (length (bytes_of_pages begin_pages) + length (bytes_of_pages mid)) =
    boundary_is ∙ ap length (at.are_joined.spelled ∙ spelled_last links (begin_pages ++ mid) ∙ ap (λ x. flat_map bytes_of_pages links ++ x) (bytes_both begin_pages mid))
    ∙ length-append (flat_map bytes_of_pages links) (bytes_of_pages begin_pages ++ bytes_of_pages mid)
    ∙ ap (λ n. front + n) (length-append (bytes_of_pages begin_pages) (bytes_of_pages mid)) in (
      record { place = place.boundary; begin = begin_pages; passed = mid },
      record {
        before = links;
        since = longer.passed;
        split = longer.split ∙ ap (λ x. links ++ x ∷ []) (append_assoc begin_pages mid longer.passed);
        later = longer.unmarked;
        joined = at.joins;
        begin_is = begin_is ∙ own;
        begun_is = omega (arith, begun, begin_is, own);
        boundary_is = omega (arith, boundary, begun);
        moment_is = refl;
      },
    )
