-- Boundaries of a link that is recorded.
use Rattle.std.proofs.Common.{◌≡◌, ◌⊎◌, ℕ, ◌-◌, ◌<◌, Bool, true, false, Option, Some, None, IsOk, List, [], ◌∷◌, ◌++◌, length, drop, zero, suc, refl, sym, ◌∙◌, ap, subst, inl, inr, append_assoc, append-nil, if◌then◌else◌, arith}
use Rattle.std.specs.Prelude.{nat_le, nat_lt, not}
use Rattle.std.specs.List.{AllByRecursion}
use Rattle.std.proofs.lemmas.Bool.{cases_Bool, cond-false, cond-true}
use Rattle.std.proofs.lemmas.Bool.Decides.{nat_tests}
use Rattle.ogg_page.specs.Page.{Page}
use Rattle.link_chain.specs.ChainState.{ChainState, chain_state_of, is_open}
use Rattle.link_chain.specs.Laws.Grow.{all_weaker}
use Rattle.ogg_page.specs.Laws.PageBytes.{all_both}
use Rattle.link_chain.specs.Links.{AreLinks}
use Rattle.link_chain.specs.Recording.{HoldsLinks, Recording}
use Rattle.link_chain.specs.Rules.{Rule, first_broken}
use Rattle.ogg_command.specs.Command.{IsCommand}
use Rattle.ogg_command.specs.declared.command.Begin.{Begin}
use Rattle.ogg_command.specs.declared.command.Command.{Command}
use Rattle.ogg_command.specs.declared.command.Command.TheVariants.{Begin as BeginOf, Put as PutOf, End as EndOf}
use Rattle.ogg_command.specs.declared.refusal.Refusal.{Refusal}
use Rattle.ogg_command.specs.declared.refusal.Refusal.TheVariants.{Disk, NoLink}
use Rattle.feed_replies.specs.declared.reply.Reply.TheVariants.{Held, Refused}
use Rattle.chain_rules.specs.Commands.{AreKept, bytes_of_commands, links_behind}
use Rattle.chain_rules.specs.Decision.{answer, decision, is_begin, rules_for, size_of}
use Rattle.chain_rules.specs.Encoding.{command_bytes, links_after}
use Rattle.chain_rules.specs.Recording.{after}
use Rattle.serve_live.specs.Boundaries.{BoundariesState, ahead, begun_at, forgotten, gone_on, most_kept, place_at, place_to_join, with_another}
use Rattle.serve_live.specs.Commands.{NoneBegins}
use Rattle.serve_live.specs.Live.{Moment}
use Rattle.serve_live.specs.Places.{IsPlaceIn}
use Rattle.serve_live.specs.declared.listener.JoinPlace.{JoinPlace}
use Rattle.station_hub.specs.Marking.{AreBoundaries, ArePlaces, BegunIn, IsBegun, IsBoundary, LastLink, Records, Start, bytes_by, links_by}
use Rattle.station_hub.specs.Places.{PlacesState, answered_by, committed_to, doubted, gone_to, noted, place_of, reopened_to}
use Rattle.station_hub.specs.declared.places.Answered.{Answered}
use Rattle.station_hub.specs.declared.places.BeginPlace.{BeginPlace}

false_true : false ≡ true → ⊥
false_true e = cc

is_less : (a b : ℕ) → a < b → nat_lt a b ≡ true
is_less a b h = grind (arith, nat_tests)

isnt_less : (a : ℕ) → nat_lt a a ≡ false
isnt_less a = grind (arith, nat_tests)

-- ---- commands in two parts
pub kept_both : (links : List (List Page)) (xs ys : List Command) → AreKept links (xs ++ ys) → AreKept links xs × AreKept (links_behind links xs) ys
kept_both links [] ys kept = (tt, kept)
kept_both links (x ∷ xs) ys kept =
    let rest = kept_both (links_after links x) xs ys kept.1 in
    ((kept.0, rest.0), rest.1)

pub behind_both : (links : List (List Page)) (xs ys : List Command) → links_behind links (xs ++ ys) ≡ links_behind (links_behind links xs) ys
behind_both links [] ys = refl
behind_both links (x ∷ xs) ys = behind_both (links_after links x) xs ys

pub bytes_both : (links : List (List Page)) (xs ys : List Command)
    → bytes_of_commands links (xs ++ ys) ≡ bytes_of_commands links xs ++ bytes_of_commands (links_behind links xs) ys
bytes_both links [] ys = refl
bytes_both links (x ∷ xs) ys =
    ap (λ l. command_bytes (chain_state_of links) x ++ l) (bytes_both (links_after links x) xs ys)
    ∙ sym (append_assoc (command_bytes (chain_state_of links) x) (bytes_of_commands (links_after links x) xs) (bytes_of_commands (links_behind (links_after links x) xs) ys))

-- the bytes of a file in two parts
pub file_both : (start : Start) (xs ys : List Command) → bytes_by start (xs ++ ys) ≡ bytes_by start xs ++ bytes_of_commands (links_by start xs) ys
file_both start xs ys =
    ap (λ l. start.bytes ++ l) (bytes_both start.links xs ys)
    ∙ sym (append_assoc start.bytes (bytes_of_commands start.links xs) (bytes_of_commands (links_by start xs) ys))

-- ---- lists
pub all_parts : {X : Type 0} (P : X → Type 0) (xs ys : List X) → AllByRecursion P (xs ++ ys) → AllByRecursion P xs × AllByRecursion P ys
all_parts P [] ys a = (tt, a)
all_parts P (x ∷ xs) ys a = let rest = all_parts P xs ys a.1 in ((a.0, rest.0), rest.1)

all_dropped : {X : Type 0} (P : X → Type 0) (count : ℕ) (xs : List X) → AllByRecursion P xs → AllByRecursion P (drop count xs)
all_dropped P zero xs a = a
all_dropped P (suc count) [] a = tt
all_dropped P (suc count) (x ∷ xs) a = all_dropped P count xs a.1

either : {X : Type 0} (P : X → Type 0) (b : Bool) (one other : X) → P one → P other → P (if b then one else other)
either P true one other a b = a
either P false one other a b = b

all_remembered : (P : ℕ → Type 0) (end : ℕ) (xs : List ℕ) → AllByRecursion P xs → AllByRecursion P (forgotten end xs)
all_remembered P end [] a = tt
all_remembered P end (x ∷ []) a = a
all_remembered P end (x ∷ next ∷ xs) a =
    either (AllByRecursion P) (nat_le ahead (end - next)) (forgotten end (next ∷ xs)) (x ∷ next ∷ xs) (all_remembered P end (next ∷ xs) a.1) a

all_another : (P : ℕ → Type 0) (end : ℕ) (xs : List ℕ) → AllByRecursion P xs → P end → AllByRecursion P (with_another end xs)
all_another P end [] a last = tt
all_another P end (x ∷ xs) a last =
    all_remembered P end (drop (length ((x ∷ xs) ++ end ∷ []) - most_kept) ((x ∷ xs) ++ end ∷ []))
    (all_dropped P (length ((x ∷ xs) ++ end ∷ []) - most_kept) ((x ∷ xs) ++ end ∷ []) (all_both P (x ∷ xs) (end ∷ []) a (last, tt)))

-- ---- a command that begins no link finds one open
refused : (size : ℕ) (going : Bool) (refusal : Refusal) (rules : List (Rule Refusal)) → going ≡ false
    → IsOk (answer size (first_broken ((not going, refusal) ∷ rules))) → ⊥
refused size true refusal rules shut ok = cc
refused size false refusal rules shut ok = false_true ok

needs_open : (chain : ChainState) (command : Command) → is_begin command ≡ false → IsOk (decision chain command) → is_open chain ≡ true
unfolding decision
needs_open chain (BeginOf begin) other ok = cc
needs_open chain (PutOf put) other ok = elim (cases_Bool (is_open chain)) [
  | inl is ↦ is
  | inr shut ↦ absurd (refused (size_of chain (PutOf put)) (is_open chain) NoLink (drop 1 (rules_for chain (PutOf put))) shut ok)
]
needs_open chain (EndOf serial) other ok = elim (cases_Bool (is_open chain)) [
  | inl is ↦ is
  | inr shut ↦ absurd (refused (size_of chain (EndOf serial)) (is_open chain) NoLink (drop 1 (rules_for chain (EndOf serial))) shut ok)
]

-- so the link was open after its Begin
open_from : (links : List (List Page)) (begin : Begin) (since : List Command) → AreKept links (BeginOf begin ∷ since) → NoneBegins since
    → is_open (chain_state_of (links_behind links (BeginOf begin ∷ since))) ≡ true
    → is_open (chain_state_of (links_behind links (BeginOf begin ∷ []))) ≡ true
open_from links begin [] kept none going = going
open_from links begin (command ∷ since) kept none going = needs_open (chain_state_of (links_after links (BeginOf begin))) command none.0 kept.1.0

-- ---- the place to join
abbrev pub Adds : Type 0
Adds =
    (bytes : List ℕ) (links : List (List Page)) (recording : Recording) (commands : List Command) → AllByRecursion IsCommand commands
    → AreLinks bytes links → HoldsLinks links recording → AreKept links commands
    → AreLinks (bytes ++ bytes_of_commands links commands) (links_behind links commands) × HoldsLinks (links_behind links commands) (after recording commands)

abbrev pub Makes : Type 0
Makes =
    (bytes : List ℕ) (links : List (List Page)) (recording : Recording) (begin : Begin) (passed since : List Command) (place : JoinPlace)
    → AllByRecursion IsCommand (BeginOf begin ∷ passed) → AreLinks bytes links → HoldsLinks links recording
    → AreKept links (BeginOf begin ∷ passed) → NoneBegins passed → NoneBegins since
    → is_open (chain_state_of (links_behind links (BeginOf begin ∷ passed))) ≡ true → place.begin ≡ length bytes
    → place.begun ≡ length (bytes ++ bytes_of_commands links (BeginOf begin ∷ []))
    → place.boundary ≡ length (bytes ++ bytes_of_commands links (BeginOf begin ∷ passed))
    → (moment : Moment) × IsPlaceIn (links_behind (links_behind links (BeginOf begin ∷ passed)) since) moment place

none_some : (place : JoinPlace) → None ≡ Some place → ⊥
none_some place e = cc

same_place : (one other : JoinPlace) → Some one ≡ Some other → one ≡ other
same_place one other e = cc

place_found : (P : ℕ → Type 0) (begin begun : ℕ) (kept : List ℕ) (place : JoinPlace) → place_at begin begun kept ≡ Some place → AllByRecursion P kept
    → (place.begin ≡ begin) × (place.begun ≡ begun) × P place.boundary
place_found P begin begun [] place e a = absurd (none_some place e)
place_found P begin begun (boundary ∷ kept) place e a =
    let same = same_place (record { begin = begin; begun = begun; boundary = boundary }) place e in (
      sym (ap (λ (one : JoinPlace). one.begin) same),
      sym (ap (λ (one : JoinPlace). one.begun) same),
      subst P (ap (λ (one : JoinPlace). one.boundary) same) a.0,
    )

joins_in : Adds → Makes → (start : Start) (commands : List Command) (boundaries : BoundariesState) (place : JoinPlace) → Records start commands
    → (boundaries.kept ≡ []) ⊎ AreBoundaries start commands boundaries → place_to_join boundaries ≡ Some place
    → (moment : Moment) × IsPlaceIn (links_by start commands) moment place
joins_in adds makes start commands boundaries place records (inl none) e =
    absurd (none_some place (sym (ap (place_at boundaries.begin boundaries.begun) none) ∙ e))
joins_in adds makes start commands boundaries place records (inr are) e =
    let last = are.last in
    let first : Command = BeginOf last.begin in
    let found = place_found (IsBoundary start commands last) boundaries.begin boundaries.begun boundaries.kept place e are.kept_are in
    let boundary = found.2 in
    let links = links_by start last.earlier in
    let kept = kept_both start.links last.earlier (first ∷ last.since) (subst (AreKept start.links) last.split records.kept) in
    let named = all_parts IsCommand last.earlier (first ∷ last.since) (subst (AllByRecursion IsCommand) last.split records.are_commands) in
    let base = adds start.bytes start.links start.recording last.earlier named.0 records.are_links records.holds kept.0 in
    let split : (first ∷ last.since) ≡ ((first ∷ boundary.passed) ++ boundary.later) = ap (λ l. first ∷ l) boundary.split in
    let own = kept_both links (first ∷ boundary.passed) boundary.later (subst (AreKept links) split kept.1) in
    let own_named = all_parts IsCommand (first ∷ boundary.passed) boundary.later (subst (AllByRecursion IsCommand) split named.1) in
    let none = all_parts (λ (command : Command). is_begin command ≡ false) boundary.passed boundary.later (subst NoneBegins boundary.split last.none_begins) in
    let (moment, is) = makes (bytes_by start last.earlier) links (after start.recording last.earlier) last.begin boundary.passed boundary.later place
    own_named.0 base.0 base.1 own.0 none.0 none.1
    (ap (λ l. is_open (chain_state_of l)) (sym (behind_both start.links last.earlier (first ∷ boundary.passed))) ∙ boundary.goes_on)
    (found.0 ∙ are.begin_is)
    (found.1 ∙ are.begun_is ∙ ap length (file_both start last.earlier (first ∷ [])))
    (boundary.stands ∙ ap length (file_both start last.earlier (first ∷ boundary.passed))) in (
      moment,
      subst (λ l. IsPlaceIn l moment place)
          (sym (behind_both links (first ∷ boundary.passed) boundary.later) ∙ ap (links_behind links) (sym split)
          ∙ sym (behind_both start.links last.earlier (first ∷ last.since)) ∙ ap (links_by start) (sym last.split)) is,
    )

pub joins : Adds → Makes → (start : Start) (commands waiting : List Command) (places : PlacesState) (place : JoinPlace) → Records start commands
    → ArePlaces start commands waiting places → place_to_join places.boundaries ≡ Some place
    → (moment : Moment) × IsPlaceIn (links_by start commands) moment place
joins adds makes start commands waiting places place records are e = joins_in adds makes start commands places.boundaries place records are.committed e

-- ---- more commands of the same link
abbrev with_more : (commands more : List Command) → LastLink commands → NoneBegins more → LastLink (commands ++ more)
with_more commands more last none =
    record {
      earlier = last.earlier;
      begin = last.begin;
      since = last.since ++ more;
      split = ap (λ l. l ++ more) last.split ∙ append_assoc last.earlier (BeginOf last.begin ∷ last.since) more;
      none_begins = all_both (λ (command : Command). is_begin command ≡ false) last.since more last.none_begins none;
    }

still : (start : Start) (commands more : List Command) (last : LastLink commands) (none : NoneBegins more) (boundary : ℕ)
    → IsBoundary start commands last boundary → IsBoundary start (commands ++ more) (with_more commands more last none) boundary
still start commands more last none boundary is = record {
  passed = is.passed;
  later = is.later ++ more;
  split = ap (λ l. l ++ more) is.split ∙ append_assoc is.passed is.later more;
  stands = is.stands;
  goes_on = is.goes_on;
}

wider : (start : Start) (commands more : List Command) (boundaries : BoundariesState) → NoneBegins more
    → AreBoundaries start commands boundaries → AreBoundaries start (commands ++ more) boundaries
wider start commands more boundaries none are = record {
  last = with_more commands more are.last none;
  begin_is = are.begin_is;
  begun_is = are.begun_is;
  kept_are = all_weaker (IsBoundary start commands are.last) (IsBoundary start (commands ++ more) (with_more commands more are.last none))
      (still start commands more are.last none) boundaries.kept are.kept_are;
}

-- the end of all of them is another boundary
one_more : (start : Start) (commands : List Command) (boundaries : BoundariesState) → is_open (chain_state_of (links_by start commands)) ≡ true
    → AreBoundaries start commands boundaries → AreBoundaries start commands (gone_on (length (bytes_by start commands)) boundaries)
one_more start commands boundaries going are = record {
  last = are.last;
  begin_is = are.begin_is;
  begun_is = are.begun_is;
  kept_are = all_another (IsBoundary start commands are.last) (length (bytes_by start commands)) boundaries.kept are.kept_are (record {
    passed = are.last.since;
    later = [];
    split = sym (append-nil are.last.since);
    stands = ap (λ l. length (bytes_by start l)) are.last.split;
    goes_on = ap (λ l. is_open (chain_state_of (links_by start l))) (sym are.last.split) ∙ going;
  });
}

-- ---- a Begin that waited
begun_boundaries : (start : Start) (commands waiting : List Command) (place : BeginPlace) → Records start (commands ++ waiting)
    → is_open (chain_state_of (links_by start (commands ++ waiting))) ≡ true → IsBegun start commands waiting place
    → AreBoundaries start (commands ++ waiting) (begun_at place.begin place.end)
begun_boundaries start commands waiting place records going begun =
    let last = begun.last in
    let first : Command = BeginOf last.begin in
    let earlier = commands ++ last.earlier in
    let split : (commands ++ waiting) ≡ (earlier ++ first ∷ last.since) =
    ap (λ l. commands ++ l) last.split ∙ sym (append_assoc commands last.earlier (first ∷ last.since)) in
    let ends : place.end ≡ length (bytes_by start (earlier ++ first ∷ [])) =
    begun.end_is ∙ ap (λ l. length (bytes_by start l)) (sym (append_assoc commands last.earlier (first ∷ []))) in
    let kept = kept_both start.links earlier (first ∷ last.since) (subst (AreKept start.links) split records.kept) in
    let goes_on = open_from (links_by start earlier) last.begin last.since kept.1 last.none_begins
    (ap (λ l. is_open (chain_state_of l)) (sym (behind_both start.links earlier (first ∷ last.since)) ∙ ap (links_by start) (sym split)) ∙ going) in
    record {
      last = record { earlier = earlier; begin = last.begin; since = last.since; split = split; none_begins = last.none_begins };
      begin_is = begun.begin_is;
      begun_is = ends;
      kept_are = (
        record {
          passed = [];
          later = last.since;
          split = refl;
          stands = ends;
          goes_on = ap (λ l. is_open (chain_state_of l)) (behind_both start.links earlier (first ∷ [])) ∙ goes_on;
        },
        tt,
      );
    }

-- ---- all that waited is committed
gone : (start : Start) (commands waiting : List Command) (begun : Option BeginPlace) (boundaries : BoundariesState) → Records start (commands ++ waiting)
    → is_open (chain_state_of (links_by start (commands ++ waiting))) ≡ true
    → (boundaries.kept ≡ []) ⊎ AreBoundaries start commands boundaries → BegunIn start commands waiting boundaries begun
    → ((gone_to begun (length (bytes_by start (commands ++ waiting))) boundaries).kept ≡ [])
    ⊎ AreBoundaries start (commands ++ waiting) (gone_to begun (length (bytes_by start (commands ++ waiting))) boundaries)
gone start commands waiting None boundaries records going (inl none) begun = inl (ap (with_another (length (bytes_by start (commands ++ waiting)))) none)
gone start commands waiting None boundaries records going (inr are) (inl none) = inl (ap (with_another (length (bytes_by start (commands ++ waiting)))) none)
gone start commands waiting None boundaries records going (inr are) (inr none) =
    inr (one_more start (commands ++ waiting) boundaries going (wider start commands waiting boundaries none are))
gone start commands waiting (Some place) boundaries records going before begun =
    let end = length (bytes_by start (commands ++ waiting)) in
    let are = begun_boundaries start commands waiting place records going begun in
    inr (either (AreBoundaries start (commands ++ waiting)) (nat_lt place.end end) (gone_on end (begun_at place.begin place.end)) (begun_at place.begin place.end)
    (one_more start (commands ++ waiting) (begun_at place.begin place.end) going are) are)

commits_in : (start : Start) (commands waiting : List Command) (places : PlacesState) (going : Bool) → is_open (chain_state_of (links_by start (commands ++ waiting))) ≡ going
    → Records start (commands ++ waiting) → ArePlaces start commands waiting places
    → ArePlaces start (commands ++ waiting) [] (committed_to (length (bytes_by start (commands ++ waiting))) going places)
commits_in start commands waiting places false shut records are = record { committed = inl refl; begun = inr tt }
commits_in start commands waiting places true going records are =
    record { committed = gone start commands waiting places.begun places.boundaries records going are.committed are.begun; begun = inr tt }

pub commits : (start : Start) (commands waiting : List Command) (places : PlacesState) → Records start (commands ++ waiting)
    → ArePlaces start commands waiting places
    → ArePlaces start (commands ++ waiting) [] (committed_to (length (bytes_by start (commands ++ waiting)))
    (is_open (chain_state_of (links_by start (commands ++ waiting)))) places)
commits start commands waiting places records are =
    commits_in start commands waiting places (is_open (chain_state_of (links_by start (commands ++ waiting)))) refl records are

-- ---- a command waits, or is in doubt
waits_on : (start : Start) (commands waiting : List Command) (command : Command) (boundaries : BoundariesState) (begun : Option BeginPlace)
    → is_begin command ≡ false → BegunIn start commands waiting boundaries begun → BegunIn start commands (waiting ++ command ∷ []) boundaries begun
waits_on start commands waiting command boundaries None other (inl none) = inl none
waits_on start commands waiting command boundaries None other (inr none) =
    inr (all_both (λ (one : Command). is_begin one ≡ false) waiting (command ∷ []) none (other, tt))
waits_on start commands waiting command boundaries (Some place) other begun =
    record { last = with_more waiting (command ∷ []) begun.last (other, tt); begin_is = begun.begin_is; end_is = begun.end_is }

waits_in : (start : Start) (commands waiting : List Command) (command : Command) (places : PlacesState) (begins : Bool) (place : BeginPlace)
    → ArePlaces start commands waiting places → begins ≡ is_begin command
    → place.begin ≡ length (bytes_by start (commands ++ waiting)) → place.end ≡ length (bytes_by start (commands ++ (waiting ++ command ∷ [])))
    → ArePlaces start commands (waiting ++ command ∷ []) (noted begins place places)
waits_in start commands waiting (BeginOf begin) places true place are is begins ends = record {
  committed = are.committed;
  begun = record {
    last = record { earlier = waiting; begin = begin; since = []; split = refl; none_begins = tt };
    begin_is = begins;
    end_is = ends;
  };
}
waits_in start commands waiting (BeginOf begin) places false place are is begins ends = absurd (false_true is)
waits_in start commands waiting (PutOf put) places true place are is begins ends = absurd (false_true (sym is))
waits_in start commands waiting (PutOf put) places false place are is begins ends =
    record { committed = are.committed; begun = waits_on start commands waiting (PutOf put) places.boundaries places.begun refl are.begun }
waits_in start commands waiting (EndOf serial) places true place are is begins ends = absurd (false_true (sym is))
waits_in start commands waiting (EndOf serial) places false place are is begins ends =
    record { committed = are.committed; begun = waits_on start commands waiting (EndOf serial) places.boundaries places.begun refl are.begun }

pub waits : (start : Start) (commands waiting : List Command) (command : Command) (places : PlacesState) (answered : Answered) (count : ℕ)
    → ArePlaces start commands waiting places → answered.begins ≡ is_begin command
    → answered.before ≡ length (bytes_by start (commands ++ waiting))
    → answered.after ≡ length (bytes_by start (commands ++ (waiting ++ command ∷ [])))
    → ArePlaces start commands (waiting ++ command ∷ []) (answered_by (Held count) answered places)
waits start commands waiting command places answered count are begins before after =
    waits_in start commands waiting command places answered.begins (place_of answered) are begins before after

fails_in : (start : Start) (commands waiting : List Command) (command : Command) (places : PlacesState) (begins : Bool)
    → ArePlaces start commands waiting places → begins ≡ is_begin command → ArePlaces start commands (waiting ++ command ∷ []) (doubted begins places)
fails_in start commands waiting command places true are is = record { committed = inl refl; begun = inl refl }
fails_in start commands waiting command places false are is =
    record { committed = are.committed; begun = waits_on start commands waiting command places.boundaries places.begun (sym is) are.begun }

pub fails : (start : Start) (commands waiting : List Command) (command : Command) (places : PlacesState) (answered : Answered)
    → ArePlaces start commands waiting places → answered.begins ≡ is_begin command
    → ArePlaces start commands (waiting ++ command ∷ []) (answered_by (Refused Disk) answered places)
fails start commands waiting command places answered are begins = fails_in start commands waiting command places answered.begins are begins

-- ---- the file was opened again
pub finds : (start : Start) (commands waiting : List Command) (places : PlacesState) (old : ℕ) → Records start (commands ++ waiting)
    → ArePlaces start commands waiting places → old < length (bytes_by start (commands ++ waiting))
    → ArePlaces start (commands ++ waiting) [] (reopened_to old (length (bytes_by start (commands ++ waiting)))
    (is_open (chain_state_of (links_by start (commands ++ waiting)))) places)
finds start commands waiting places old records are longer =
    let end = length (bytes_by start (commands ++ waiting)) in
    let going = is_open (chain_state_of (links_by start (commands ++ waiting))) in
    subst (ArePlaces start (commands ++ waiting) []) (sym (cond-true (nat_lt old end) (committed_to end going places) (record places { begun = None }) (is_less old end longer)))
    (commits start commands waiting places records are)

pub loses : (start : Start) (commands waiting : List Command) (places : PlacesState) (going : Bool) (end : ℕ)
    → ArePlaces start commands waiting places → ArePlaces start commands [] (reopened_to end end going places)
loses start commands waiting places going end are =
    let lost : ArePlaces start commands [] (record places { begun = None }) = record { committed = are.committed; begun = inr tt } in
    subst (ArePlaces start commands []) (sym (cond-false (nat_lt end end) (committed_to end going places) (record places { begun = None }) (isnt_less end))) lost
