-- Times divide the commands of a file.
use Rattle.std.proofs.Common.{◌≡◌, ℕ, ◌+◌, ◌<◌, ◌≤◌, true, None, List, [], ◌∷◌, ◌++◌, length, map, take, refl, sym, ◌∙◌, ap, subst, arith, append_assoc, length-append, inl, inr, Ok}
use Rattle.std.proofs.lemmas.List.{append-nil, take_at}
use Rattle.std.specs.Prelude.{nat_eq, ◌⊎◌}
use Rattle.std.specs.List.{AllByRecursion, list_any}
use Rattle.ogg_page.specs.Page.{Page, bytes_of_pages, page_bytes}
use Rattle.ogg_page.specs.PageLaws.{length-page_bytes}
use Rattle.ogg_command.specs.Command.{IsCommand}
use Rattle.ogg_command.specs.declared.command.Command.{Command}
use Rattle.link_chain.specs.ChainState.{chain_state_of}
use Rattle.link_chain.specs.Links.{AreLinks}
use Rattle.link_chain.specs.Laws.Fronts.{parts_of}
use Rattle.link_chain.specs.Laws.LastLink.{all_split}
use Rattle.link_chain.specs.Recording.{Recording, HoldsLinks}
use Rattle.chain_rules.specs.Commands.{AreKept, bytes_of_commands, links_behind}
use Rattle.chain_rules.specs.Decision.{decision}
use Rattle.chain_rules.specs.Encoding.{command_bytes, links_after, pages_of_command}
use Rattle.chain_rules.specs.Recording.{after}
use Rattle.archive_times.specs.declared.line.Line.{Line}
use Rattle.archive_times.specs.Asked.{RiseFrom, offset_at, offset_of}
use Rattle.archive_times.specs.Times.{AreTimes}
use Rattle.archive_cut.specs.declared.placing.Recorded.{Recorded}
use Rattle.archive_cut.specs.Parts.{all_of}
use Rattle.archive_cut.specs.Placing.{stood_at}
use Rattle.archive_cut.specs.Times.{AddUp, AreBoundaries, AreBytesTo, AreCutsOf, ArePartsTo, IsBoundary, IsDivided, NeverFall, stood}
use Rattle.archive_cut.proofs.Below.{Adds, Below}
use Rattle.archive_cut.proofs.Ends.{at_serial}
use Rattle.archive_cut.proofs.Whole.{all_from, bytes_both, cut_of, kept_both, kept_size, no_links}

-- ---- a command adds bytes
abbrev pub AddsPages : Type 0
AddsPages = (bytes : List ℕ) (links : List (List Page)) (recording : Recording) (command : Command) (size : ℕ) → IsCommand command → AreLinks bytes links →
    HoldsLinks links recording → decision (chain_state_of links) command ≡ Ok size → 0 < length (pages_of_command (chain_state_of links) command)

some_bytes : (pages : List Page) → 0 < length pages → 0 < length (bytes_of_pages pages)
some_bytes [] some = absurd (omega arith)
some_bytes (page ∷ pages) some = omega (arith, length-append (page_bytes page) (bytes_of_pages pages), length-page_bytes page)

adds_bytes : Adds → AddsPages → (front : List Command) (command : Command) (rest : List Command) → AllByRecursion IsCommand (front ++ command ∷ rest) →
    AreKept [] (front ++ command ∷ rest) → length (bytes_of_commands [] front) < length (bytes_of_commands [] (front ++ command ∷ rest))
adds_bytes adds pages front command rest cs kept =
    let cs_parts = all_split IsCommand front (command ∷ rest) cs in
    let kept_parts = kept_both [] front (command ∷ rest) kept in
    let links : List (List Page) = links_behind [] front in
    let at = adds [] [] [] front cs_parts.0 no_links tt kept_parts.0 in
    let size = kept_size (decision (chain_state_of links) command) kept_parts.1.0 in
    let some : 0 < length (command_bytes (chain_state_of links) command) =
    some_bytes (pages_of_command (chain_state_of links) command)
    (pages (bytes_of_commands [] front) links (after [] front) command size.0 cs_parts.1.0 at.0 at.1 size.1) in
    let all : length (bytes_of_commands [] (front ++ command ∷ rest)) ≡ length (bytes_of_commands [] front) + length (bytes_of_commands links (command ∷ rest)) =
    ap length (bytes_both [] front (command ∷ rest)) ∙ length-append (bytes_of_commands [] front) (bytes_of_commands links (command ∷ rest)) in
    omega (arith, some, all, length-append (command_bytes (chain_state_of links) command) (bytes_of_commands (links_after links command) rest))

-- ---- two splits of the same commands
abbrev Longer : List Command → List Command → List Command → List Command → Type 0
Longer a b c d = (middle : List Command) × (c ≡ a ++ middle) × (b ≡ middle ++ d)

abbrev Shorter : List Command → List Command → List Command → List Command → Type 0
Shorter a b c d = (x : Command) × (middle : List Command) × (a ≡ c ++ x ∷ middle)

two_splits : (a b c d : List Command) → a ++ b ≡ c ++ d → Longer a b c d ⊎ Shorter a b c d
two_splits [] b c d e = inl (c, refl, e)
two_splits (x ∷ a) b [] d e = inr (x, a, refl)
two_splits (x ∷ a) b (y ∷ c) d e =
    let same = parts_of x y (a ++ b) (c ++ d) e in
    elim (two_splits a b c d same.1) [
      | inl w ↦ inl (w.0, ap (λ z. z ∷ c) (sym same.0) ∙ ap (λ l. x ∷ l) w.1, w.2)
      | inr w ↦ inr (w.0, w.1, ap (λ l. x ∷ l) w.2 ∙ ap (λ z. z ∷ (c ++ w.0 ∷ w.1)) same.0)
    ]

-- of two boundaries, the commands before the first are a front of those before the second
between_boundaries : Adds → AddsPages → (commands front rest : List Command) (place : ℕ) → AllByRecursion IsCommand commands → AreKept [] commands →
    commands ≡ front ++ rest → (at : IsBoundary commands place) → length (bytes_of_commands [] front) ≤ place → Longer front rest at.before at.after
between_boundaries adds pages commands front rest place cs kept split at less =
    elim (two_splits front rest at.before at.after (sym split ∙ at.split)) [
      | inl w ↦ w
      | inr w ↦
          (let all : commands ≡ at.before ++ (w.0 ∷ (w.1 ++ rest)) =
          split ∙ ap (λ l. l ++ rest) w.2 ∙ append_assoc at.before (w.0 ∷ w.1) rest in
          let cs_front : AllByRecursion IsCommand (at.before ++ w.0 ∷ w.1) =
          subst (AllByRecursion IsCommand) w.2 (all_split IsCommand front rest (subst (AllByRecursion IsCommand) split cs)).0 in
          let kept_front : AreKept [] (at.before ++ w.0 ∷ w.1) =
          subst (AreKept []) w.2 (kept_both [] front rest (subst (AreKept []) split kept)).0 in
          let more : length (bytes_of_commands [] at.before) < length (bytes_of_commands [] (at.before ++ w.0 ∷ w.1)) =
          adds_bytes adds pages at.before w.0 w.1 cs_front kept_front in
          let same : length (bytes_of_commands [] front) ≡ length (bytes_of_commands [] (at.before ++ w.0 ∷ w.1)) = ap (λ l. length (bytes_of_commands [] l)) w.2 in
          let place_is : place ≡ length (bytes_of_commands [] at.before) = at.place_is in
          absurd (omega (arith, more, same, less, place_is)))
    ]

-- ---- parts
record ArePartsOf (front rest : List Command) (places : List ℕ) : Type 0 where
  pub parts : List (List Command)
  pub back : List Command
  pub split : rest ≡ all_of parts ++ back
  pub are : ArePartsTo front parts places

divide : Adds → AddsPages → (commands front rest : List Command) (places : List ℕ) → AllByRecursion IsCommand commands → AreKept [] commands →
    commands ≡ front ++ rest → AllByRecursion (IsBoundary commands) places → NeverFall (length (bytes_of_commands [] front)) places → ArePartsOf front rest places
divide adds pages commands front rest [] cs kept split at rise = record { parts = []; back = rest; split = refl; are = tt }
divide adds pages commands front rest (place ∷ places) cs kept split at rise =
    let here : IsBoundary commands place = at.0 in
    let w = between_boundaries adds pages commands front rest place cs kept split here rise.0 in
    let before : here.before ≡ front ++ w.0 = w.1 in
    let place_is : place ≡ length (bytes_of_commands [] (front ++ w.0)) = here.place_is ∙ ap (λ l. length (bytes_of_commands [] l)) before in
    let more : ArePartsOf (front ++ w.0) here.after places =
    divide adds pages commands (front ++ w.0) here.after places cs kept (here.split ∙ ap (λ l. l ++ here.after) before) at.1
    (subst (λ n. NeverFall n places) place_is rise.1) in
    record {
      parts = w.0 ∷ more.parts;
      back = more.back;
      split = w.2 ∙ ap (λ l. w.0 ++ l) more.split ∙ sym (append_assoc w.0 (all_of more.parts) more.back);
      are = (place_is, more.are);
    }

-- ---- times
-- what crates below say of the place of a time
pub record TimesBelow : Type 0 where
  pub known : (begin time : ℕ) (lines : List Line) → list_any (nat_eq (offset_at begin lines time)) (begin ∷ map offset_of lines) ≡ true
  pub rises : (begin earlier later : ℕ) (lines : List Line) → RiseFrom begin lines → earlier ≤ later → offset_at begin lines earlier ≤ offset_at begin lines later

boundaries : (commands : List Command) (lines : List Line) → AreBoundaries commands lines → AllByRecursion (IsBoundary commands) (map offset_of lines)
boundaries commands [] h = tt
boundaries commands (line ∷ lines) h = (h.0, boundaries commands lines h.1)

boundary_at : TimesBelow → (commands : List Command) (lines : List Line) (time : ℕ) → AreBoundaries commands lines → IsBoundary commands (offset_at 0 lines time)
boundary_at below commands lines time h =
    at_serial (IsBoundary commands) (offset_at 0 lines time) (0 ∷ map offset_of lines)
    (record { before = []; after = commands; split = refl; place_is = refl }, boundaries commands lines h) (below.known 0 time lines)

boundaries_at : TimesBelow → (commands : List Command) (lines : List Line) (times : List ℕ) → AreBoundaries commands lines →
    AllByRecursion (IsBoundary commands) (map (offset_at 0 lines) times)
boundaries_at below commands lines [] h = tt
boundaries_at below commands lines (time ∷ times) h = (boundary_at below commands lines time h, boundaries_at below commands lines times h)

places_rise : TimesBelow → (lines : List Line) (start : ℕ) (times : List ℕ) → RiseFrom 0 lines → NeverFall start times →
    NeverFall (offset_at 0 lines start) (map (offset_at 0 lines) times)
places_rise below lines start [] rise h = tt
places_rise below lines start (time ∷ times) rise h = (below.rises 0 start time lines rise h.0, places_rise below lines time times rise h.1)

pub places_divide : Adds → AddsPages → (commands : List Command) (start : ℕ) (places : List ℕ) → AllByRecursion IsCommand commands →
    AreKept [] commands → IsBoundary commands start → AllByRecursion (IsBoundary commands) places → NeverFall start places → IsDivided commands start places
places_divide adds pages commands start places cs kept first at rise =
    let d : ArePartsOf first.before first.after places =
    divide adds pages commands first.before first.after places cs kept first.split at (subst (λ n. NeverFall n places) first.place_is rise) in
    record {
      front = first.before;
      parts = d.parts;
      back = d.back;
      split = first.split ∙ ap (λ l. first.before ++ l) d.split;
      starts = first.place_is;
      are_parts = d.are;
    }

-- ---- the bytes up to a place
bytes_to : (commands front rest : List Command) (place : ℕ) → commands ≡ front ++ rest → place ≡ length (bytes_of_commands [] front) →
    take place (bytes_of_commands [] commands) ≡ bytes_of_commands [] front
bytes_to commands front rest place split at =
    ap (λ l. take place (bytes_of_commands [] l)) split
    ∙ ap (λ l. take place l) (bytes_both [] front rest)
    ∙ take_at (bytes_of_commands [] front) (bytes_of_commands (links_behind [] front) rest) place (sym at)

all_bytes_to : (commands front : List Command) (parts : List (List Command)) (back : List Command) (places : List ℕ) →
    commands ≡ front ++ (all_of parts ++ back) → ArePartsTo front parts places → AreBytesTo (bytes_of_commands [] commands) front parts places
all_bytes_to commands front [] back places split are = tt
all_bytes_to commands front (part ∷ parts) back [] split are = absurd are
all_bytes_to commands front (part ∷ parts) back (place ∷ places) split are =
    let next : commands ≡ (front ++ part) ++ (all_of parts ++ back) =
    split ∙ ap (λ l. front ++ l) (append_assoc part (all_of parts) back) ∙ sym (append_assoc front part (all_of parts ++ back)) in (
      bytes_to commands (front ++ part) (all_of parts ++ back) place next are.0,
      all_bytes_to commands (front ++ part) parts back places next are.1,
    )

-- ---- the cuts of the parts
front_of : (front rest back : List Command) (P : List Command → Type 0) → ((xs ys : List Command) → P (xs ++ ys) → P xs) → P (front ++ (rest ++ back)) → P (front ++ rest)
front_of front rest back P f h = f (front ++ rest) back (subst P (sym (append_assoc front rest back)) h)

are_cuts : Below → (front : List Command) (parts : List (List Command)) → AllByRecursion IsCommand (front ++ all_of parts) → AreKept [] (front ++ all_of parts) →
    AreCutsOf front parts
are_cuts below front [] cs kept = tt
are_cuts below front (part ∷ parts) cs kept = (
  cut_of below front part (front_of front part (all_of parts) (AllByRecursion IsCommand) (λ xs ys h. (all_split IsCommand xs ys h).0) cs)
      (front_of front part (all_of parts) (AreKept []) (λ xs ys h. (kept_both [] xs ys h).0) kept),
  are_cuts below (front ++ part) parts (subst (AllByRecursion IsCommand) (sym (append_assoc front part (all_of parts))) cs)
      (subst (AreKept []) (sym (append_assoc front part (all_of parts))) kept),
)

pub places_add_up : Below → AddsPages → (commands : List Command) (start : ℕ) (places : List ℕ) → AllByRecursion IsCommand commands →
    AreKept [] commands → IsBoundary commands start → AllByRecursion (IsBoundary commands) places → NeverFall start places → AddUp commands start places
places_add_up below pages commands start places cs kept first at rise =
    let d : IsDivided commands start places = places_divide below.adds pages commands start places cs kept first at rise in
    let own : AllByRecursion IsCommand (d.front ++ all_of d.parts) =
    front_of d.front (all_of d.parts) d.back (AllByRecursion IsCommand) (λ xs ys h. (all_split IsCommand xs ys h).0) (subst (AllByRecursion IsCommand) d.split cs) in
    let kept_own : AreKept [] (d.front ++ all_of d.parts) =
    front_of d.front (all_of d.parts) d.back (AreKept []) (λ xs ys h. (kept_both [] xs ys h).0) (subst (AreKept []) d.split kept) in
    record {
      divided = d;
      begins = bytes_to commands d.front (all_of d.parts ++ d.back) start d.split d.starts;
      bytes = all_bytes_to commands d.front d.parts d.back places d.split d.are_parts;
      parts = are_cuts below d.front d.parts own kept_own;
      whole = cut_of below d.front (all_of d.parts) own kept_own;
      sum = all_from below.adds d.front d.parts own kept_own;
    }

-- by the lines alone
pub lines_add_up : Below → AddsPages → TimesBelow → (commands : List Command) (lines : List Line) (start : ℕ) (times : List ℕ) → AllByRecursion IsCommand commands →
    AreKept [] commands → RiseFrom 0 lines → AreBoundaries commands lines → NeverFall start times → AddUp commands (offset_at 0 lines start) (map (offset_at 0 lines) times)
lines_add_up below pages times_below commands lines start times cs kept rise at h =
    places_add_up below pages commands (offset_at 0 lines start) (map (offset_at 0 lines) times) cs kept (boundary_at times_below commands lines start at)
    (boundaries_at times_below commands lines times at) (places_rise times_below lines start times rise h)

-- ---- where the file stood
-- what is said of where a file stands
pub record StandsBelow : Type 0 where
  pub rises : (file : Recorded) (lines : List Line) (earlier later : ℕ) → AreTimes file.committed None lines → earlier ≤ later →
      (stood_at file lines earlier).offset ≤ (stood_at file lines later).offset
  pub known : (file : Recorded) (lines : List Line) (time : ℕ) → list_any (nat_eq (stood_at file lines time).offset) (0 ∷ file.committed ∷ map offset_of lines) ≡ true

boundary_stood : StandsBelow → (commands : List Command) (file : Recorded) (lines : List Line) (time : ℕ) → AreBoundaries commands lines →
    file.committed ≡ length (bytes_of_commands [] commands) → IsBoundary commands (stood file lines time)
boundary_stood below commands file lines time h all =
    at_serial (IsBoundary commands) (stood file lines time) (0 ∷ file.committed ∷ map offset_of lines) (
      record { before = []; after = commands; split = refl; place_is = refl },
      (record { before = commands; after = []; split = sym (append-nil commands); place_is = all }, boundaries commands lines h),
    ) (below.known file lines time)

boundaries_stood : StandsBelow → (commands : List Command) (file : Recorded) (lines : List Line) (times : List ℕ) → AreBoundaries commands lines →
    file.committed ≡ length (bytes_of_commands [] commands) → AllByRecursion (IsBoundary commands) (map (stood file lines) times)
boundaries_stood below commands file lines [] h all = tt
boundaries_stood below commands file lines (time ∷ times) h all =
    (boundary_stood below commands file lines time h all, boundaries_stood below commands file lines times h all)

stood_rise : StandsBelow → (file : Recorded) (lines : List Line) (start : ℕ) (times : List ℕ) → AreTimes file.committed None lines → NeverFall start times →
    NeverFall (stood file lines start) (map (stood file lines) times)
stood_rise below file lines start [] are h = tt
stood_rise below file lines start (time ∷ times) are h = (below.rises file lines start time are h.0, stood_rise below file lines time times are h.1)

pub stood_add_up : Below → AddsPages → StandsBelow → (commands : List Command) (file : Recorded) (lines : List Line) (start : ℕ) (times : List ℕ) → AllByRecursion IsCommand commands →
    AreKept [] commands → AreTimes file.committed None lines → AreBoundaries commands lines → file.committed ≡ length (bytes_of_commands [] commands) →
    NeverFall start times → AddUp commands (stood file lines start) (map (stood file lines) times)
stood_add_up below pages stands commands file lines start times cs kept are at all h =
    places_add_up below pages commands (stood file lines start) (map (stood file lines) times) cs kept (boundary_stood stands commands file lines start at all)
    (boundaries_stood stands commands file lines times at all) (stood_rise stands file lines start times are h)
