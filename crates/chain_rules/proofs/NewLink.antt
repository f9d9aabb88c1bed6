-- The pages of a `Begin` are a new link, with its streams, and their states after it.
use Rattle.std.proofs.Common.{◌≡◌, ◌≢◌, ℕ, zero, suc, ◌+◌, ◌<◌, ◌≤◌, Bool, true, false, cond, List, inl, [], ◌∷◌, ◌++◌, length, map, take, drop, refl, sym, ◌∙◌, ap, subst, arith, eq-eqb, length-append, Option, None, Some}
use Rattle.std.specs.Prelude.{nat_eq, nat_lt, not, ◌||◌}
use Rattle.std.specs.List.{list_any, flat_map, AllByRecursion, IsDistinct}
use Rattle.std.proofs.lemmas.Bool.{cond-true, cond-false, or_left, lt-ltb, ne_eqb, eqb-false}
use Rattle.std.proofs.lemmas.List.Concat.{flat_map-append}
use Rattle.std.proofs.lemmas.List.Folds.{list_any-append}
use Rattle.std.proofs.lemmas.List.Sums.{fold-append}
use Rattle.ogg_page.specs.Page.{Page}
use Rattle.ogg_page.specs.Lacing.{ends_open, lacing_of}
use Rattle.ogg_page.specs.LogicalStream.{HoldsPackets, FitsBehind, is_first, is_last, joined_lacing, number_behind}
use Rattle.packetiser.specs.Run.{pages_of_run, pages_for, run_lacing}
use Rattle.packetiser.specs.Laws.Pieces.{run_pages}
use Rattle.ogg_page.specs.StreamLaws.{finished, ends_open-append, false_is_not_true}
use Rattle.packetiser.specs.Laws.Behind.{run_fits, number_behind_run}
use Rattle.link_chain.specs.declared.stream_state.StreamState.{StreamState}
use Rattle.ogg_command.specs.declared.command.NewStream.{NewStream}
use Rattle.ogg_command.specs.declared.command.SkeletonHead.{SkeletonHead}
use Rattle.chain_rules.specs.Begun.{new_state, skeleton_state, states_of, serials_in, skeleton_serial, has_other_headers, has_more_pages}
use Rattle.link_chain.specs.ChainState.{state_of, last_position}
use Rattle.chain_rules.specs.Decision.{has_long_message}
use Rattle.chain_rules.specs.Encoding.{header, first_flag, first_pages, header_pages, pages_of_begin, skeleton_stream}
use Rattle.link_chain.specs.Links.{IsLink, pages_with, serials_of, has_stream, has_ended}
use Rattle.chain_rules.specs.Recording.{Stream, HoldsLink, begun, begun_link, ended_skeleton}
use Rattle.link_chain.specs.Laws.Grow.{GoOn, Unmarked, all_weaker, not_ended, serials_same, with_own, ended_both, grow_link, grow_holds, grown, stream_some}
use Rattle.chain_rules.proofs.Beginning.{IsGood, serials, first_page, is_first_page, number_of_first, marked_first, not_last, first_held, headers_held, headers_own, all_of_map, all_to_map}
use Rattle.chain_rules.proofs.Parts.{Part, IsPart, IsStill, plain_part, page_of, first_of, later_of, begun_of, firsts, laters, part_serials, new_link, new_holds, its_pages, serials_are, stream_held, all_first, firsts_are, laters_unmarked, all_go_on, none_ends}
use Rattle.std.proofs.lemmas.List.{length-map}
use Rattle.command_pages.specs.Laws.Runs.{some_values}
use Rattle.chain_rules.proofs.SkeletonPart.{skeleton_part, is_skeleton_part, last_page, end_is, fisbones_count}
use Rattle.link_chain.specs.Laws.StateBehind.{state, state_other, data_with}
use Rattle.chain_rules.proofs.RunState.{run_unmarked, run_goes_on}
use Rattle.chain_rules.proofs.Still.{run_still, flagged_still, still_position}
use Rattle.ogg_page.specs.Laws.PageBytes.{all_both}
use Rattle.link_chain.specs.Laws.InTurn.{no_data}
use Rattle.std.proofs.Math.Bool.{or-true}

-- ---- a stream that has only its headers
plain_is_part : (stream : NewStream) → IsGood stream → IsPart (plain_part stream)
plain_is_part stream good =
    let page : Page = first_page stream in
    let number : number_behind (page ∷ []) ≡ 1 = ap (λ n. n + 1) (number_of_first stream) in
    let closed : ends_open (joined_lacing (page ∷ [])) ≡ false =
    finished (page ∷ []) (take 1 stream.headers)
    (subst (λ (l : List Page). HoldsPackets l (take 1 stream.headers) 0 []) (is_first_page stream good).alone (first_held stream)) in
    record {
      good = good;
      own = headers_own stream;
      unmarked = run_unmarked stream.serial 1 (map header (drop 1 stream.headers));
      goes_on = run_goes_on stream.serial 1 (map header (drop 1 stream.headers));
      fits = run_fits stream.serial 1 (map header (drop 1 stream.headers)) (page ∷ []) (λ e. cc) closed (ap (λ b. b || false) (not_last stream)) number;
      held = headers_held stream;
      number = number_behind_run stream.serial 1 (map header (drop 1 stream.headers)) (page ∷ []) number
          ∙ ap (λ n. 1 + n) (sym (run_pages stream.serial 1 (map header (drop 1 stream.headers))));
      still = run_still stream.serial 1 (drop 1 stream.headers);
    }

plain_are_parts : (streams : List NewStream) → AllByRecursion IsGood streams → AllByRecursion IsPart (map plain_part streams)
plain_are_parts streams good =
    all_to_map IsPart plain_part streams (all_weaker IsGood (λ (s : NewStream). IsPart (plain_part s)) plain_is_part streams good)

plain_firsts : (streams : List NewStream) → firsts (map plain_part streams) ≡ flat_map first_pages streams
plain_firsts [] = refl
plain_firsts (s ∷ streams) = ap (λ (l : List Page). first_pages s ++ l) (plain_firsts streams)

plain_laters : (streams : List NewStream) → laters (map plain_part streams) ≡ flat_map header_pages streams
plain_laters [] = refl
plain_laters (s ∷ streams) = ap (λ (l : List Page). header_pages s ++ l) (plain_laters streams)

plain_serials : (streams : List NewStream) → part_serials (map plain_part streams) ≡ serials streams
plain_serials [] = refl
plain_serials (s ∷ streams) = ap (λ l. s.serial ∷ l) (plain_serials streams)

plain_begun : (streams : List NewStream) → map begun_of (map plain_part streams) ≡ map begun streams
plain_begun [] = refl
plain_begun (s ∷ streams) = ap (λ l. begun s ∷ l) (plain_begun streams)

-- ---- a part's state
abbrev part_state : Part → StreamState
part_state part = state part.stream.serial (1 + length part.later) 0 false true

number_of : (part : Part) → IsPart part → number_behind (first_of part ++ later_of part) ≡ 1 + length part.later
number_of part h = ap (λ (l : List Page). number_behind (l ++ later_of part)) (is_first_page part.stream h.good).alone ∙ h.number

part_still : (part : Part) → IsPart part → AllByRecursion IsStill (first_of part ++ later_of part)
part_still part h =
    all_both IsStill (first_of part) (later_of part)
    (flagged_still first_flag (pages_of_run part.stream.serial 0 (map header (take 1 part.stream.headers))) (run_still part.stream.serial 0 (take 1 part.stream.headers))) h.still

new_is : (link : List Page) (part : Part) → IsPart part → GoOn link → pages_with part.stream.serial link ≡ first_of part ++ later_of part →
    state_of link part.stream.serial ≡ part_state part
new_is link part h go_on own_is =
    let serial : ℕ = part.stream.serial in
    let own : List Page = first_of part ++ later_of part in
    let position : last_position own ≡ 0 = still_position own (part_still part h) in
    ap (λ (l : List Page). state serial (number_behind l) (last_position l) (has_ended link serial) (not (ends_open (joined_lacing l)))) own_is
    ∙ ap (λ n. state serial n (last_position own) (has_ended link serial) (not (ends_open (joined_lacing own)))) (number_of part h)
    ∙ ap (λ n. state serial (1 + length part.later) n (has_ended link serial) (not (ends_open (joined_lacing own)))) position
    ∙ ap (λ b. state serial (1 + length part.later) 0 b (not (ends_open (joined_lacing own)))) (not_ended serial link go_on)
    ∙ ap (λ b. state serial (1 + length part.later) 0 false (not b)) (finished own part.stream.headers (stream_held part h))

-- ---- whether there are pages that are no stream's first
later_pages : (pages : List Page) → Unmarked pages → list_any (λ p. not (is_first p)) pages ≡ nat_lt 0 (length pages)
later_pages [] h = refl
later_pages (page ∷ pages) h =
    ap (λ b. not b || list_any (λ p. not (is_first p)) pages) h.0 ∙ sym (lt-ltb 0 (length (page ∷ pages)) (omega arith))

more_pages : (a b : ℕ) → nat_lt 0 (a + b) ≡ (nat_lt 0 a || nat_lt 0 b)
more_pages zero zero = refl
more_pages zero (suc b) = lt-ltb 0 (zero + suc b) (omega arith) ∙ sym (lt-ltb 0 (suc b) (omega arith))
more_pages (suc a) b = lt-ltb 0 (suc a + b) (omega arith) ∙ sym (ap (λ c. c || nat_lt 0 b) (lt-ltb 0 (suc a) (omega arith)))

pages_at : (stream : NewStream) (headers : List (List ℕ)) →
    length (pages_of_run stream.serial 1 (map header (drop 1 headers))) ≡ pages_for (length (run_lacing (map header (drop 1 headers)))) →
    nat_lt 0 (length (pages_of_run stream.serial 1 (map header (drop 1 headers)))) ≡ nat_lt 1 (length headers)
unfolding run_lacing
pages_at stream [] e = ap (nat_lt 0) e
pages_at stream (packet ∷ []) e = ap (nat_lt 0) e
pages_at stream (packet ∷ next ∷ headers) e =
    lt-ltb 0 (length (pages_of_run stream.serial 1 (map header (next ∷ headers)))) (omega (arith, e, some_values (map header (next ∷ headers))))
    ∙ sym (lt-ltb 1 (length (packet ∷ next ∷ headers)) (omega arith))

some_pages : (stream : NewStream) → nat_lt 0 (length (header_pages stream)) ≡ has_other_headers stream
some_pages stream = pages_at stream stream.headers (run_pages stream.serial 1 (map header (drop 1 stream.headers)))

any_pages : (streams : List NewStream) → nat_lt 0 (length (flat_map header_pages streams)) ≡ list_any has_other_headers streams
any_pages [] = refl
any_pages (stream ∷ streams) =
    ap (nat_lt 0) (length-append (header_pages stream) (flat_map header_pages streams)) ∙ more_pages (length (header_pages stream)) (length (flat_map header_pages streams))
    ∙ ap (λ b. b || nat_lt 0 (length (flat_map header_pages streams))) (some_pages stream) ∙ ap (λ b. has_other_headers stream || b) (any_pages streams)

has_later : (parts : List Part) → AllByRecursion IsPart parts → list_any (λ p. not (is_first p)) (firsts parts ++ laters parts) ≡ nat_lt 0 (length (laters parts))
has_later parts good =
    list_any-append (λ (p : Page). not (is_first p)) (firsts parts) (laters parts)
    ∙ ap (λ b. b || list_any (λ (p : Page). not (is_first p)) (laters parts)) (no_data (firsts parts) (all_first (λ (p : Page). is_first p ≡ true) (λ s. marked_first s.stream) parts good))
    ∙ later_pages (laters parts) (laters_unmarked parts good)

-- ---- the link
-- what a link is, what it holds, and what its streams are
pub record IsNewLink (link : List Page) (held : List Stream) (behind : List StreamState) (more : Bool) (own : List ℕ) : Type 0 where
  pub link_is : IsLink link
  pub holds : HoldsLink link held
  pub states : map (state_of link) (serials_of link) ≡ behind
  pub has_data : list_any (λ (p : Page). not (is_first p)) link ≡ more
  pub serials_are : serials_of link ≡ own

-- what a new link is like that breaks no rule
pub record CanBegin (skeleton : Option SkeletonHead) (streams : List NewStream) : Type 0 where
  pub good : AllByRecursion IsGood streams
  pub distinct : IsDistinct nat_eq (serials_in skeleton streams)
  pub some : 0 < length streams
  pub few : length streams + length (skeleton_serial skeleton) ≤ 64

-- ---- without a Skeleton
each_state : (link : List Page) (streams : List NewStream) → AllByRecursion (λ (s : NewStream). state_of link s.serial ≡ new_state s) streams →
    map (state_of link) (serials streams) ≡ map new_state streams
each_state link [] h = refl
each_state link (s ∷ streams) h = ap (λ x. x ∷ map (state_of link) (serials streams)) h.0 ∙ ap (λ l. new_state s ∷ l) (each_state link streams h.1)

plain_states : (link : List Page) (parts : List Part) → AllByRecursion IsPart parts → GoOn link →
    AllByRecursion (λ (s : Part). pages_with s.stream.serial link ≡ first_of s ++ later_of s) parts →
    AllByRecursion (λ (s : Part). state_of link s.stream.serial ≡ part_state s) parts
plain_states link [] good go_on own = tt
plain_states link (s ∷ parts) good go_on own = (new_is link s good.0 go_on own.0, plain_states link parts good.1 go_on own.1)

pub plain_link : (streams : List NewStream) → CanBegin None streams →
    IsNewLink (pages_of_begin None streams) (begun_link None streams) (states_of None streams) (has_more_pages None streams) (serials_in None streams)
plain_link streams can =
    let parts : List Part = map plain_part streams in
    let body : List Page = firsts parts ++ laters parts in
    let good : AllByRecursion IsPart parts = plain_are_parts streams can.good in
    let d : IsDistinct nat_eq (part_serials parts) = subst (IsDistinct nat_eq) (sym (plain_serials streams)) can.distinct in
    let count : length parts ≡ length streams = length-map streams plain_part in
    let same : body ≡ pages_of_begin None streams =
    ap (λ (l : List Page). l ++ laters parts) (plain_firsts streams) ∙ ap (λ (l : List Page). flat_map first_pages streams ++ l) (plain_laters streams) in
    let own : serials_of body ≡ serials streams = serials_are parts good ∙ plain_serials streams in
    let few = can.few in
    let some = can.some in
    subst (λ (l : List Page). IsNewLink l (begun_link None streams) (states_of None streams) (has_more_pages None streams) (serials_in None streams)) same
    (record {
      link_is = new_link parts good d (omega arith) (omega arith);
      holds = subst (HoldsLink body) (plain_begun streams) (new_holds parts good d);
      states = ap (map (state_of body)) own
          ∙ each_state body streams (all_of_map (λ (s : Part). state_of body s.stream.serial ≡ part_state s) plain_part streams
          (plain_states body parts good (all_go_on parts good) (its_pages parts good d)));
      has_data = has_later parts good ∙ ap (λ (l : List Page). nat_lt 0 (length l)) (plain_laters streams) ∙ any_pages streams;
      serials_are = own;
    })

-- ---- with a Skeleton
abbrev closed_by : Stream → Stream
closed_by stream = record { serial = stream.serial; packets = stream.packets ++ [] ∷ []; ended = true }

abbrev closed_at : ℕ → Stream → Stream
closed_at serial stream = cond (nat_eq stream.serial serial) (closed_by stream) stream

ended_page : (serial sequence : ℕ) → has_ended (last_page serial sequence ∷ []) serial ≡ true
ended_page serial sequence =
    ap (list_any is_last) (cond-true (nat_eq serial serial) (last_page serial sequence ∷ []) [] (eq-eqb serial serial refl))

closed_here : (serial sequence : ℕ) (stream : Stream) → stream.serial ≡ serial →
    closed_at serial stream ≡ grown stream ([] ∷ []) (has_ended (last_page serial sequence ∷ []) serial)
closed_here serial sequence stream e =
    cond-true (nat_eq stream.serial serial) (closed_by stream) stream (eq-eqb stream.serial serial e)
    ∙ ap (λ (b : Bool). record { serial = stream.serial; packets = stream.packets ++ [] ∷ []; ended = b })
    (sym (ap (λ b. stream.ended || b) (ended_page serial sequence) ∙ or-true stream.ended))

closed_elsewhere : (serial : ℕ) (stream : Stream) → (stream.serial ≡ serial → ⊥) → closed_at serial stream ≡ stream
closed_elsewhere serial stream ne = cond-false (nat_eq stream.serial serial) (closed_by stream) stream (ne_eqb stream.serial serial ne)

others_stay : (serial : ℕ) (streams : List NewStream) → AllByRecursion (λ y. nat_eq serial y ≡ false) (serials streams) →
    map (closed_at serial) (map begun_of (map plain_part streams)) ≡ map begun streams
others_stay serial [] h = refl
others_stay serial (s ∷ streams) h =
    ap (λ x. x ∷ map (closed_at serial) (map begun_of (map plain_part streams))) (closed_elsewhere serial (begun s) (λ e. eqb-false serial s.serial h.0 (sym e)))
    ∙ ap (λ l. begun s ∷ l) (others_stay serial streams h.1)

other_states : (body pages : List Page) (serial : ℕ) (streams : List NewStream) → AllByRecursion (λ (p : Page). p.serial ≡ serial) pages →
    AllByRecursion (λ y. nat_eq serial y ≡ false) (serials streams) → AllByRecursion (λ (s : NewStream). state_of body s.serial ≡ new_state s) streams →
    AllByRecursion (λ (s : NewStream). state_of (body ++ pages) s.serial ≡ new_state s) streams
other_states body pages serial [] own h states = tt
other_states body pages serial (s ∷ streams) own h states =
    (state_other body pages serial s.serial own (eqb-false serial s.serial h.0) ∙ states.0, other_states body pages serial streams own h.1 states.1)

-- the Skeleton after its last page
closed_state : (body : List Page) (serial count : ℕ) (own : List Page) (packets : List (List ℕ)) → pages_with serial body ≡ own → AllByRecursion IsStill own →
    HoldsPackets own packets 0 [] → state_of (body ++ last_page serial (count + 1) ∷ []) serial ≡ state serial (count + 2) 0 true true
closed_state body serial count own packets is still held =
    let page : Page = last_page serial (count + 1) in
    let link : List Page = body ++ page ∷ [] in
    let both : pages_with serial link ≡ own ++ page ∷ [] = with_own serial body (page ∷ []) (refl, tt) ∙ ap (λ (l : List Page). l ++ page ∷ []) is in
    let number : number_behind (own ++ page ∷ []) ≡ count + 2 = fold-append (λ (found : ℕ) (p : Page). p.sequence + 1) 0 own (page ∷ []) ∙ omega arith in
    let position : last_position (own ++ page ∷ []) ≡ 0 = still_position (own ++ page ∷ []) (all_both IsStill own (page ∷ []) still (inl refl, tt)) in
    let ended : has_ended link serial ≡ true = ended_both serial body (page ∷ []) ∙ ap (λ b. has_ended body serial || b) (ended_page serial (count + 1)) ∙ or-true (has_ended body serial) in
    let whole : ends_open (joined_lacing (own ++ page ∷ [])) ≡ false =
    ap ends_open (flat_map-append (λ (p : Page). p.lacing) own (page ∷ [])) ∙ ends_open-append (joined_lacing own) (0 ∷ []) (finished own packets held) in
    ap (λ (l : List Page). state serial (number_behind l) (last_position l) (has_ended link serial) (not (ends_open (joined_lacing l)))) both
    ∙ ap (λ n. state serial n (last_position (own ++ page ∷ [])) (has_ended link serial) (not (ends_open (joined_lacing (own ++ page ∷ []))))) number
    ∙ ap (λ n. state serial (count + 2) n (has_ended link serial) (not (ends_open (joined_lacing (own ++ page ∷ []))))) position
    ∙ ap (λ b. state serial (count + 2) 0 b (not (ends_open (joined_lacing (own ++ page ∷ []))))) ended
    ∙ ap (λ b. state serial (count + 2) 0 true (not b)) whole

empty_held : (serial sequence : ℕ) → HoldsPackets (last_page serial sequence ∷ []) ([] ∷ []) 0 []
unfolding lacing_of
empty_held serial sequence = record { lacing = refl; bodies = refl; rest_size = refl }

some_pages_in : (xs ys : List Page) → 0 < length xs → xs ++ ys ≢ []
some_pages_in [] ys some e = absurd (omega arith)
some_pages_in (x ∷ xs) ys some e = cc

pub described_link : (head : SkeletonHead) (streams : List NewStream) → CanBegin (Some head) streams → length head.utc ≡ 20 → list_any has_long_message streams ≡ false →
    IsNewLink (pages_of_begin (Some head) streams) (begun_link (Some head) streams) (states_of (Some head) streams) (has_more_pages (Some head) streams) (serials_in (Some head) streams)
unfolding IsDistinct
described_link head streams can size short =
    let serial : ℕ = head.serial in
    let skeleton : Part = skeleton_part head streams in
    let parts : List Part = skeleton ∷ map plain_part streams in
    let body : List Page = firsts parts ++ laters parts in
    let page : Page = last_page serial (length streams + 1) in
    let link : List Page = body ++ page ∷ [] in
    let is : IsPart skeleton = is_skeleton_part head streams size short in
    let good : AllByRecursion IsPart parts = (is, plain_are_parts streams can.good) in
    let d : IsDistinct nat_eq (part_serials parts) = subst (λ l. IsDistinct nat_eq (serial ∷ l)) (sym (plain_serials streams)) can.distinct in
    let count : length parts ≡ length streams + 1 = ap suc (length-map streams plain_part) ∙ omega arith in
    let few = can.few in
    let go_on : GoOn body = all_go_on parts good in
    let its : AllByRecursion (λ (s : Part). pages_with s.stream.serial body ≡ first_of s ++ later_of s) parts = its_pages parts good d in
    let own : List Page = pages_with serial body in
    let own_serials : serials_of body ≡ serial ∷ serials streams = serials_are parts good ∙ ap (λ l. serial ∷ l) (plain_serials streams) in
    let there : has_stream body serial ≡ true =
    ap (list_any (nat_eq serial)) own_serials ∙ or_left (nat_eq serial serial) (list_any (nat_eq serial) (serials streams)) (eq-eqb serial serial refl) in
    let packets : List (List ℕ) = (skeleton_stream head streams).headers in
    let held : HoldsPackets own packets 0 [] = subst (λ (l : List Page). HoldsPackets l packets 0 []) (sym its.0) (stream_held skeleton is) in
    let closed : ends_open (joined_lacing own) ≡ false = finished own packets held in
    let number : number_behind own ≡ length streams + 1 = ap number_behind its.0 ∙ number_of skeleton is ∙ omega (arith, fisbones_count serial 1 streams short) in
    let fits : FitsBehind own page = record {
      continued = sym closed;
      sequence = λ _. sym number;
      first = (λ e. false_is_not_true (is_first page) refl e, λ e. absurd (stream_some body serial there e));
      first_packet = λ e. absurd (stream_some body serial there e);
      last = not_ended serial body go_on;
      last_packet = λ _. ap ends_open (flat_map-append (λ (p : Page). p.lacing) own (page ∷ [])) ∙ ends_open-append (joined_lacing own) (0 ∷ []) closed;
    } in
    let firsts_some : 0 < length (firsts parts) = omega (arith, ap length (firsts_are parts good), length-map parts page_of) in
    let same : link ≡ pages_of_begin (Some head) streams =
    ap (λ (l : List Page). ((first_of skeleton ++ l) ++ laters parts) ++ page ∷ []) (plain_firsts streams)
    ∙ ap (λ (l : List Page). ((first_of skeleton ++ flat_map first_pages streams) ++ (later_of skeleton ++ l)) ++ page ∷ []) (plain_laters streams)
    ∙ ap (λ (l : List Page). ((first_of skeleton ++ flat_map first_pages streams) ++ (later_of skeleton ++ flat_map header_pages streams)) ++ l) (sym (end_is serial (length streams + 1))) in
    let own_in_link : serials_of link ≡ serial ∷ serials streams = serials_same body (page ∷ []) (refl, tt) ∙ own_serials in
    let states : AllByRecursion (λ (s : NewStream). state_of link s.serial ≡ new_state s) streams =
    other_states body (page ∷ []) serial streams (refl, tt) can.distinct.0
    (all_of_map (λ (s : Part). state_of body s.stream.serial ≡ part_state s) plain_part streams (plain_states body parts good go_on its).1) in
    subst (λ (l : List Page). IsNewLink l (begun_link (Some head) streams) (states_of (Some head) streams) (has_more_pages (Some head) streams) (serials_in (Some head) streams)) same
    (record {
      link_is = grow_link body serial (page ∷ []) (new_link parts good d (omega arith) (omega arith)) there (refl, tt) (refl, tt) (fits, tt)
          (λ _. none_ends body (some_pages_in (firsts parts) (laters parts) firsts_some) go_on, tt);
      holds = subst (HoldsLink link)
          (ap (λ x. x ∷ map (closed_at serial) (map begun_of (map plain_part streams)))
          (cond-true (nat_eq serial serial) (closed_by (begun_of skeleton)) (begun_of skeleton) (eq-eqb serial serial refl))
          ∙ ap (λ l. ended_skeleton head streams ∷ l) (others_stay serial streams can.distinct.0))
          (grow_holds body serial (page ∷ []) ([] ∷ []) (map begun_of parts) (closed_at serial) (refl, tt) (refl, tt) (empty_held serial (length streams + 1))
          (closed_here serial (length streams + 1)) (closed_elsewhere serial) (new_holds parts good d));
      states = ap (map (state_of link)) own_in_link
          ∙ ap (λ x. x ∷ map (state_of link) (serials streams)) (closed_state body serial (length streams) (first_of skeleton ++ later_of skeleton) packets its.0 (part_still skeleton is) (stream_held skeleton is))
          ∙ ap (λ l. skeleton_state serial streams ∷ l) (each_state link streams states);
      has_data = data_with body (page ∷ []) (omega arith) (refl, tt);
      serials_are = own_in_link;
    })
