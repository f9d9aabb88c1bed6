-- What each turn leaves.
use Rattle.std.proofs.Common.{◌≡◌, ◌≢◌, ℕ, ◌+◌, ◌<◌, Bool, true, false, if◌then◌else◌, Option, Some, None, Result, Ok, Err, IfErr, OnOk, List, [], ◌∷◌, ◌++◌, length, take, refl, sym, ◌∙◌, ap, subst, arith, append_assoc, length-append}
use Rattle.std.specs.Prelude.{◌-◌, ◌^◌}
use Rattle.std.specs.List.{AllByRecursion}
use Rattle.std.specs.Io.KnownBytes.{Appends, Consumes}
use Rattle.std.proofs.KnownBytes.{Appends-nil, Appends-trans, Consumes-trans}
use Rattle.std.proofs.Math.Seq.{take-append-add}
use Rattle.std.proofs.lemmas.List.{take_all}
use Rattle.std.proofs.lemmas.List.Concat.{flat_map-append}
use Rattle.ogg_page.specs.Output.{WritesPrefix}
use Rattle.ogg_page.specs.Laws.PageBytes.{all_both}
use Rattle.ogg_page.specs.Page.{Page as PageValue, page_bytes, page_size}
use Rattle.ogg_page.specs.Laws.ReadAgain.{length-page_bytes}
use Rattle.link_chain.specs.Links.{AreLinks, flattened, with_pages}
use Rattle.link_chain.specs.ChainState.{chain_state_of}
use Rattle.link_chain.specs.Taking.{begins_link, fault_of_page, links_with}
use Rattle.link_chain.specs.Laws.TakenLinks.{page_is_taken}
use Rattle.ogg_command.specs.declared.command.Command.{Command}
use Rattle.import_feed.specs.Source.{GoesFurther, HasSourced, Sourced, gathered_of}
use Rattle.feed_records.specs.Record.{announcement}
use Rattle.import_feed.specs.Feed.{Fits, GivesNot, HasTooLong, feed_of, record_bytes, records_of}
use Rattle.import_feed.specs.Making.{Breaks, HasGiven, HasTaken, IsFaultOfInput}
use Rattle.import_feed.specs.Turn.{Closes, EndsAt, Gives, GivesNoFurther, GivesRest, GivesRestNot, GoesOn, HasMade, IsFaultBehind, MeetsFault, NextOf, StillMakes, TakesPage, Turns}
use Rattle.import_feed.specs.declared.maker.Maker.{Maker}
use Rattle.import_feed.specs.declared.fault.MakingFault.{MakingFault}
use Rattle.import_feed.specs.declared.fault.MakingFault.TheVariants.{Page, Chain, PacketTooLong, Unfinished, TooLong, Read, Limit, Write, Memory}
use Rattle.import_feed.proofs.Lists.{counted_on, later_of}
use Rattle.import_changes.specs.declared.options.ChangeOptions.{ChangeOptions}

-- ---- bytes read and written
pub read_on : (from left now : Option (List ℕ)) (links : List (List PageValue)) (offset : ℕ) (rest taken : List ℕ) →
    HasTaken from left links offset rest → Consumes left now taken → HasTaken from now links offset (rest ++ taken)
read_on from left now links offset rest taken was consumed = record {
  bytes = was.bytes;
  are = was.are;
  consumed = subst (Consumes from now) (append_assoc was.bytes rest taken) (Consumes-trans from left now (was.bytes ++ rest) taken was.consumed consumed);
  offset_is = was.offset_is;
}

pub prefix_more : (a b c : Option (List ℕ)) (xs ys : List ℕ) → Appends a b xs → WritesPrefix b c ys → WritesPrefix a c (xs ++ ys)
prefix_more a b c xs ys first (n, fits, more) = (
  length xs + n,
  omega (arith, fits, length-append xs ys),
  subst (Appends a c) (sym (take-append-add xs ys n)) (Appends-trans a b c xs (take n ys) first more),
)

pub whole_prefix : (a b : Option (List ℕ)) (xs : List ℕ) → Appends a b xs → WritesPrefix a b xs
whole_prefix a b xs all = (length xs, omega arith, subst (Appends a b) (sym (take_all (length xs) xs (omega arith))) all)

pub none_prefix : (a b : Option (List ℕ)) (xs : List ℕ) → b ≡ a → WritesPrefix a b xs
none_prefix a b xs same = (0, omega arith, subst (λ w. Appends a w []) (sym same) (Appends-nil a))

-- commands that aren't given are written in part, or not at all
pub not_given : (a b : Option (List ℕ)) (bytes : List ℕ) (commands : List Command) (fault : MakingFault) → GivesNot a b bytes commands fault → WritesPrefix a b bytes
not_given a b bytes commands Limit (same, long) = none_prefix a b bytes same
not_given a b bytes commands Write prefix = prefix
not_given a b bytes commands Memory same = none_prefix a b bytes same
not_given a b bytes commands (Page at fault) never = absurd never
not_given a b bytes commands (Chain at fault) never = absurd never
not_given a b bytes commands (PacketTooLong at) never = absurd never
not_given a b bytes commands (Unfinished at serial) never = absurd never
not_given a b bytes commands (TooLong at) never = absurd never
not_given a b bytes commands (Read at) never = absurd never

pub feed_more : (given more : List Command) → feed_of (given ++ more) ≡ feed_of given ++ records_of more
feed_more given more =
    ap (λ l. announcement ++ l) (flat_map-append record_bytes given more) ∙ sym (append_assoc announcement (records_of given) (records_of more))

pub written_more : (a b c : Option (List ℕ)) (given more : List Command) → Appends a b (feed_of given) → Appends b c (records_of more) → Appends a c (feed_of (given ++ more))
written_more a b c given more first second =
    subst (Appends a c) (sym (feed_more given more)) (Appends-trans a b c (feed_of given) (records_of more) first second)

pub prefix_written : (a b c : Option (List ℕ)) (given more : List Command) → Appends a b (feed_of given) → WritesPrefix b c (records_of more) → WritesPrefix a c (feed_of (given ++ more))
prefix_written a b c given more first second =
    subst (WritesPrefix a c) (sym (feed_more given more)) (prefix_more a b c (feed_of given) (records_of more) first second)

-- ---- a page more
with_more : (link : List PageValue) (links : List (List PageValue)) (page : PageValue) →
    length (flattened (with_pages (link ∷ links) (page ∷ []))) ≡ length (flattened (link ∷ links)) + 1
with_more link [] page =
    omega (arith, length-append (link ++ page ∷ []) [], length-append link (page ∷ []), length-append link [])
with_more link (next ∷ links) page =
    omega (
      arith,
      with_more next links page,
      length-append link (flattened (with_pages (next ∷ links) (page ∷ []))),
      length-append link (flattened (next ∷ links)),
    )

opened_more : (links : List (List PageValue)) (page : PageValue) → length (flattened (links ++ (page ∷ []) ∷ [])) ≡ length (flattened links) + 1
opened_more links page =
    omega (
      arith,
      ap length (flat_map-append (λ (link : List PageValue). link) links ((page ∷ []) ∷ [])),
      length-append (flattened links) (flattened ((page ∷ []) ∷ [])),
    )

either_more : (begins : Bool) (links : List (List PageValue)) (page : PageValue) →
    (if begins then links ++ (page ∷ []) ∷ [] else with_pages links (page ∷ [])) ≢ [] →
    length (flattened (if begins then links ++ (page ∷ []) ∷ [] else with_pages links (page ∷ []))) ≡ length (flattened links) + 1
either_more true links page some = opened_more links page
either_more false [] page some = absurd (some refl)
either_more false (link ∷ links) page some = with_more link links page

-- the page is taken
pub record TakenOn (from left : Option (List ℕ)) (links : List (List PageValue)) (page : PageValue) (offset : ℕ) (rest : List ℕ) : Type 0 where
  pub taken : HasTaken from left (links_with links page) offset rest
  pub count : length (flattened (links_with links page)) ≡ length (flattened links) + 1

pub taken_on : (options : ChangeOptions) (from left now : Option (List ℕ)) (old new : Maker) (links : List (List PageValue)) (given : List Command) →
    HasTaken from left links old.pages.offset old.pages.unread → HasSourced options links old.gatherer given → (t : TakesPage old new left now) →
    TakenOn from now links t.page new.pages.offset new.pages.unread
taken_on options from left now old new links given was gathers t =
    let page : PageValue = t.page in
    let follows : fault_of_page (chain_state_of links) page ≡ None = subst (λ chain. fault_of_page chain page ≡ None) gathers.gathers.chain t.gathers.follows in
    let are : AreLinks (was.bytes ++ page_bytes page) (links_with links page) = page_is_taken was.bytes links page t.is_page was.are follows in
    let size : length (was.bytes ++ page_bytes page) ≡ length was.bytes + page_size page =
    length-append was.bytes (page_bytes page) ∙ ap (λ n. length was.bytes + n) (length-page_bytes page) in
    let all : (was.bytes ++ old.pages.unread) ++ t.taken ≡ (was.bytes ++ page_bytes page) ++ new.pages.unread =
    append_assoc was.bytes old.pages.unread t.taken ∙ ap (λ l. was.bytes ++ l) t.joined ∙ sym (append_assoc was.bytes (page_bytes page) new.pages.unread) in
    record {
      taken = record {
        bytes = was.bytes ++ page_bytes page;
        are = are;
        consumed = subst (Consumes from now) all (Consumes-trans from left now (was.bytes ++ old.pages.unread) t.taken was.consumed t.consumed);
        offset_is = t.offset ∙ ap (λ n. n + page_size page) was.offset_is ∙ sym size;
      };
      count = either_more (begins_link (chain_state_of links) page) links page
          (λ none. no_page (was.bytes ++ page_bytes page) (links_with links page) are none (omega (arith, size)));
    }
  where
    no_page : (bytes : List ℕ) (links : List (List PageValue)) → AreLinks bytes links → links ≡ [] → 0 < length bytes → ⊥
    no_page bytes [] are none some = absurd (omega (arith, ap length are.spelled, some))
    no_page bytes (link ∷ links) are none some = cc

-- ---- a turn
pub takes_page : (is_page : Bool) (old new : Maker) (from left : Option (List ℕ)) → is_page ≡ true → NextOf (Ok is_page) old new from left → TakesPage old new from left
takes_page true old new from left is takes = takes
takes_page false old new from left is takes = cc

-- a page was taken, and its commands were written
pub turn_made : (options : ChangeOptions) (from left0 left1 before now0 now1 : Option (List ℕ)) (old mid after : Maker) (links : List (List PageValue)) (given : List Command) →
    HasMade options from left0 before now0 old links given → TakesPage old mid left0 left1 → Gives mid after now0 now1 →
    StillMakes options from left1 before now1 (record {
      pages = after.pages;
      gatherer = after.gatherer;
      commands = after.commands;
      bytes = after.bytes;
      made = record { pages = after.made.pages + 1; commands = after.made.commands };
    })
turn_made options from left0 left1 before now0 now1 old mid after links given was t g =
    let more : List Command = t.gathers.more in
    let commands : mid.commands.items ≡ more = t.gathers.appended in
    let on = taken_on options from left0 left1 old mid links given was.taken was.all.gathers t in
    let gathered = t.gathers.gathers options links given was.all.gathers was.goes in
    let page_count : mid.made.pages ≡ old.made.pages = ap (λ m. m.pages) t.made in
    let command_count : mid.made.commands ≡ old.made.commands = ap (λ m. m.commands) t.made in
    record {
      links = links_with links t.page;
      given = given ++ more;
      made = record {
        taken = subst (λ r. HasTaken from left1 (links_with links t.page) r.offset r.unread) (sym g.pages) on.taken;
        all = record {
          gathers = subst (λ (q : Sourced). HasSourced options (links_with links t.page) q (given ++ more)) (sym g.gatherer) gathered.0;
          fits = all_both Fits given more was.all.fits (subst (AllByRecursion Fits) commands g.fits);
          written = written_more before now0 now1 given more was.all.written (subst (λ (l : List Command). Appends now0 now1 (records_of l)) commands g.written);
        };
        goes = subst GoesFurther (sym g.gatherer) gathered.1;
        pages = ap (λ n. n + 1) (g.page_count ∙ page_count ∙ was.pages) ∙ sym on.count;
        counted = counted_on (2 ^ 64 - 1) after.made.commands mid.made.commands (length mid.commands.items) (length given) (length (given ++ more)) g.counted
            (command_count ∙ was.counted) (length-append given more ∙ ap (λ (l : List Command). length given + length l) (sym commands));
      };
    }

pub turn_goes : (left0 left1 now0 now1 : Option (List ℕ)) (old mid after : Maker) →
    GoesOn old → TakesPage old mid left0 left1 → Gives mid after now0 now1 →
    GoesOn (record {
      pages = after.pages;
      gatherer = after.gatherer;
      commands = after.commands;
      bytes = after.bytes;
      made = record { pages = after.made.pages + 1; commands = after.made.commands };
    }) × (old.pages.offset < after.pages.offset)
turn_goes left0 left1 now0 now1 old mid after goes t g =
    let offset : after.pages.offset ≡ old.pages.offset + page_size t.page = ap (λ p. p.offset) g.pages ∙ t.offset in
    let count : after.made.pages ≡ old.made.pages = g.page_count ∙ ap (λ m. m.pages) t.made in (
      record {
        unended = ap (λ p. p.outcome) g.pages ∙ t.unended;
        place = ap (λ (q : Sourced). q.chain.length_of) g.gatherer ∙ t.gathers.grows ∙ ap (λ n. n + page_size t.page) goes.place ∙ sym offset;
        small = omega (arith, ap (λ p. p.offset) g.pages, t.small);
        counted = omega (arith, count, goes.counted, offset);
      },
      omega (arith, offset),
    )

-- no page was taken
input_fault : (options : ChangeOptions) (fault : MakingFault) (links : List (List PageValue)) (given : List Command) (gathered : Sourced) (offset : ℕ) (rest : List ℕ) (left : Option (List ℕ)) →
    HasSourced options links gathered given → IsFaultBehind fault gathered offset rest left → IsFaultOfInput fault links offset rest left
input_fault options (Page at fault) links given gathered offset rest left gathers is = is
input_fault options (Read at) links given gathered offset rest left gathers is = is
input_fault options (TooLong at) links given gathered offset rest left gathers is = is
input_fault options (Chain at fault) links given gathered offset rest left gathers (at_is, page, begins, is) =
    (at_is, page, begins, subst (λ chain. fault_of_page chain page ≡ Some fault) gathers.gathers.chain is)
input_fault options (PacketTooLong at) links given gathered offset rest left gathers (at_is, page, begins, follows, long) = (
  at_is,
  page,
  begins,
  record {
    follows = subst (λ chain. fault_of_page chain page ≡ None) gathers.gathers.chain follows;
    gathered = gathered_of gathered;
    given = gathers.commands;
    gathers = gathers.gathers;
    long = long;
  },
)
input_fault options (Unfinished at serial) links given gathered offset rest left gathers is = absurd is
input_fault options Limit links given gathered offset rest left gathers is = absurd is
input_fault options Write links given gathered offset rest left gathers is = absurd is
input_fault options Memory links given gathered offset rest left gathers is = absurd is

ends_at : (options : ChangeOptions) (fault : MakingFault) (from left0 left1 before now : Option (List ℕ)) (old mid : Maker) (links : List (List PageValue)) (given : List Command) →
    HasMade options from left0 before now old links given → MeetsFault fault old mid left0 left1 → EndsAt options fault from left1 before now mid
ends_at options fault from left0 left1 before now old mid links given was meets = record {
  links = links;
  given = given;
  offset = old.pages.offset;
  rest = old.pages.unread ++ meets.taken;
  taken = read_on from left0 left1 links old.pages.offset old.pages.unread meets.taken was.taken meets.consumed;
  fault_is = input_fault options fault links given old.gatherer old.pages.offset (old.pages.unread ++ meets.taken) left1 was.all.gathers meets.fault_is;
  all = subst (λ (q : Sourced). HasGiven options before now links q given) (sym meets.gatherer) was.all;
}

pub turn_fails : (options : ChangeOptions) (fault : MakingFault) (from left0 left1 before now : Option (List ℕ)) (old mid : Maker) (links : List (List PageValue)) (given : List Command) →
    HasMade options from left0 before now old links given → NextOf (Err fault) old mid left0 left1 → Turns options (Err fault) from left1 before now mid
turn_fails options (Page at fault) from left0 left1 before now old mid links given was meets = ends_at options (Page at fault) from left0 left1 before now old mid links given was meets
turn_fails options (Chain at fault) from left0 left1 before now old mid links given was meets = ends_at options (Chain at fault) from left0 left1 before now old mid links given was meets
turn_fails options (PacketTooLong at) from left0 left1 before now old mid links given was meets = ends_at options (PacketTooLong at) from left0 left1 before now old mid links given was meets
turn_fails options (Unfinished at serial) from left0 left1 before now old mid links given was meets = ends_at options (Unfinished at serial) from left0 left1 before now old mid links given was meets
turn_fails options (TooLong at) from left0 left1 before now old mid links given was meets = ends_at options (TooLong at) from left0 left1 before now old mid links given was meets
turn_fails options (Read at) from left0 left1 before now old mid links given was meets = ends_at options (Read at) from left0 left1 before now old mid links given was meets
turn_fails options Limit from left0 left1 before now old mid links given was meets = absurd meets.fault_is
turn_fails options Write from left0 left1 before now old mid links given was meets = absurd meets.fault_is
turn_fails options Memory from left0 left1 before now old mid links given was meets = record {
  links = links;
  offset = old.pages.offset;
  rest = old.pages.unread ++ meets.taken;
  taken = read_on from left0 left1 links old.pages.offset old.pages.unread meets.taken was.taken meets.consumed;
  broken = record { gathered = old.gatherer; given = given; gathers = was.all.gathers; written = whole_prefix before now (feed_of given) was.all.written };
}

-- a fault that isn't one of the input
own_fault : (options : ChangeOptions) (fault : MakingFault) (a b : Option (List ℕ)) (bytes : List ℕ) (commands : List Command) (from left before now : Option (List ℕ)) (maker : Maker) → GivesNot a b bytes commands fault →
    (breaks : Breaks options from left before now) → (HasTooLong commands → HasTooLong breaks.broken.given) → Turns options (Err fault) from left before now maker
own_fault options Limit a b bytes commands from left before now maker is breaks long = (breaks, long is.1)
own_fault options Write a b bytes commands from left before now maker is breaks long = breaks
own_fault options Memory a b bytes commands from left before now maker is breaks long = breaks
own_fault options (Page at fault) a b bytes commands from left before now maker never breaks long = absurd never
own_fault options (Chain at fault) a b bytes commands from left before now maker never breaks long = absurd never
own_fault options (PacketTooLong at) a b bytes commands from left before now maker never breaks long = absurd never
own_fault options (Unfinished at serial) a b bytes commands from left before now maker never breaks long = absurd never
own_fault options (TooLong at) a b bytes commands from left before now maker never breaks long = absurd never
own_fault options (Read at) a b bytes commands from left before now maker never breaks long = absurd never

-- a page was taken, and its commands weren't written as a whole
pub turn_breaks : (options : ChangeOptions) (fault : MakingFault) (from left0 left1 before now0 now1 : Option (List ℕ)) (old mid after : Maker) (links : List (List PageValue)) (given : List Command) →
    HasMade options from left0 before now0 old links given → TakesPage old mid left0 left1 → GivesNoFurther mid after now0 now1 fault →
    Turns options (Err fault) from left1 before now1 after
turn_breaks options fault from left0 left1 before now0 now1 old mid after links given was t g =
    let more : List Command = t.gathers.more in
    let prefix : WritesPrefix now0 now1 (records_of more) =
    subst (λ (l : List Command). WritesPrefix now0 now1 (records_of l)) t.gathers.appended (not_given now0 now1 (records_of mid.commands.items) mid.commands.items fault g.not) in
    own_fault options fault now0 now1 (records_of mid.commands.items) mid.commands.items from left1 before now1 after g.not (record {
      links = links_with links t.page;
      offset = mid.pages.offset;
      rest = mid.pages.unread;
      taken = (taken_on options from left0 left1 old mid links given was.taken was.all.gathers t).taken;
      broken = record {
        gathered = mid.gatherer;
        given = given ++ more;
        gathers = (t.gathers.gathers options links given was.all.gathers was.goes).0;
        written = prefix_written before now0 now1 given more was.all.written prefix;
      };
    })
    (λ long all. long (subst (AllByRecursion Fits) (sym t.gathers.appended) (later_of Fits given more all)))

-- the end, by what became of the last commands
pub closes_by : (result : Result (Unit {0}) MakingFault) (old new : Maker) (before now : Option (List ℕ)) → OnOk result (GivesRest old new before now)
    → IfErr result (λ fault. GivesRestNot fault old before now) → Closes result old new before now
closes_by (Ok done) old new before now rest not = rest
closes_by (Err fault) old new before now rest not = not
