-- What a stream's last page gives: each packet that ends in it, though it may leave another one unfinished.
use Rattle.std.proofs.Common.{◌≡◌, ℕ, suc, ◌+◌, ◌-◌, ◌*◌, ◌<◌, Bool, true, false, cond, List, [], ◌∷◌, ◌++◌, length, map, take, drop, replicate, sum, Option, Some, refl, sym, ◌∙◌, ap, subst, arith, inl, inr, append_assoc, take-append-drop, length-append, length-drop}
use Rattle.std.specs.Prelude.{nat_eq, nat_lt, not, ◌&&◌}
use Rattle.std.specs.List.{AllByRecursion, concat, flat_map}
use Rattle.std.proofs.lemmas.Bool.{cases_Bool, cond-true, cond-false, eq-eqb, false≢true, lt-ltb, ltb-false, ltb-true, or_parts}
use Rattle.std.proofs.lemmas.List.{length-take-le, replicate-append-replicate}
use Rattle.std.proofs.lemmas.List.Sums.{sum_by-append}
use Rattle.ogg_page.specs.Page.{IsByte, IsPage, Page}
use Rattle.ogg_page.specs.Lacing.{ends_open, lace}
use Rattle.ogg_page.specs.LogicalStream.{is_continued, is_first, is_last, joined_lacing}
use Rattle.link_chain.specs.ChainState.{last_link}
use Rattle.link_chain.specs.Links.{pages_with}
use Rattle.link_chain.specs.Progress.{stream_in}
use Rattle.link_chain.specs.declared.stream_state.StreamState.{StreamState}
use Rattle.ogg_command.specs.declared.command.Command.{Command}
use Rattle.ogg_command.specs.declared.command.Entry.{Entry}
use Rattle.import_commands.specs.Commands.{entry_of}
use Rattle.import_gather.specs.Cutting.{CutsInto}
use Rattle.import_gather.specs.Gathered.{Gathered, HasGathered}
use Rattle.import_gather.specs.Kept.{is_too_long, rest_of}
use Rattle.import_mend.specs.Gives.{Mending}
use Rattle.import_mend.specs.Mended.{behind_rest, ends_some, front_values, is_cut, is_joined, left_whole, whole_values, with_values, without_values}
use Rattle.import_mend.specs.Runs.{HoldWhole, tells_end, tells_loss}
use Rattle.import_mend.specs.Steps.{broken_off}
use Rattle.import_mend.specs.Ways.{number_due}
use Rattle.import_mend.specs.Whole.{HasMended, lost_of}
use Rattle.import_mend.specs.declared.mend.Mend.{Mend}
use Rattle.import_mend.specs.declared.mend.Mend.TheVariants.{Gap as GapOf, Unfinished as UnfinishedOf, TooLong as TooLongOf}
use Rattle.import_mend.proofs.ComesOut.{Later, fresh_rest, gap_apart, own_out, told_by}
use Rattle.import_mend.proofs.Fits.{closed_end, no_rest}
use Rattle.import_mend.proofs.Held.{rest_size}
use Rattle.import_mend.proofs.Kept.{behind_last, flagged, front_fits, joined_behind, without_is_page}
use Rattle.import_mend.proofs.Lacings.{full_sum, none_whole, whole_within}
use Rattle.import_mend.proofs.Origins.{finished_rest, is_known}
use Rattle.import_mend.proofs.Waiting.{StepOut}
use Rattle.import_mend.proofs.WholeRuns.{first_whole}

-- ---- what is cut off the end of a page is whole segments
byte_full : (value : ℕ) → value < 256 → nat_lt value 255 ≡ false → value ≡ 255
byte_full value small e = omega (arith, small, ltb-false value 255 e)

all_full : (values : List ℕ) → AllByRecursion IsByte values → ends_some values ≡ false → values ≡ replicate (length values) 255
all_full [] bytes none = refl
all_full (value ∷ values) bytes none =
    let parts : (nat_lt value 255 ≡ false) × (ends_some values ≡ false) = or_parts (nat_lt value 255) (ends_some values) none in
    ap (λ n. n ∷ values) (byte_full value bytes.0 parts.0) ∙ ap (λ l. 255 ∷ l) (all_full values bytes.1 parts.1)

pub behind_whole : (values : List ℕ) → AllByRecursion IsByte values → drop (whole_values values) values ≡ replicate (length values - whole_values values) 255
behind_whole [] bytes = refl
behind_whole (value ∷ values) bytes =
    elim (cases_Bool (ends_some (value ∷ values))) [
      | inl some ↦
          (let whole : whole_values (value ∷ values) ≡ suc (whole_values values) = cond-true (ends_some (value ∷ values)) (suc (whole_values values)) 0 some in
          ap (λ n. drop n (value ∷ values)) whole ∙ behind_whole values bytes.1
          ∙ ap (λ n. replicate n 255) (let e : length values - whole_values values ≡ length (value ∷ values) - whole_values (value ∷ values) = omega (arith, whole) in e))
      | inr none ↦
          (let whole : whole_values (value ∷ values) ≡ 0 = none_whole (value ∷ values) none in
          ap (λ n. drop n (value ∷ values)) whole ∙ all_full (value ∷ values) bytes none
          ∙ ap (λ n. replicate n 255) (let e : length (value ∷ values) ≡ length (value ∷ values) - whole_values (value ∷ values) = omega (arith, whole) in e))
    ]

-- the packets that end in what is left end in the page, which leaves more unfinished
pub whole_cuts : (page : Page) → IsPage page → (segments : ℕ) (rest : List ℕ) (packets : List (List ℕ)) (left : List ℕ)
    → CutsInto segments rest (with_values (whole_values page.lacing) page).lacing (with_values (whole_values page.lacing) page).body packets left
    → (now : List ℕ) × CutsInto segments rest page.lacing page.body packets now
whole_cuts page is segments rest packets left c =
    let w : ℕ = whole_values page.lacing in
    let n : ℕ = length page.lacing - w in
    let s : ℕ = sum (take w page.lacing) in
    let behind : drop w page.lacing ≡ replicate n 255 = behind_whole page.lacing is.lacing in
    let sums : sum page.lacing ≡ s + 255 * n =
    omega (arith, ap sum (sym (take-append-drop w page.lacing)), sum_by-append (λ x. x) (take w page.lacing) (drop w page.lacing), ap sum behind, full_sum n) in (
      left ++ drop s page.body,
      record {
        later = c.later + n;
        lacing = ap (λ l. replicate segments 255 ++ l) (sym (take-append-drop w page.lacing) ∙ ap (λ l. take w page.lacing ++ l) behind)
            ∙ sym (append_assoc (replicate segments 255) (take w page.lacing) (replicate n 255))
            ∙ ap (λ l. l ++ replicate n 255) c.lacing
            ∙ append_assoc (flat_map lace packets) (replicate c.later 255) (replicate n 255)
            ∙ ap (λ l. flat_map lace packets ++ l) (replicate-append-replicate c.later n 255);
        bodies = ap (λ l. rest ++ l) (sym (take-append-drop s page.body))
            ∙ sym (append_assoc rest (take s page.body) (drop s page.body))
            ∙ ap (λ l. l ++ drop s page.body) c.bodies
            ∙ append_assoc (concat packets) left (drop s page.body);
        left_size = omega (arith, length-append left (drop s page.body), c.left_size, length-drop s page.body, is.whole, sums);
      },
    )

-- ---- of a stream with an unfinished packet something is kept
whole_closes : (values : List ℕ) → whole_values values ≡ length values → ends_open values ≡ false
whole_closes values whole =
    sym (ap ends_open (ap (λ n. take n values) whole ∙ all values)) ∙ closed_end values
  where
    all : (xs : List ℕ) → take (length xs) xs ≡ xs
    all [] = refl
    all (x ∷ xs) = ap (λ l. x ∷ l) (all xs)

some_open : (values : List ℕ) → ends_open values ≡ true → whole_values values < length values
some_open values is_open =
    elim (cases_Bool (nat_lt (whole_values values) (length values))) [
      | inl less ↦ ltb-true (whole_values values) (length values) less
      | inr not_less ↦
          absurd (false≢true (sym (whole_closes values (omega (arith, ltb-false (whole_values values) (length values) not_less, whole_within values))) ∙ is_open))
    ]

-- whether something is kept of the stream's last packet is whether that is unfinished
pub kept_open : (links : List (List Page)) (g : Gathered) (given : List Command) (serial : ℕ) (stream : StreamState) → HasGathered links g given → stream_in g.chain.streams serial ≡ Some stream →
    nat_lt 0 (length (rest_of serial g.link.streams)) ≡ not stream.finished
kept_open links g given serial stream h known = by_case stream.finished refl
  where
    own : List Page
    own = pages_with serial (last_link links)

    open_is : stream.finished ≡ not (ends_open (joined_lacing own))
    open_is = ap (λ (s : StreamState). s.finished) (is_known links g given serial stream h known).is

    opened : (b : Bool) → not b ≡ false → b ≡ true
    opened true e = refl
    opened false e = cc

    by_case : (b : Bool) → stream.finished ≡ b → nat_lt 0 (length (rest_of serial g.link.streams)) ≡ not stream.finished
    by_case true e = ap (λ (l : List ℕ). nat_lt 0 (length l)) (finished_rest links g given serial stream h known e) ∙ sym (ap not e)
    by_case false e =
        let some : whole_values (joined_lacing own) < length (joined_lacing own) = some_open (joined_lacing own) (opened (ends_open (joined_lacing own)) (sym open_is ∙ e)) in
        lt-ltb 0 (length (rest_of serial g.link.streams)) (omega (arith, rest_size serial links g given h, some)) ∙ sym (ap not e)

-- ---- what is told
told_end : (a b c d : Bool) (x y z : Mend) → tells_end (told_by a b c d x y z) ≡ true → tells_end (Some x) ≡ false → tells_end (Some z) ≡ false → (a ≡ false) × (b ≡ false → d ≡ false)
told_end true b c d x y z e gap long = absurd (false≢true (sym gap ∙ e))
told_end false true c d x y z e gap long = (refl, λ f. cc)
told_end false false c true x y z e gap long = absurd (false≢true (sym long ∙ e))
told_end false false c false x y z e gap long = (refl, λ _. refl)

told_lost : (a b c d : Bool) (x y z : Mend) → tells_loss (told_by a b c d x y z) ≡ true → tells_loss (Some y) ≡ false → (a ≡ true → b ≡ false) → b ≡ false
told_lost true b c d x y z e unfinished apart = apart refl
told_lost false true true d x y z e unfinished apart = absurd (false≢true (sym unfinished ∙ e))
told_lost false true false d x y z e unfinished apart = cc
told_lost false false c d x y z e unfinished apart = refl

all_but : (a b c d : Bool) → a ≡ true → b ≡ true → (((a && b && c && d) ≡ false) → c ≡ true) → d ≡ true → (a && b && c && d) ≡ true
all_but true true true true p q f r = refl
all_but true true false true p q f r = f refl
all_but true true c false p q f r = cc
all_but true false c d p q f r = cc
all_but false b c d p q f r = cc

not_both : (a b c : Bool) → (b ≡ true → c ≡ true) → not (a && b && not c) ≡ true
not_both false b c f = refl
not_both true false c f = refl
not_both true true true f = refl
not_both true true false f = absurd (false≢true (f refl))

flag_says : (continued finished some : Bool) → continued ≡ some → some ≡ not finished → cond continued (not finished) finished ≡ true
flag_says true true some e f = cc
flag_says true false some e f = refl
flag_says false true some e f = refl
flag_says false false some e f = cc

flag_differs : (continued finished : Bool) → continued ≡ true → finished ≡ true → cond continued (not finished) finished ≡ false
flag_differs true true e f = refl
flag_differs true false e f = cc
flag_differs false finished e f = cc

not_then : (b : Bool) → b ≡ false → not b ≡ true
not_then b e = ap not e

module _ (offset : ℕ) (page : Page) (old new : Mending) (mend : Option Mend) (more given : List Command) (links : List (List Page)) (h : HasMended links old.gathered given)
    (later : is_first page ≡ false) (l : Later offset page old new mend more) where
  abbrev g : Gathered
  g = old.gathered

  abbrev long : Bool
  long = is_too_long g.link page

  abbrev due : ℕ
  due = number_due (lost_of old page) l.stream

  abbrev joined : Bool
  joined = is_joined (lost_of old page) l.stream long page

  abbrev kept : List ℕ
  kept = rest_of page.serial g.link.streams

  abbrev flag : Bool
  flag = cond (is_continued page) (not l.stream.finished) l.stream.finished

  open_is : nat_lt 0 (length kept) ≡ not l.stream.finished
  open_is = kept_open links g given page.serial l.stream h.0 l.known

  -- it goes on from the pages before it
  is_joined_to : tells_end mend ≡ true → is_continued page ≡ nat_lt 0 (length kept) → (is_continued page ≡ true → ends_some page.lacing ≡ true) → joined ≡ true
  is_joined_to told says ends =
      let t = told_end (nat_lt due page.sequence) joined (is_last page && ends_open page.lacing) long (GapOf offset page.serial due page.sequence) (UnfinishedOf offset page.serial) (TooLongOf offset page.serial)
      (ap tells_end (sym l.told) ∙ told) refl refl in
      let new_one : nat_lt page.sequence due ≡ false =
      (or_parts (nat_lt page.sequence due) (nat_lt due page.sequence && nat_lt page.position l.stream.last_position) l.unrepeated).0 in
      all_but (nat_eq page.sequence due) flag (not long) (not (is_last page && is_continued page && not (ends_some page.lacing)))
      (eq-eqb page.sequence due (omega (arith, ltb-false page.sequence due new_one, ltb-false due page.sequence t.0)))
      (flag_says (is_continued page) l.stream.finished (nat_lt 0 (length kept)) says open_is)
      (λ e. not_then long (t.1 e))
      (not_both (is_last page) (is_continued page) (ends_some page.lacing) ends)

  pub record LastOut (segments : ℕ) (rest : List ℕ) : Type 0 where
    pub packets : List (List ℕ)
    pub left : List ℕ
    pub cuts : CutsInto segments rest page.lacing page.body packets left
    pub out : StepOut page.serial (map (entry_of page) packets) g.link new.gathered.link more

  pub last_goes_on : (segments : ℕ) → IsPage page → is_last page ≡ true → tells_end mend ≡ true → is_continued page ≡ nat_lt 0 (length kept) → (is_continued page ≡ true → ends_some page.lacing ≡ true)
      → length kept ≡ 255 * segments → LastOut segments kept
  last_goes_on segments is last told says ends size =
      let j : joined ≡ true = is_joined_to told says ends in
      let o = own_out offset page old new mend more given links h later l segments kept (ap (λ j. rest_of page.serial (broken_off j page.serial g).link.streams) j) size in
      let whole : left_whole (behind_rest joined page) ≡ with_values (whole_values page.lacing) page =
      ap (λ j. left_whole (behind_rest j page)) j ∙ ap left_whole (joined_behind page)
      ∙ cond-true (is_last page) (with_values (whole_values page.lacing) page) page last in
      let (left, cuts) = whole_cuts page is segments kept o.packets o.left (subst (λ (p : Page). CutsInto segments kept p.lacing p.body o.packets o.left) whole o.cuts) in
      record { packets = o.packets; left = left; cuts = cuts; out = o.out }

  -- it begins with a packet of its own, or with the rest of one that is lost
  pub record LastBegun (serial : ℕ) : Type 0 where
    pub entries : List Entry
    pub whole : HoldWhole serial (page ∷ []) entries
    pub out : StepOut serial entries g.link new.gathered.link more

  is_apart : is_continued page ≡ true → (tells_loss mend ≡ false → kept ≡ []) → joined ≡ false
  is_apart continued lost =
      elim (cases_Bool (tells_loss mend)) [
        | inl loss ↦
            told_lost (nat_lt due page.sequence) joined (is_last page && ends_open page.lacing) long (GapOf offset page.serial due page.sequence) (UnfinishedOf offset page.serial) (TooLongOf offset page.serial)
            (ap tells_loss (sym l.told) ∙ loss) refl (gap_apart (lost_of old page) l.stream long page)
        | inr untold ↦
            (let none : kept ≡ [] = lost untold in
            let finished : l.stream.finished ≡ true = closed l.stream.finished (sym open_is ∙ ap (λ (l : List ℕ). nat_lt 0 (length l)) none) in
            at (nat_eq page.sequence due) flag (not long) (not (is_last page && is_continued page && not (ends_some page.lacing))) (flag_differs (is_continued page) l.stream.finished continued finished))
      ]
    where
      closed : (b : Bool) → not b ≡ false → b ≡ true
      closed true e = refl
      closed false e = cc

      at : (a b c d : Bool) → b ≡ false → (a && b && c && d) ≡ false
      at true true c d e = cc
      at true false c d e = refl
      at false b c d e = refl

  pub last_begins : (serial : ℕ) → page.serial ≡ serial → IsPage page → is_last page ≡ true → (is_continued page ≡ true → tells_loss mend ≡ false → kept ≡ []) → LastBegun serial
  last_begins serial own is last lost =
      elim (cases_Bool (is_continued page)) [
        | inr fresh ↦
            (let o = own_out offset page old new mend more given links h later l 0 [] (fresh_rest offset page old new mend more given links h later l joined refl fresh) refl in
            let same : behind_rest joined page ≡ page =
            cond-false (is_cut joined page) (record (without_values (front_values page.lacing) page) { flags = page.flags - 1 }) page (ap (λ c. c && not joined) fresh) in
            let whole : left_whole (behind_rest joined page) ≡ with_values (whole_values page.lacing) page =
            ap left_whole same ∙ cond-true (is_last page) (with_values (whole_values page.lacing) page) page last in
            let (left, cuts) = whole_cuts page is 0 [] o.packets o.left (subst (λ (p : Page). CutsInto 0 [] p.lacing p.body o.packets o.left) whole o.cuts) in
            let (first, _) = first_whole serial page [] [] page.lacing page.body o.packets left own
            (cond-false (is_continued page) (take (front_values page.lacing) page.lacing) [] fresh) refl refl refl cuts in
            begun o.packets first o.out)
        | inl continued ↦
            (let apart : joined ≡ false = is_apart continued (lost continued) in
            let o = own_out offset page old new mend more given links h later l 0 []
            (ap (λ j. rest_of page.serial (broken_off j page.serial g).link.streams) apart ∙ no_rest page.serial g.link.streams) refl in
            let k : ℕ = front_values page.lacing in
            let rest : Page = record (without_values k page) { flags = page.flags - 1 } in
            let cut : is_cut false page ≡ true = ap (λ c. c && true) continued in
            let same : behind_rest false page ≡ rest = cond-true (is_cut false page) rest page cut in
            let rest_last : is_last rest ≡ true = ap is_last (sym same) ∙ behind_last false page ∙ last in
            let rest_is : IsPage rest = flagged (page.flags - 1) (without_values k page) (omega (arith, is.flags)) (without_is_page k page is) in
            let whole : left_whole (behind_rest joined page) ≡ with_values (whole_values rest.lacing) rest =
            ap (λ j. left_whole (behind_rest j page)) apart ∙ ap left_whole same ∙ cond-true (is_last rest) (with_values (whole_values rest.lacing) rest) rest rest_last in
            let (left, cuts) = whole_cuts rest rest_is 0 [] o.packets o.left (subst (λ (p : Page). CutsInto 0 [] p.lacing p.body o.packets o.left) whole o.cuts) in
            let (first, _) = first_whole serial page (take k page.lacing) (take (sum (take k page.lacing)) page.body) (drop k page.lacing) (drop (sum (take k page.lacing)) page.body) o.packets left own
            (cond-true (is_continued page) (take k page.lacing) [] continued) (sym (take-append-drop k page.lacing)) (sym (take-append-drop (sum (take k page.lacing)) page.body))
            (length-take-le (sum (take k page.lacing)) page.body (front_fits k page is)) cuts in
            begun o.packets first o.out)
      ]
    where
      begun : (packets : List (List ℕ)) → HoldWhole serial (page ∷ []) (map (entry_of page) packets) → StepOut page.serial (map (entry_of page) packets) g.link new.gathered.link more → LastBegun serial
      begun packets first out = record {
        entries = map (entry_of page) packets;
        whole = first;
        out = subst (λ n. StepOut n (map (entry_of page) packets) g.link new.gathered.link more) own out;
      }
