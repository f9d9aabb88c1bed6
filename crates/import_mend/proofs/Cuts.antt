-- The pages of a stream without its unfinished packet.
use Rattle.std.proofs.Common.{◌≡◌, ◌≢◌, ℕ, zero, suc, ◌+◌, ◌-◌, ◌/◌, ◌%◌, ◌<◌, Bool, true, false, cond, List, [], ◌∷◌, ◌++◌, length, take, replicate, refl, sym, ◌∙◌, ap, subst, arith, inl, inr, append-nil, length-append}
use Rattle.std.specs.Prelude.{nat_eq, not, ◌||◌, ◌&&◌, sum, IsTrue}
use Rattle.std.specs.List.{AllByRecursion, concat, flat_map}
use Rattle.std.proofs.lemmas.Bool.{cases_Bool, cond-true, cond-false, eqb-true, ne_eqb, and_parts, false≢true}
use Rattle.std.proofs.lemmas.List.{take-append-le}
use Rattle.std.proofs.lemmas.List.Concat.{flat_map-append}
use Rattle.std.proofs.lemmas.List.Sums.{sum_by-append}
use Rattle.std.proofs.Math.Seq.{take-append_seam, take-append-add, take-length}
use Rattle.ogg_page.specs.Page.{Page, IsPage, IsByte}
use Rattle.ogg_page.specs.Lacing.{ends_open, lace}
use Rattle.ogg_page.specs.LogicalStream.{EachBehind, FitsBehind, HoldsPackets, is_continued, is_last, joined_bodies, joined_lacing}
use Rattle.ogg_page.specs.StreamLaws.{ends_open-at, ends_open-lace, ends_open-laces, some_values}
use Rattle.link_chain.specs.Laws.LastLink.{all_split}
use Rattle.import_mend.specs.Cut.{cut_before, cut_flags, cut_page, cut_pages, some_ends}
use Rattle.import_mend.specs.Mended.{ends_some, whole_values, with_values}
use Rattle.import_mend.proofs.Alike.{Alike, AreAlike, any_alike, itself, none_alike, nothing_alike, number_alike, push_alike, some_alike}
use Rattle.import_mend.proofs.Fits.{closed_end, some_whole, whole_length}
use Rattle.import_mend.proofs.Kept.{with_is_page, flagged, either_page, front_fits}
use Rattle.import_mend.proofs.Lacings.{full_sum, full_values, none_whole, some_both, whole_closed, whole_front, whole_later, whole_within}
use Rattle.ogg_page.specs.Laws.PageBytes.{all_both}

pub cut_is_page : (page : Page) → IsPage page → IsPage (cut_page page)
cut_is_page page is = flagged (cut_flags page) (with_values (whole_values page.lacing) page) (small (is_continued page && not (ends_some page.lacing))) (with_is_page (whole_values page.lacing) page is)
  where
    small : (b : Bool) → cond b (page.flags - 1) page.flags < 256
    small true = omega (arith, is.flags)
    small false = is.flags

cut_flag : (n : ℕ) (page : Page) (b : Bool) → (b ≡ true → (page.flags - 1) / n % 2 ≡ page.flags / n % 2) → nat_eq (cond b (page.flags - 1) page.flags / n % 2) 1 ≡ nat_eq (page.flags / n % 2) 1
cut_flag n page true same = ap (λ k. nat_eq k 1) (same refl)
cut_flag n page false same = refl

pub cut_alike : (page : Page) → Alike page (cut_page page)
cut_alike page = record {
  serial = refl;
  sequence = refl;
  position = refl;
  first = cut_flag 2 page (is_continued page && not (ends_some page.lacing)) (λ e. half (odd e));
  last = cut_flag 4 page (is_continued page && not (ends_some page.lacing)) (λ e. quarter (odd e));
}
  where
    odd : (is_continued page && not (ends_some page.lacing)) ≡ true → page.flags % 2 ≡ 1
    odd e = eqb-true (page.flags % 2) 1 (and_parts (is_continued page) (not (ends_some page.lacing)) e).0

    half : page.flags % 2 ≡ 1 → (page.flags - 1) / 2 % 2 ≡ page.flags / 2 % 2
    half e = omega (arith, e)

    quarter : page.flags % 2 ≡ 1 → (page.flags - 1) / 4 % 2 ≡ page.flags / 4 % 2
    quarter e = omega (arith, e)

-- no packet ends in it: it begins with none, and holds nothing
pub cut_begins : (page : Page) → ends_some page.lacing ≡ false → is_continued (cut_page page) ≡ false
cut_begins page none =
    elim (cases_Bool (is_continued page)) [
      | inl odd ↦
          (let is : page.flags % 2 ≡ 1 = eqb-true (page.flags % 2) 1 odd in
          ap (λ n. nat_eq (n % 2) 1)
          (ap (λ b. cond (b && not (ends_some page.lacing)) (page.flags - 1) page.flags) odd ∙ ap (λ b. cond (not b) (page.flags - 1) page.flags) none)
          ∙ ne_eqb ((page.flags - 1) % 2) 1 (λ e. omega (arith, e, is)))
      | inr even ↦ ap (λ b. nat_eq (cond (b && not (ends_some page.lacing)) (page.flags - 1) page.flags % 2) 1) even ∙ even
    ]

-- one does: it begins as it did
pub cut_goes_on : (page : Page) → ends_some page.lacing ≡ true → is_continued (cut_page page) ≡ is_continued page
cut_goes_on page some =
    ap (λ n. nat_eq (n % 2) 1) (ap (λ b. cond (is_continued page && not b) (page.flags - 1) page.flags) some ∙ and_no (is_continued page))
  where
    and_no : (b : Bool) → cond (b && false) (page.flags - 1) page.flags ≡ page.flags
    and_no true = refl
    and_no false = refl

pub before_is_page : (later : List Page) (page : Page) → IsPage page → IsPage (cut_before later page)
before_is_page later page is = either_page (some_ends later) page (cut_page page) is (cut_is_page page is)

pub before_alike : (later : List Page) (page : Page) → Alike page (cut_before later page)
before_alike later page = by_case (some_ends later)
  where
    by_case : (b : Bool) → Alike page (cond b page (cut_page page))
    by_case true = itself page
    by_case false = cut_alike page

pub pages_alike : (pages : List Page) → AreAlike pages (cut_pages pages)
pages_alike [] = tt
pages_alike (page ∷ pages) = (before_alike pages page, pages_alike pages)

-- ---- what is left in the pages
nothing_left : (pages : List Page) → some_ends pages ≡ false → take (whole_values (joined_lacing pages)) (joined_lacing pages) ≡ []
nothing_left pages none = ap (λ n. take n (joined_lacing pages)) (none_whole (joined_lacing pages) none)

pub cut_lacing : (pages : List Page) → joined_lacing (cut_pages pages) ≡ take (whole_values (joined_lacing pages)) (joined_lacing pages)
cut_lacing [] = refl
cut_lacing (page ∷ pages) =
    let a : List ℕ = page.lacing in
    let b : List ℕ = joined_lacing pages in
    elim (cases_Bool (some_ends pages)) [
      | inl some ↦
          ap (λ (p : Page). p.lacing ++ joined_lacing (cut_pages pages)) (cond-true (some_ends pages) page (cut_page page) some)
          ∙ ap (λ l. a ++ l) (cut_lacing pages)
          ∙ sym (take-append-add a b (whole_values b))
          ∙ ap (λ n. take n (a ++ b)) (sym (whole_later a b some))
      | inr none ↦
          ap (λ (p : Page). p.lacing ++ joined_lacing (cut_pages pages)) (cond-false (some_ends pages) page (cut_page page) none)
          ∙ ap (λ l. take (whole_values a) a ++ l) (cut_lacing pages ∙ nothing_left pages none)
          ∙ append-nil (take (whole_values a) a)
          ∙ sym (take-append-le (whole_values a) a b (whole_within a))
          ∙ ap (λ n. take n (a ++ b)) (sym (whole_front a b none))
    ]

pub cut_bodies : (pages : List Page) → AllByRecursion IsPage pages → joined_bodies (cut_pages pages) ≡ take (sum (joined_lacing (cut_pages pages))) (joined_bodies pages)
cut_bodies [] all = refl
cut_bodies (page ∷ pages) all =
    let a : List ℕ = page.lacing in
    let b : List ℕ = joined_bodies pages in
    let left : List ℕ = joined_lacing (cut_pages pages) in
    elim (cases_Bool (some_ends pages)) [
      | inl some ↦
          (let same : cut_before pages page ≡ page = cond-true (some_ends pages) page (cut_page page) some in
          ap (λ (p : Page). p.body ++ joined_bodies (cut_pages pages)) same
          ∙ ap (λ l. page.body ++ l) (cut_bodies pages all.1)
          ∙ sym (take-append-add page.body b (sum left))
          ∙ ap (λ n. take (n + sum left) (page.body ++ b)) (sym all.0.whole)
          ∙ ap (λ n. take n (page.body ++ b)) (sym (sum_by-append (λ x. x) a left))
          ∙ ap (λ (p : Page). take (sum (p.lacing ++ left)) (page.body ++ b)) (sym same))
      | inr none ↦
          (let same : cut_before pages page ≡ cut_page page = cond-false (some_ends pages) page (cut_page page) none in
          let n : ℕ = sum (take (whole_values a) a) in
          let gone : left ≡ [] = cut_lacing pages ∙ nothing_left pages none in
          ap (λ (p : Page). p.body ++ joined_bodies (cut_pages pages)) same
          ∙ ap (λ l. take n page.body ++ l) (cut_bodies pages all.1 ∙ ap (λ l. take (sum l) b) gone)
          ∙ append-nil (take n page.body)
          ∙ sym (take-append-le n page.body b (front_fits (whole_values a) page all.0))
          ∙ ap (λ l. take (sum l) (page.body ++ b)) (sym (append-nil (take (whole_values a) a)))
          ∙ ap (λ l. take (sum (take (whole_values a) a ++ l)) (page.body ++ b)) (sym gone)
          ∙ ap (λ (p : Page). take (sum (p.lacing ++ left)) (page.body ++ b)) (sym same))
    ]

-- ---- the packets
pub lacing_bytes : (pages : List Page) → AllByRecursion IsPage pages → AllByRecursion IsByte (joined_lacing pages)
lacing_bytes [] all = tt
lacing_bytes (page ∷ pages) all = all_both IsByte page.lacing (joined_lacing pages) all.0.lacing (lacing_bytes pages all.1)

whole_sum : (pages : List Page) → AllByRecursion IsPage pages → sum (joined_lacing pages) ≡ length (joined_bodies pages)
whole_sum [] all = refl
whole_sum (page ∷ pages) all =
    omega (arith, sum_by-append (λ x. x) page.lacing (joined_lacing pages), length-append page.body (joined_bodies pages), all.0.whole, whole_sum pages all.1)

module _ (pages : List Page) (packets : List (List ℕ)) (segments : ℕ) (rest : List ℕ) (all : AllByRecursion IsPage pages) (h : HoldsPackets pages packets segments rest) where
  abbrev laces : List ℕ
  laces = flat_map lace packets

  abbrev fulls : List ℕ
  fulls = replicate segments 255

  left_lacing : joined_lacing (cut_pages pages) ≡ laces
  left_lacing =
      let bytes : AllByRecursion IsByte (laces ++ fulls) = subst (AllByRecursion IsByte) h.lacing (lacing_bytes pages all) in
      let count : whole_values (laces ++ fulls) ≡ length laces =
      whole_front laces fulls (full_values segments) ∙ whole_closed laces (all_split IsByte laces fulls bytes).0 (ends_open-laces packets) in
      cut_lacing pages ∙ ap (λ l. take (whole_values l) l) h.lacing ∙ ap (λ n. take n (laces ++ fulls)) count ∙ take-append_seam laces fulls

  left_sum : sum laces ≡ length (concat packets)
  left_sum =
      omega (
        arith,
        whole_sum pages all,
        ap sum h.lacing,
        sum_by-append (λ x. x) laces fulls,
        full_sum segments,
        ap length h.bodies,
        length-append (concat packets) rest,
        h.rest_size,
      )

  left_bodies : joined_bodies (cut_pages pages) ≡ concat packets
  left_bodies =
      cut_bodies pages all ∙ ap (λ l. take (sum l) (joined_bodies pages)) left_lacing ∙ ap (λ n. take n (joined_bodies pages)) left_sum
      ∙ ap (take (length (concat packets))) h.bodies ∙ take-append_seam (concat packets) rest

  pub cut_holds : HoldsPackets (cut_pages pages) packets 0 []
  cut_holds = record {
    lacing = left_lacing ∙ sym (append-nil laces);
    bodies = left_bodies ∙ sym (append-nil (concat packets));
    rest_size = omega arith;
  }

  pub cut_closed : ends_open (joined_lacing (cut_pages pages)) ≡ false
  cut_closed = ap ends_open left_lacing ∙ ends_open-laces packets

  pub less_lacing : length (joined_lacing pages) ≡ length (joined_lacing (cut_pages pages)) + segments
  less_lacing = omega (arith, ap length h.lacing, length-append laces fulls, ap length left_lacing, all_of segments)
    where
      all_of : (n : ℕ) → length {A = ℕ} (replicate n 255) ≡ n
      all_of zero = refl
      all_of (suc n) = omega (arith, all_of n)

  pub less_bodies : length (joined_bodies pages) ≡ length (joined_bodies (cut_pages pages)) + length rest
  less_bodies = omega (arith, ap length h.bodies, length-append (concat packets) rest, ap length left_bodies)

-- ---- the flags
push_lacing : (before : List Page) (page : Page) → joined_lacing (before ++ page ∷ []) ≡ joined_lacing before ++ page.lacing
push_lacing before page = flat_map-append (λ (p : Page). p.lacing) before (page ∷ []) ∙ ap (λ l. joined_lacing before ++ l) (append-nil page.lacing)

-- the whole packets of a page leave none open, whatever came before
closed_after : (before values : List ℕ) → AllByRecursion IsByte values → ends_some values ≡ true → ends_open (before ++ take (whole_values values) values) ≡ false
closed_after before values bytes some = after (take (whole_values values) values) (closed_end values) (λ e. some_whole values some (sym (whole_length values) ∙ ap length e))
  where
    after : (l : List ℕ) → ends_open l ≡ false → l ≢ [] → ends_open (before ++ l) ≡ false
    after [] closed some' = absurd (some' refl)
    after (v ∷ l) closed some' = ends_open-at before v l ∙ closed

laced_some : (packet : List ℕ) → AllByRecursion IsByte (lace packet) → ends_some (lace packet) ≡ true
laced_some packet bytes =
    elim (cases_Bool (ends_some (lace packet))) [
      | inl some ↦ some
      | inr none ↦ absurd (laced_values packet (empty (lace packet) (sym (whole_closed (lace packet) bytes (ends_open-lace packet)) ∙ none_whole (lace packet) none)))
    ]
  where
    empty : (l : List ℕ) → length l ≡ 0 → l ≡ []
    empty [] e = refl
    empty (v ∷ l) e = absurd (omega (arith, e))

    laced_values : (packet : List ℕ) → lace packet ≡ [] → ⊥
    laced_values packet e = some_values packet [] (sym e ∙ sym (append-nil (lace packet)))

-- a page that loses its unfinished packet fits the pages before it: a packet ends in it, so that the pages before it are as they were
fits_some : (before : List Page) (page : Page) → IsPage page → FitsBehind before page → ends_some page.lacing ≡ true → FitsBehind before (cut_page page)
fits_some before page is f some = record {
  continued = cut_goes_on page some ∙ f.continued;
  sequence = f.sequence;
  first = (λ h. f.first.0 (subst (λ (b : Bool). IsTrue b) (cut_alike page).first h), λ e. subst (λ (b : Bool). IsTrue b) (sym (cut_alike page).first) (f.first.1 e));
  first_packet = λ e.
      let (packet, laced) = f.first_packet e in
      let bytes : AllByRecursion IsByte (lace packet) = subst (AllByRecursion IsByte) laced is.lacing in (
        packet,
        ap (λ l. take (whole_values l) l) laced ∙ ap (λ n. take n (lace packet)) (whole_closed (lace packet) bytes (ends_open-lace packet)) ∙ take-length (lace packet),
      );
  last = f.last;
  last_packet = λ h. ap ends_open (push_lacing before (cut_page page)) ∙ closed_after (joined_lacing before) page.lacing is.lacing some;
}

-- none does: it holds nothing any more
fits_none : (before others : List Page) (page : Page) → AreAlike before others → ends_open (joined_lacing others) ≡ false → IsPage page → FitsBehind before page → ends_some page.lacing ≡ false →
    FitsBehind others (cut_page page)
fits_none before others page z closed is f none = record {
  continued = cut_begins page none ∙ sym closed;
  sequence = λ some. f.sequence (some_alike before others z some) ∙ sym (number_alike before others z);
  first = (
    λ h. none_alike before others z (f.first.0 (subst (λ (b : Bool). IsTrue b) (cut_alike page).first h)),
    λ e. subst (λ (b : Bool). IsTrue b) (sym (cut_alike page).first) (f.first.1 (nothing_alike before others z e)),
  );
  first_packet = λ e.
      let (packet, laced) = f.first_packet (nothing_alike before others z e) in
      absurd (false≢true (sym none ∙ ap ends_some laced ∙ laced_some packet (subst (AllByRecursion IsByte) laced is.lacing)));
  last = any_alike is_last (λ p q a. a.last) before others z ∙ f.last;
  last_packet = λ h.
      ap ends_open (push_lacing others (cut_page page) ∙ ap (λ n. joined_lacing others ++ take n page.lacing) (none_whole page.lacing none) ∙ append-nil (joined_lacing others))
      ∙ closed;
}

still_closed : (before : List Page) (page : Page) → IsPage page → (ends_some page.lacing ≡ false → ends_open (joined_lacing before) ≡ false) → ends_open (joined_lacing (before ++ cut_page page ∷ [])) ≡ false
still_closed before page is closed =
    ap ends_open (push_lacing before (cut_page page))
    ∙ elim (cases_Bool (ends_some page.lacing)) [
      | inl some ↦ closed_after (joined_lacing before) page.lacing is.lacing some
      | inr none ↦
          ap ends_open (ap (λ n. joined_lacing before ++ take n page.lacing) (none_whole page.lacing none) ∙ append-nil (joined_lacing before)) ∙ closed none
    ]

-- before pages in which a packet ends, all is as it was; before others nothing is unfinished
pub cut_fits : (before others pages : List Page) → AreAlike before others → (some_ends pages ≡ true → others ≡ before) → (some_ends pages ≡ false → ends_open (joined_lacing others) ≡ false)
    → AllByRecursion IsPage pages → EachBehind FitsBehind before pages → EachBehind FitsBehind others (cut_pages pages)
cut_fits before others [] z same closed all e = tt
cut_fits before others (page ∷ pages) z same closed all e =
    let joined : some_ends (page ∷ pages) ≡ (ends_some page.lacing || some_ends pages) = some_both page.lacing (joined_lacing pages) in
    elim (cases_Bool (some_ends pages)) [
      | inl some ↦
          (let is : others ≡ before = same (joined ∙ ap (λ b. ends_some page.lacing || b) some ∙ or_true (ends_some page.lacing)) in
          let left : cut_before pages page ≡ page = cond-true (some_ends pages) page (cut_page page) some in
          let next : others ++ cut_before pages page ∷ [] ≡ before ++ page ∷ [] = ap (λ l. l ++ cut_before pages page ∷ []) is ∙ ap (λ p. before ++ p ∷ []) left in (
            subst (λ (p : Page). FitsBehind others p) (sym left) (subst (λ (l : List Page). FitsBehind l page) (sym is) e.0),
            cut_fits (before ++ page ∷ []) (others ++ cut_before pages page ∷ []) pages (push_alike before others page (cut_before pages page) z (before_alike pages page)) (λ _. next)
                (λ none. absurd (false≢true (sym none ∙ some))) all.1 e.1,
          ))
      | inr none ↦
          (let left : cut_before pages page ≡ cut_page page = cond-false (some_ends pages) page (cut_page page) none in
          let here : some_ends (page ∷ pages) ≡ ends_some page.lacing = joined ∙ ap (λ b. ends_some page.lacing || b) none ∙ or_false (ends_some page.lacing) in
          let shut : ends_some page.lacing ≡ false → ends_open (joined_lacing others) ≡ false = λ n. closed (here ∙ n) in
          let fits : FitsBehind others (cut_page page) =
          elim (cases_Bool (ends_some page.lacing)) [
            | inl some ↦ subst (λ (l : List Page). FitsBehind l (cut_page page)) (sym (same (here ∙ some))) (fits_some before page all.0 e.0 some)
            | inr no' ↦ fits_none before others page z (shut no') all.0 e.0 no'
          ] in (
            subst (λ (p : Page). FitsBehind others p) (sym left) fits,
            cut_fits (before ++ page ∷ []) (others ++ cut_before pages page ∷ []) pages (push_alike before others page (cut_before pages page) z (before_alike pages page))
                (λ some. absurd (false≢true (sym none ∙ some)))
                (λ _. ap (λ p. ends_open (joined_lacing (others ++ p ∷ []))) left ∙ still_closed others page all.0 shut)
                all.1 e.1,
          ))
    ]
  where
    or_true : (b : Bool) → (b || true) ≡ true
    or_true true = refl
    or_true false = refl

    or_false : (b : Bool) → (b || false) ≡ b
    or_false true = refl
    or_false false = refl
