-- The pages of one stream, as they are heard.
use Rattle.std.proofs.Common.{◌≡◌, ◌≢◌, ℕ, ◌+◌, ◌-◌, ◌/◌, ◌%◌, ◌≤◌, Bool, true, false, cond, List, [], ◌∷◌, ◌++◌, length, map, refl, sym, ◌∙◌, ap, arith, append_assoc, eq-eqb, inl, inr}
use Rattle.std.specs.Prelude.{nat_eq, not, ◌||◌}
use Rattle.std.specs.List.{AllByRecursion, IsDistinct, filter, list_any}
use Rattle.std.proofs.lemmas.List.{append-nil}
use Rattle.std.proofs.lemmas.List.Concat.{flat_map-append}
use Rattle.std.proofs.lemmas.List.Folds.{list_any-append}
use Rattle.std.proofs.lemmas.Bool.{ne_eqb, eqb-true, cases_eq, cond-true, cond-false, cond_both, or_parts, false≢true}
use Rattle.ogg_page.specs.Page.{Page}
use Rattle.ogg_page.specs.Lacing.{ends_open}
use Rattle.ogg_page.specs.LogicalStream.{HoldsPackets, FitsBehind, EachBehind, joined_lacing, joined_bodies, number_behind, is_last}
use Rattle.ogg_page.specs.StreamLaws.{false_is_not_true, number_push}
use Rattle.link_chain.specs.Links.{pages_with}
use Rattle.link_chain.specs.Laws.Grow.{Own}
use Rattle.link_chain.specs.Laws.Fronts.{push_not_nil}
use Rattle.link_chain.specs.Laws.PageState.{open_with}
use Rattle.serve_live.specs.Heard.{heard_page}

-- ---- pages after pages
pub lacing_push : (before : List Page) (page : Page) → joined_lacing (before ++ page ∷ []) ≡ joined_lacing before ++ page.lacing
lacing_push before page =
    flat_map-append (λ (p : Page). p.lacing) before (page ∷ []) ∙ ap (λ l. joined_lacing before ++ l) (append-nil page.lacing)

-- the numbers go up
pub numbers_rise : (before pages : List Page) → EachBehind FitsBehind before pages → before ≢ [] → number_behind before ≤ number_behind (before ++ pages)
numbers_rise before [] h some = let e : number_behind (before ++ []) ≡ number_behind before = ap number_behind (append-nil before) in omega (arith, e)
numbers_rise before (x ∷ pages) h some =
    let rest : number_behind (before ++ x ∷ []) ≤ number_behind ((before ++ x ∷ []) ++ pages) = numbers_rise (before ++ x ∷ []) pages h.1 (push_not_nil before x) in
    let e : number_behind ((before ++ x ∷ []) ++ pages) ≡ number_behind (before ++ x ∷ pages) = ap number_behind (append_assoc before (x ∷ []) pages) in
    omega (arith, number_push before x, h.0.sequence some, rest, e)

-- nothing follows a page that is marked as last
pub nothing_follows : (before pages : List Page) → EachBehind FitsBehind before pages → list_any is_last before ≡ true → pages ≡ []
nothing_follows before [] h ended = refl
nothing_follows before (page ∷ pages) h ended = false_is_not_true (list_any is_last before) h.0.last ended

-- ---- pages with other numbers
pub with_heard : (gaps : ℕ → ℕ) (serial : ℕ) (pages : List Page) → pages_with serial (map (heard_page gaps) pages) ≡ map (heard_page gaps) (pages_with serial pages)
with_heard gaps serial [] = refl
with_heard gaps serial (page ∷ pages) =
    ap (λ l. cond (nat_eq page.serial serial) (heard_page gaps page ∷ l) l) (with_heard gaps serial pages)
    ∙ inside (nat_eq page.serial serial)
  where
    inside : (b : Bool) → cond b (heard_page gaps page ∷ map (heard_page gaps) (pages_with serial pages)) (map (heard_page gaps) (pages_with serial pages))
        ≡ map (heard_page gaps) (cond b (page ∷ pages_with serial pages) (pages_with serial pages))
    inside true = refl
    inside false = refl

pub own_of : (serial : ℕ) (pages : List Page) → Own serial (pages_with serial pages)
own_of serial [] = tt
own_of serial (page ∷ pages) =
    cond_both (nat_eq page.serial serial) (page ∷ pages_with serial pages) (pages_with serial pages) (Own serial)
    (λ e. (eqb-true page.serial serial e, own_of serial pages)) (λ _. own_of serial pages)

pub heard_lacing : (gaps : ℕ → ℕ) (pages : List Page) → joined_lacing (map (heard_page gaps) pages) ≡ joined_lacing pages
heard_lacing gaps [] = refl
heard_lacing gaps (page ∷ pages) = ap (λ l. page.lacing ++ l) (heard_lacing gaps pages)

pub heard_bodies : (gaps : ℕ → ℕ) (pages : List Page) → joined_bodies (map (heard_page gaps) pages) ≡ joined_bodies pages
heard_bodies gaps [] = refl
heard_bodies gaps (page ∷ pages) = ap (λ l. page.body ++ l) (heard_bodies gaps pages)

pub heard_last : (gaps : ℕ → ℕ) (pages : List Page) → list_any is_last (map (heard_page gaps) pages) ≡ list_any is_last pages
heard_last gaps [] = refl
heard_last gaps (page ∷ pages) = ap (λ b. is_last page || b) (heard_last gaps pages)

pub heard_holds : (gaps : ℕ → ℕ) (pages : List Page) (packets : List (List ℕ)) → HoldsPackets pages packets 0 [] → HoldsPackets (map (heard_page gaps) pages) packets 0 []
heard_holds gaps pages packets h = record {
  lacing = heard_lacing gaps pages ∙ h.lacing;
  bodies = heard_bodies gaps pages ∙ h.bodies;
  rest_size = h.rest_size;
}

-- Pages that fit after old ones fit after new ones with their new numbers, if old and new pages leave the same: whether
-- a packet is unfinished, whether the stream has ended, and the next number but for the gap.
pub go_on_heard : (gaps : ℕ → ℕ) (serial : ℕ) (old new pages : List Page) → Own serial pages → EachBehind FitsBehind old pages → old ≢ [] → new ≢ [] →
    ends_open (joined_lacing new) ≡ ends_open (joined_lacing old) → number_behind old ≡ number_behind new + gaps serial →
    list_any is_last new ≡ list_any is_last old → EachBehind FitsBehind new (map (heard_page gaps) pages)
go_on_heard gaps serial old new [] own fits some_old some_new opens number last = tt
go_on_heard gaps serial old new (page ∷ pages) own fits some_old some_new opens number last =
    let here : FitsBehind old page = fits.0 in
    let heard : Page = heard_page gaps page in
    let is : page.sequence ≡ number_behind new + gaps serial = here.sequence some_old ∙ number in
    let by : gaps page.serial ≡ gaps serial = ap gaps own.0 in
    let less : 0 + (page.sequence - gaps page.serial) ≡ number_behind new = omega (arith, is, by) in
    let leaves : ends_open (joined_lacing (new ++ heard ∷ [])) ≡ ends_open (joined_lacing (old ++ page ∷ [])) =
    ap ends_open (lacing_push new heard) ∙ open_with (joined_lacing new) page.lacing
    ∙ ap (λ b. cond (nat_eq (length page.lacing) 0) (not (not b)) (ends_open page.lacing)) opens
    ∙ sym (open_with (joined_lacing old) page.lacing) ∙ ap ends_open (sym (lacing_push old page)) in (
      record {
        continued = here.continued ∙ sym opens;
        sequence = λ _. less;
        first = (λ e. absurd (some_old (here.first.0 e)), λ e. absurd (some_new e));
        first_packet = λ e. absurd (some_new e);
        last = last ∙ here.last;
        last_packet = λ e. leaves ∙ here.last_packet e;
      },
      go_on_heard gaps serial (old ++ page ∷ []) (new ++ heard ∷ []) pages own.1 fits.1 (push_not_nil old page) (push_not_nil new heard) leaves
          (omega (arith, number_push old page, number_push new heard, is, less))
          (list_any-append is_last new (heard ∷ []) ∙ ap (λ b. b || (is_last page || false)) last ∙ sym (list_any-append is_last old (page ∷ []))),
    )

-- ---- the page that ends a stream
pub end_fits : (own : List Page) (page : Page) → page.flags ≡ 4 → page.sequence ≡ number_behind own → page.lacing ≡ [] → own ≢ [] →
    ends_open (joined_lacing own) ≡ false → list_any is_last own ≡ false → FitsBehind own page
end_fits own page flags number empty some whole going = record {
  continued = ap (λ f. nat_eq (f % 2) 1) flags ∙ sym whole;
  sequence = λ _. number;
  first = (λ e. absurd (false≢true (sym (ap (λ f. nat_eq (f / 2 % 2) 1) flags) ∙ e)), λ e. absurd (some e));
  first_packet = λ e. absurd (some e);
  last = going;
  last_packet = λ _. ap ends_open (lacing_push own page ∙ ap (λ l. joined_lacing own ++ l) empty ∙ append-nil (joined_lacing own)) ∙ whole;
}

-- ---- the pages that end streams, one for each
pub none_of : (page_of : ℕ → Page) (test : ℕ → Bool) (serial : ℕ) (serials : List ℕ) → ((s : ℕ) → (page_of s).serial ≡ s) →
    list_any (nat_eq serial) serials ≡ false → pages_with serial (map page_of (filter test serials)) ≡ []
none_of page_of test serial [] own e = refl
none_of page_of test serial (s ∷ serials) own e =
    let parts : (nat_eq serial s ≡ false) × (list_any (nat_eq serial) serials ≡ false) = or_parts (nat_eq serial s) (list_any (nat_eq serial) serials) e in
    let rest : pages_with serial (map page_of (filter test serials)) ≡ [] = none_of page_of test serial serials own parts.1 in
    cond_both (test s) (s ∷ filter test serials) (filter test serials) (λ l. pages_with serial (map page_of l) ≡ [])
    (λ _. cond-false (nat_eq (page_of s).serial serial) (page_of s ∷ pages_with serial (map page_of (filter test serials))) (pages_with serial (map page_of (filter test serials)))
    (ap (λ n. nat_eq n serial) (own s) ∙ other s serial parts.0) ∙ rest)
    (λ _. rest)
  where
    other : (a b : ℕ) → nat_eq b a ≡ false → nat_eq a b ≡ false
    other a b h = ne_eqb a b (λ f. false_is_not_true (nat_eq b a) h (eq-eqb b a (sym f)))

pub not_of : (page_of : ℕ → Page) (test : ℕ → Bool) (serial : ℕ) (serials : List ℕ) → ((s : ℕ) → (page_of s).serial ≡ s) →
    test serial ≡ false → pages_with serial (map page_of (filter test serials)) ≡ []
not_of page_of test serial [] own e = refl
not_of page_of test serial (s ∷ serials) own e =
    let rest : pages_with serial (map page_of (filter test serials)) ≡ [] = not_of page_of test serial serials own e in
    cond_both (test s) (s ∷ filter test serials) (filter test serials) (λ l. pages_with serial (map page_of l) ≡ [])
    (λ yes. cond-false (nat_eq (page_of s).serial serial) (page_of s ∷ pages_with serial (map page_of (filter test serials))) (pages_with serial (map page_of (filter test serials)))
    (ne_eqb (page_of s).serial serial (λ f. false_is_not_true (test serial) e (ap test (sym (sym (own s) ∙ f)) ∙ yes))) ∙ rest)
    (λ _. rest)

pub one_of : (page_of : ℕ → Page) (test : ℕ → Bool) (serial : ℕ) (serials : List ℕ) → ((s : ℕ) → (page_of s).serial ≡ s) → IsDistinct nat_eq serials →
    list_any (nat_eq serial) serials ≡ true → test serial ≡ true → pages_with serial (map page_of (filter test serials)) ≡ page_of serial ∷ []
unfolding IsDistinct
one_of page_of test serial [] own d there e = absurd (false≢true there)
one_of page_of test serial (s ∷ serials) own d there e =
    elim (cases_eq serial s) [
      | inl same ↦
          (let yes : test s ≡ true = ap test (sym same) ∙ e in
          let apart : list_any (nat_eq serial) serials ≡ false =
          ap (λ n. list_any (nat_eq n) serials) same ∙ none_equal s serials d.0 in
          let mine : nat_eq (page_of s).serial serial ≡ true = eq-eqb (page_of s).serial serial (own s ∙ sym same) in
          ap (λ l. pages_with serial (map page_of l)) (cond-true (test s) (s ∷ filter test serials) (filter test serials) yes)
          ∙ cond-true (nat_eq (page_of s).serial serial) (page_of s ∷ pages_with serial (map page_of (filter test serials))) (pages_with serial (map page_of (filter test serials))) mine
          ∙ ap (λ l. page_of s ∷ l) (none_of page_of test serial serials own apart)
          ∙ ap (λ n. page_of n ∷ []) (sym same))
      | inr other ↦
          (let later : list_any (nat_eq serial) serials ≡ true = sym (ap (λ b. b || list_any (nat_eq serial) serials) (ne_eqb serial s other)) ∙ there in
          let rest : pages_with serial (map page_of (filter test serials)) ≡ page_of serial ∷ [] = one_of page_of test serial serials own d.1 later e in
          cond_both (test s) (s ∷ filter test serials) (filter test serials) (λ l. pages_with serial (map page_of l) ≡ page_of serial ∷ [])
          (λ _. cond-false (nat_eq (page_of s).serial serial) (page_of s ∷ pages_with serial (map page_of (filter test serials))) (pages_with serial (map page_of (filter test serials)))
          (ne_eqb (page_of s).serial serial (λ f. other (sym f ∙ own s))) ∙ rest)
          (λ _. rest))
    ]
  where
    none_equal : (x : ℕ) (xs : List ℕ) → AllByRecursion (λ y. nat_eq x y ≡ false) xs → list_any (nat_eq x) xs ≡ false
    none_equal x [] h = refl
    none_equal x (y ∷ xs) h = ap (λ b. b || list_any (nat_eq x) xs) h.0 ∙ none_equal x xs h.1
