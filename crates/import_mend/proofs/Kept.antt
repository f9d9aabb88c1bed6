-- What is left of a page is a page.
use Rattle.std.proofs.Common.{◌≡◌, ◌≤◌, ◌<◌, ℕ, ◌+◌, ◌-◌, ◌/◌, ◌%◌, ◌^◌, Bool, true, false, cond, List, length, take, drop, sum, refl, sym, ◌∙◌, ap, subst, arith, inl, inr, length-append, length-drop, take-append-drop}
use Rattle.std.specs.Prelude.{nat_eq, not, ◌&&◌}
use Rattle.std.specs.List.{AllByRecursion}
use Rattle.std.proofs.lemmas.Bool.{cases_Bool, cond-true, cond-false, eqb-true, ne_eqb, and_parts}
use Rattle.std.proofs.lemmas.List.{length-take-le}
use Rattle.std.proofs.lemmas.List.Sums.{sum_by-take-drop}
use Rattle.ogg_page.specs.Page.{Page, IsPage, IsByte}
use Rattle.ogg_page.specs.LogicalStream.{is_first, is_last, is_continued}
use Rattle.link_chain.specs.Laws.LastLink.{all_split}
use Rattle.import_mend.specs.Mended.{behind_rest, front_values, is_cut, left_whole, mended, whole_values, with_values, without_values}

all_parts : (P : ℕ → Type 0) (n : ℕ) (xs : List ℕ) → AllByRecursion P xs → AllByRecursion P (take n xs) × AllByRecursion P (drop n xs)
all_parts P n xs all = all_split P (take n xs) (drop n xs) (subst (AllByRecursion P) (sym (take-append-drop n xs)) all)

parted : (n : ℕ) (xs : List ℕ) → sum (take n xs) + sum (drop n xs) ≡ sum xs
parted n xs = sum_by-take-drop (λ x. x) xs n

pub front_fits : (n : ℕ) (page : Page) → IsPage page → sum (take n page.lacing) ≤ length page.body
front_fits n page is = omega (arith, parted n page.lacing, is.whole)

less : (n : ℕ) (xs : List ℕ) → (length (take n xs) ≤ length xs) × (length (drop n xs) ≤ length xs)
less n xs =
    let both : length (take n xs) + length (drop n xs) ≡ length xs = sym (length-append (take n xs) (drop n xs)) ∙ ap length (take-append-drop n xs) in
    (omega (arith, both), omega (arith, both))

pub without_is_page : (n : ℕ) (page : Page) → IsPage page → IsPage (without_values n page)
without_is_page n page is = record {
  flags = is.flags;
  position = is.position;
  serial = is.serial;
  sequence = is.sequence;
  values = omega (arith, (less n page.lacing).1, is.values);
  lacing = (all_parts IsByte n page.lacing is.lacing).1;
  body = (all_parts IsByte (sum (take n page.lacing)) page.body is.body).1;
  whole = omega (arith, parted n page.lacing, is.whole, length-drop (sum (take n page.lacing)) page.body);
}

pub with_is_page : (n : ℕ) (page : Page) → IsPage page → IsPage (with_values n page)
with_is_page n page is = record {
  flags = is.flags;
  position = is.position;
  serial = is.serial;
  sequence = is.sequence;
  values = omega (arith, (less n page.lacing).0, is.values);
  lacing = (all_parts IsByte n page.lacing is.lacing).0;
  body = (all_parts IsByte (sum (take n page.lacing)) page.body is.body).0;
  whole = sym (length-take-le (sum (take n page.lacing)) page.body (front_fits n page is));
}

pub flagged : (n : ℕ) (page : Page) → n < 256 → IsPage page → IsPage (record page { flags = n })
flagged n page small is = record {
  flags = small;
  position = is.position;
  serial = is.serial;
  sequence = is.sequence;
  values = is.values;
  lacing = is.lacing;
  body = is.body;
  whole = is.whole;
}

pub numbered : (n : ℕ) (page : Page) → n < 2 ^ 32 → IsPage page → IsPage (record page { sequence = n })
numbered n page small is = record {
  flags = is.flags;
  position = is.position;
  serial = is.serial;
  sequence = small;
  values = is.values;
  lacing = is.lacing;
  body = is.body;
  whole = is.whole;
}

-- one of two pages
pub either_page : (b : Bool) (p q : Page) → IsPage p → IsPage q → IsPage (cond b p q)
either_page true p q a b = a
either_page false p q a b = b

pub mended_is_page : (joined : Bool) (number : ℕ) (page : Page) → number < 2 ^ 32 → IsPage page → IsPage (mended joined number page)
mended_is_page joined number page small is =
    let behind : IsPage (behind_rest joined page) =
    either_page (is_cut joined page) (record (without_values (front_values page.lacing) page) { flags = page.flags - 1 }) page
    (flagged (page.flags - 1) (without_values (front_values page.lacing) page) (omega (arith, is.flags)) (without_is_page (front_values page.lacing) page is)) is in
    let rest : Page = behind_rest joined page in
    numbered number (left_whole rest) small
    (either_page (is_last rest) (with_values (whole_values rest.lacing) rest) rest (with_is_page (whole_values rest.lacing) rest behind) behind)

-- ---- the flags
-- a part of one of two pages
pub either_has : {X : Type 0} (f : Page → X) (b : Bool) (p q : Page) → f p ≡ f q → f (cond b p q) ≡ f q
either_has f true p q e = e
either_has f false p q e = refl

pub left_has : {X : Type 0} (f : Page → X) (page : Page) → f (with_values (whole_values page.lacing) page) ≡ f page → f (left_whole page) ≡ f page
left_has f page e = either_has f (is_last page) (with_values (whole_values page.lacing) page) page e

odd : (joined : Bool) (page : Page) → is_cut joined page ≡ true → page.flags % 2 ≡ 1
odd joined page cut = eqb-true (page.flags % 2) 1 (and_parts (is_continued page) (not joined) cut).0

behind_first : (joined : Bool) (page : Page) → is_first (behind_rest joined page) ≡ is_first page
behind_first joined page =
    elim (cases_Bool (is_cut joined page)) [
      | inl cut ↦
          (let same : (page.flags - 1) / 2 % 2 ≡ page.flags / 2 % 2 = omega (arith, odd joined page cut) in
          either_has is_first (is_cut joined page) (record (without_values (front_values page.lacing) page) { flags = page.flags - 1 }) page (ap (λ n. nat_eq n 1) same))
      | inr whole ↦ ap is_first (cond-false (is_cut joined page) (record (without_values (front_values page.lacing) page) { flags = page.flags - 1 }) page whole)
    ]

pub behind_last : (joined : Bool) (page : Page) → is_last (behind_rest joined page) ≡ is_last page
behind_last joined page =
    elim (cases_Bool (is_cut joined page)) [
      | inl cut ↦
          (let same : (page.flags - 1) / 4 % 2 ≡ page.flags / 4 % 2 = omega (arith, odd joined page cut) in
          either_has is_last (is_cut joined page) (record (without_values (front_values page.lacing) page) { flags = page.flags - 1 }) page (ap (λ n. nat_eq n 1) same))
      | inr whole ↦ ap is_last (cond-false (is_cut joined page) (record (without_values (front_values page.lacing) page) { flags = page.flags - 1 }) page whole)
    ]

pub mended_first : (joined : Bool) (number : ℕ) (page : Page) → is_first (mended joined number page) ≡ is_first page
mended_first joined number page = left_has is_first (behind_rest joined page) refl ∙ behind_first joined page

pub mended_last : (joined : Bool) (number : ℕ) (page : Page) → is_last (mended joined number page) ≡ is_last page
mended_last joined number page = left_has is_last (behind_rest joined page) refl ∙ behind_last joined page

pub mended_serial : (joined : Bool) (number : ℕ) (page : Page) → (mended joined number page).serial ≡ page.serial
mended_serial joined number page =
    left_has (λ (p : Page). p.serial) (behind_rest joined page) refl
    ∙ either_has (λ (p : Page). p.serial) (is_cut joined page) (record (without_values (front_values page.lacing) page) { flags = page.flags - 1 }) page refl

-- a page that is joined begins as it did
pub joined_behind : (page : Page) → behind_rest true page ≡ page
joined_behind page =
    cond-false (is_cut true page) (record (without_values (front_values page.lacing) page) { flags = page.flags - 1 }) page (and_no (is_continued page))
  where
    and_no : (b : Bool) → (b && false) ≡ false
    and_no true = refl
    and_no false = refl

pub joined_continued : (number : ℕ) (page : Page) → is_continued (mended true number page) ≡ is_continued page
joined_continued number page = left_has is_continued (behind_rest true page) refl ∙ ap is_continued (joined_behind page)

-- one that isn't begins with no continued packet
pub broken_continued : (number : ℕ) (page : Page) → is_continued (mended false number page) ≡ false
broken_continued number page =
    left_has is_continued (behind_rest false page) refl
    ∙ elim (cases_Bool (is_continued page)) [
      | inl odd' ↦
          (let cut : is_cut false page ≡ true = ap (λ b. b && true) odd' in
          let is : page.flags % 2 ≡ 1 = eqb-true (page.flags % 2) 1 odd' in
          ap is_continued (cond-true (is_cut false page) (record (without_values (front_values page.lacing) page) { flags = page.flags - 1 }) page cut)
          ∙ ne_eqb ((page.flags - 1) % 2) 1 (λ e. omega (arith, e, is)))
      | inr even ↦
          ap is_continued (cond-false (is_cut false page) (record (without_values (front_values page.lacing) page) { flags = page.flags - 1 }) page (ap (λ b. b && true) even)) ∙ even
    ]
