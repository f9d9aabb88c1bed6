-- Pages are passed one after the other, and each is shown.
use Rattle.std.proofs.Common.{◌≡◌, ℕ, ◌+◌, Option, Some, None, Result, Ok, Err, List, [], ◌∷◌, ◌++◌, length, refl, sym, ◌∙◌, ap, subst, arith, append_assoc, append-nil, length-append}
use Rattle.ogg_page.specs.Page.{Page as PageValue, page_bytes, page_size, bytes_of_pages}
use Rattle.ogg_page.specs.PageLaws.{pages_both, bytes_both, length-page_bytes}
use Rattle.ogg_page.specs.SourceLaws.{keeps_both}
use Rattle.ogg_page.specs.Window.{LentAt, WindowState, HasMoved, left_of}
use Rattle.ogg_page.specs.Visiting.{AreSeen, HasPassed}
use Rattle.ogg_page.specs.declared.fault.WindowFault.{WindowFault}
use Rattle.ogg_page.specs.declared.visiting.Visit.{Visit}
use Rattle.ogg_page.specs.declared.visiting.Visit.TheVariants.{GoesOn}

-- the pages so far
pub record IsShown {S V : Type 0} (bytes : S → List ℕ) (honest : S → Type 0) (size failures : S → ℕ) (only_reads : S → S → Type 0)
    (sees : V → LentAt → Visit → V → Type 0) (old : WindowState S) (before : V) (now : WindowState S) (mid : V) : Type 0 where
  pub pages : List PageValue
  pub passed : HasPassed bytes honest size failures only_reads old pages now
  pub seen : AreSeen sees before old.at pages mid

pub shown_nothing : {S V : Type 0} (bytes : S → List ℕ) (honest : S → Type 0) (size failures : S → ℕ) (only_reads : S → S → Type 0) (sees : V → LentAt → Visit → V → Type 0)
    (old : WindowState S) (before : V) → ((source : S) → only_reads source source) → IsShown bytes honest size failures only_reads sees old before old before
shown_nothing bytes honest size failures only_reads sees old before reads_nothing = record {
  pages = [];
  passed = record {
    are_pages = tt;
    joined = λ sure fresh. refl;
    place = omega arith;
    to = refl;
    fresh = λ e. e;
    stays = λ fault e. refl;
    later = λ e. omega arith;
    source = record { bytes_same = λ sure. refl; honest_same = ((λ h. h), (λ h. h)); size_same = refl; only = reads_nothing old.source };
  };
  seen = refl;
}

-- the visitor was shown one more
seen_more : {V : Type 0} (sees : V → LentAt → Visit → V → Type 0) (old now new : V) (from : ℕ) (pages : List PageValue) (page : PageValue) (at : ℕ)
    → at ≡ from + length (bytes_of_pages pages) → AreSeen sees old from pages now → sees now (at, page) GoesOn new → AreSeen sees old from (pages ++ page ∷ []) new
seen_more {V} sees old now new from [] page at place seen one =
    (new, subst (λ (v : V). sees v (from, page) GoesOn new) seen (subst (λ (k : ℕ). sees now (k, page) GoesOn new) (omega (arith, place)) one), refl)
seen_more sees old now new from (p ∷ pages) page at place (mid, first, more) one =
    let size : length (page_bytes p ++ bytes_of_pages pages) ≡ page_size p + length (bytes_of_pages pages) = omega (arith, length-append (page_bytes p) (bytes_of_pages pages), length-page_bytes p) in
    (mid, first, seen_more sees mid now new (from + page_size p) pages page at (omega (arith, place, size)) more one)

none_some : (fault : WindowFault) → (let none : Option WindowFault = None in none) ≡ Some fault → ⊥
none_some fault e = cc

ok_err : (value : Option LentAt) (fault : WindowFault) → (let r : Result (Option LentAt) WindowFault = Ok value in r) ≡ Err fault → ⊥
ok_err value fault e = cc

-- a window that moved had no fault
pub free_before : {S : Type 0} (bytes : S → List ℕ) (honest : S → Type 0) (size failures : S → ℕ) (only_reads : S → S → Type 0) (now new : WindowState S) (value : Option LentAt)
    → HasMoved bytes honest size failures only_reads now (Ok value) new → now.fault ≡ None
free_before bytes honest size failures only_reads now new value moved = by_cases now.fault (λ fault e. ok_err value fault (moved.stays fault e).0)
  where
    by_cases : (fault : Option WindowFault) → ((given : WindowFault) → fault ≡ Some given → ⊥) → fault ≡ None
    by_cases None never = refl
    by_cases (Some given) never = absurd (never given refl)

pub shown_more : {S V : Type 0} (bytes : S → List ℕ) (honest : S → Type 0) (size failures : S → ℕ) (only_reads : S → S → Type 0) (sees : V → LentAt → Visit → V → Type 0)
    (old : WindowState S) (before : V) (now : WindowState S) (mid : V) (new : WindowState S) (after : V) (at : LentAt)
    → ((first second third : S) → only_reads first second → only_reads second third → only_reads first third)
    → IsShown bytes honest size failures only_reads sees old before now mid → HasMoved bytes honest size failures only_reads now (Ok (Some at)) new
    → sees mid at GoesOn after → IsShown bytes honest size failures only_reads sees old before new after
shown_more {S} {V} bytes honest size failures only_reads sees old before now mid new after at reads_on so moved one =
    let free : now.fault ≡ None = free_before bytes honest size failures only_reads now new (Some at) moved in
    let passes = moved.passes at refl in
    let p = so.passed in
    let b : List ℕ = bytes_of_pages so.pages in
    let joined : bytes_of_pages (so.pages ++ at.1 ∷ []) ≡ b ++ page_bytes at.1 =
    bytes_both so.pages (at.1 ∷ []) ∙ ap (λ (l : List ℕ). b ++ l) (append-nil (page_bytes at.1)) in
    record {
      pages = so.pages ++ at.1 ∷ [];
      passed = record {
        are_pages = pages_both so.pages (at.1 ∷ []) p.are_pages (passes.is_page, tt);
        joined = λ sure fresh. p.joined sure fresh ∙ ap (λ (l : List ℕ). b ++ l) (moved.lent (p.source.honest_same.0 sure) free).2
            ∙ sym (append_assoc b (page_bytes at.1) (left_of bytes new).bytes) ∙ ap (λ (l : List ℕ). l ++ (left_of bytes new).bytes) (sym joined);
        place = omega (arith, passes.behind, p.place, ap length joined, length-append b (page_bytes at.1), length-page_bytes at.1);
        to = moved.to ∙ p.to;
        fresh = λ e. moved.fault;
        stays = λ fault e. absurd (none_some fault (sym free ∙ ap (λ (w : WindowState S). w.fault) (p.stays fault e) ∙ e));
        later = λ e. omega (arith, p.later e, (moved.cause free).0);
        source = keeps_both bytes honest size only_reads old.source now.source new.source reads_on p.source moved.source;
      };
      seen = seen_more sees before mid after old.at so.pages at.1 at.0 (passes.offset ∙ p.place) so.seen one;
    }
