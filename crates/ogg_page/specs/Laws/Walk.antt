-- A walk over bytes finds their longest prefix of pages, and bytes have one such prefix.
use Rattle.std.proofs.Common.{◌≡◌, ◌≢◌, ℕ, ◌+◌, List, [], ◌∷◌, ◌++◌, length, refl, sym, ◌∙◌, ap, subst, arith, append_assoc, length-append, add-zero, Some, None, Ok, Err}
use Rattle.std.specs.Iterator.{Yields}
use Rattle.ogg_page.specs.Page.{Page, IsPage, page_bytes, page_size, bytes_of_pages}
use Rattle.ogg_page.specs.Reading.{page_at}
use Rattle.ogg_page.specs.Pages.{BeginsWithPages, FoundPage, PagesLeft, NextPage, located, fault_of, fault_at}
use Rattle.ogg_page.specs.declared.fault.PageFault.{PageFault}
use Rattle.ogg_page.specs.Laws.Prefixes.{one_page}
use Rattle.ogg_page.specs.Laws.ReadAgain.{page_is_read, length-page_bytes}

-- no page has no bytes
pub nothing_is_no_page : (page : Page) (more : List ℕ) → [] ≢ page_bytes page ++ more
nothing_is_no_page page more e = absurd (omega (arith, ap length e, length-append (page_bytes page) more, length-page_bytes page))

-- bytes at fault begin with no page
fault_is_no_page : (bytes : List ℕ) (fault : PageFault) → page_at bytes ≡ Err fault → (page : Page) (more : List ℕ) → IsPage page → bytes ≢ page_bytes page ++ more
fault_is_no_page bytes fault f page more is e =
    let read : page_at bytes ≡ Ok page = ap page_at e ∙ page_is_read page more is in
    cc

-- all that is found from a place of the walk on
pub record FoundFrom (left : PagesLeft) (found : List FoundPage) : Type 0 where
  pub pages : List Page
  pub rest : List ℕ
  pub begins : BeginsWithPages left.bytes pages rest
  pub all : found ≡ located left.offset pages ++ fault_at (left.offset + length (bytes_of_pages pages)) rest

pub nothing_left : (offset : ℕ) (left : PagesLeft) → left.bytes ≡ [] → FoundFrom left []
nothing_left offset left e = record {
  pages = [];
  rest = [];
  begins = record { are_pages = tt; joined = e; longest = λ page more is. nothing_is_no_page page more };
  all = refl;
}

abbrev pub page_found : ℕ → Page → FoundPage
page_found offset page = Ok (offset, page)

abbrev pub fault_found : ℕ → PageFault → FoundPage
fault_found offset fault = Err (offset, fault)

same_fault : (offset : ℕ) (bytes : List ℕ) (fault : PageFault) → bytes ≢ [] → page_at bytes ≡ Err fault → fault_found offset fault ∷ [] ≡ fault_at offset bytes
same_fault offset [] fault some f = absurd (some refl)
same_fault offset (byte ∷ bytes) fault some f = ap (fault_of offset) (sym f)

pub last_fault : (left next : PagesLeft) (found : ℕ × PageFault) → NextPage left (Some (Err found)) next → FoundFrom left (Err found ∷ [])
last_fault left next found step = record {
  pages = [];
  rest = left.bytes;
  begins = record { are_pages = tt; joined = refl; longest = fault_is_no_page left.bytes found.1 step.2 };
  all = ap (λ n. fault_found n found.1 ∷ []) (step.0 ∙ sym (add-zero left.offset)) ∙ same_fault (left.offset + 0) left.bytes found.1 step.1 step.2;
}

-- nothing is found after the end
end_stays : (left t : PagesLeft) (found : List FoundPage) → left.bytes ≡ [] → Yields NextPage left found t → found ≡ []
end_stays left t [] e y = refl
end_stays left t (Ok page ∷ found) e (j, step, more) = absurd (nothing_is_no_page page.1 j.bytes (sym e ∙ step.2))
end_stays left t (Err fault ∷ found) e (j, step, more) = absurd (step.1 e)

pub one_more : (left next : PagesLeft) (offset : ℕ) (page : Page) (found : List FoundPage) →
    NextPage left (Some (Ok (offset, page))) next → FoundFrom next found → FoundFrom left (Ok (offset, page) ∷ found)
one_more left next offset page found step behind =
    let size : length (page_bytes page ++ bytes_of_pages behind.pages) ≡ page_size page + length (bytes_of_pages behind.pages) =
    length-append (page_bytes page) (bytes_of_pages behind.pages) ∙ ap (λ n. n + length (bytes_of_pages behind.pages)) (length-page_bytes page) in
    let place : next.offset + length (bytes_of_pages behind.pages) ≡ left.offset + length (page_bytes page ++ bytes_of_pages behind.pages) = omega (arith, size, step.3) in
    record {
      pages = page ∷ behind.pages;
      rest = behind.rest;
      begins = record {
        are_pages = (step.1, behind.begins.are_pages);
        joined = step.2 ∙ ap (λ l. page_bytes page ++ l) behind.begins.joined ∙ sym (append_assoc (page_bytes page) (bytes_of_pages behind.pages) behind.rest);
        longest = behind.begins.longest;
      };
      all =
          ap (λ l. page_found offset page ∷ l) behind.all
          ∙ ap (λ n. page_found offset page ∷ (located n behind.pages ++ fault_at (next.offset + length (bytes_of_pages behind.pages)) behind.rest)) step.3
          ∙ ap (λ n. page_found offset page ∷ (located (left.offset + page_size page) behind.pages ++ fault_at n behind.rest)) place
          ∙ ap (λ n. page_found n page ∷ (located (left.offset + page_size page) behind.pages ++ fault_at (left.offset + length (page_bytes page ++ bytes_of_pages behind.pages)) behind.rest)) step.0;
    }

pub walk_finds : (found : List FoundPage) (left t u : PagesLeft) → Yields NextPage left found t → NextPage t None u → FoundFrom left found
walk_finds [] left t u y end = nothing_left left.offset left (ap (λ (p : PagesLeft). p.bytes) y ∙ end.0)
walk_finds (Ok page ∷ found) left t u (j, step, more) end = one_more left j page.0 page.1 found step (walk_finds found j t u more end)
walk_finds (Err fault ∷ found) left t u (j, step, more) end =
    subst (λ (l : List FoundPage). FoundFrom left (Err fault ∷ l)) (sym (end_stays j t found step.3 more)) (last_fault left j fault step)

-- bytes have one longest prefix of pages
pub one_prefix : (p q : List Page) (bytes x y : List ℕ) → BeginsWithPages bytes p x → BeginsWithPages bytes q y → (p ≡ q) × (x ≡ y)
one_prefix [] [] bytes x y a b = (refl, sym a.joined ∙ b.joined)
one_prefix [] (q ∷ qs) bytes x y a b = absurd (a.longest q (bytes_of_pages qs ++ y) b.are_pages.0 (sym a.joined ∙ b.joined ∙ append_assoc (page_bytes q) (bytes_of_pages qs) y))
one_prefix (p ∷ ps) [] bytes x y a b = absurd (b.longest p (bytes_of_pages ps ++ x) a.are_pages.0 (sym b.joined ∙ a.joined ∙ append_assoc (page_bytes p) (bytes_of_pages ps) x))
one_prefix (p ∷ ps) (q ∷ qs) bytes x y a b =
    let first : (p ≡ q) × (bytes_of_pages ps ++ x ≡ bytes_of_pages qs ++ y) =
    one_page p q (bytes_of_pages ps ++ x) (bytes_of_pages qs ++ y) a.are_pages.0 b.are_pages.0
    (sym (append_assoc (page_bytes p) (bytes_of_pages ps) x) ∙ sym a.joined ∙ b.joined ∙ append_assoc (page_bytes q) (bytes_of_pages qs) y) in
    let others : (ps ≡ qs) × (x ≡ y) = one_prefix ps qs (bytes_of_pages ps ++ x) x y
    (record { are_pages = a.are_pages.1; joined = refl; longest = a.longest })
    (record { are_pages = b.are_pages.1; joined = first.1; longest = b.longest }) in
    (cc, others.1)
