-- What is found from page to page is the longest prefix of pages, and then the fault.
use Rattle.std.proofs.Common.{◌≡◌, ◌≢◌, ℕ, zero, suc, ◌+◌, ◌<◌, ◌≤◌, add-zero, zero-add, sum, List, [], ◌∷◌, ◌++◌, length, drop, refl, sym, ◌∙◌, ap, subst, arith, append_assoc, length-append, length-drop, Result, Ok, Err}
use Rattle.std.specs.List.{AllByRecursion}
use Rattle.std.proofs.lemmas.List.{drop_at, get_or-drop}
use Rattle.ogg_page.specs.Page.{Page, IsPage, AreBytes, page_bytes, page_size, bytes_of_pages}
use Rattle.ogg_page.specs.Reading.{page_at}
use Rattle.ogg_page.specs.Pages.{AreFoundIn, FoundPage, located, fault_at, found_within, found_in}
use Rattle.ogg_page.specs.declared.fault.PageFault.{PageFault}
use Rattle.ogg_page.specs.Laws.ReadAgain.{read_is_page, page_is_read, length-page_bytes}
use Rattle.ogg_page.specs.Laws.Walk.{FoundFrom, page_found, fault_found, nothing_is_no_page, nothing_left, last_fault, one_more}

abbrev first_found : ℕ → ℕ → List ℕ → Result Page PageFault → List FoundPage
first_found steps offset bytes (Ok page) = Ok (offset, page) ∷ found_within steps (offset + page_size page) (drop (page_size page) bytes)
first_found steps offset bytes (Err fault) = Err (offset, fault) ∷ []

found-first : (steps offset byte : ℕ) (bytes : List ℕ) → found_within (suc steps) offset (byte ∷ bytes) ≡ first_found steps offset (byte ∷ bytes) (page_at (byte ∷ bytes))
unfolding found_within
found-first steps offset byte bytes = by_cases (page_at (byte ∷ bytes))
  where
    by_cases : (read : Result Page PageFault) →
        (elim read as (λ _. List FoundPage) [ Ok page ↦ Ok (offset, page) ∷ found_within steps (offset + page_size page) (drop (page_size page) (byte ∷ bytes)) | Err fault ↦ Err (offset, fault) ∷ [] ])
        ≡ first_found steps offset (byte ∷ bytes) read
    by_cases (Ok page) = refl
    by_cases (Err fault) = refl

-- more steps find no more
same_first : (m n offset : ℕ) (bytes : List ℕ) →
    ((later : ℕ) (behind : List ℕ) → length behind ≤ m → length behind ≤ n → found_within m later behind ≡ found_within n later behind) →
    length bytes ≤ suc m → length bytes ≤ suc n → (read : Result Page PageFault) → first_found m offset bytes read ≡ first_found n offset bytes read
same_first m n offset bytes same hm hn (Ok page) =
    ap (λ l. page_found offset page ∷ l)
    (same (offset + page_size page) (drop (page_size page) bytes) (omega (arith, length-drop (page_size page) bytes)) (omega (arith, length-drop (page_size page) bytes)))
same_first m n offset bytes same hm hn (Err fault) = refl

same_found : (m n offset : ℕ) (bytes : List ℕ) → length bytes ≤ m → length bytes ≤ n → found_within m offset bytes ≡ found_within n offset bytes
unfolding found_within
same_found zero zero offset bytes hm hn = refl
same_found zero (suc n) offset [] hm hn = refl
same_found zero (suc n) offset (byte ∷ bytes) hm hn = absurd (omega arith)
same_found (suc m) zero offset [] hm hn = refl
same_found (suc m) zero offset (byte ∷ bytes) hm hn = absurd (omega arith)
same_found (suc m) (suc n) offset [] hm hn = refl
same_found (suc m) (suc n) offset (byte ∷ bytes) hm hn =
    found-first m offset byte bytes
    ∙ same_first m n offset (byte ∷ bytes) (λ later behind a b. same_found m n later behind a b) hm hn (page_at (byte ∷ bytes))
    ∙ sym (found-first n offset byte bytes)

pub found-nothing : (offset : ℕ) → found_in offset [] ≡ []
unfolding found_within
found-nothing offset = refl

pub found-fault : (offset : ℕ) (bytes : List ℕ) (fault : PageFault) → bytes ≢ [] → page_at bytes ≡ Err fault → found_in offset bytes ≡ fault_found offset fault ∷ []
found-fault offset [] fault some f = absurd (some refl)
found-fault offset (byte ∷ bytes) fault some f = found-first (length bytes) offset byte bytes ∙ ap (first_found (length bytes) offset (byte ∷ bytes)) f

found-next : (offset : ℕ) (bytes : List ℕ) (page : Page) → bytes ≢ [] → page_at bytes ≡ Ok page →
    found_in offset bytes ≡ page_found offset page ∷ found_in (offset + page_size page) (drop (page_size page) bytes)
found-next offset [] page some f = absurd (some refl)
found-next offset (byte ∷ bytes) page some f =
    let behind : List ℕ = drop (page_size page) (byte ∷ bytes) in
    found-first (length bytes) offset byte bytes
    ∙ ap (first_found (length bytes) offset (byte ∷ bytes)) f
    ∙ ap (λ l. page_found offset page ∷ l)
    (same_found (length bytes) (length behind) (offset + page_size page) behind (omega (arith, length-drop (page_size page) (byte ∷ bytes))) (omega arith))

-- a page in front is found
pub found-page : (offset : ℕ) (page : Page) (rest : List ℕ) → IsPage page →
    found_in offset (page_bytes page ++ rest) ≡ page_found offset page ∷ found_in (offset + page_size page) rest
found-page offset page rest is =
    found-next offset (page_bytes page ++ rest) page (λ e. nothing_is_no_page page rest (sym e)) (page_is_read page rest is)
    ∙ ap (λ l. page_found offset page ∷ found_in (offset + page_size page) l) (drop_at (page_bytes page) rest (page_size page) (length-page_bytes page))

-- pages in front are found
pub found-pages : (offset : ℕ) (pages : List Page) (rest : List ℕ) → AllByRecursion IsPage pages →
    found_in offset (bytes_of_pages pages ++ rest) ≡ located offset pages ++ found_in (offset + length (bytes_of_pages pages)) rest
found-pages offset [] rest are = ap (λ n. found_in n rest) (sym (add-zero offset))
found-pages offset (page ∷ pages) rest are =
    let size : length (page_bytes page ++ bytes_of_pages pages) ≡ page_size page + length (bytes_of_pages pages) =
    length-append (page_bytes page) (bytes_of_pages pages) ∙ ap (λ n. n + length (bytes_of_pages pages)) (length-page_bytes page) in
    let place : (offset + page_size page) + length (bytes_of_pages pages) ≡ offset + length (page_bytes page ++ bytes_of_pages pages) = omega (arith, size) in
    ap (found_in offset) (append_assoc (page_bytes page) (bytes_of_pages pages) rest)
    ∙ found-page offset page (bytes_of_pages pages ++ rest) are.0
    ∙ ap (λ l. page_found offset page ∷ l) (found-pages (offset + page_size page) pages rest are.1)
    ∙ ap (λ n. page_found offset page ∷ (located (offset + page_size page) pages ++ found_in n rest)) place

-- what is found is the longest prefix of pages, and then the fault
from_read : (steps offset : ℕ) (bytes : List ℕ) → AreBytes bytes → bytes ≢ [] → length bytes ≤ suc steps →
    ((later : ℕ) (behind : List ℕ) → AreBytes behind → length behind ≤ steps → FoundFrom (record { offset = later; bytes = behind }) (found_in later behind)) →
    (read : Result Page PageFault) → page_at bytes ≡ read → FoundFrom (record { offset = offset; bytes = bytes }) (found_in offset bytes)
from_read steps offset bytes h some le all (Ok page) e =
    let both = read_is_page bytes page h e in
    let behind : List ℕ = drop (page_size page) bytes in
    let joined : bytes ≡ page_bytes page ++ behind =
    both.1 ∙ ap (λ l. page_bytes page ++ l) (sym (ap (drop (page_size page)) both.1 ∙ drop_at (page_bytes page) (drop (sum page.lacing) (drop (length page.lacing) (drop 27 bytes))) (page_size page) (length-page_bytes page))) in
    subst (λ (l : List FoundPage). FoundFrom (record { offset = offset; bytes = bytes }) l) (sym (found-next offset bytes page some e))
    (one_more (record { offset = offset; bytes = bytes }) (record { offset = offset + page_size page; bytes = behind }) offset page (found_in (offset + page_size page) behind)
    (refl, both.0, joined, refl)
    (all (offset + page_size page) behind (λ i. subst (λ x. x < 256) (sym (get_or-drop (page_size page) bytes i 0)) (h (page_size page + i))) (omega (arith, length-drop (page_size page) bytes))))
from_read steps offset bytes h some le all (Err fault) e =
    subst (λ (l : List FoundPage). FoundFrom (record { offset = offset; bytes = bytes }) l) (sym (found-fault offset bytes fault some e))
    (last_fault (record { offset = offset; bytes = bytes }) (record { offset = offset; bytes = [] }) (offset, fault) (refl, some, e, refl))

pub all_found : (steps offset : ℕ) (bytes : List ℕ) → AreBytes bytes → length bytes ≤ steps → FoundFrom (record { offset = offset; bytes = bytes }) (found_in offset bytes)
all_found steps offset [] h le =
    subst (λ (l : List FoundPage). FoundFrom (record { offset = offset; bytes = [] }) l) (sym (found-nothing offset)) (nothing_left offset (record { offset = offset; bytes = [] }) refl)
all_found zero offset (byte ∷ bytes) h le = absurd (omega arith)
all_found (suc steps) offset (byte ∷ bytes) h le =
    from_read steps offset (byte ∷ bytes) h (λ e. cc) le (λ later behind g l. all_found steps later behind g l) (page_at (byte ∷ bytes)) refl

pub are_found : (bytes : List ℕ) → AreBytes bytes → AreFoundIn bytes (found_in 0 bytes)
are_found bytes h =
    let all : FoundFrom (record { offset = 0; bytes = bytes }) (found_in 0 bytes) = all_found (length bytes) 0 bytes h (omega arith) in
    record {
      pages = all.pages;
      rest = all.rest;
      begins = all.begins;
      all = all.all ∙ ap (λ n. located 0 all.pages ++ fault_at n all.rest) (zero-add (length (bytes_of_pages all.pages)));
    }
