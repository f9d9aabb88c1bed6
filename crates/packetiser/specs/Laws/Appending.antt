-- Pages that are appended one after the other.
use Rattle.std.proofs.Common.{◌≡◌, ℕ, ◌+◌, ◌≤◌, List, [], ◌∷◌, ◌++◌, length, sum_by, refl, ◌∙◌, sym, ap, arith, append_assoc, length-append, Vec, vec_len}
use Rattle.std.specs.Prelude.{vec_capacity}
use Rattle.std.proofs.lemmas.List.Sums.{sum_by-cons}
use Rattle.ogg_page.specs.Page.{Page, page_bytes, bytes_of_pages, page_size}
use Rattle.ogg_page.specs.PageLaws.{length-page_bytes}
use Rattle.packetiser.specs.Run.{flagged}
use Rattle.packetiser.specs.PageSpace.{IsAppended}

-- what is appended and the pages that are left make the whole, and there is room for these
pub record Appends {Z : Type 0} (before : Vec ℕ Z) (pages : List Page) (now : Vec ℕ Z) (left : List Page) : Type 0 where
  pub items : now.items ++ bytes_of_pages left ≡ before.items ++ bytes_of_pages pages
  pub room : vec_len now + sum_by page_size left ≤ vec_capacity now
  pub capacity : vec_capacity before ≤ vec_capacity now

-- one page more
pub appends_on : {Z : Type 0} (before now new : Vec ℕ Z) (pages left left' : List Page) (page : Page) → left ≡ page ∷ left' →
    IsAppended now.items (vec_capacity now) page new.items (vec_capacity new) → Appends before pages now left → Appends before pages new left'
appends_on before now new pages left left' page first is h = record {
  items = ap (λ l. l ++ bytes_of_pages left') is.items ∙ append_assoc now.items (page_bytes page) (bytes_of_pages left')
      ∙ ap (λ l. now.items ++ bytes_of_pages l) (sym first) ∙ h.items;
  room = omega (
    arith,
    h.room,
    is.room,
    now.ok.0,
    new.ok.0,
    ap length is.items,
    length-append now.items (page_bytes page),
    length-page_bytes page,
    ap (sum_by page_size) first,
    sum_by-cons page_size page left',
  );
  capacity = omega (arith, h.capacity, is.room);
}

pub length-bytes_of_pages : (pages : List Page) → length (bytes_of_pages pages) ≡ sum_by page_size pages
length-bytes_of_pages [] = refl
length-bytes_of_pages (page ∷ pages) =
    length-append (page_bytes page) (bytes_of_pages pages)
    ∙ omega (arith, length-page_bytes page, length-bytes_of_pages pages, sum_by-cons page_size page pages)

-- flags don't change the size
pub flagged_size : (flags : ℕ) (pages : List Page) → sum_by page_size (flagged flags pages) ≡ sum_by page_size pages
flagged_size flags [] = refl
flagged_size flags (page ∷ pages) = sum_by-cons page_size (record page { flags = page.flags + flags }) pages ∙ sym (sum_by-cons page_size page pages)
