-- What follows from the definition of committed bytes.
use Rattle.std.proofs.Common.{◌≡◌, ◌≢◌, ℕ, List, [], ◌∷◌, ◌++◌, refl, sym, ◌∙◌, ap, subst, append-nil}
use Rattle.std.specs.List.{AllByRecursion}
use Rattle.ogg_page.specs.Page.{Page, IsPage, page_bytes, bytes_of_pages}
use Rattle.ogg_page.specs.Pages.{BeginsWithPages}
use Rattle.ogg_page.specs.PageLaws.{page_begins, pages_both as pages_joined, bytes_both}
use Rattle.ogg_page.specs.PagesLaws.{one_prefix}
use Rattle.gate_file.specs.Commit.{capture, IsTail, CommitsTo, ArePages, IsDamaged}

-- no tail begins with a page
pub tail_is_no_page : (page : Page) (more tail : List ℕ) → IsTail tail → tail ≢ page_bytes page ++ more
tail_is_no_page page more tail is = λ same.
    let b = page_begins page in
    let whole : tail ≡ capture ∷ b.0 ∷ (b.1 ++ more) = same ∙ ap (λ (l : List ℕ). l ++ more) b.2 in
    (subst IsTail whole is) refl

-- pages and then a tail
pub commits : (pages : List Page) (tail image : List ℕ) → AllByRecursion IsPage pages → image ≡ bytes_of_pages pages ++ tail → IsTail tail → CommitsTo (bytes_of_pages pages) image
commits pages tail image are whole is_tail = record {
  pages = pages;
  tail = tail;
  begins = record { are_pages = are; joined = whole; longest = λ page more one. tail_is_no_page page more tail is_tail };
  committed = refl;
  is_tail = is_tail;
}

pub commits_to : (b tail image : List ℕ) → ArePages b → image ≡ b ++ tail → IsTail tail → CommitsTo b image
commits_to b tail image pages whole is_tail =
    subst (λ (l : List ℕ). CommitsTo l image) (sym pages.spelled)
    (commits pages.pages tail image pages.are_pages (whole ∙ ap (λ (l : List ℕ). l ++ tail) pages.spelled) is_tail)

-- the image is the committed bytes and the tail
pub whole_of : (b image : List ℕ) → (is : CommitsTo b image) → image ≡ b ++ is.tail
whole_of b image is = is.begins.joined ∙ ap (λ (l : List ℕ). l ++ is.tail) (sym is.committed)

pub pages_of : (b image : List ℕ) → CommitsTo b image → ArePages b
pages_of b image is = record { pages = is.pages; are_pages = is.begins.are_pages; spelled = is.committed }

-- an image has one list of committed bytes at most
pub one_commit : (b c image : List ℕ) → CommitsTo b image → CommitsTo c image → b ≡ c
one_commit b c image at_b at_c =
    at_b.committed ∙ ap (λ (l : List Page). bytes_of_pages l) (one_prefix at_b.pages at_c.pages image at_b.tail at_c.tail at_b.begins at_c.begins).0 ∙ sym at_c.committed

-- if neither a page nor a tail follows the pages, no bytes are committed
pub none_commits : (pages : List Page) (rest image : List ℕ) → BeginsWithPages image pages rest → (IsTail rest → ⊥) → IsDamaged image
none_commits pages rest image begins no_tail = λ b is.
    no_tail (subst IsTail (sym (one_prefix pages is.pages image rest is.tail begins is.begins).1) is.is_tail)

-- pages that follow pages are pages
pub pages_both : (b c : List ℕ) → ArePages b → ArePages c → ArePages (b ++ c)
pages_both b c p q = record {
  pages = p.pages ++ q.pages;
  are_pages = pages_joined p.pages q.pages p.are_pages q.are_pages;
  spelled = (λ i. p.spelled i ++ q.spelled i) ∙ sym (bytes_both p.pages q.pages);
}

pub no_pages : ArePages []
no_pages = record { pages = []; are_pages = tt; spelled = refl }

pub one_page : (bytes : List ℕ) (page : Page) → IsPage page → bytes ≡ page_bytes page → ArePages bytes
one_page bytes page is same = record { pages = page ∷ []; are_pages = (is, tt); spelled = same ∙ sym (append-nil (page_bytes page)) }

-- pages are nothing, or begin with the capture byte and have another after it
pub pages_begin : (bytes : List ℕ) → ArePages bytes → bytes ≢ [] → (next : ℕ) × (rest : List ℕ) × (bytes ≡ capture ∷ next ∷ rest)
pages_begin bytes pages some = by_list pages.pages pages.spelled
  where
    by_list : (ps : List Page) → bytes ≡ bytes_of_pages ps → (next : ℕ) × (rest : List ℕ) × (bytes ≡ capture ∷ next ∷ rest)
    by_list [] same = absurd (some same)
    by_list (p ∷ ps) same = let b = page_begins p in (b.0, b.1 ++ bytes_of_pages ps, same ∙ ap (λ (l : List ℕ). l ++ bytes_of_pages ps) b.2)

-- a closed byte after pages makes a tail of whatever follows
pub tail_closed : (gate : ℕ) (rest : List ℕ) → gate ≢ capture → IsTail (gate ∷ rest)
tail_closed gate [] shut = tt
tail_closed gate (byte ∷ rest) shut = shut

pub commits_closed : (b image : List ℕ) (gate : ℕ) (rest : List ℕ) → ArePages b → gate ≢ capture → image ≡ b ++ gate ∷ rest → CommitsTo b image
commits_closed b image gate rest pages shut is = commits_to b (gate ∷ rest) image pages is (tail_closed gate rest shut)
