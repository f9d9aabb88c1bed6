-- Pages that stand from a place on, one after the other.
use Rattle.std.proofs.Common.{◌≡◌, ◌⊎◌, inl, inr, ℕ, ◌+◌, List, [], ◌∷◌, ◌++◌, length, take, drop, sym, ◌∙◌, ap, subst, refl, arith, append_assoc, drop-drop, drop_at, length-append, Result, Ok}
use Rattle.std.specs.Prelude.{slice_index, IfOk}
use Rattle.ogg_page.specs.declared.fault.SourceFault.{SourceFault}
use Rattle.std.specs.List.{AllByRecursion}
use Rattle.ogg_page.specs.Head.{Stands}
use Rattle.ogg_page.specs.Page.{Page as PageOf, IsPage, page_bytes, page_size, bytes_of_pages}
use Rattle.ogg_page.specs.Laws.HeadBytes.{lies_inside}
use Rattle.ogg_page.specs.Laws.PageBytes.{page_begins, bytes_both}
use Rattle.ogg_page.specs.Laws.ReadAgain.{length-page_bytes}
use Rattle.gate_file.specs.Commit.{CommitsTo, IsTail}
use Rattle.archive_reading.specs.Ends.{EndsFrom}
use Rattle.archive_reading.specs.declared.walking.At.{At}
use Rattle.archive_reading.specs.declared.walking.At.TheVariants.{Page, Tail}

-- a page stands at the place, and the others after it
pub record Next (bytes : List ℕ) (place end : ℕ) : Type 0 where
  pub page : PageOf
  pub stands : Stands (drop place bytes) page
  pub on : EndsFrom bytes (place + page_size page) end

-- nothing more stands there
pub record Ended (bytes : List ℕ) (place end : ℕ) : Type 0 where
  pub is_tail : IsTail (drop place bytes)
  pub end_is : end ≡ place

split : (bytes : List ℕ) (place end : ℕ) (pages : List PageOf) (tail : List ℕ) → AllByRecursion IsPage pages
    → drop place bytes ≡ bytes_of_pages pages ++ tail → IsTail tail → end ≡ place + length (bytes_of_pages pages)
    → Next bytes place end ⊎ Ended bytes place end
split bytes place end [] tail are joined is end_is = inr (record { is_tail = subst IsTail (sym joined) is; end_is = omega (arith, end_is) })
split bytes place end (page ∷ pages) tail are joined is end_is =
    let spelled : drop place bytes ≡ page_bytes page ++ (bytes_of_pages pages ++ tail) = joined ∙ append_assoc (page_bytes page) (bytes_of_pages pages) tail in
    let size = length-page_bytes page in
    let more = length-append (page_bytes page) (bytes_of_pages pages) in
    inl (record {
      page = page;
      stands = record { is_page = are.0; tail = bytes_of_pages pages ++ tail; spelled = spelled };
      on = record {
        inside = lies_inside bytes page place (record { is_page = are.0; tail = bytes_of_pages pages ++ tail; spelled = spelled });
        pages = pages;
        tail = tail;
        are_pages = are.1;
        joined = sym (drop-drop (page_size page) place bytes) ∙ ap (drop (page_size page)) spelled
            ∙ drop_at (page_bytes page) (bytes_of_pages pages ++ tail) (page_size page) (omega (arith, size));
        is_tail = is;
        end_is = omega (arith, end_is, more, size);
      };
    })

pub next_or_end : (bytes : List ℕ) (place end : ℕ) → EndsFrom bytes place end → Next bytes place end ⊎ Ended bytes place end
next_or_end bytes place end e = split bytes place end e.pages e.tail e.are_pages e.joined e.is_tail e.end_is

-- ---- what a step says, by what stands at the place
pub same_page : (result : Result At SourceFault) (at : At) (a b : ℕ) → result ≡ Ok at → at ≡ Page a → IfOk result (λ at. at ≡ Page b) → a ≡ b
same_page result at a b is page also =
    let it : at ≡ Page b = subst (λ (r : Result At SourceFault). IfOk r (λ at. at ≡ Page b)) is also in
    cc

pub no_page : (result : Result At SourceFault) (at : At) (b : ℕ) → result ≡ Ok at → at ≡ Tail → IfOk result (λ at. at ≡ Page b) → ⊥
no_page result at b is tail also =
    let it : at ≡ Page b = subst (λ (r : Result At SourceFault). IfOk r (λ at. at ≡ Page b)) is also in
    cc

pub no_tail : (result : Result At SourceFault) (at : At) (a : ℕ) → result ≡ Ok at → at ≡ Page a → IfOk result (λ at. at ≡ Tail) → ⊥
no_tail result at a is page also =
    let it : at ≡ Tail = subst (λ (r : Result At SourceFault). IfOk r (λ at. at ≡ Tail)) is also in
    cc

-- the first byte of a page
pub first_byte : (bytes : List ℕ) (page : PageOf) → Stands bytes page → slice_index (take 1 bytes) 0 ≡ 0x4F
first_byte bytes page s =
    let (next, rest, begins) = page_begins page in
    ap (λ (l : List ℕ). slice_index (take 1 l) 0) (s.spelled ∙ ap (λ (l : List ℕ). l ++ s.tail) begins)

-- one byte, or a closed one
pub tail_byte : (bytes : List ℕ) → IsTail bytes → slice_index (take 1 bytes) 0 ≡ 0x4F → length bytes ≡ 1
tail_byte [] is e = absurd (omega (arith, e))
tail_byte (byte ∷ []) is e = refl
tail_byte (byte ∷ next ∷ rest) is e = absurd (is e)

all_after : (before after : List PageOf) → AllByRecursion IsPage (before ++ after) → AllByRecursion IsPage after
all_after [] after are = are
all_after (page ∷ before) after are = all_after before after are.1

-- from any place between pages a walk comes to the end of the committed bytes
pub walks_end : (b image : List ℕ) (before after : List PageOf) → CommitsTo b image → AllByRecursion IsPage (before ++ after)
    → b ≡ bytes_of_pages (before ++ after) → EndsFrom image (length (bytes_of_pages before)) (length b)
walks_end b image before after commits are is =
    let both : b ≡ bytes_of_pages before ++ bytes_of_pages after = is ∙ bytes_both before after in
    let whole : image ≡ bytes_of_pages before ++ (bytes_of_pages after ++ commits.tail) =
    commits.begins.joined ∙ ap (λ (l : List ℕ). l ++ commits.tail) (sym commits.committed ∙ both)
    ∙ append_assoc (bytes_of_pages before) (bytes_of_pages after) commits.tail in
    let long : length image ≡ length (bytes_of_pages before) + length (bytes_of_pages after ++ commits.tail) =
    ap length whole ∙ length-append (bytes_of_pages before) (bytes_of_pages after ++ commits.tail) in
    record {
      inside = omega (arith, long);
      pages = after;
      tail = commits.tail;
      are_pages = all_after before after are;
      joined = ap (drop (length (bytes_of_pages before))) whole
          ∙ drop_at (bytes_of_pages before) (bytes_of_pages after ++ commits.tail) (length (bytes_of_pages before)) refl;
      is_tail = commits.is_tail;
      end_is = ap length both ∙ length-append (bytes_of_pages before) (bytes_of_pages after);
    }
