-- The links of a file are written one after the other.
use Rattle.std.proofs.Common.{◌≡◌, ◌≤◌, ℕ, zero, suc, ◌+◌, Option, Some, List, [], ◌∷◌, ◌++◌, length, drop, refl, sym, ◌∙◌, ap, subst, arith, append_assoc, append-nil}
use Rattle.std.specs.Prelude.{slice_get}
use Rattle.std.specs.List.{flat_map}
use Rattle.std.specs.Io.KnownBytes.{Appends}
use Rattle.std.proofs.KnownBytes.{Appends-trans}
use Rattle.ogg_page.specs.Output.{WritesPrefix}
use Rattle.ogg_page.specs.Page.{Page, bytes_of_pages}
use Rattle.ogg_finish.specs.Finishing.{finished_link, finished_links}
use Rattle.ogg_page.specs.OutputLaws.{prefix_on}

abbrev file_text : List (List Page) → List ℕ
file_text links = flat_map bytes_of_pages (finished_links links)

-- the first links of the file were written
pub record LinksWritten (links : List (List Page)) (number : ℕ) (old now : Option (List ℕ)) : Type 0 where
  pub written : List ℕ
  pub whole : file_text links ≡ written ++ file_text (drop number links)
  pub appended : Appends old now written

next_is : (links : List (List Page)) (number : ℕ) (pages : List Page) → slice_get links number ≡ Some pages → drop number links ≡ pages ∷ drop (number + 1) links
next_is [] number pages e = cc
next_is (link ∷ links) zero pages e = ap (λ (l : List Page). l ∷ links) (inside link pages e)
  where
    inside : (x y : List Page) → Some x ≡ Some y → x ≡ y
    inside x y f = cc
next_is (link ∷ links) (suc number) pages e =
    let one : suc number + 1 ≡ suc (number + 1) = omega arith in
    next_is links number pages e ∙ ap (λ n. pages ∷ drop n (link ∷ links)) (sym one)

text_is : (links : List (List Page)) (number : ℕ) (pages : List Page) (old now : Option (List ℕ)) (w : LinksWritten links number old now) → slice_get links number ≡ Some pages
    → file_text links ≡ w.written ++ (bytes_of_pages (finished_link pages) ++ file_text (drop (number + 1) links))
text_is links number pages old now w e = w.whole ∙ ap (λ (l : List (List Page)). w.written ++ file_text l) (next_is links number pages e)

pub one_more_link : (links : List (List Page)) (number : ℕ) (pages : List Page) (old mid now : Option (List ℕ)) → LinksWritten links number old mid
    → slice_get links number ≡ Some pages → Appends mid now (bytes_of_pages (finished_link pages)) → LinksWritten links (number + 1) old now
one_more_link links number pages old mid now w e wrote =
    let own : List ℕ = bytes_of_pages (finished_link pages) in
    record {
      written = w.written ++ own;
      whole = text_is links number pages old mid w e ∙ sym (append_assoc w.written own (file_text (drop (number + 1) links)));
      appended = Appends-trans old mid now w.written own w.appended wrote;
    }

pub cut_in_link : (links : List (List Page)) (number : ℕ) (pages : List Page) (old mid now : Option (List ℕ)) → LinksWritten links number old mid
    → slice_get links number ≡ Some pages → WritesPrefix mid now (bytes_of_pages (finished_link pages)) → WritesPrefix old now (file_text links)
cut_in_link links number pages old mid now w e wrote =
    prefix_on old mid now (file_text links) w.written (bytes_of_pages (finished_link pages)) (file_text (drop (number + 1) links))
    (text_is links number pages old mid w e) w.appended wrote

all_dropped : (links : List (List Page)) (number : ℕ) → length links ≤ number → drop number links ≡ []
all_dropped [] zero le = refl
all_dropped [] (suc number) le = refl
all_dropped (link ∷ links) zero le = absurd (omega (arith, le))
all_dropped (link ∷ links) (suc number) le = all_dropped links number (omega (arith, le))

pub all_written : (links : List (List Page)) (number : ℕ) (old now : Option (List ℕ)) → LinksWritten links number old now → length links ≤ number
    → Appends old now (file_text links)
all_written links number old now w le =
    let all : file_text links ≡ w.written = w.whole ∙ ap (λ (l : List (List Page)). w.written ++ file_text l) (all_dropped links number le) ∙ append-nil w.written in
    subst (Appends old now) (sym all) w.appended
