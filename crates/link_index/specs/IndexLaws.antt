-- Where the index says that a link stands, it stands. These are laws, to be cited.
use Rattle.std.proofs.Common.{◌≡◌, ℕ, zero, suc, ◌+◌, Some, List, [], ◌∷◌, ◌++◌, length, sym, ◌∙◌, ap, subst, arith, append_assoc, length-append}
use Rattle.std.specs.Prelude.{slice_get}
use Rattle.std.specs.List.{flat_map, AllByRecursion}
use Rattle.ogg_page.specs.Page.{Page, IsPage, bytes_of_pages}
use Rattle.link_index.specs.Index.{link_entry, index_from}

-- the link with this number, between the bytes before it and those behind it; the index is of links from `start` on
pub record Between (links : List (List Page)) (number start : ℕ) (link : List Page) : Type 0 where
  pub before : List ℕ
  pub behind : List ℕ
  pub joined : flat_map bytes_of_pages links ≡ before ++ (bytes_of_pages link ++ behind)
  pub entry : slice_get (index_from start links) number ≡ Some (link_entry (start + length before) link)
  pub are_pages : AllByRecursion IsPage link

same_link : (a b : List Page) → Some a ≡ Some b → a ≡ b
same_link a b e = cc

pub between : (links : List (List Page)) (number start : ℕ) (link : List Page) → AllByRecursion (AllByRecursion IsPage) links → slice_get links number ≡ Some link
    → Between links number start link
between [] number start link are e = cc
between (first ∷ links) zero start link are e =
    let same : first ≡ link = same_link first link e in
    record {
      before = [];
      behind = flat_map bytes_of_pages links;
      joined = ap (λ (l : List Page). bytes_of_pages l ++ flat_map bytes_of_pages links) same;
      entry = ap (λ (l : List Page). Some (link_entry start l)) same ∙ ap (λ n. Some (link_entry n link)) (omega arith);
      are_pages = subst (AllByRecursion IsPage) same are.0;
    }
between (first ∷ links) (suc number) start link are e =
    let own : List ℕ = bytes_of_pages first in
    let more : Between links number (start + length own) link = between links number (start + length own) link are.1 e in
    record {
      before = own ++ more.before;
      behind = more.behind;
      joined = ap (λ (l : List ℕ). own ++ l) more.joined ∙ sym (append_assoc own more.before (bytes_of_pages link ++ more.behind));
      entry = more.entry ∙ ap (λ n. Some (link_entry n link)) (omega (arith, length-append own more.before));
      are_pages = more.are_pages;
    }
