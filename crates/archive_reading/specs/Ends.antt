-- Where the pages end that stand from a place on. Ours.
use Rattle.std.specs.Prelude.{◌≡◌, ℕ, ◌+◌, ◌≤◌, List, ◌++◌, length, drop}
use Rattle.std.specs.List.{AllByRecursion}
use Rattle.ogg_page.specs.Page.{Page, IsPage, bytes_of_pages}
use Rattle.gate_file.specs.Commit.{IsTail}

-- From this place on stand pages up to the end, and then what may follow the committed bytes.
pub record EndsFrom (bytes : List ℕ) (place end : ℕ) : Type 0 where
  pub inside : place ≤ length bytes
  pub pages : List Page
  pub tail : List ℕ
  pub are_pages : AllByRecursion IsPage pages
  pub joined : drop place bytes ≡ bytes_of_pages pages ++ tail
  pub is_tail : IsTail tail
  pub end_is : end ≡ place + length (bytes_of_pages pages)
