-- How far a pull of a stream's rest has come. Ours.
use Rattle.std.specs.Prelude.{◌≡◌, ◌⊎◌, ℕ, ◌+◌, ◌-◌, ◌<◌, ◌≤◌, List, length, take, drop}
use Rattle.ogg_page.specs.Page.{Page, page_bytes}
use Rattle.serve_machine.specs.Places.{IsStreamRest, part_at}
use Rattle.serve_sending.specs.declared.walking.StreamLeft.{StreamLeft}

-- the first bytes of the rest are in the buffer, and this is left
pub record IsPulled (committed rest : List ℕ) (serial : ℕ) (left : StreamLeft) (given : ℕ) (buffer : List ℕ) : Type 0 where
  pub taken : take given buffer ≡ take given rest
  pub total : given + left.count ≡ length rest
  pub is_rest : IsStreamRest committed serial left.place left.skip left.count (drop given rest)

-- the first `count` bytes of the rest are the next ones of the page, and this is left after them
pub record IsGivenOf (page : Page) (committed rest : List ℕ) (serial : ℕ) (left : StreamLeft) (count : ℕ)
    (after : StreamLeft) : Type 0 where
  pub given : take count rest ≡ part_at left.skip count (page_bytes page)
  pub is_rest : IsStreamRest committed serial after.place after.skip after.count (drop count rest)

-- the buffer is full, or nothing is left
abbrev pub IsOver : ℕ → ℕ → StreamLeft → Type 0
IsOver size given left = (given ≡ size) ⊎ (left.count ≡ 0)

-- how many bytes are still ahead, of the source and in the buffer
abbrev pub to_go : ℕ → ℕ → StreamLeft → ℕ → ℕ
to_go end size left given = (end - left.place) + (size - given)

-- The pull has come further, so that it ends.
pub record IsFurther (end size : ℕ) (left : StreamLeft) (given : ℕ) (after : StreamLeft) (now : ℕ) : Type 0 where
  pub room : now ≤ size
  pub inside : after.place ≤ end
  pub further : to_go end size after now < to_go end size left given
