-- The pages of a command that are still to come. Ours.
use Rattle.std.specs.Prelude.{◌≡◌, ℕ, ◌+◌, ◌<◌, ◌≤◌, ◌^◌, Bool, true, false, Option, Some, None, ⊤, List, [], ◌∷◌, ◌++◌, length, sum_by, take}
use Rattle.std.specs.List.{flat_map, list_any}
use Rattle.ogg_page.specs.Page.{Page, page_of}
use Rattle.ogg_page.specs.declared.head.PageHead.{PageHead}
use Rattle.link_chain.specs.Places.{HaveOwnSerials}
use Rattle.link_chain.specs.Size.{has_no_number}
use Rattle.link_chain.specs.declared.stream_state.StreamState.{StreamState}
use Rattle.ogg_command.specs.declared.command.SkeletonHead.{SkeletonHead}
use Rattle.ogg_command.specs.declared.command.Entry.{Entry}
use Rattle.command_pages.specs.Encoding.{first_pages, header_pages, fishead_pages, fisbone_pages, skeleton_end, runs_of, pages_of_runs}
use Rattle.command_pages.specs.Fits.{header_bytes, has_many_headers, has_long_message}
use Rattle.command_pages.specs.Limits.{longest_batch, most_entries, most_streams}
use Rattle.command_pages.specs.declared.beginning.BeginPages.{BeginPages}
use Rattle.command_pages.specs.declared.putting.PutPages.{PutPages}
use Rattle.command_pages.specs.declared.paging.Work.{Work}
use Rattle.command_pages.specs.declared.paging.Work.TheVariants.{Begin as BeginOf, Put as PutOf, End as EndOf}

-- ---- a new link
-- a Skeleton's first page, and its last, if they are still to come
abbrev pub pages_to_describe : Option SkeletonHead → List Page
pages_to_describe None = []
pages_to_describe (Some head) = fishead_pages head

abbrev pub pages_to_end : Bool → ℕ → ℕ → List Page
pages_to_end false serial sequence = []
pages_to_end true serial sequence = skeleton_end serial sequence

abbrev pub pages_to_begin : BeginPages → List Page
pages_to_begin b =
    b.run ++ (pages_to_describe b.fishead ++ (flat_map first_pages b.firsts.now
    ++ (fisbone_pages b.serial b.sequence b.fisbones.now ++ (flat_map header_pages b.others.now
    ++ pages_to_end b.has_end b.serial (b.sequence + length b.fisbones.now)))))

-- what is left has pages that can be made
pub record BeginGoesOn (b : BeginPages) : Type 0 where
  pub firsts_short : sum_by header_bytes b.firsts.now ≤ longest_batch
  pub firsts_few : list_any has_many_headers b.firsts.now ≡ false
  pub others_short : sum_by header_bytes b.others.now ≤ longest_batch
  pub others_few : list_any has_many_headers b.others.now ≡ false
  pub fisbones_few : list_any has_many_headers b.fisbones.now ≡ false
  pub fisbones_short : list_any has_long_message b.fisbones.now ≡ false
  pub numbers : b.sequence + length b.fisbones.now < 2 ^ 32

-- ---- a put
abbrev pub pages_to_put : PutPages → List Page
pages_to_put p = p.run ++ pages_of_runs (take p.count p.streams) (runs_of p.rest.now)

-- the runs of these entries have pages that can be made, from these streams on
pub record RunsGoOn (streams : List StreamState) (entries : List Entry) : Type 0 where
  pub own : HaveOwnSerials streams
  pub numbered : list_any has_no_number (pages_of_runs streams (runs_of entries)) ≡ false
  pub short : sum_by (λ (entry : Entry). length entry.packet) entries + length entries ≤ longest_batch + most_entries

pub record PutGoesOn (p : PutPages) : Type 0 where
  pub count : p.count ≤ most_streams
  pub runs : RunsGoOn (take p.count p.streams) p.rest.now

-- ---- a command
-- a page without packets, if there is one
abbrev pub bare_pages : Option PageHead → List Page
bare_pages None = []
bare_pages (Some head) = page_of head [] [] ∷ []

abbrev pub pages_to_make : Work → List Page
pages_to_make (BeginOf b) = pages_to_begin b
pages_to_make (PutOf p) = pages_to_put p
pages_to_make (EndOf head) = bare_pages head

abbrev pub WorkGoesOn : Work → Type 0
WorkGoesOn (BeginOf b) = BeginGoesOn b
WorkGoesOn (PutOf p) = PutGoesOn p
WorkGoesOn (EndOf head) = ⊤
