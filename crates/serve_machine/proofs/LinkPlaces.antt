-- Each stream of a link begins where the index says that the link begins.
use Rattle.std.proofs.Common.{◌≡◌, ℕ, ◌+◌, ◌≤◌, Some, List, length, refl, ◌∙◌, ap, arith, slice_get}
use Rattle.ogg_page.specs.Page.{Page, bytes_of_pages}
use Rattle.link_chain.specs.Links.{AreLinks, pages_with}
use Rattle.link_index.specs.Index.{link_entry}
use Rattle.link_index.specs.IndexLaws.{between}
use Rattle.serve_machine.specs.Places.{BeginsWithLink}

pub begins_with_link : (committed : List ℕ) (links : List (List Page)) (number : ℕ) (link : List Page) (serial skip count : ℕ)
    → AreLinks committed links → slice_get links number ≡ Some link
    → skip + count ≤ length (bytes_of_pages (pages_with serial link)) → BeginsWithLink committed links number link serial skip count
begins_with_link committed links number link serial skip count are found room =
    let b = between links number 0 link are.pages found in
    record {
      entry = link_entry (length b.before) link;
      entry_is = b.entry ∙ ap (λ k. Some (link_entry k link)) (omega arith);
      is_rest = record {
        front = b.before;
        pages = link;
        behind = b.behind;
        split = are.spelled ∙ b.joined;
        place_is = refl;
        are_pages = b.are_pages;
        inside = room;
        rest_is = refl;
      };
    }
