-- What was heard of committed bytes is heard of those that have grown.
use Rattle.std.proofs.Common.{◌≡◌, ℕ, List, [], ◌∷◌, ◌++◌, refl, sym, ◌∙◌, ap, subst, inl, append_assoc}
use Rattle.std.specs.List.{AllByRecursion}
use Rattle.disk_model.specs.declared.disk.Disk.{Ghosts as DiskModel}
use Rattle.gate_file.specs.Commit.{ArePages}
use Rattle.link_chain.specs.Laws.InTurn.{bytes_flattened, pages_flattened}
use Rattle.link_chain.specs.Links.{flattened}
use Rattle.ogg_page.specs.Page.{IsPage, Page, bytes_of_pages, page_bytes}
use Rattle.ogg_page.specs.PagesLaws.{follows}
use Rattle.serve_hub.specs.Parts.{HubParts}
use Rattle.serve_hub.specs.Showing.{IsChain, Shows}
use Rattle.serve_live.specs.Hearing.{IsHearing}
use Rattle.serve_live.specs.Listening.{ListenerState}
use Rattle.serve_live.specs.Live.{Moment}
use Rattle.serve_machine.specs.Hub.{HubState}
use Rattle.serve_machine.specs.Sound.{Extends}

chain_pages : (bytes : List ℕ) → IsChain bytes → ArePages bytes
chain_pages bytes (links, are) =
    record { pages = flattened links; are_pages = pages_flattened links are.pages; spelled = are.spelled ∙ bytes_flattened links }

-- pages that begin with pages go on with pages
pages_behind : (front all : List Page) (more : List ℕ) → AllByRecursion IsPage front → AllByRecursion IsPage all → bytes_of_pages all ≡ bytes_of_pages front ++ more
    → ArePages more
pages_behind [] all more fronts alls is = record { pages = all; are_pages = alls; spelled = sym is }
pages_behind (page ∷ front) all more fronts alls is =
    let first = follows all page (bytes_of_pages front ++ more) alls fronts.0 (is ∙ append_assoc (page_bytes page) (bytes_of_pages front) more) in
    pages_behind front first.more more fronts.1 first.are (sym first.rest_is)

abbrev GoesOn : Type 0
GoesOn = (moment : Moment) (committed : List ℕ) (listener : ListenerState) (given : List ℕ) (more : List Page) → IsHearing moment committed listener given
    → AllByRecursion IsPage more → IsHearing moment (committed ++ bytes_of_pages more) listener given

pub hears_on : GoesOn → {D : Type 0} (model : DiskModel D) (old new : HubParts D) (before after : HubState) (moment : Moment) (listener : ListenerState) (given : List ℕ)
    → Shows model old before → Shows model new after → Extends before.committed after.committed → IsHearing moment before.committed listener given
    → IsHearing moment after.committed listener given
hears_on goes_on model old new before after moment listener given shown shown_after (more, grew) hearing =
    let first = chain_pages before.committed (shown.linked before.committed (inl refl)) in
    let all = chain_pages after.committed (shown_after.linked after.committed (inl refl)) in
    let pages = pages_behind first.pages all.pages more first.are_pages all.are_pages
    (sym all.spelled ∙ grew ∙ ap (λ (bytes : List ℕ). bytes ++ more) first.spelled) in
    subst (λ (bytes : List ℕ). IsHearing moment bytes listener given) (sym (grew ∙ ap (λ (bytes : List ℕ). before.committed ++ bytes) pages.spelled))
    (goes_on moment before.committed listener given pages.pages hearing pages.are_pages)
