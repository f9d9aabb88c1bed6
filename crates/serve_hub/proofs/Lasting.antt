-- What was heard of committed bytes is heard of bytes that have grown.
use Rattle.std.proofs.Common.{◌≡◌, ℕ, Option, Some, None, List, [], ◌∷◌, ◌++◌, sym, ◌∙◌, ap, subst, inl, inr, append_assoc}
use Rattle.std.specs.List.{AllByRecursion}
use Rattle.disk_model.specs.declared.disk.Disk.{Ghosts as DiskModel}
use Rattle.disk_model.specs.Image.{DiskState}
use Rattle.ogg_page.specs.Page.{Page, IsPage, page_bytes, bytes_of_pages}
use Rattle.ogg_page.specs.PagesLaws.{follows}
use Rattle.gate_file.specs.Commit.{ArePages, CommitsTo, CommitsToEither}
use Rattle.gate_file.specs.Gate.{EachImage}
use Rattle.link_chain.specs.Laws.InTurn.{bytes_flattened, pages_flattened}
use Rattle.link_chain.specs.Links.{flattened}
use Rattle.file_recorder.specs.Recorder.{RecorderState}
use Rattle.serve_live.specs.Hearing.{IsHearing}
use Rattle.serve_live.specs.Listening.{ListenerState}
use Rattle.serve_live.specs.Live.{IsLive, Moment}
use Rattle.serve_machine.specs.Hub.{HubState, Event, MayBeFound, hub_step}
use Rattle.serve_machine.specs.Run.{Step, AreSteps}
use Rattle.serve_machine.specs.Sound.{Extends, HasCommand, IsRecorded, IsSound}
use Rattle.serve_hub.specs.declared.opening.Lost.{Lost}
use Rattle.serve_hub.specs.Images.{disk_in}
use Rattle.serve_hub.specs.Listening.{ShowsHeard}
use Rattle.serve_hub.specs.Showing.{Commits, ShowsPlace}

-- ---- pages
recorded_pages : (bytes : List ℕ) → IsRecorded bytes → ArePages bytes
recorded_pages bytes (recording, holds) = record {
  pages = flattened holds.0;
  are_pages = pages_flattened holds.0 holds.1.pages;
  spelled = holds.1.spelled ∙ bytes_flattened holds.0;
}

-- pages that begin with pages go on with pages
pub pages_behind : (front all : List Page) (more : List ℕ) → AllByRecursion IsPage front → AllByRecursion IsPage all → bytes_of_pages all ≡ bytes_of_pages front ++ more → ArePages more
pages_behind [] all more f a e = record { pages = all; are_pages = a; spelled = sym e }
pages_behind (page ∷ front) all more f a e =
    let first = follows all page (bytes_of_pages front ++ more) a f.0 (e ∙ append_assoc (page_bytes page) (bytes_of_pages front) more) in
    pages_behind front first.more more f.1 first.are (sym first.rest_is)

more_pages : (bytes more : List ℕ) → IsRecorded bytes → IsRecorded (bytes ++ more) → ArePages more
more_pages bytes more first all =
    let p = recorded_pages bytes first in
    let q = recorded_pages (bytes ++ more) all in
    pages_behind p.pages q.pages more p.are_pages q.are_pages (sym q.spelled ∙ ap (λ (l : List ℕ). l ++ more) p.spelled)

-- ---- calls
abbrev pub GoesOn : Type 0
GoesOn = (moment : Moment) (committed : List ℕ) (listener : ListenerState) (given : List ℕ) (more : List Page) → IsHearing moment committed listener given
    → AllByRecursion IsPage more → IsHearing moment (committed ++ bytes_of_pages more) listener given

module _ (goes_on : GoesOn) where
  grown : (moment : Moment) (old new more : List ℕ) (listener : ListenerState) (given : List ℕ) → new ≡ old ++ more → IsRecorded old → IsRecorded new
      → IsHearing moment old listener given → IsHearing moment new listener given
  grown moment old new more listener given is first all hearing =
      let p = more_pages old more first (subst IsRecorded is all) in
      subst (λ (l : List ℕ). IsHearing moment l listener given) (sym (is ∙ ap (λ (l : List ℕ). old ++ l) p.spelled))
      (goes_on moment old listener given p.pages hearing p.are_pages)

  module _ (grows : (start : HubState) (steps : List Step) → AreSteps start steps → AllByRecursion (λ (step : Step). Extends start.committed step.after.committed) steps)
      (sound : (start : HubState) (steps : List Step) → IsSound start → AllByRecursion (λ (step : Step). HasCommand step.event) steps → AreSteps start steps
      → AllByRecursion (λ (step : Step). IsSound step.after) steps) where
    pub by_step : (old new : HubState) (event : Event) (moment : Moment) (listener : ListenerState) (given : List ℕ) → IsSound old → HasCommand event → hub_step old event new
        → IsHearing moment old.committed listener given → IsHearing moment new.committed listener given
    by_step old new event moment listener given is command step hearing =
        let one : Step = record { event = event; after = new } in
        let (more, grew) = (grows old (one ∷ []) (step, tt)).0 in
        let after = (sound old (one ∷ []) is (command, tt) (step, tt)).0 in
        grown moment old.committed new.committed more listener given grew is.committed after.committed hearing

    pub by_steps : (start : HubState) (steps : List Step) (moment : Moment) (listener : ListenerState) (given : List ℕ) → IsSound start
        → AllByRecursion (λ (step : Step). HasCommand step.event) steps → AreSteps start steps → IsHearing moment start.committed listener given
        → AllByRecursion (λ (step : Step). IsHearing moment step.after.committed listener given) steps
    by_steps start [] moment listener given is commands are hearing = tt
    by_steps start (step ∷ steps) moment listener given is commands are hearing =
        let next = by_step start step.after step.event moment listener given is commands.0 are.0 hearing in
        let after = (sound start (step ∷ []) is (commands.0, tt) (are.0, tt)).0 in
        (next, by_steps step.after steps moment listener given after commands.1 are.1 next)

-- ---- images
module _ (grows : (moment : Moment) (committed bytes : List ℕ) (more : List Page) → IsLive moment committed bytes → AllByRecursion IsPage more
    → (new : List ℕ) × IsLive moment (committed ++ bytes_of_pages more) (bytes ++ new)) where
  module _ (moment : Moment) (committed : List ℕ) (listener : ListenerState) (given : List ℕ) (hearing : IsHearing moment committed listener given) (recorded : IsRecorded committed) where
    same_shown : (image : List ℕ) → CommitsTo committed image → ShowsHeard moment given image
    same_shown image commits = record { found = committed; commits = commits; recorded = recorded; later = hearing.rest; live = hearing.live }

    more_shown : (more image : List ℕ) → IsRecorded (committed ++ more) → CommitsTo (committed ++ more) image → ShowsHeard moment given image
    more_shown more image all commits =
        let p = more_pages committed more recorded all in
        let (new, live) = grows moment committed (given ++ hearing.rest) p.pages hearing.live p.are_pages in
        record {
          found = committed ++ more;
          commits = commits;
          recorded = all;
          later = hearing.rest ++ new;
          live = subst (λ (l : List ℕ). IsLive moment (committed ++ more) l) (append_assoc given hearing.rest new)
              (subst (λ (l : List ℕ). IsLive moment (committed ++ l) ((given ++ hearing.rest) ++ new)) (sym p.spelled) live);
        }

    pub either_shown : (more image : List ℕ) → IsRecorded (committed ++ more) → CommitsToEither committed more image → ShowsHeard moment given image
    either_shown more image all (inl one) = same_shown image one
    either_shown more image all (inr both) = more_shown more image all both

  module _ (machine : HubState) (sound : IsSound machine) (moment : Moment) (listener : ListenerState) (given : List ℕ) (hearing : IsHearing moment machine.committed listener given) where
    found_shown : (image found : List ℕ) → MayBeFound machine found → CommitsTo found image → ShowsHeard moment given image
    found_shown image found (inl same) commits =
        same_shown moment machine.committed listener given hearing sound.committed image (subst (λ (l : List ℕ). CommitsTo l image) same commits)
    found_shown image found (inr (group, doubt, is)) commits =
        more_shown moment machine.committed listener given hearing sound.committed group image (sound.in_doubt group doubt) (subst (λ (l : List ℕ). CommitsTo l image) is commits)

    pub commits_shown : (image : List ℕ) → Commits machine image → ShowsHeard moment given image
    commits_shown image (found, may, commits) = found_shown image found may commits

some_same : {D : Type 0} (a b : D) → ◌≡◌ {A = Option D} (Some a) (Some b) → a ≡ b
some_same a b e = cc

module _ {D : Type 0} (model : DiskModel D) where
  pub place_images : (file : Option (RecorderState D)) (lost : Option (Lost D)) (machine : HubState) (disk : D) → ShowsPlace model file lost machine → disk_in file lost ≡ Some disk
      → EachImage (model.state disk) (Commits machine)
  place_images (Some recorder) lost machine disk s is = subst (λ (d : D). EachImage (model.state d) (Commits machine)) (some_same recorder.file.disk disk is) s.images
  place_images None (Some gone) machine disk s is = subst (λ (d : D). EachImage (model.state d) (Commits machine)) (some_same gone.disk disk is) s.images
  place_images None None machine disk s is = absurd s
