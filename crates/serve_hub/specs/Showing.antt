-- Which machine a hub is seen as. Ours.
use Rattle.std.specs.Prelude.{◌≡◌, ℕ, ◌+◌, true, false, if◌then◌else◌, is_some, Option, None, Some, List, [], ◌++◌, length, take}
use Rattle.disk_model.specs.declared.disk.Disk.{Ghosts as DiskModel}
use Rattle.disk_model.specs.Image.{DiskState}
use Rattle.ogg_page.specs.Page.{Page}
use Rattle.gate_file.specs.Commit.{CommitsTo}
use Rattle.gate_file.specs.Gate.{EachImage}
use Rattle.link_chain.specs.Links.{AreLinks}
use Rattle.file_recorder.specs.Recorder.{RecorderState, committed, staged}
use Rattle.serve_machine.specs.Hub.{HubState, MayBeFound}
use Rattle.serve_sessions.specs.Indexing.{IsOfFront}
use Rattle.serve_sessions.specs.Sessions.{AreSessions}
use Rattle.serve_hub.specs.declared.opening.Lost.{Lost}
use Rattle.serve_hub.specs.Parts.{HubParts, next_of}

-- ---- the file
-- an image has the committed bytes of the machine, with or without the group in doubt
abbrev pub Commits : HubState → List ℕ → Type 0
Commits machine image = (found : List ℕ) × MayBeFound machine found × CommitsTo found image

-- the bytes are links
abbrev pub IsChain : List ℕ → Type 0
IsChain bytes = (links : List (List Page)) × AreLinks bytes links

-- whatever a reopening may find are links, the committed bytes among it
abbrev pub FindsLinks : HubState → Type 0
FindsLinks machine = (found : List ℕ) → MayBeFound machine found → IsChain found

module _ {D : Type 0} (model : DiskModel D) where
  -- with a file: the machine has what the recorder has, and a group is in doubt exactly if the recorder has failed
  pub record ShowsFile (recorder : RecorderState D) (machine : HubState) : Type 0 where
    pub honest : model.is_honest recorder.file.disk
    pub has_file : machine.has_file ≡ true
    pub committed_is : machine.committed ≡ committed model.state recorder
    pub held_is : machine.held ≡ (if recorder.file.failed then [] else staged model.state recorder)
    pub waiting_is : machine.waiting ≡ recorder.held
    pub most_is : machine.most ≡ recorder.most
    pub count_is : machine.count ≡ recorder.kept + recorder.held
    pub failed_is : is_some machine.in_doubt ≡ recorder.file.failed
    pub images : EachImage (model.state recorder.file.disk) (Commits machine)

  -- without a file nothing waits
  pub record ShowsLost (lost : Lost D) (machine : HubState) : Type 0 where
    pub honest : model.is_honest lost.disk
    pub has_file : machine.has_file ≡ false
    pub committed_is : machine.committed ≡ take lost.end (model.state lost.disk).contents
    pub long : length machine.committed ≡ lost.end
    pub held_is : machine.held ≡ []
    pub waiting_is : machine.waiting ≡ 0
    pub most_is : machine.most ≡ machine.most_after_reopening
    pub count_is : machine.count ≡ 0
    pub images : EachImage (model.state lost.disk) (Commits machine)

  -- each image of the disk has the committed bytes of the machine, and there are `end` of them
  pub record IsOver (disk : D) (end : ℕ) (machine : HubState) : Type 0 where
    pub honest : model.is_honest disk
    pub long : length machine.committed ≡ end
    pub images : EachImage (model.state disk) (Commits machine)

  abbrev pub ShowsPlace : Option (RecorderState D) → Option (Lost D) → HubState → Type 0
  ShowsPlace (Some recorder) lost machine = ShowsFile recorder machine
  ShowsPlace None (Some lost) machine = ShowsLost lost machine
  ShowsPlace None None machine = ⊥

  -- ---- the hub
  -- The hub is this machine: its disk is honest, and the machine has what the fields of the hub have. The group in
  -- doubt is in none of these fields: only the images of the disk show it. So a hub may be several machines after a
  -- fault. In each of them a reopening finds links.
  pub record Shows (hub : HubParts D) (machine : HubState) : Type 0 where
    pub place : ShowsPlace hub.file hub.lost machine
    pub linked : FindsLinks machine
    pub indexed : IsOfFront machine.committed hub.index
    pub sessions_are : AreSessions machine.committed hub.sessions machine.sessions
    pub next_is : machine.next_id ≡ next_of hub.next
    pub most_is : machine.most_after_reopening ≡ hub.most
    pub room_is : machine.room ≡ hub.room

-- there is a file, no group is in doubt, and the committed bytes with those that wait are these links
pub record HasLinks (machine : HubState) (links : List (List Page)) : Type 0 where
  pub has_file : machine.has_file ≡ true
  pub none : machine.in_doubt ≡ None
  pub are_links : AreLinks (machine.committed ++ machine.held) links

-- the calls of the recorder leave the sessions as they are
pub record KeepsSessions (old new : HubState) : Type 0 where
  pub sessions : new.sessions ≡ old.sessions
  pub numbers : new.next_id ≡ old.next_id
  pub group : new.most_after_reopening ≡ old.most_after_reopening
  pub room : new.room ≡ old.room
