-- What is heard of a file from a place on. Ours.
use Rattle.std.specs.Prelude.{◌≡◌, ◌⊎◌, ℕ, List, ◌++◌, length, min}
use Rattle.disk_model.specs.declared.disk.Disk.{Ghosts as DiskModel}
use Rattle.serve_clients.specs.Client.{ClientState, cut}
use Rattle.ogg_page.specs.Page.{bytes_of_pages}
use Rattle.serve_live.specs.Listening.{Gives, HasFailed, IsLeft, ListenerState}
use Rattle.archive_cut.specs.Cut.{ends_of}
use Rattle.archive_reading.specs.Ends.{EndsFrom}
use Rattle.archive_reading.specs.Prefix.{IsSameDisk, PrefixState, prefix_bytes}
use Rattle.archive_fetch.specs.Meetings.{EndIn}
use Rattle.archive_fetch.specs.declared.meetings.Meeting.{Meeting}

pub record HeardState (D : Type 0) : Type 0 where
  pub source : PrefixState D
  pub listener : ListenerState
  -- the number of the file
  pub file : ℕ

-- It can be read as it is: these bytes of it are committed, and of them this is left to be heard.
pub record IsReadable {D : Type 0} (model : DiskModel D) (heard : HeardState D) (committed more left : List ℕ) : Type 0 where
  pub honest : model.is_honest heard.source.disk
  pub whole : length (prefix_bytes model.state heard.source) ≡ heard.source.end
  pub bytes : prefix_bytes model.state heard.source ≡ committed ++ more
  pub end : length committed ≡ heard.source.end
  pub rest : IsLeft committed heard.listener left

-- So many bytes of the buffer are what its listener hears next.
pub record HasHeard {D : Type 0} (model : DiskModel D) (size : ℕ) (client : ClientState) (heard : HeardState D) (count : ℕ)
    (buffer : List ℕ) (after : ClientState) (rest : HeardState D) : Type 0 where
  pub gives : (committed more left : List ℕ) → IsReadable model heard committed more left
      → Gives committed left size buffer count rest.listener
  pub becomes : after ≡ client

-- Or its disk has failed, and the connection is cut.
pub record IsCutOffHearing {D : Type 0} (model : DiskModel D) (client : ClientState) (heard : HeardState D) (count : ℕ)
    (after : ClientState) (rest : HeardState D) : Type 0 where
  pub none : count ≡ 0
  pub becomes : after ≡ cut client
  pub cause : (committed more left : List ℕ) → IsReadable model heard committed more left
      → HasFailed (model.failures heard.source.disk) (model.failures rest.source.disk)

abbrev pub Hears : {D : Type 0} → DiskModel D → ℕ → ClientState → HeardState D → ℕ → List ℕ → ClientState → HeardState D → Type 0
Hears model size client heard count buffer after rest =
    HasHeard model size client heard count buffer after rest ⊎ IsCutOffHearing model client heard count after rest

-- ---- how far it is committed
-- The same is heard of the same file, which was only read. Where its committed bytes end may have changed.
pub record IsSameHeard {D : Type 0} (model : DiskModel D) (old new : HeardState D) : Type 0 where
  pub listener : new.listener ≡ old.listener
  pub file : new.file ≡ old.file
  pub disk : IsSameDisk model old.source.disk new.source.disk

-- it is committed up to this place, as far as the disk has bytes
abbrev pub HasGrown : {D : Type 0} → DiskModel D → ℕ → HeardState D → HeardState D → Type 0
HasGrown model committed old new =
    model.is_honest old.source.disk → new.source.end ≡ min (length (model.state old.source.disk).contents) committed

-- it is committed up to the end of its pages
abbrev pub HasEnded : {D : Type 0} → DiskModel D → HeardState D → HeardState D → Type 0
HasEnded model old new =
    (end : ℕ) → model.is_honest old.source.disk → EndsFrom (model.state old.source.disk).contents old.source.end end
    → new.source.end ≡ end

-- that fails where its pages end only if its disk does
abbrev pub HasFailedToEnd : {D : Type 0} → DiskModel D → HeardState D → HeardState D → Type 0
HasFailedToEnd model old new =
    (end : ℕ) → model.is_honest old.source.disk → EndsFrom (model.state old.source.disk).contents old.source.end end
    → HasFailed (model.failures old.source.disk) (model.failures new.source.disk)

-- the connection hears as far as it is committed now; or the disk has failed, and the connection is cut
pub record Grows {D : Type 0} (model : DiskModel D) (committed : ℕ) (client : ClientState) (heard : HeardState D)
    (after : ClientState) (rest : HeardState D) : Type 0 where
  pub same : IsSameHeard model heard rest
  pub becomes : ((after ≡ client) × HasGrown model committed heard rest)
      ⊎ ((after ≡ cut client) × HasFailed (model.failures heard.source.disk) (model.failures rest.source.disk))

pub record Ends {D : Type 0} (model : DiskModel D) (client : ClientState) (heard : HeardState D) (after : ClientState)
    (rest : HeardState D) : Type 0 where
  pub same : IsSameHeard model heard rest
  pub becomes : ((after ≡ client) × HasEnded model heard rest) ⊎ ((after ≡ cut client) × HasFailedToEnd model heard rest)

-- ---- a file that meets the next one
-- Its link goes on there. Of its pages it is committed up to those that end the link, and no other is left out.
abbrev pub HasMet : {D : Type 0} → DiskModel D → Meeting → HeardState D → HeardState D → Type 0
HasMet model meeting old new =
    (pages tail : List ℕ) → model.is_honest old.source.disk → (model.state old.source.disk).contents ≡ pages ++ tail
    → EndIn pages meeting.end meeting.ended.items
    → prefix_bytes model.state new.source ++ bytes_of_pages (ends_of meeting.ended.items) ≡ pages

pub record MeetsNext {D : Type 0} (model : DiskModel D) (meeting : Meeting) (client : ClientState) (heard : HeardState D)
    (after : ClientState) (rest : HeardState D) : Type 0 where
  pub same : IsSameHeard model heard rest
  pub becomes : ((after ≡ client) × HasMet model meeting heard rest)
      ⊎ ((after ≡ cut client) × HasFailed (model.failures heard.source.disk) (model.failures rest.source.disk))
