-- What is left to be sent of a file. Ours.
use Rattle.std.specs.Prelude.{◌≡◌, ◌⊎◌, ℕ, ◌+◌, ◌-◌, min, Bool, true, false, ◌==◌, List, ◌++◌, length, slice_range, take}
use Rattle.disk_model.specs.Fault.{Rises}
use Rattle.disk_model.specs.Image.{DiskState}
use Rattle.disk_model.specs.declared.disk.Disk.{Ghosts as DiskModel}
use Rattle.archive_reading.specs.Prefix.{PrefixState, prefix_bytes}
use Rattle.serve_clients.specs.Client.{ClientState, cut, with_stage}
use Rattle.serve_clients.specs.declared.client.Stage.TheVariants.{Ending}

pub record BodyState (D : Type 0) : Type 0 where
  pub source : PrefixState D
  pub at : ℕ
  pub end : ℕ

abbrev pub left_of : {D : Type 0} → (D → DiskState) → BodyState D → List ℕ
left_of state body = slice_range (prefix_bytes state body.source) body.at body.end

-- it can be read as it is
abbrev pub IsWhole : {D : Type 0} → DiskModel D → BodyState D → Type 0
IsWhole model body = model.is_honest body.source.disk × (length (prefix_bytes model.state body.source) ≡ body.source.end)

-- once nothing is left what is kept of the connection is its last
abbrev pub ended_if : Bool → ClientState → ClientState
ended_if true client = with_stage Ending client
ended_if false client = client

-- So many bytes of the buffer, as many as it holds or all that are left, are the next ones of the file.
pub record HasGiven {D : Type 0} (model : DiskModel D) (size : ℕ) (client : ClientState) (body : BodyState D) (count : ℕ)
    (buffer : List ℕ) (after : ClientState) (rest : BodyState D) : Type 0 where
  pub next : IsWhole model body → left_of model.state body ≡ take count buffer ++ left_of model.state rest
  pub so_many : count ≡ min (body.end - body.at) size
  pub rests : (rest.at ≡ body.at + count) × (rest.end ≡ body.end)
  pub becomes : after ≡ ended_if (rest.end - rest.at == 0) client

-- Or its disk has failed, and the connection is cut.
pub record IsCutOff {D : Type 0} (model : DiskModel D) (client : ClientState) (body : BodyState D) (count : ℕ) (after : ClientState)
    (rest : BodyState D) : Type 0 where
  pub none : count ≡ 0
  pub becomes : after ≡ cut client
  pub cause : Rises (model.failures body.source.disk) (model.failures rest.source.disk)

abbrev pub HasPulled : {D : Type 0} → DiskModel D → ℕ → ClientState → BodyState D → ℕ → List ℕ → ClientState → BodyState D → Type 0
HasPulled model size client body count buffer after rest =
    HasGiven model size client body count buffer after rest ⊎ IsCutOff model client body count after rest
