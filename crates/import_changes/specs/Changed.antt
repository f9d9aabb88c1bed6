-- How changed commands relate to those that they were. Ours.
use Rattle.std.specs.Prelude.{◌≡◌, ℕ, Bool, true, false, nat_eq, None, List, [], ◌∷◌, ◌++◌, map, ⊤, ◌⊎◌}
use Rattle.std.specs.List.{AllByRecursion, AllZip, IsDistinct, flat_map, list_any}
use Rattle.std.specs.Map.{values_of}
use Rattle.chain_rules.specs.Recording.{Stream, Recording, after}
use Rattle.ogg_command.specs.declared.command.Command.{Command}
use Rattle.ogg_command.specs.declared.command.Command.TheVariants.{Begin as BeginOf, Put as PutOf, End as EndOf}
use Rattle.import_changes.specs.declared.options.ChangeOptions.{ChangeOptions}
use Rattle.import_changes.specs.Options.{is_none}
use Rattle.import_changes.specs.Naming.{AreNamed, AreNames, named}
use Rattle.import_changes.specs.Renumbered.{avoided, serials}
use Rattle.import_changes.specs.Links.{ChangedFrom, IsBefore, HasReason, the_others, those}
use Rattle.import_changes.specs.Skeletons.{BeginThose, IsBegunAs}

-- the recording is changed as asked, where these serials were taken before its first link
abbrev pub IsChangedIf : Bool → List ℕ → ChangeOptions → Recording → Recording → Type 0
IsChangedIf true taken options recording now = now ≡ recording
IsChangedIf false taken options recording now = ChangedFrom options taken recording now

abbrev pub IsChangedBeside : List ℕ → ChangeOptions → Recording → Recording → Type 0
IsChangedBeside taken options recording now = IsChangedIf (is_none options) taken options recording now

-- no serials were taken
abbrev pub IsChanged : ChangeOptions → Recording → Recording → Type 0
IsChanged options recording now = IsChangedBeside [] options recording now

-- the command begins a link
abbrev pub begins : Command → Bool
begins (BeginOf begin) = true
begins (PutOf put) = false
begins (EndOf serial) = false

-- A link is begun without a Skeleton: its packets would name serials.
abbrev pub IsPlain : Command → Type 0
IsPlain (BeginOf begin) = begin.skeleton ≡ None
IsPlain (PutOf put) = ⊤
IsPlain (EndOf serial) = ⊤

pub record ChangeState : Type 0 where
  pub options : ChangeOptions
  -- the serials that were taken before the first command, and then those that streams have now, in the order in which
  -- they were begun
  pub given : List ℕ
  -- of the last link: each serial that a stream had, with the one that it has now
  pub names : List (ℕ × ℕ)
  -- for how many further serials there is room, and for how many names in all
  pub room : ℕ
  pub name_room : ℕ

-- ---- the recordings so far
abbrev pub stream_under : List (ℕ × ℕ) → Stream → Stream
stream_under names stream = record stream { serial = named names stream.serial }

-- no stream has this serial now by its name
abbrev pub IsNoName : List (ℕ × ℕ) → ℕ → Type 0
IsNoName names serial = list_any (nat_eq serial) (values_of names) ≡ false

-- the last link: the streams that stay are under their names
pub record IsUnderNames (state : ChangeState) (earlier : List ℕ) (link now : List Stream) : Type 0 where
  pub stays : List Bool
  pub left_out : AllZip (HasReason state.options.skeletons) stays link
  pub names : AreNames (avoided state.options.renumber earlier) state.names
  pub named : AreNamed state.names (serials (those stays link))
  pub before : List Stream
  pub made :
      IsBefore state.options.skeletons (the_others stays link) (those stays link) earlier
      (serials (map (stream_under state.names) (those stays link))) before
  pub apart : AllByRecursion (IsNoName state.names) (serials before)
  pub is : now ≡ before ++ map (stream_under state.names) (those stays link)

pub record IsUpTo (taken : List ℕ) (state : ChangeState) (recording now : Recording) : Type 0 where
  pub links : Recording
  pub links_now : Recording
  pub changed : ChangedFrom state.options taken links links_now
  pub link : List Stream
  pub link_now : List Stream
  pub last : IsUnderNames state (taken ++ flat_map serials links_now) link link_now
  pub recording_is : recording ≡ links ++ link ∷ []
  pub now_is : now ≡ links_now ++ link_now ∷ []

abbrev pub AreNone : Recording → Recording → Type 0
AreNone recording now = (recording ≡ []) × (now ≡ [])

pub record IsFollowed (taken : List ℕ) (state : ChangeState) (recording now : Recording) : Type 0 where
  pub up_to : AreNone recording now ⊎ IsUpTo taken state recording now
  pub given : state.given ≡ taken ++ flat_map serials now

abbrev pub FollowsIf : Bool → List ℕ → ChangeState → Recording → Recording → Type 0
FollowsIf true taken state recording now = now ≡ recording
FollowsIf false taken state recording now = IsFollowed taken state recording now

abbrev pub Follows : List ℕ → ChangeState → Recording → Recording → Type 0
Follows taken state recording now = FollowsIf (is_none state.options) taken state recording now

-- These commands became those in `given`, where these serials were taken before the first of them, as those of a file
-- that is recorded into.
pub record HasChangedBeside (taken : List ℕ) (state : ChangeState) (commands given : List Command) : Type 0 where
  pub changed : IsChangedBeside taken state.options (after [] commands) (after [] given)
  pub stay : BeginThose state.options commands given
  pub begun : AllByRecursion (IsBegunAs state.options) given
  pub follows : Follows taken state (after [] commands) (after [] given)

-- no serials were taken
abbrev pub HasChanged : ChangeState → List Command → List Command → Type 0
HasChanged state commands given = HasChangedBeside [] state commands given

-- These commands become those in `given`, whatever became of the commands before them.
abbrev pub Become : ChangeState → ChangeState → List Command → List Command → Type 0
Become old new commands given =
    (taken : List ℕ) (before now : List Command) → HasChangedBeside taken old before now → AllByRecursion IsPlain commands
    → HasChangedBeside taken new (before ++ commands) (now ++ given)

-- ---- serials that are shared by none
abbrev pub IsNotOf : List ℕ → ℕ → Type 0
IsNotOf serials serial = list_any (nat_eq serial) serials ≡ false

-- each stream has a serial of its own, and none that was taken before
pub record HaveTheirOwn (taken : List ℕ) (recording : Recording) : Type 0 where
  pub distinct : IsDistinct nat_eq (flat_map serials recording)
  pub apart : AllByRecursion (IsNotOf taken) (flat_map serials recording)

-- in each link no two streams share a serial (RFC 3533, section 4)
abbrev pub AreDistinctInLinks : Recording → Type 0
AreDistinctInLinks recording = AllByRecursion (λ link. IsDistinct nat_eq (serials link)) recording
