-- What an image of the folder shows: numbers in order, each with an image of its file. Ours.
use Rattle.std.specs.Prelude.{◌≡◌, ◌⊎◌, ℕ, List, [], ◌∷◌, map, Option, None, Some, ⊤}
use Rattle.std.specs.List.{fold, flat_map}
use Rattle.archive_folder.specs.Names.{MayLack}
use Rattle.history.specs.History.{ShowsWorld}
use Rattle.history.specs.Commands.{IsPartOf}
use Rattle.archive_history.specs.Archive.{File, There, Gone, Content, Whole, Known, Foreign, Newest, Archive, acknowledged, MayHoldAll}

-- the numbers of an image's files
abbrev pub numbers : List (ℕ × List ℕ) → List ℕ
numbers image = map (λ (file : ℕ × List ℕ). file.0) image

-- the first list is the second without some of its files
abbrev pub AreAmong : List (ℕ × List ℕ) → List (ℕ × List ℕ) → Type 0
AreAmong [] image = ⊤
AreAmong (file ∷ files) [] = ⊥
AreAmong (file ∷ files) (other ∷ image) = ((file ≡ other) × AreAmong files image) ⊎ AreAmong (file ∷ files) image

-- `first`: what an empty file shows
module _ {S C : Type 0} (shows : List ℕ → S → Type 0) (next : S → C → S) (first : S) where
  -- A file that has ended has exactly its bytes, and shows its commands. One that was set aside shows what its recorder
  -- knew of it.
  abbrev pub ShowsContent : Content C → List ℕ → Type 0
  ShowsContent (Whole bytes commands) image = (image ≡ bytes) × shows image (fold next first commands)
  ShowsContent (Known world) image = ShowsWorld shows next first world image
  ShowsContent (Foreign bytes) image = image ≡ bytes

  -- the newest file shows what was acknowledged, without the group in doubt or with it
  abbrev pub ShowsNewest : Option (Newest C) → List (ℕ × List ℕ) → Type 0
  ShowsNewest None [] = ⊤
  ShowsNewest None (file ∷ image) = ⊥
  ShowsNewest (Some newest) [] = MayLack newest.name.fate
  ShowsNewest (Some newest) (file ∷ []) = (file.0 ≡ newest.name.number) × ShowsWorld shows next first newest.world file.1
  ShowsNewest (Some newest) (file ∷ other ∷ image) = ⊥

  -- File after file: each one that is written no more as it is, whole, unless a stop may have taken it away; and then
  -- the newest. There is nothing else.
  abbrev pub ShowsFiles : List (File C) → Option (Newest C) → List (ℕ × List ℕ) → Type 0
  ShowsFiles [] newest image = ShowsNewest newest image
  ShowsFiles (Gone commands ∷ files) newest image = ShowsFiles files newest image
  ShowsFiles (There is_thrown name content ∷ files) newest [] = MayLack name.fate × ShowsFiles files newest []
  ShowsFiles (There is_thrown name content ∷ files) newest (file ∷ image) =
      ((file.0 ≡ name.number) × ShowsContent content file.1 × ShowsFiles files newest image) ⊎ (MayLack name.fate × ShowsFiles files newest (file ∷ image))

  abbrev pub ShowsArchive : Archive C → List (ℕ × List ℕ) → Type 0
  ShowsArchive a image = ShowsFiles a.ended a.newest image

  -- each file shows the commands of its list, and nothing else
  abbrev pub AreShown : List (ℕ × List ℕ) → List (List C) → Type 0
  AreShown [] [] = ⊤
  AreShown (file ∷ image) (commands ∷ shown) = shows file.1 (fold next first commands) × AreShown image shown
  AreShown image shown = ⊥

  -- Without files that were thrown away or aren't ours, the image's files show, in the order of their numbers, lists of
  -- commands. Every command that was acknowledged and not thrown away is among them, in its order and once. Besides there
  -- may be the group in doubt of a file that was set aside, and of the newest; and nothing else.
  pub record ShowsCommands (a : Archive C) (image : List (ℕ × List ℕ)) : Type 0 where
    pub files : List (ℕ × List ℕ)
    pub among : AreAmong files image
    pub shown : List (List C)
    pub each : AreShown files shown
    pub held : MayHoldAll a.ended a.newest (flat_map (λ (commands : List C). commands) shown)
    pub has_all : IsPartOf (acknowledged a) (flat_map (λ (commands : List C). commands) shown)
