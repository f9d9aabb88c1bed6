-- A recording whose links are changed: some Skeletons are left out, others are made, and streams have other serials.
-- Ours.
use Rattle.std.specs.Prelude.{◌≡◌, ℕ, Bool, true, false, nat_eq, not, Some, List, [], ◌∷◌, ◌++◌, map, ⊤}
use Rattle.std.specs.List.{AllZip, IsDistinct, flat_map}
use Rattle.ogg_command.specs.declared.command.NewStream.{NewStream}
use Rattle.ogg_command.specs.declared.command.SkeletonHead.{SkeletonHead}
use Rattle.chain_rules.specs.Recording.{Stream, Recording, ended_skeleton}
use Rattle.import_changes.specs.declared.options.ChangeOptions.{ChangeOptions}
use Rattle.import_changes.specs.declared.options.Skeletons.{Skeletons}
use Rattle.import_changes.specs.declared.options.Skeletons.TheVariants.{Kept, LeftOut, Made}
use Rattle.import_changes.specs.Naming.{IsFirstFree, serials_of}
use Rattle.import_changes.specs.Renumbered.{IsRenumberedStream, avoided, serials}
use Rattle.import_changes.specs.Said.{IsSaidBy, first_of}
use Rattle.import_changes.specs.Skeletons.{is_fishead, leaves_out}

-- the elements that stay; each has one answer
abbrev pub those : {X : Type 0} → List Bool → List X → List X
those [] xs = []
those (stays ∷ more) [] = []
those (true ∷ more) (x ∷ xs) = x ∷ those more xs
those (false ∷ more) (x ∷ xs) = those more xs

-- the elements that don't stay
abbrev pub the_others : {X : Type 0} → List Bool → List X → List X
the_others stays xs = those (map not stays) xs

-- a stream that is left out is a Skeleton
pub record IsLeftOut (skeletons : Skeletons) (stream : Stream) : Type 0 where
  pub asked : leaves_out skeletons ≡ true
  pub skeleton : is_fishead (first_of stream.packets) ≡ true

abbrev pub HasReason : Skeletons → Bool → Stream → Type 0
HasReason skeletons stays stream = stays ≡ false → IsLeftOut skeletons stream

-- ---- before them
-- a stream's packets begin with these
abbrev pub IsFrontOf : List (List ℕ) → Stream → Type 0
IsFrontOf front stream = (more : List (List ℕ)) × (stream.packets ≡ front ++ more)

-- a stream's packets begin with these, and the first of them is a fishead
abbrev pub IsSkeletonFront : List (List ℕ) → Stream → Type 0
IsSkeletonFront front stream = IsFrontOf front stream × (is_fishead (first_of front) ≡ true)

-- a stream that began with this serial and these headers
abbrev pub IsBegunOf : NewStream → Stream → Type 0
IsBegunOf begun stream = (stream.serial ≡ begun.serial) × IsFrontOf begun.headers stream

-- these packets are those that Skeletons begin with, one after the other
pub record AreFronts (skeletons : List Stream) (said : List (List ℕ)) : Type 0 where
  pub fronts : List (List (List ℕ))
  pub each : AllZip IsSkeletonFront fronts skeletons
  pub said_is : said ≡ flat_map (λ front. front) fronts

-- A Skeleton that is made for the streams that stay, which have these serials now. Its serial is none of these, nor
-- that of a stream of an earlier link. The Skeleton says what the packets say with which the Skeletons begin that are
-- left out.
pub record IsMadeFor (from : ℕ) (left stay : List Stream) (earlier serials : List ℕ) (skeleton : Stream) : Type 0 where
  pub head : SkeletonHead
  pub streams : List NewStream
  pub is : skeleton ≡ ended_skeleton head streams
  pub of : serials_of streams ≡ serials
  pub first : IsFirstFree from earlier serials head.serial
  pub said : List (List ℕ)
  pub fronts : AreFronts left said
  pub begun : List NewStream
  pub are_begun : AllZip IsBegunOf begun stay
  pub says : IsSaidBy said begun (record { skeleton = Some head; streams = streams })

-- before streams with these serials there is nothing, or a Skeleton that is made
abbrev pub IsBefore : Skeletons → List Stream → List Stream → List ℕ → List ℕ → List Stream → Type 0
IsBefore skeletons left stay earlier serials [] = ⊤
IsBefore Kept left stay earlier serials (skeleton ∷ more) = ⊥
IsBefore LeftOut left stay earlier serials (skeleton ∷ more) = ⊥
IsBefore (Made from) left stay earlier serials (skeleton ∷ []) = IsMadeFor from left stay earlier serials skeleton
IsBefore (Made from) left stay earlier serials (skeleton ∷ next ∷ more) = ⊥

-- A link's streams in order, but for Skeletons that are left out, perhaps with a Skeleton before them. The serials are
-- distinct if those of the link's streams were.
pub record IsChangedLink (options : ChangeOptions) (earlier : List ℕ) (link now : List Stream) : Type 0 where
  pub stays : List Bool
  pub left_out : AllZip (HasReason options.skeletons) stays link
  pub streams : List Stream
  pub renumbered : AllZip (IsRenumberedStream (avoided options.renumber earlier)) (those stays link) streams
  pub before : List Stream
  pub made : IsBefore options.skeletons (the_others stays link) (those stays link) earlier (serials streams) before
  pub is : now ≡ before ++ streams
  pub distinct : IsDistinct nat_eq (serials link) → IsDistinct nat_eq (serials now)

-- link after link, after links whose streams have these serials now
abbrev pub ChangedFrom : ChangeOptions → List ℕ → Recording → Recording → Type 0
ChangedFrom options earlier [] [] = ⊤
ChangedFrom options earlier (link ∷ links) (now ∷ more) =
    IsChangedLink options earlier link now × ChangedFrom options (earlier ++ serials now) links more
ChangedFrom options earlier [] (now ∷ more) = ⊥
ChangedFrom options earlier (link ∷ links) [] = ⊥
