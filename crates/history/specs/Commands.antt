-- Lists of commands: which are accepted in turn, the first ones of them, what they are made of. Ours.
use Rattle.std.specs.Prelude.{◌≡◌, ◌⊎◌, ℕ, List, [], ◌∷◌, ◌++◌, take, ⊤}
use Rattle.std.specs.List.{fold}
use Rattle.history.specs.World.{World, Step, Session, start, commands, acknowledged, sessions_of}

-- each is accepted in the state that those before it left
abbrev pub AreAccepted : {S C : Type 0} → (S → C → Type 0) → (S → C → S) → S → List C → Type 0
AreAccepted accepts next s [] = ⊤
AreAccepted accepts next s (c ∷ cs) = accepts s c × AreAccepted accepts next (next s c) cs

-- the first list is the second without some of its elements
abbrev pub IsPartOf : {A : Type 0} → List A → List A → Type 0
IsPartOf [] ys = ⊤
IsPartOf (x ∷ xs) [] = ⊥
IsPartOf (x ∷ xs) (y ∷ ys) = ((x ≡ y) × IsPartOf xs ys) ⊎ IsPartOf (x ∷ xs) ys

-- For each session the group that was in doubt, as a whole or not at all, and then what was acknowledged. There is
-- nothing else.
abbrev pub IsMadeOf : {C : Type 0} → List (Session C) → List C → Type 0
IsMadeOf [] all = all ≡ []
IsMadeOf {C} (session ∷ sessions) all =
    (rest : List C) × IsMadeOf sessions rest
    × ((all ≡ session.acknowledged ++ rest) ⊎ (all ≡ session.in_doubt ++ (session.acknowledged ++ rest)))

-- The image shows the state after the first k of the world's commands. These were accepted in turn. Those that the
-- steps acknowledged are among them in their order. Of other commands each session has one group at most.
pub record ShowsFirst {S C D : Type 0} (shows : List ℕ → S → Type 0) (accepts : S → C → Type 0) (next : S → C → S)
    (first : S) (steps : List (Step C × D)) (w : World C) (image : List ℕ) : Type 0 where
  pub k : ℕ
  pub shown : shows image (fold next first (take k (commands w)))
  pub accepted : AreAccepted accepts next first (take k (commands w))
  pub has : IsPartOf (acknowledged start steps) (take k (commands w))
  pub made : IsMadeOf (sessions_of steps w) (take k (commands w))
