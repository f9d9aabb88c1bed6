-- Many commands as one call: at each moment of it the images show a prefix of them. Ours.
use Rattle.std.specs.Prelude.{◌≡◌, ℕ, List, [], ◌∷◌, ◌++◌, ⊤}
use Rattle.std.specs.List.{fold}
use Rattle.history.specs.World.{Call, Staging, Committing, Flushing, Step, Held, Kept, Flushed, Refused, Faulted}

-- the image shows the state after a prefix of these commands
pub record ShowsSome {S C : Type 0} (shows : List ℕ → S → Type 0) (next : S → C → S) (first : S) (all : List C) (image : List ℕ) : Type 0 where
  pub some : List C
  pub rest : List C
  pub is : all ≡ some ++ rest
  pub shown : shows image (fold next first some)

-- the command that the call accepts
abbrev pub accepted_by : {C : Type 0} → Call C → List C
accepted_by (Staging c) = c ∷ []
accepted_by (Committing c) = c ∷ []
accepted_by call = []

-- the commands that were accepted, the one that met a fault with them
abbrev pub accepted : {C D : Type 0} → List (Step C × D) → List C
accepted [] = []
accepted ((Held c, disk) ∷ steps) = c ∷ accepted steps
accepted ((Kept c, disk) ∷ steps) = c ∷ accepted steps
accepted ((Faulted call, disk) ∷ steps) = accepted_by call ++ accepted steps
accepted ((step, disk) ∷ steps) = accepted steps

-- a command or a flush
abbrev pub IsCommand : {C : Type 0} → Call C → Type 0
IsCommand (Staging c) = ⊤
IsCommand (Committing c) = ⊤
IsCommand Flushing = ⊤
IsCommand call = ⊥

-- commands and flushes, and their answers
abbrev pub AreCommands : {C D : Type 0} → List (Step C × D) → Type 0
AreCommands [] = ⊤
AreCommands ((Held c, disk) ∷ steps) = AreCommands steps
AreCommands ((Kept c, disk) ∷ steps) = AreCommands steps
AreCommands ((Flushed, disk) ∷ steps) = AreCommands steps
AreCommands ((Refused c, disk) ∷ steps) = AreCommands steps
AreCommands ((Faulted call, disk) ∷ steps) = IsCommand call × AreCommands steps
AreCommands ((step, disk) ∷ steps) = ⊥

pub commands-append : {C D : Type 0} (xs ys : List (Step C × D)) → AreCommands xs → AreCommands ys → AreCommands (xs ++ ys)
commands-append [] ys p q = q
commands-append ((Held c, disk) ∷ xs) ys p q = commands-append xs ys p q
commands-append ((Kept c, disk) ∷ xs) ys p q = commands-append xs ys p q
commands-append ((Flushed, disk) ∷ xs) ys p q = commands-append xs ys p q
commands-append ((Refused c, disk) ∷ xs) ys p q = commands-append xs ys p q
commands-append ((Faulted call, disk) ∷ xs) ys p q = (p.0, commands-append xs ys p.1 q)
commands-append ((step, disk) ∷ xs) ys p q = absurd p
