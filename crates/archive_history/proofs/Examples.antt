-- What calls and stops make of an account, by evaluation. A command is a number.
use Rattle.std.specs.Prelude.{◌≡◌, ℕ, [], ◌∷◌, Some, false, refl}
use Rattle.std.proofs.Common.{inl, inr, ⊎_elim, arith}
use Rattle.archive_folder.specs.declared.names.Fate.TheVariants.{Stays, Comes}
use Rattle.archive_folder.specs.Names.{name, IsLeft, listed, made, removed, synced}
use Rattle.history.specs.World.{World}
use Rattle.archive_history.specs.Archive.{There, Whole, Archive, archive, names, Throwing, begun_by, with_new, ended_with, set_aside, all_acknowledged, MayHoldAll}

-- File 2 was made after the last sync: a stop leaves 1, or both, and never 2 alone.
without : IsLeft (made 2 (name 1 Stays ∷ [])) (1 ∷ [])
without = inl (refl, (tt, tt))

with_it : IsLeft (made 2 (name 1 Stays ∷ [])) (1 ∷ 2 ∷ [])
with_it = inl (refl, inl (refl, tt))

never_alone : IsLeft (made 2 (name 1 Stays ∷ [])) (2 ∷ []) → ⊥
never_alone is = ⊎_elim (λ here. other 2 1 here.0 refl refl) (λ later. later.0) is
  where
    other : (m n : ℕ) → m ≡ n → m ≡ 2 → n ≡ 1 → ⊥
    other m n same two one = omega arith

-- 1 was removed after the last sync, and a sync lets it go
removed_first : listed (removed 1 (name 1 Stays ∷ name 2 Stays ∷ [])) ≡ 2 ∷ []
removed_first = refl

synced_then : synced (removed 1 (name 1 Stays ∷ name 2 Comes ∷ [])) ≡ name 2 Stays ∷ []
synced_then = refl

-- two files: the first has ended with 10 and 11; in the newest 12 is acknowledged, and 13 in doubt
abbrev newest_world : World ℕ
newest_world = record { acknowledged = 12 ∷ []; in_doubt = 13 ∷ []; held = []; is_open = false }

abbrev two : Archive ℕ
two = archive (There false (name 1 Stays) (Whole (7 ∷ 7 ∷ []) (10 ∷ 11 ∷ [])) ∷ []) (Some (record { name = name 2 Stays; world = newest_world }))

-- an image shows 10, 11 and 12, and perhaps 13
two_commands : MayHoldAll two.ended two.newest (10 ∷ 11 ∷ 12 ∷ [])
two_commands = (10 ∷ 11 ∷ [], 12 ∷ [], refl, inl refl, refl)

with_the_doubtful : MayHoldAll two.ended two.newest (10 ∷ 11 ∷ 12 ∷ 13 ∷ [])
with_the_doubtful = (10 ∷ 11 ∷ [], 12 ∷ 13 ∷ [], refl, inr refl, refl)

-- the second file is set aside: 12 stays acknowledged, and 13 may be shown
aside : MayHoldAll (set_aside two).ended (set_aside two).newest (10 ∷ 11 ∷ 12 ∷ 13 ∷ [])
aside = (10 ∷ 11 ∷ [], 12 ∷ 13 ∷ [], refl, (12 ∷ 13 ∷ [], [], inr refl, refl, refl), refl)

aside_known : all_acknowledged (set_aside two) ≡ 10 ∷ 11 ∷ 12 ∷ []
aside_known = refl

-- without the first file
one_thrown : MayHoldAll (begun_by two (Throwing 1)).ended (begun_by two (Throwing 1)).newest (12 ∷ [])
one_thrown = inl refl

still_known : all_acknowledged (begun_by two (Throwing 1)) ≡ 10 ∷ 11 ∷ 12 ∷ []
still_known = refl

-- a third file may begin once the second has ended
third : names (with_new 3 (ended_with two (8 ∷ []))) ≡ name 1 Stays ∷ name 2 Stays ∷ name 3 Stays ∷ []
third = refl
