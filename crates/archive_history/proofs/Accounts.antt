-- What is acknowledged stays in the account, in its order.
use Rattle.std.specs.Prelude.{◌≡◌, ℕ, ◌==◌, true, false, if◌then◌else◌, List, [], ◌∷◌, ◌++◌, Option, None, Some, refl}
use Rattle.std.proofs.Common.{inl, inr, ⊎_elim, sym, ◌∙◌, ap, subst, append_assoc}
use Rattle.std.proofs.lemmas.List.{append-nil}
use Rattle.archive_folder.specs.declared.names.Fate.TheVariants.{Stays, Goes}
use Rattle.archive_folder.specs.Names.{name, MayLack}
use Rattle.history.specs.World.{World, Step, Opened, Held, Kept, Flushed, Refused, Looked, Sealed, GivenBack, Faulted, Stopped, StoppedIn, closed, happens, acknowledged_by}
use Rattle.history.specs.Commands.{IsPartOf}
use Rattle.archive_history.specs.Archive.{File, There, Gone, Content, Whole, Known, Foreign, Newest, Archive, archive, commands_in, set_aside, Move, Making, Throwing, Syncing, Asking, Recording, thrown, with_world, begun_by, recorded, ended_with, shut, FilesResolve, NewestResolves, Resolves, commands_of, newest_commands, all_acknowledged}
use Rattle.archive_history.specs.History.{MayResume, Resumes}
use Rattle.archive_history.specs.Accounted.{NewestSafe}

part_in_front : {A : Type 0} (xs ys : List A) (y : A) → IsPartOf xs ys → IsPartOf xs (y ∷ ys)
part_in_front [] ys y p = tt
part_in_front (x ∷ xs) ys y p = inr p

pub part_append : {A : Type 0} (xs ys us vs : List A) → IsPartOf xs ys → IsPartOf us vs → IsPartOf (xs ++ us) (ys ++ vs)
part_append [] [] us vs p q = q
part_append [] (y ∷ ys) us vs p q = part_in_front us (ys ++ vs) y (part_append [] ys us vs tt q)
part_append (x ∷ xs) [] us vs p q = absurd p
part_append (x ∷ xs) (y ∷ ys) us vs p q = ⊎_elim (λ both. inl (both.0, part_append xs ys us vs both.1 q)) (λ later. inr (part_append (x ∷ xs) ys us vs later q)) p

pub part_self : {A : Type 0} (xs : List A) → IsPartOf xs xs
part_self [] = tt
part_self (x ∷ xs) = inl (refl, part_self xs)

-- the second list is the first, and more after it, with these commands among it
pub record Grows {C : Type 0} (before after has : List C) : Type 0 where
  pub more : List C
  pub is : after ≡ before ++ more
  pub has_them : IsPartOf has more

pub same_grows : {C : Type 0} (before after : List C) → after ≡ before → Grows before after []
same_grows before after same = record { more = []; is = same ∙ sym (append-nil before); has_them = tt }

pub grows_on : {C : Type 0} (before mid after has had : List C) → Grows before mid has → Grows mid after had → Grows before after (has ++ had)
grows_on {C} before mid after has had first second = record {
  more = first.more ++ second.more;
  is = second.is ∙ ap (λ (l : List C). l ++ second.more) first.is ∙ append_assoc before first.more second.more;
  has_them = part_append has first.more had second.more first.has_them second.has_them;
}

-- a step of the recorder
pub step_grows : {C : Type 0} (w : World C) (step : Step C) → Grows w.acknowledged (happens w step).acknowledged (acknowledged_by w step)
step_grows w (Opened found) = record { more = if found then w.in_doubt else []; is = refl; has_them = tt }
step_grows w (Held c) = same_grows w.acknowledged w.acknowledged refl
step_grows w (Kept c) = record { more = w.held ++ c ∷ []; is = refl; has_them = part_self (w.held ++ c ∷ []) }
step_grows w Flushed = record { more = w.held; is = refl; has_them = part_self w.held }
step_grows w (Refused c) = same_grows w.acknowledged w.acknowledged refl
step_grows w Looked = same_grows w.acknowledged w.acknowledged refl
step_grows w Sealed = same_grows w.acknowledged w.acknowledged refl
step_grows w GivenBack = same_grows w.acknowledged w.acknowledged refl
step_grows w (Faulted call) = same_grows w.acknowledged w.acknowledged refl
step_grows w Stopped = same_grows w.acknowledged w.acknowledged refl
step_grows w (StoppedIn call) = same_grows w.acknowledged w.acknowledged refl

files_same_commands : {C : Type 0} (files others : List (File C)) → FilesResolve files others → commands_of others ≡ commands_of files
files_same_commands [] [] are = refl
files_same_commands [] (There is_thrown name content ∷ others) are = absurd are
files_same_commands [] (Gone commands ∷ others) are = absurd are
files_same_commands (There is_thrown name content ∷ files) [] are = absurd are
files_same_commands {C} (There is_thrown name content ∷ files) (There was_thrown other content' ∷ others) are =
    let rest : commands_of others ≡ commands_of files = files_same_commands files others are.4 in
    ap (λ (c : Content C). commands_in c ++ commands_of others) are.3 ∙ ap (λ (l : List C). commands_in content ++ l) rest
files_same_commands (There is_thrown name content ∷ files) (Gone commands' ∷ others) are =
    let rest : commands_of others ≡ commands_of files = files_same_commands files others are.2 in
    λ i. are.1 i ++ rest i
files_same_commands (Gone commands ∷ files) [] are = absurd are
files_same_commands (Gone commands ∷ files) (There was_thrown name content' ∷ others) are = absurd are
files_same_commands (Gone commands ∷ files) (Gone commands' ∷ others) are =
    let rest : commands_of others ≡ commands_of files = files_same_commands files others are.1 in
    λ i. are.0 i ++ rest i

-- only what isn't acknowledged is lost with a name
newest_same_commands : {C : Type 0} (newest other : Option (Newest C)) → NewestSafe newest → NewestResolves newest other → newest_commands other ≡ newest_commands newest
newest_same_commands None None safe are = refl
newest_same_commands None (Some other) safe are = absurd are
newest_same_commands (Some file) None safe are = ⊎_elim (λ stays. absurd (never stays are)) (λ none. sym none) safe
  where
    never : file.name.fate ≡ Stays → MayLack file.name.fate → ⊥
    never is may = subst MayLack is may
newest_same_commands {C} (Some file) (Some other) safe are = ap (λ (w : World C). w.acknowledged) are.2

pub resolved_same : {C : Type 0} (a b : Archive C) → NewestSafe a.newest → Resolves a b → all_acknowledged b ≡ all_acknowledged a
resolved_same a b safe are =
    let files : commands_of b.ended ≡ commands_of a.ended = files_same_commands a.ended b.ended are.0 in
    let newest : newest_commands b.newest ≡ newest_commands a.newest = newest_same_commands a.newest b.newest safe are.1 in
    λ i. files i ++ newest i

thrown_same : {C : Type 0} (n : ℕ) (files : List (File C)) → commands_of (thrown n files) ≡ commands_of files
thrown_same n [] = refl
thrown_same {C} n (Gone commands ∷ files) = ap (λ (l : List C). commands ++ l) (thrown_same n files)
thrown_same {C} n (There is_thrown first content ∷ files) =
    elim (first.number == n) as (λ b. commands_of (if b then There true (name first.number Goes) content ∷ files else There is_thrown first content ∷ thrown n files) ≡ commands_in content ++ commands_of files) [
      | true ↦ refl
      | false ↦ ap (λ (l : List C). commands_in content ++ l) (thrown_same n files)
    ]

world_same : {C : Type 0} (change : World C → World C) → ((w : World C) → (change w).acknowledged ≡ w.acknowledged) → (newest : Option (Newest C)) → newest_commands (with_world change newest) ≡ newest_commands newest
world_same change same None = refl
world_same change same (Some file) = same file.world

pub shut_same : {C : Type 0} (a : Archive C) → all_acknowledged (shut a) ≡ all_acknowledged a
shut_same {C} a = ap (λ (l : List C). commands_of a.ended ++ l) (world_same _ (λ w. refl) a.newest)

pub begun_same : {C : Type 0} (a : Archive C) (move : Move C) → ((n : ℕ) → move ≡ Making n → a.newest ≡ None) → all_acknowledged (begun_by a move) ≡ all_acknowledged a
begun_same {C} a (Making n) none = ap (λ (newest : Option (Newest C)). commands_of a.ended ++ newest_commands newest) (sym (none n refl))
begun_same {C} a (Throwing n) none = ap (λ (l : List C). l ++ newest_commands a.newest) (thrown_same n a.ended)
begun_same a Syncing none = refl
begun_same a Asking none = refl
begun_same {C} a (Recording call) none = ap (λ (l : List C). commands_of a.ended ++ l) (world_same _ (λ w. refl) a.newest)

commands-append : {C : Type 0} (files more : List (File C)) → commands_of (files ++ more) ≡ commands_of files ++ commands_of more
commands-append [] more = refl
commands-append {C} (There is_thrown name content ∷ files) more = ap (λ (l : List C). commands_in content ++ l) (commands-append files more) ∙ sym (append_assoc (commands_in content) (commands_of files) (commands_of more))
commands-append {C} (Gone commands ∷ files) more = ap (λ (l : List C). commands ++ l) (commands-append files more) ∙ sym (append_assoc commands (commands_of files) (commands_of more))

pub ended_same : {C : Type 0} (ended : List (File C)) (newest : Option (Newest C)) (bytes : List ℕ) → all_acknowledged (ended_with (archive ended newest) bytes) ≡ all_acknowledged (archive ended newest)
ended_same ended None bytes = append-nil (commands_of (ended ++ [])) ∙ commands-append ended []
ended_same {C} ended (Some file) bytes =
    append-nil (commands_of (ended ++ There false file.name (Whole bytes file.world.acknowledged) ∷ []))
    ∙ commands-append ended (There false file.name (Whole bytes file.world.acknowledged) ∷ [])
    ∙ ap (λ (l : List C). commands_of ended ++ l) (append-nil file.world.acknowledged)

pub aside_same : {C : Type 0} (ended : List (File C)) (newest : Option (Newest C)) → all_acknowledged (set_aside (archive ended newest)) ≡ all_acknowledged (archive ended newest)
aside_same ended None = append-nil (commands_of (ended ++ [])) ∙ commands-append ended []
aside_same {C} ended (Some file) =
    append-nil (commands_of (ended ++ There false file.name (Known (closed file.world file.world.in_doubt)) ∷ []))
    ∙ commands-append ended (There false file.name (Known (closed file.world file.world.in_doubt)) ∷ [])
    ∙ ap (λ (l : List C). commands_of ended ++ l) (append-nil file.world.acknowledged)

-- the last file is the newest again
resumed_commands : {C : Type 0} (file : File C) (gone : List (File C)) (newest : Newest C) → MayResume file newest → commands_of (file ∷ gone) ≡ newest.world.acknowledged ++ commands_of gone
resumed_commands {C} (There is_thrown name (Whole bytes commands)) gone newest may = ap (λ (w : World C). w.acknowledged ++ commands_of gone) (sym may.1)
resumed_commands {C} (There is_thrown name (Known world)) gone newest may = ap (λ (w : World C). w.acknowledged ++ commands_of gone) (sym may.1)
resumed_commands (There is_thrown name (Foreign bytes)) gone newest may = absurd may
resumed_commands (Gone commands) gone newest may = absurd may

pub resumed_same : {C : Type 0} (a b : Archive C) → Resumes a b → all_acknowledged b ≡ all_acknowledged a
resumed_same {C} a b is =
    let mine = is.newest.world.acknowledged in
    let now : all_acknowledged b ≡ commands_of is.files ++ mine = ap all_acknowledged is.is in
    let front : commands_of a.ended ≡ commands_of is.files ++ commands_of (is.file ∷ is.gone) = ap commands_of is.ended ∙ commands-append is.files (is.file ∷ is.gone) in
    let last : commands_of (is.file ∷ is.gone) ≡ mine = resumed_commands is.file is.gone is.newest is.may ∙ ap (λ (l : List C). mine ++ l) is.no_commands ∙ append-nil mine in
    let none : newest_commands a.newest ≡ [] = ap (λ (newest : Option (Newest C)). newest_commands newest) is.none in
    let was : all_acknowledged a ≡ commands_of a.ended = ap (λ (l : List C). commands_of a.ended ++ l) none ∙ append-nil (commands_of a.ended) in
    now ∙ sym (ap (λ (l : List C). commands_of is.files ++ l) last) ∙ sym front ∙ sym was

pub recorded_grows : {C : Type 0} (ended : List (File C)) (file : Newest C) (step : Step C) → Grows (all_acknowledged (archive ended (Some file))) (all_acknowledged (recorded (archive ended (Some file)) step)) (acknowledged_by file.world step)
recorded_grows {C} ended file step =
    let on : Grows file.world.acknowledged (happens file.world step).acknowledged (acknowledged_by file.world step) = step_grows file.world step in
    record { more = on.more; is = ap (λ (l : List C). commands_of ended ++ l) on.is ∙ sym (append_assoc (commands_of ended) file.world.acknowledged on.more); has_them = on.has_them }
