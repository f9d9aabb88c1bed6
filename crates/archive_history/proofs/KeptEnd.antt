-- Events keep what came last.
use Rattle.std.specs.Prelude.{◌≡◌, ◌≢◌, ℕ, ◌==◌, Bool, true, false, if◌then◌else◌, List, [], ◌∷◌, ◌++◌, Option, None, Some, ⊤, refl}
use Rattle.std.proofs.Common.{⊎_elim, sym, ◌∙◌, ap, subst, append_assoc}
use Rattle.std.proofs.lemmas.List.{append-nil}
use Rattle.archive_folder.specs.declared.names.Name.{Name}
use Rattle.archive_folder.specs.declared.names.Fate.{Fate}
use Rattle.archive_folder.specs.declared.names.Fate.TheVariants.{Stays, Comes, Goes}
use Rattle.archive_folder.specs.Names.{name, MayLack}
use Rattle.disk_model.specs.declared.disk.Disk.{Ghosts as DiskModel}
use Rattle.history.specs.World.{World, Step, begun, closed, happens, start}
use Rattle.archive_history.specs.History.{Point, Event, Called, Recorded, Ended, SetAside, Resumed, Halted, HaltedIn, IfNewest, IsSafe, MayResume, Resumes, IsEvent}
use Rattle.archive_history.specs.Starting.{EndsEmpty}
use Rattle.archive_history.specs.Archive.{File, There, Gone, Content, Known, Newest, Archive, archive, names_of, newest_names, names, commands_in, commands_of, aside_file, thrown, Whole, Foreign, with_world, begun_by, ended_file, shut, Move, Making, Throwing, Syncing, Asking, Recording, FilesResolve, NewestResolves, Resolves, MayBecome}
use Rattle.archive_history.specs.Ending.{NoneStays, after_name, EndsSafe, EndIsSafe, IsFollowed, KeepsLast}
use Rattle.archive_history.proofs.Events.{same_files}

-- ---- lists of names and commands
names_both : {C : Type 0} (files more : List (File C)) → names_of (files ++ more) ≡ names_of files ++ names_of more
names_both [] more = refl
names_both (There is_thrown first content ∷ files) more = ap (λ (ns : List Name). first ∷ ns) (names_both files more)
names_both (Gone commands ∷ files) more = names_both files more

commands_both : {C : Type 0} (files more : List (File C)) → commands_of (files ++ more) ≡ commands_of files ++ commands_of more
commands_both [] more = refl
commands_both (There is_thrown first content ∷ files) more =
    ap (λ (cs : List _). commands_in content ++ cs) (commands_both files more) ∙ sym (append_assoc (commands_in content) (commands_of files) (commands_of more))
commands_both (Gone commands ∷ files) more =
    ap (λ (cs : List _). commands ++ cs) (commands_both files more) ∙ sym (append_assoc commands (commands_of files) (commands_of more))

none_front : (xs ys : List Name) → NoneStays (xs ++ ys) → NoneStays xs
none_front [] ys none = tt
none_front (x ∷ xs) ys none = (none.0, none_front xs ys none.1)

none_back : (xs ys : List Name) → NoneStays (xs ++ ys) → NoneStays ys
none_back [] ys none = none
none_back (x ∷ xs) ys none = none_back xs ys none.1

none_both : (xs ys : List Name) → NoneStays xs → NoneStays ys → NoneStays (xs ++ ys)
none_both [] ys p q = q
none_both (x ∷ xs) ys p q = (p.0, none_both xs ys p.1 q)

nil_front : {A : Type 0} (xs ys : List A) → xs ++ ys ≡ [] → xs ≡ []
nil_front [] ys is = refl
nil_front (x ∷ xs) ys is = absurd cc

nil_back : {A : Type 0} (xs ys : List A) → xs ++ ys ≡ [] → ys ≡ []
nil_back [] ys is = is
nil_back (x ∷ xs) ys is = absurd cc

nil_both : {A : Type 0} (xs ys : List A) → xs ≡ [] → ys ≡ [] → xs ++ ys ≡ []
nil_both xs ys p q = ap (λ (l : List _). l ++ ys) p ∙ q

-- ---- fates that are settled
lacks : (fate : Fate) → MayLack fate → fate ≢ Stays
lacks Stays may is = may
lacks Comes may is = absurd cc
lacks Goes may is = absurd cc

became : (fate other : Fate) → MayBecome fate other → other ≢ Stays → fate ≢ Stays
became Stays Stays may not_now is = not_now refl
became Stays Comes may not_now is = may
became Stays Goes may not_now is = may
became Comes other may not_now is = absurd cc
became Goes other may not_now is = absurd cc

-- what stayed stays
none_before : {C : Type 0} (files others : List (File C)) → FilesResolve files others → NoneStays (names_of others) → NoneStays (names_of files)
none_before [] [] are none = tt
none_before [] (other ∷ others) are none = absurd are
none_before (There is_thrown first content ∷ files) [] are none = absurd are
none_before (Gone commands ∷ files) [] are none = absurd are
none_before (There is_thrown first content ∷ files) (There was other content' ∷ others) are none =
    (became first.fate other.fate are.2 none.0, none_before files others are.4 none.1)
none_before (There is_thrown first content ∷ files) (Gone commands' ∷ others) are none = (lacks first.fate are.0, none_before files others are.2 none)
none_before (Gone commands ∷ files) (There was other content' ∷ others) are none = absurd are
none_before (Gone commands ∷ files) (Gone commands' ∷ others) are none = none_before files others are.1 none

same_commands : {C : Type 0} (files others : List (File C)) → FilesResolve files others → commands_of others ≡ commands_of files
same_commands [] [] are = refl
same_commands [] (other ∷ others) are = absurd are
same_commands (There is_thrown first content ∷ files) [] are = absurd are
same_commands (Gone commands ∷ files) [] are = absurd are
same_commands (There is_thrown first content ∷ files) (There was other content' ∷ others) are = λ i. commands_in (are.3 i) ++ same_commands files others are.4 i
same_commands (There is_thrown first content ∷ files) (Gone commands' ∷ others) are = λ i. are.1 i ++ same_commands files others are.2 i
same_commands (Gone commands ∷ files) (There was other content' ∷ others) are = absurd are
same_commands (Gone commands ∷ files) (Gone commands' ∷ others) are = λ i. are.0 i ++ same_commands files others are.1 i

-- What may follow in place of what followed: if no name of it stays, none of the old ones did, and it holds nothing if they
-- held nothing.
pub record MayFollow {C : Type 0} (more more' : List (File C)) : Type 0 where
  pub stayed : NoneStays (names_of more') → NoneStays (names_of more)
  pub held : NoneStays (names_of more') → commands_of more ≡ [] → commands_of more' ≡ []
  pub safe : EndsSafe more'

-- the files before it, some fates of which are settled
pub safe_before : {C : Type 0} (files others more more' : List (File C)) → FilesResolve files others → MayFollow more more' → EndsSafe (files ++ more) → EndsSafe (others ++ more')
safe_before {C} files others more more' are may safe = by files others are safe
  where
    head : (files others : List (File C)) → FilesResolve files others → (NoneStays (names_of (files ++ more)) → commands_of (files ++ more) ≡ [])
        → NoneStays (names_of (others ++ more')) → commands_of (others ++ more') ≡ []
    head files others are was none =
        let split = subst NoneStays (names_both others more') none in
        let last = none_back (names_of others) (names_of more') split in
        let before = none_before files others are (none_front (names_of others) (names_of more') split) in
        let old = was (subst NoneStays (sym (names_both files more)) (none_both (names_of files) (names_of more) before (may.stayed last))) in
        let parts = sym (commands_both files more) ∙ old in
        commands_both others more' ∙ nil_both (commands_of others) (commands_of more') (same_commands files others are ∙ nil_front (commands_of files) (commands_of more) parts)
        (may.held last (nil_back (commands_of files) (commands_of more) parts))

    by : (files others : List (File C)) → FilesResolve files others → EndsSafe (files ++ more) → EndsSafe (others ++ more')
    by [] [] are safe = may.safe
    by [] (other ∷ others) are safe = absurd are
    by (There is_thrown first content ∷ files) [] are safe = absurd are
    by (Gone commands ∷ files) [] are safe = absurd are
    by (There is_thrown first content ∷ files) (There was other content' ∷ others) are safe = (head files others are.4 safe.0, by files others are.4 safe.1)
    by (There is_thrown first content ∷ files) (Gone commands' ∷ others) are safe = (head files others are.2 safe.0, by files others are.2 safe.1)
    by (Gone commands ∷ files) (There was other content' ∷ others) are safe = absurd are
    by (Gone commands ∷ files) (Gone commands' ∷ others) are safe = (head files others are.1 safe.0, by files others are.1 safe.1)

-- ---- the newest file
-- the file that the newest will be, and what it holds
last_names : {C : Type 0} (newest : Option (Newest C)) → names_of (aside_file newest) ≡ newest_names newest
last_names None = refl
last_names (Some file) = refl

-- nothing more, or the same file with what it holds now
pub same_follow : {C : Type 0} (more : List (File C)) → EndsSafe more → MayFollow more more
same_follow more safe = record { stayed = λ none. none; held = λ none is. is; safe = safe }

one_safe : {C : Type 0} (file : File C) → EndsSafe (file ∷ [])
one_safe file = ((λ none. refl), tt)

-- one file in place of another with the same name, which holds nothing if a stop may take the name away
pub one_follows : {C : Type 0} (is_thrown was : Bool) (first : Name) (content content' : Content C) → (first.fate ≢ Stays → commands_in content ≡ [] → commands_in content' ≡ [])
    → MayFollow (There is_thrown first content ∷ []) (There was first content' ∷ [])
one_follows is_thrown was first content content' holds = record {
  stayed = λ none. none;
  held = λ none is. nil_both (commands_in content') [] (holds none.0 (nil_front (commands_in content) [] is)) refl;
  safe = one_safe (There was first content');
}

-- a file that holds nothing comes
pub empty_follows : {C : Type 0} (is_thrown : Bool) (first : Name) (content : Content C) → commands_in content ≡ [] → MayFollow [] (There is_thrown first content ∷ [])
empty_follows is_thrown first content none = record {
  stayed = λ gone. tt;
  held = λ gone is. nil_both (commands_in content) [] none refl;
  safe = one_safe (There is_thrown first content);
}

-- and one goes
pub empty_goes : {C : Type 0} (is_thrown : Bool) (first : Name) (content : Content C) → MayLack first.fate → MayFollow (There is_thrown first content ∷ []) []
empty_goes is_thrown first content may = record {
  stayed = λ none. (lacks first.fate may, tt);
  held = λ none is. refl;
  safe = tt;
}

-- its name's fate is settled
pub settled_follows : {C : Type 0} (is_thrown was : Bool) (first other : Name) (content content' : Content C) → MayBecome first.fate other.fate → commands_in content' ≡ commands_in content
    → MayFollow (There is_thrown first content ∷ []) (There was other content' ∷ [])
settled_follows is_thrown was first other content content' may same = record {
  stayed = λ none. (became first.fate other.fate may none.0, tt);
  held = λ none is. nil_both (commands_in content') [] (same ∙ nil_front (commands_in content) [] is) refl;
  safe = one_safe (There was other content');
}

-- ---- a file is thrown away
none_unthrown : {C : Type 0} (n : ℕ) (files more : List (File C)) → IsFollowed n (names_of (files ++ more)) → NoneStays (names_of (thrown n files ++ more)) → NoneStays (names_of (files ++ more))
none_unthrown n [] more follows none = none
none_unthrown n (Gone commands ∷ files) more follows none = none_unthrown n files more follows none
none_unthrown {C} n (There is_thrown first content ∷ files) more follows none = by (first.number == n) (λ f m. none_unthrown n files more f m) follows none
  where
    by : (b : Bool) → (IsFollowed n (names_of (files ++ more)) → NoneStays (names_of (thrown n files ++ more)) → NoneStays (names_of (files ++ more)))
        → (NoneStays (if b then names_of (files ++ more) else after_name n (names_of (files ++ more))) → ⊥)
        → NoneStays (names_of ((if b then There true (name first.number Goes) content ∷ files else There is_thrown first content ∷ thrown n files) ++ more)) → NoneStays (first ∷ names_of (files ++ more))
    by true rest follows none = absurd (follows none.1)
    by false rest follows none = (none.0, rest follows none.1)

commands_unthrown : {C : Type 0} (n : ℕ) (files more : List (File C)) → commands_of (thrown n files ++ more) ≡ commands_of (files ++ more)
commands_unthrown n [] more = refl
commands_unthrown n (Gone commands ∷ files) more = ap (λ (cs : List _). commands ++ cs) (commands_unthrown n files more)
commands_unthrown {C} n (There is_thrown first content ∷ files) more = by (first.number == n) (commands_unthrown n files more)
  where
    by : (b : Bool) → commands_of (thrown n files ++ more) ≡ commands_of (files ++ more)
        → commands_of ((if b then There true (name first.number Goes) content ∷ files else There is_thrown first content ∷ thrown n files) ++ more) ≡ commands_in content ++ commands_of (files ++ more)
    by true rest = refl
    by false rest = ap (λ (cs : List _). commands_in content ++ cs) rest

thrown_safe : {C : Type 0} (n : ℕ) (files more : List (File C)) → IsFollowed n (names_of (files ++ more)) → EndsSafe (files ++ more) → EndsSafe (thrown n files ++ more)
thrown_safe n [] more follows safe = safe
thrown_safe n (Gone commands ∷ files) more follows safe =
    ((λ none. commands_unthrown n files more ∙ safe.0 (none_unthrown n files more follows none)), thrown_safe n files more follows safe.1)
thrown_safe {C} n (There is_thrown first content ∷ files) more follows safe = by (first.number == n) (λ f. thrown_safe n files more f safe.1) follows
  where
    by : (b : Bool) → (IsFollowed n (names_of (files ++ more)) → EndsSafe (thrown n files ++ more)) → (NoneStays (if b then names_of (files ++ more) else after_name n (names_of (files ++ more))) → ⊥)
        → EndsSafe ((if b then There true (name first.number Goes) content ∷ files else There is_thrown first content ∷ thrown n files) ++ more)
    by true rest follows = (safe.0, safe.1)
    by false rest follows = ((λ none. commands_unthrown n files more ∙ safe.0 (none_unthrown n files more follows none)), rest follows)

-- ---- events
resolved : {C : Type 0} (a b : Archive C) → Resolves a b → EndIsSafe a → EndIsSafe b
resolved {C} a b are safe = by a.newest b.newest are.1 safe
  where
    by : (newest other : Option (Newest C)) → NewestResolves newest other → EndsSafe (a.ended ++ aside_file newest) → EndsSafe (b.ended ++ aside_file other)
    by None None is safe = safe_before a.ended b.ended [] [] are.0 (same_follow [] tt) safe
    by None (Some other) is safe = absurd is
    by (Some file) None is safe =
        safe_before a.ended b.ended (aside_file (Some file)) [] are.0 (empty_goes false file.name (Known (closed file.world file.world.in_doubt)) is) safe
    by (Some file) (Some other) is safe =
        safe_before a.ended b.ended (aside_file (Some file)) (aside_file (Some other)) are.0
        (settled_follows false false file.name other.name (Known (closed file.world file.world.in_doubt)) (Known (closed other.world other.world.in_doubt)) is.1 (ap (λ (w : World C). w.acknowledged) is.2)) safe

-- what the newest file knows changes, but not what was acknowledged in it
same_world : {C : Type 0} (ended : List (File C)) (newest : Option (Newest C)) (change : World C → World C) → ((w : World C) → (change w).acknowledged ≡ w.acknowledged)
    → EndsSafe (ended ++ aside_file newest) → EndsSafe (ended ++ aside_file (with_world change newest))
same_world ended None change same safe = safe
same_world ended (Some file) change same safe =
    safe_before ended ended (aside_file (Some file)) (aside_file (with_world change (Some file))) (same_files ended)
    (one_follows false false file.name (Known (closed file.world file.world.in_doubt)) (Known (closed (change file.world) (change file.world).in_doubt)) (λ gone was. same file.world ∙ was)) safe

shut_safe : {C : Type 0} (a : Archive C) → EndIsSafe a → EndIsSafe (shut a)
shut_safe a safe = same_world a.ended a.newest (λ w. closed w w.in_doubt) (λ w. refl) safe

-- a file is made if none is written, and thrown away if one follows that stays
abbrev Fine : {C : Type 0} → Archive C → Move C → Type 0
Fine a (Making n) = a.newest ≡ None
Fine a (Throwing n) = IsFollowed n (names a)
Fine a move = ⊤

begun_safe : {C : Type 0} (a : Archive C) (move : Move C) → Fine a move → EndIsSafe a → EndIsSafe (begun_by a move)
begun_safe {C} a (Making n) none safe =
    let was : EndsSafe (a.ended ++ []) = subst (λ (newest : Option (Newest C)). EndsSafe (a.ended ++ aside_file newest)) none safe in
    safe_before a.ended a.ended [] (aside_file (begun_by a (Making n)).newest) (same_files a.ended) (empty_follows false (name n Comes) (Known (closed start [])) refl) was
begun_safe a (Throwing n) follows safe =
    thrown_safe n a.ended (aside_file a.newest)
    (subst (IsFollowed n) (sym (names_both a.ended (aside_file a.newest) ∙ ap (λ (ns : List Name). names_of a.ended ++ ns) (last_names a.newest))) follows) safe
begun_safe a Syncing fine safe = safe
begun_safe a Asking fine safe = safe
begun_safe a (Recording call) fine safe = same_world a.ended a.newest (λ w. begun w call) (λ w. refl) safe

recorded_safe : {C : Type 0} (ended : List (File C)) (newest : Option (Newest C)) (step : Step C) → IfNewest newest (λ (file : Newest C). IsSafe file.name.fate (happens file.world step))
    → EndsSafe (ended ++ aside_file newest) → EndsSafe (ended ++ aside_file (with_world (λ w. happens w step) newest))
recorded_safe ended None step is safe = absurd is
recorded_safe ended (Some file) step is safe =
    safe_before ended ended (aside_file (Some file)) (aside_file (with_world (λ w. happens w step) (Some file))) (same_files ended)
    (one_follows false false file.name (Known (closed file.world file.world.in_doubt)) (Known (closed (happens file.world step) (happens file.world step).in_doubt))
    (λ gone was. ⊎_elim (λ stays. absurd (gone stays)) (λ none. none) is)) safe

ended_safe : {C : Type 0} (ended : List (File C)) (newest : Option (Newest C)) (bytes : List ℕ) → EndsSafe (ended ++ aside_file newest) → EndsSafe (ended ++ ended_file newest bytes)
ended_safe ended None bytes safe = safe
ended_safe ended (Some file) bytes safe =
    safe_before ended ended (aside_file (Some file)) (ended_file (Some file) bytes) (same_files ended)
    (one_follows false false file.name (Known (closed file.world file.world.in_doubt)) (Whole bytes file.world.acknowledged) (λ gone was. was)) safe

more_safe : {C : Type 0} (files : List (File C)) → EndsSafe files → EndsSafe (files ++ [])
more_safe {C} files safe = subst (λ (l : List (File C)). EndsSafe l) (sym (append-nil files)) safe

less_safe : {C : Type 0} (files : List (File C)) → EndsSafe (files ++ []) → EndsSafe files
less_safe {C} files safe = subst (λ (l : List (File C)). EndsSafe l) (append-nil files) safe

-- a file that had ended is the newest again
resumed_follows : {C : Type 0} (file : File C) (gone : List (File C)) (newest : Newest C) → MayResume file newest → names_of gone ≡ [] → MayFollow (file ∷ gone) (aside_file (Some newest))
resumed_follows {C} (There is_thrown first (Whole bytes commands)) gone newest may none = record {
  stayed = λ stays. (subst (λ (n : Name). n.fate ≢ Stays) may.0 stays.0, subst NoneStays (sym none) tt);
  held = λ stays is. nil_both newest.world.acknowledged [] (ap (λ (w : World C). w.acknowledged) may.1 ∙ nil_front commands (commands_of gone) is) refl;
  safe = one_safe (There false newest.name (Known (closed newest.world newest.world.in_doubt)));
}
resumed_follows {C} (There is_thrown first (Known world)) gone newest may none = record {
  stayed = λ stays. (subst (λ (n : Name). n.fate ≢ Stays) may.0 stays.0, subst NoneStays (sym none) tt);
  held = λ stays is. nil_both newest.world.acknowledged [] (ap (λ (w : World C). w.acknowledged) may.1 ∙ nil_front world.acknowledged (commands_of gone) is) refl;
  safe = one_safe (There false newest.name (Known (closed newest.world newest.world.in_doubt)));
}
resumed_follows (There is_thrown first (Foreign bytes)) gone newest may none = absurd may
resumed_follows (Gone commands) gone newest may none = absurd may

resumed_safe : {C : Type 0} (a b : Archive C) → Resumes a b → EndIsSafe a → EndIsSafe b
resumed_safe {C} a b is safe =
    let was : EndsSafe (a.ended ++ []) = subst (λ (newest : Option (Newest C)). EndsSafe (a.ended ++ aside_file newest)) is.none safe in
    let parts : EndsSafe (is.files ++ is.file ∷ is.gone) = subst (λ (l : List (File C)). EndsSafe l) is.ended (less_safe a.ended was) in
    subst (λ (x : Archive C). EndIsSafe x) (sym is.is)
    (safe_before is.files is.files (is.file ∷ is.gone) (aside_file (Some is.newest)) (same_files is.files) (resumed_follows is.file is.gone is.newest is.may is.no_names) parts)

weaker : {C : Type 0} {P Q : Newest C → Type 0} (newest : Option (Newest C)) → ((file : Newest C) → P file → Q file) → IfNewest newest P → IfNewest newest Q
weaker None each is = is
weaker (Some file) each is = each file is

module _ {F D S C : Type 0} (names_in : F → List Name) (moment : F → ℕ) (left_since : F → ℕ → List ℕ → Type 0) (model : DiskModel D)
    (shows : List ℕ → S → Type 0) (accepts : S → C → Type 0) (next : S → C → S) (first : S) where
  abbrev Is : Archive C → Event C → Archive C → Point F D → Point F D → Type 0
  Is a event b old new = IsEvent names_in moment left_since model shows accepts next first a event b old new

  pub event_keeps : (a b : Archive C) (event : Event C) (old new : Point F D) → Is a event b old new → KeepsLast a event → EndIsSafe a → EndIsSafe b
  event_keeps a b (Called (Making n)) old new is keeps safe = resolved (begun_by a (Making n)) b is.3 (begun_safe a (Making n) is.1.0 safe)
  event_keeps a b (Called (Throwing n)) old new is keeps safe = resolved (begun_by a (Throwing n)) b is.3 (begun_safe a (Throwing n) keeps safe)
  event_keeps a b (Called Syncing) old new is keeps safe = resolved a b is.3 safe
  event_keeps a b (Called Asking) old new is keeps safe = resolved a b is.3 safe
  event_keeps a b (Called (Recording call)) old new is keeps safe = absurd is.0
  event_keeps a b (Recorded step) old new is keeps safe =
      subst (λ (x : Archive C). EndIsSafe x) (sym is.2)
      (recorded_safe a.ended a.newest step (weaker a.newest (λ file of. of.3) is.0) safe)
  event_keeps a b (Ended bytes) old new is keeps safe =
      subst (λ (x : Archive C). EndIsSafe x) (sym is.2) (more_safe (a.ended ++ ended_file a.newest bytes) (ended_safe a.ended a.newest bytes safe))
  event_keeps a b SetAside old new is keeps safe =
      subst (λ (x : Archive C). EndIsSafe x) (sym is.2) (more_safe (a.ended ++ aside_file a.newest) safe)
  event_keeps a b Resumed old new is keeps safe = resumed_safe a b is.0 safe
  event_keeps a b Halted old new is keeps safe = resolved (shut a) b is.3 (shut_safe a safe)
  event_keeps a b (HaltedIn (Making n)) old new is keeps safe = resolved (shut (begun_by a (Making n))) b is.3.3 (shut_safe (begun_by a (Making n)) (begun_safe a (Making n) is.1.0 safe))
  event_keeps a b (HaltedIn (Throwing n)) old new is keeps safe = resolved (shut (begun_by a (Throwing n))) b is.3.3 (shut_safe (begun_by a (Throwing n)) (begun_safe a (Throwing n) keeps safe))
  event_keeps a b (HaltedIn Syncing) old new is keeps safe = resolved (shut a) b is.3.3 (shut_safe a safe)
  event_keeps a b (HaltedIn Asking) old new is keeps safe = resolved (shut a) b is.3.3 (shut_safe a safe)
  event_keeps a b (HaltedIn (Recording call)) old new is keeps safe = resolved (shut (begun_by a (Recording call))) b is.3.3 (shut_safe (begun_by a (Recording call)) (begun_safe a (Recording call) tt safe))

-- who starts finds the last file
empty_ends : {C : Type 0} (files : List (File C)) → EndsSafe files → EndsEmpty files
empty_ends [] safe = tt
empty_ends (file ∷ files) safe = ((λ none. safe.0 (subst NoneStays (sym none) tt)), empty_ends files safe.1)

pub ends_empty : {C : Type 0} (a : Archive C) → a.newest ≡ None → EndIsSafe a → EndsEmpty a.ended
ends_empty {C} a none safe = empty_ends a.ended (less_safe a.ended (subst (λ (newest : Option (Newest C)). EndsSafe (a.ended ++ aside_file newest)) none safe))
