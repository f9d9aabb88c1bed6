-- When a stream has no name, and when memory is wanted.
use Rattle.std.proofs.Common.{◌≡◌, ℕ, ◌<◌, Bool, true, false, List, [], ◌∷◌, ◌++◌, refl, sym, ◌∙◌, ap, subst, arith, length, length-append, take, drop, get_or}
use Rattle.std.specs.Prelude.{nat_eq, ◌≤◌, ◌||◌}
use Rattle.std.specs.Cmp.{nat_eq_equiv}
use Rattle.std.specs.List.{AllByRecursion, IsDistinct, list_any}
use Rattle.std.specs.Map.{keys_of}
use Rattle.std.proofs.lemmas.Bool.{eqb-true}
use Rattle.std.proofs.lemmas.List.{length-map, map-append, take-append-drop}
use Rattle.std.proofs.lemmas.List.Folds.{list_any-append}
use Rattle.std.proofs.lemmas.Map.Made.{length-le_from_is_member}
use Rattle.link_chain.specs.Laws.TakenLinks.{distinct_push}
use Rattle.ogg_command.specs.declared.command.Command.{Command}
use Rattle.ogg_command.specs.declared.command.NewStream.{NewStream}
use Rattle.import_changes.specs.Naming.{AreOnlyOf, KeepsAll, serials_of}
use Rattle.import_changes.proofs.Names.{all_push, clash, only_more, serial_at}

-- ---- names are fewer than streams
is_one : (keys serials : List ℕ) (q : ℕ) → AllByRecursion (λ key. list_any (nat_eq key) serials ≡ true) keys → list_any (nat_eq q) keys ≡ true
    → list_any (nat_eq q) serials ≡ true
is_one [] serials q all is = clash is refl
is_one (key ∷ keys) serials q (p, all) is = by (nat_eq q key) refl (is_one keys serials q all)
  where
    by : (b : Bool) → nat_eq q key ≡ b → (list_any (nat_eq q) keys ≡ true → list_any (nat_eq q) serials ≡ true) → list_any (nat_eq q) serials ≡ true
    by true e rest = subst (λ n. list_any (nat_eq n) serials ≡ true) (sym (eqb-true q key e)) p
    by false e rest = rest (sym (ap (λ b. b || list_any (nat_eq q) keys) e) ∙ is)

-- a serial of these isn't among the keys, which are distinct
fewer : (keys serials : List ℕ) (serial : ℕ) → IsDistinct nat_eq keys → AllByRecursion (λ key. list_any (nat_eq key) serials ≡ true) keys
    → list_any (nat_eq serial) serials ≡ true → list_any (nat_eq serial) keys ≡ false → length keys < length serials
fewer keys serials serial once only is none =
    let most : length (keys ++ serial ∷ []) ≤ length serials =
    length-le_from_is_member nat_eq_equiv (keys ++ serial ∷ []) serials (distinct_push keys serial once none)
    (λ q. is_one (keys ++ serial ∷ []) serials q (all_push (λ key. list_any (nat_eq key) serials ≡ true) keys serial only is)) in
    omega (arith, most, length-append keys (serial ∷ []))

pub fewer_named : (names : List (ℕ × ℕ)) (streams : List NewStream) (i : ℕ) (d : NewStream) → i < length streams → IsDistinct nat_eq (keys_of names)
    → AreOnlyOf names (serials_of streams) → list_any (nat_eq (get_or streams i d).serial) (keys_of names) ≡ false → length names < length streams
fewer_named names streams i d less once only none =
    let some : length (keys_of names) < length (serials_of streams) =
    fewer (keys_of names) (serials_of streams) (get_or streams i d).serial once only (serial_at streams i d less) none in
    omega (arith, some, length-map names (λ (name : ℕ × ℕ). name.0), length-map streams (λ (stream : NewStream). stream.serial))

pub fewer_kept : (given : List ℕ) (names : List (ℕ × ℕ)) (streams : List NewStream) (i : ℕ) (d : NewStream) → i < length streams
    → KeepsAll given names (serials_of (take i streams)) → list_any (nat_eq (get_or streams i d).serial) (keys_of names) ≡ false
    → length names < length streams
fewer_kept given names streams i d less kept none =
    fewer_named names streams i d less kept.are.once
    (subst (AreOnlyOf names)
    (sym (map-append (λ (stream : NewStream). stream.serial) (take i streams) (drop i streams)) ∙ ap serials_of (take-append-drop i streams))
    (only_more (serials_of (take i streams)) (serials_of (drop i streams)) (keys_of names) kept.only)) none

-- ---- commands that are met
pub none_before : (p : Command → Bool) (before : List Command) (command : Command) → list_any p (before ++ command ∷ []) ≡ false
    → (list_any p before ≡ false) × (p command ≡ false)
none_before p before command none = both (list_any p before) (p command) (sym (list_any-append p before (command ∷ [])) ∙ none)
  where
    both : (a b : Bool) → (a || (b || false)) ≡ false → (a ≡ false) × (b ≡ false)
    both true b e = absurd (cc)
    both false true e = absurd (cc)
    both false false e = (refl, refl)
