-- Elements of a list that are moved to its front, one after the other, or left out.
use Rattle.std.proofs.Common.{◌≡◌, ℕ, ◌+◌, ◌≤◌, ◌<◌, List, [], ◌∷◌, ◌++◌, Bool, true, false, Option, Some, None, zero, suc, length, take, drop, refl, sym, ◌∙◌, ap, subst, arith, append-nil}
use Rattle.std.specs.Prelude.{◌||◌, slice_index_or, slice_set}
use Rattle.std.specs.List.{list_any}
use Rattle.ogg_command.specs.declared.command.Command.{Command}
use Rattle.import_changes.specs.Changed.{begins}
use Rattle.import_changes.specs.Steps.{option_list, put_at}
use Rattle.std.proofs.lemmas.List.{drop-drop, drop-set-lt, get_or-drop, length-set, take-set-le, take_more, take_more_set}

-- Those before this place were moved or left out; so many were moved, and these are what they became.
pub record Moved {X : Type 0} (was now out : List X) (place kept : ℕ) : Type 0 where
  pub rest : drop place now ≡ drop place was
  pub front : take kept now ≡ out
  pub fits : kept ≤ place
  pub size : length now ≡ length was

pub none_moved : {X : Type 0} (was : List X) → Moved was was [] 0 0
none_moved was = record { rest = refl; front = refl; fits = omega arith; size = refl }

rest_after : {X : Type 0} (was now : List X) (place : ℕ) → drop place now ≡ drop place was → drop (place + 1) now ≡ drop (place + 1) was
rest_after was now place rest = sym (drop-drop 1 place now) ∙ ap (drop 1) rest ∙ drop-drop 1 place was

pub one_left : {X : Type 0} (was now out : List X) (place kept : ℕ) (x : X) → Moved was now out place kept
    → Moved was (slice_set now place x) out (place + 1) kept
one_left was now out place kept x moved = record {
  rest = drop-set-lt (place + 1) now place x (omega arith) ∙ rest_after was now place moved.rest;
  front = take-set-le kept now place x moved.fits ∙ moved.front;
  fits = omega (arith, moved.fits);
  size = length-set now place x ∙ moved.size;
}

pub one_kept : {X : Type 0} (was now out : List X) (place kept : ℕ) (x y : X) → Moved was now out place kept → place < length was
    → Moved was (slice_set (slice_set now place x) kept y) (out ++ y ∷ []) (place + 1) (kept + 1)
one_kept was now out place kept x y moved inside =
    let left = one_left was now out place kept x moved in
    record {
      rest = drop-set-lt (place + 1) (slice_set now place x) kept y (omega (arith, moved.fits)) ∙ left.rest;
      front = take_more_set (slice_set now place x) kept y (omega (arith, moved.fits, inside, left.size)) ∙ ap (λ l. l ++ y ∷ []) left.front;
      fits = omega (arith, moved.fits);
      size = length-set (slice_set now place x) kept y ∙ left.size;
    }

-- the element that is met is the one that stood there at first
pub stands : {X : Type 0} (was now out : List X) (place kept : ℕ) (other : X) → Moved was now out place kept
    → slice_index_or was place other ≡ slice_index_or now place other
stands was now out place kept other moved =
    let here : place + 0 ≡ place = omega arith in
    ap (λ n. slice_index_or was n other) (sym here) ∙ sym (get_or-drop place was 0 other) ∙ ap (λ l. slice_index_or l 0 other) (sym moved.rest)
    ∙ get_or-drop place now 0 other ∙ ap (λ n. slice_index_or now n other) here

pub met : {X : Type 0} (was now out : List X) (place kept : ℕ) (other : X) → Moved was now out place kept → place < length was
    → take (place + 1) was ≡ take place was ++ slice_index_or now place other ∷ []
met was now out place kept other moved inside =
    take_more was place other inside ∙ ap (λ x. take place was ++ x ∷ []) (stands was now out place kept other moved)

pub as_moved : {X : Type 0} (was now again out all : List X) (place kept count : ℕ) → now ≡ again → out ≡ all → kept ≡ count
    → Moved was again all place count → Moved was now out place kept
as_moved {X} was now again out all place kept count items outs counts moved =
    subst (λ (l : List X). Moved was l out place kept) (sym items)
    (subst (λ (l : List X). Moved was again l place kept) (sym outs) (subst (λ n. Moved was again all place n) (sym counts) moved))

-- ---- commands, each of which becomes one or none
pub one_changed : (was now out : List Command) (place kept : ℕ) (other : Command) (changed : Option Command) → Moved was now out place kept → place < length was
    → Moved was (put_at (slice_set now place other) kept changed) (out ++ option_list changed) (place + 1) (kept + length (option_list changed))
one_changed was now out place kept other None moved inside =
    as_moved was _ _ _ _ (place + 1) _ _ refl (append-nil out) (omega arith) (one_left was now out place kept other moved)
one_changed was now out place kept other (Some command) moved inside = one_kept was now out place kept other command moved inside

-- it is kept where it lies
pub itself : {X : Type 0} (was now out : List X) (place kept : ℕ) → Moved was now out place kept → Moved was now (take kept now) place kept
itself was now out place kept moved = record { rest = moved.rest; front = refl; fits = moved.fits; size = moved.size }

-- a command that begins a link is among them
pub has_begin : (commands : List Command) (place : ℕ) (command : Command) → place < length commands → slice_index_or commands place command ≡ command
    → begins command ≡ true → list_any begins commands ≡ true
has_begin [] place command inside is begin = absurd (omega (arith, inside))
has_begin (c ∷ commands) zero command inside is begin = rw (ap begins is ∙ begin) refl
has_begin (c ∷ commands) (suc place) command inside is begin =
    or_right (begins c) (list_any begins commands) (has_begin commands place command (omega (arith, inside)) is begin)
  where
    or_right : (a b : Bool) → b ≡ true → a || b ≡ true
    or_right true b e = refl
    or_right false b e = e
