-- The open streams can be ended.
use Rattle.std.proofs.Common.{◌≡◌, ℕ, ◌+◌, ◌^◌, ◌≤◌, ◌<◌, Bool, true, false, cond, List, [], ◌∷◌, length, map, Some, Result, Ok, Err, refl, sym, ◌∙◌, ap, subst, arith, inl, inr}
use Rattle.std.specs.Prelude.{OnErr, nat_eq, not, ◌||◌}
use Rattle.std.specs.List.{AllByRecursion, filter, find, list_any}
use Rattle.std.proofs.lemmas.Bool.{cases_Bool, cond-true, cond-false, false≢true}
use Rattle.link_chain.specs.declared.stream_state.StreamState.{StreamState}
use Rattle.link_chain.specs.ChainState.{ChainState, is_open}
use Rattle.link_chain.specs.Followed.{followed}
use Rattle.link_chain.specs.Progress.{change_at, left_whole as whole_stream}
use Rattle.import_gather.specs.Gathered.{Gathered}
use Rattle.import_mend.specs.Gives.{is_unended, open_streams}
use Rattle.import_mend.specs.Mended.{end_page}
use Rattle.import_mend.specs.Room.{HasNumber, HasRoom, LacksMemory, StillHasRoom}
use Rattle.import_mend.specs.Steps.{after_end}
use Rattle.import_mend.proofs.Open.{none_unended}

-- no more streams are open than there are
pub open_few : (streams : List StreamState) → length (filter is_unended streams) ≤ length streams
open_few [] = omega arith
open_few (s ∷ streams) = at (is_unended s) (open_few streams)
  where
    at : (b : Bool) → length (filter is_unended streams) ≤ length streams → length (cond b (s ∷ filter is_unended streams) (filter is_unended streams)) ≤ length (s ∷ streams)
    at true le = omega (arith, le)
    at false le = omega (arith, le)

pub none_ended : (count : ℕ) (chain : ChainState) → count ≡ length chain.streams → HasRoom chain → StillHasRoom count 0 chain
none_ended count chain all r = record {
  some = omega (arith, all, r.few);
  links = r.links;
  numbers = r.numbers;
  small = omega (arith, r.small);
  left = omega (arith, all, open_few chain.streams);
}

-- an ended stream needs no number
pub numbers_stay : (serial : ℕ) (change : StreamState → StreamState) (streams : List StreamState) → ((s : StreamState) → HasNumber s → HasNumber (change s)) → AllByRecursion HasNumber streams →
    AllByRecursion HasNumber (map (change_at serial change) streams)
numbers_stay serial change [] keeps all = tt
numbers_stay serial change (s ∷ streams) keeps all = (at (nat_eq s.serial serial), numbers_stay serial change streams keeps all.1)
  where
    at : (b : Bool) → HasNumber (cond b (change s) s)
    at true = keeps s all.0
    at false = all.0

-- a stream that is open is among those
pub number_of : (streams : List StreamState) (stream : StreamState) → find is_unended streams ≡ Some stream → AllByRecursion HasNumber streams → stream.next_sequence < 2 ^ 32
number_of [] stream e all = cc
number_of (s ∷ streams) stream e all =
    elim (cases_Bool (is_unended s)) [
      | inl open' ↦
          (let is : s ≡ stream = some_same (sym (cond-true (is_unended s) (Some s) (find is_unended streams) open') ∙ e) in
          subst (λ (x : StreamState). x.next_sequence < 2 ^ 32) is (all.0 (not_true s.ended open')))
      | inr ended ↦ number_of streams stream (sym (cond-false (is_unended s) (Some s) (find is_unended streams) ended) ∙ e) all.1
    ]
  where
    some_same : {a b : StreamState} → Some a ≡ Some b → a ≡ b
    some_same e' = cc

    not_true : (b : Bool) → not b ≡ true → b ≡ false
    not_true true e' = cc
    not_true false e' = refl

-- a stream that is found is open
pub found_is_open : (streams : List StreamState) (stream : StreamState) → find is_unended streams ≡ Some stream → list_any is_unended streams ≡ true
found_is_open [] stream e = cc
found_is_open (s ∷ streams) stream e =
    elim (cases_Bool (is_unended s)) [
      | inl open' ↦ ap (λ b. b || list_any is_unended streams) open'
      | inr ended ↦
          ap (λ b. b || list_any is_unended streams) ended
          ∙ found_is_open streams stream (sym (cond-false (is_unended s) (Some s) (find is_unended streams) ended) ∙ e)
    ]

pub some_open : (streams : List StreamState) → list_any is_unended streams ≡ true → 0 < length (filter is_unended streams)
some_open [] e = absurd (false≢true e)
some_open (s ∷ streams) e =
    elim (cases_Bool (is_unended s)) [
      | inl open' ↦ omega (arith, ap length (cond-true (is_unended s) (s ∷ filter is_unended streams) (filter is_unended streams) open'))
      | inr ended ↦
          omega (
            arith,
            ap length (cond-false (is_unended s) (s ∷ filter is_unended streams) (filter is_unended streams) ended),
            some_open streams (sym (ap (λ b. b || list_any is_unended streams) ended) ∙ e),
          )
    ]

-- if no turn is left, none is open
pub all_closed : (count : ℕ) (turns : ℕ) (chain : ChainState) → StillHasRoom count turns chain → count ≤ turns → is_open chain ≡ false
all_closed count turns chain r le =
    elim (cases_Bool (is_open chain)) [
      | inl open' ↦ absurd (omega (arith, r.left, le, some_open chain.streams open'))
      | inr closed ↦ closed
    ]

-- one more is ended
pub one_ended : (count turns : ℕ) (stream : StreamState) (old new : Gathered) → StillHasRoom count turns old.chain → new.chain ≡ after_end stream old → open_streams old.chain ≡ stream ∷ open_streams new.chain →
    StillHasRoom count (turns + 1) new.chain
one_ended count turns stream old new r after less = record {
  some = r.some;
  links = λ open'. ap (λ (c : ChainState). nat_eq c.links 0) after ∙ r.links (was_open (open_streams new.chain) less);
  numbers = subst (λ (c : ChainState). AllByRecursion HasNumber c.streams) (sym after)
      (numbers_stay stream.serial (followed (end_page stream.next_sequence stream)) (map (change_at stream.serial whole_stream) old.chain.streams) (λ s h e. absurd (false≢true (sym e ∙ or_true s.ended)))
      (numbers_stay stream.serial whole_stream old.chain.streams (λ s h. h) r.numbers));
  small = omega (arith, r.small, ap (λ (c : ChainState). c.length_of) after);
  left = omega (arith, r.left, ap length less);
}
  where
    or_true : (b : Bool) → (b || true) ≡ true
    or_true true = refl
    or_true false = refl

    was_open : (others : List StreamState) → open_streams old.chain ≡ stream ∷ others → is_open old.chain ≡ true
    was_open others e =
        elim (cases_Bool (is_open old.chain)) [
          | inl open' ↦ open'
          | inr closed ↦ absurd (omega (arith, ap length e, ap length (none_unended old.chain.streams closed)))
        ]

-- ---- want of memory
pub on_err : {T E P : Type 0} (result : Result T E) → P → OnErr result P
on_err (Ok value) holds = tt
on_err (Err fault) holds = holds

-- what was wanted in this room was wanted in one that is no larger
pub less_room : (gathered : Gathered) (room now : ℕ) → room ≤ now → LacksMemory gathered now → LacksMemory gathered room
less_room gathered room now le (inl refused) = inl refused
less_room gathered room now le (inr small) = inr (omega (arith, le, small))
