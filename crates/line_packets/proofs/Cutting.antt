-- How lines are found, line feed by line feed.
use Rattle.std.proofs.Common.{◌≡◌, ℕ, ◌+◌, ◌<◌, ◌⊎◌, inl, inr, Result, Ok, Err, length-append, true, false, cond, nat_eq, nat_le, Option, Some, None, List, [], ◌∷◌, ◌++◌, length, take, drop, refl, ap, sym, ◌∙◌, append_assoc, append-nil, get_or, arith}
use Rattle.std.specs.Prelude.{is_some}
use Rattle.std.proofs.Math.Numerals.{suc-eq-add-one}
use Rattle.std.proofs.Math.Seq.{drop-cons, drop-length, take-length, take-suc}
use Rattle.std.proofs.lemmas.Grind.{flat_map-append}
use Rattle.std.proofs.lemmas.Bool.{cases_Bool, leb-false}
use Rattle.std.specs.List.{flat_map}
use Rattle.ogg_command.specs.declared.command.Entry.{Entry}
use Rattle.line_packets.specs.Lines.{lines_from, rest_from, short, joined, longest, IsFirstFeed, HasNoFeed, SplitsLine}
use Rattle.line_packets.specs.Placing.{entries_by, entries_of, left_by, left_of, sorted}
use Rattle.line_packets.specs.Taking.{EndsLine, HasTaken, count_of}
use Rattle.line_packets.specs.declared.lines.Taken.{Taken}
use Rattle.line_packets.specs.declared.placing.LeftOut.{LeftOut}
use Rattle.line_packets.specs.declared.streams.Streams.{Streams}

pub lines_from-append : (line a b : List ℕ) → lines_from line (a ++ b) ≡ lines_from line a ++ lines_from (rest_from line a) b
lines_from-append line [] b = refl
lines_from-append line (byte ∷ a) b =
    elim (nat_eq byte 10) as (λ t. cond t (line ∷ lines_from [] (a ++ b)) (lines_from (line ++ byte ∷ []) (a ++ b))
    ≡ cond t (line ∷ lines_from [] a) (lines_from (line ++ byte ∷ []) a) ++ lines_from (cond t (rest_from [] a) (rest_from (line ++ byte ∷ []) a)) b) [
      | true ↦ ap (λ lines. line ∷ lines) (lines_from-append [] a b)
      | false ↦ lines_from-append (line ++ byte ∷ []) a b
    ]

pub rest_from-append : (line a b : List ℕ) → rest_from line (a ++ b) ≡ rest_from (rest_from line a) b
rest_from-append line [] b = refl
rest_from-append line (byte ∷ a) b =
    elim (nat_eq byte 10) as (λ t. cond t (rest_from [] (a ++ b)) (rest_from (line ++ byte ∷ []) (a ++ b))
    ≡ rest_from (cond t (rest_from [] a) (rest_from (line ++ byte ∷ []) a)) b) [
      | true ↦ rest_from-append [] a b
      | false ↦ rest_from-append (line ++ byte ∷ []) a b
    ]

-- the first bytes have no line feed: any line that they go on with goes on behind them
pub record GoesOn (bytes : List ℕ) (at : ℕ) : Type 0 where
  pub lines : (line : List ℕ) → lines_from line bytes ≡ lines_from (line ++ take at bytes) (drop at bytes)
  pub rest : (line : List ℕ) → rest_from line bytes ≡ rest_from (line ++ take at bytes) (drop at bytes)

pub none_yet : (bytes : List ℕ) → GoesOn bytes 0
none_yet bytes = record { lines = λ line. rw (append-nil line) refl; rest = λ line. rw (append-nil line) refl }

-- no other byte is a line feed
is_other : (byte : ℕ) → (byte ≡ 10 → ⊥) → nat_eq byte 10 ≡ false
is_other byte other = grind arith

module _ (bytes : List ℕ) (at : ℕ) (inside : at < length bytes) (before : GoesOn bytes at) where
  next : drop at bytes ≡ get_or bytes at 0 ∷ drop (at + 1) bytes
  next = drop-cons bytes at 0 inside ∙ ap (λ n. get_or bytes at 0 ∷ drop n bytes) (suc-eq-add-one at)

  front : take (at + 1) bytes ≡ take at bytes ++ get_or bytes at 0 ∷ []
  front = ap (λ n. take n bytes) (sym (suc-eq-add-one at)) ∙ take-suc bytes at 0 inside

  pub next_is_feed : get_or bytes at 0 ≡ 10 → IsFirstFeed bytes at
  next_is_feed feed = record {
    inside = inside;
    lines = λ line. before.lines line ∙ ap (lines_from (line ++ take at bytes)) next
        ∙ ap (λ byte. lines_from (line ++ take at bytes) (byte ∷ drop (at + 1) bytes)) feed;
    rest = λ line. before.rest line ∙ ap (rest_from (line ++ take at bytes)) next
        ∙ ap (λ byte. rest_from (line ++ take at bytes) (byte ∷ drop (at + 1) bytes)) feed;
  }

  pub next_is_none : (get_or bytes at 0 ≡ 10 → ⊥) → GoesOn bytes (at + 1)
  next_is_none other = record {
    lines = λ line. before.lines line ∙ ap (lines_from (line ++ take at bytes)) next
        ∙ ap (λ t. cond t ((line ++ take at bytes) ∷ lines_from [] (drop (at + 1) bytes))
        (lines_from ((line ++ take at bytes) ++ get_or bytes at 0 ∷ []) (drop (at + 1) bytes))) (is_other (get_or bytes at 0) other)
        ∙ ap (λ front. lines_from front (drop (at + 1) bytes)) (append_assoc line (take at bytes) (get_or bytes at 0 ∷ []) ∙ ap (λ more. line ++ more) (sym front));
    rest = λ line. before.rest line ∙ ap (rest_from (line ++ take at bytes)) next
        ∙ ap (λ t. cond t (rest_from [] (drop (at + 1) bytes))
        (rest_from ((line ++ take at bytes) ++ get_or bytes at 0 ∷ []) (drop (at + 1) bytes))) (is_other (get_or bytes at 0) other)
        ∙ ap (λ front. rest_from front (drop (at + 1) bytes)) (append_assoc line (take at bytes) (get_or bytes at 0 ∷ []) ∙ ap (λ more. line ++ more) (sym front));
  }

pub no_feed : (bytes : List ℕ) → GoesOn bytes (length bytes) → HasNoFeed bytes
no_feed bytes before = record {
  lines = λ line. before.lines line ∙ ap (lines_from (line ++ take (length bytes) bytes)) (drop-length bytes);
  rest = λ line. before.rest line ∙ ap (rest_from (line ++ take (length bytes) bytes)) (drop-length bytes) ∙ ap (λ more. line ++ more) (take-length bytes);
}

-- a line that is too long stays so, however it goes on
le_cases : (a b : ℕ) → (nat_le a b ≡ true) ⊎ (nat_le a b ≡ false) × (b < a)
le_cases a b = elim (cases_Bool (nat_le a b)) [ inl below ↦ inl below | inr above ↦ inr (above, leb-false a b above) ]

pub short_joined : (line piece : List ℕ) → joined (short line) piece ≡ short (line ++ piece)
short_joined line piece =
    elim (le_cases (length line) longest) [
      | inl fits ↦ ap (λ t. joined (cond t (Some line) None) piece) fits
      | inr long ↦ ap (λ t. joined (cond t (Some line) None) piece) long.0 ∙ sym (ap (λ t. cond t (Some (line ++ piece)) None) (longer long.1))
    ]
  where
    longer : (longest < length line) → nat_le (length (line ++ piece)) longest ≡ false
    longer above = let size : length (line ++ piece) ≡ length line + length piece = length-append line piece in grind (arith, size, above)

-- the lines so far are taken
pub record AreTaken (streams : Streams) (position : ℕ) (line piece : List ℕ) (old new : List Entry) (rest : List ℕ) (lines : ℕ) (front : Option (List ℕ)) : Type 0 where
  pub done : List (List ℕ)
  pub next : List ℕ
  pub front_is : front ≡ short next
  pub lines_are : lines_from line piece ≡ done ++ lines_from next rest
  pub rest_is : rest_from line piece ≡ rest_from next rest
  pub entries_are : new ≡ old ++ flat_map (entries_of streams position) done
  pub counted : lines ≡ length done
  pub told : length new ≡ length old + lines

-- a line has an entry, or it is told why it has none
one_of : (position : ℕ) (sorted : Result (ℕ × List ℕ) LeftOut) → length (entries_by position sorted) + count_of (left_by sorted) ≡ 1
one_of position (Ok placed) = refl
one_of position (Err left) = refl

module _ (streams : Streams) (position : ℕ) (line piece : List ℕ) (old : List Entry) where
  -- nothing was taken yet
  pub start : (begun : Option (List ℕ)) → begun ≡ short line → AreTaken streams position line piece old old piece 0 begun
  start begun is = record {
    done = [];
    next = line;
    front_is = is;
    lines_are = refl;
    rest_is = refl;
    entries_are = sym (append-nil old);
    counted = refl;
    told = omega arith;
  }

  -- the next line ends
  module _ (new newer : List Entry) (rest ended after : List ℕ) (lines : ℕ) (begun : Option (List ℕ)) (left : Option LeftOut) (next_front : Option (List ℕ))
      (so_far : AreTaken streams position line piece old new rest lines begun) (split : SplitsLine rest ended after)
      (ends : EndsLine streams position (so_far.next ++ ended) new newer left next_front) where
    lines_now : lines_from line piece ≡ (so_far.done ++ (so_far.next ++ ended) ∷ []) ++ lines_from [] after
    lines_now = so_far.lines_are ∙ ap (λ more. so_far.done ++ more) (split.lines so_far.next)
        ∙ sym (append_assoc so_far.done ((so_far.next ++ ended) ∷ []) (lines_from [] after))

    entries_now : newer ≡ old ++ flat_map (entries_of streams position) (so_far.done ++ (so_far.next ++ ended) ∷ [])
    entries_now = ends.entries_are ∙ ap (λ front. front ++ entries_of streams position (so_far.next ++ ended)) so_far.entries_are
        ∙ append_assoc old (flat_map (entries_of streams position) so_far.done) (entries_of streams position (so_far.next ++ ended))
        ∙ ap (λ more. old ++ (flat_map (entries_of streams position) so_far.done ++ more)) (sym (append-nil (entries_of streams position (so_far.next ++ ended))))
        ∙ ap (λ more. old ++ more) (sym (flat_map-append (entries_of streams position) so_far.done ((so_far.next ++ ended) ∷ [])))

    counted_now : lines + 1 ≡ length (so_far.done ++ (so_far.next ++ ended) ∷ [])
    counted_now = omega (arith, so_far.counted, length-append so_far.done ((so_far.next ++ ended) ∷ []))

    told_now : length newer + count_of left ≡ length old + (lines + 1)
    told_now =
        let new_length : length newer ≡ length new + length (entries_of streams position (so_far.next ++ ended))
        = ap (λ (l : List Entry). length l) ends.entries_are ∙ length-append new (entries_of streams position (so_far.next ++ ended)) in
        let left_count : count_of left ≡ count_of (left_of streams (so_far.next ++ ended)) = ap count_of ends.left_is in
        omega (arith, so_far.told, new_length, left_count, one_of position (sorted streams (so_far.next ++ ended)))

    -- it has its entry, and the loop goes on
    pub goes_on : left ≡ None → AreTaken streams position line piece old newer after (lines + 1) next_front
    goes_on none = record {
      done = so_far.done ++ (so_far.next ++ ended) ∷ [];
      next = [];
      front_is = ends.front_is;
      lines_are = lines_now;
      rest_is = so_far.rest_is ∙ split.rest_is so_far.next;
      entries_are = entries_now;
      counted = counted_now;
      told = let no_count : count_of left ≡ 0 = ap count_of none in omega (arith, told_now, no_count);
    }

    -- and no further line is taken
    pub stops : (taken : Taken) → taken.rest.now ≡ after → taken.lines ≡ lines + 1 → taken.left ≡ left
        → HasTaken streams position line piece old newer taken next_front
    stops taken rest_now lines_are_now left_now = record {
      done = so_far.done ++ (so_far.next ++ ended) ∷ [];
      next = [];
      front_is = ends.front_is;
      lines_are = lines_now ∙ ap (λ more. (so_far.done ++ (so_far.next ++ ended) ∷ []) ++ lines_from [] more) (sym rest_now);
      rest_is = so_far.rest_is ∙ split.rest_is so_far.next ∙ ap (rest_from []) (sym rest_now);
      entries_are = entries_now;
      counted = lines_are_now ∙ counted_now;
      told = let left_count : count_of taken.left ≡ count_of left = ap count_of left_now in omega (arith, told_now, lines_are_now, left_count);
      told_is = inr (so_far.done, so_far.next ++ ended, refl, left_now ∙ ends.left_is);
    }

  -- what is left has no line feed
  module _ (new : List Entry) (rest : List ℕ) (lines : ℕ) (begun next_front : Option (List ℕ))
      (so_far : AreTaken streams position line piece old new rest lines begun) (none : HasNoFeed rest)
      (next_is : next_front ≡ joined begun rest) where
    pub ends : (taken : Taken) → taken.rest.now ≡ [] → taken.lines ≡ lines → taken.left ≡ None
        → HasTaken streams position line piece old new taken next_front
    ends taken rest_now lines_now left_now = record {
      done = so_far.done;
      next = so_far.next ++ rest;
      front_is = next_is ∙ ap (λ front. joined front rest) so_far.front_is ∙ short_joined so_far.next rest;
      lines_are = so_far.lines_are ∙ ap (λ more. so_far.done ++ more) (none.lines so_far.next ∙ ap (lines_from (so_far.next ++ rest)) (sym rest_now));
      rest_is = so_far.rest_is ∙ none.rest so_far.next ∙ ap (rest_from (so_far.next ++ rest)) (sym rest_now);
      entries_are = so_far.entries_are;
      counted = lines_now ∙ so_far.counted;
      told = let left_count : count_of taken.left ≡ 0 = ap count_of left_now in omega (arith, so_far.told, lines_now, left_count);
      told_is = inl left_now;
    }

pub is_none : (left : Option LeftOut) → is_some left ≡ false → left ≡ None
is_none None none = refl
is_none (Some left) none = absurd (true_is_not_false none)
  where
    true_is_not_false : true ≡ false → ⊥
    true_is_not_false is = grind (arith, is)
