-- What a pull takes of a text and of a body, and what is left of both.
use Rattle.std.proofs.Common.{◌≡◌, ◌≢◌, ◌⊎◌, inl, inr, ℕ, ◌+◌, ◌-◌, ◌≤◌, Bool, false, List, [], ◌∷◌, ◌++◌, length, take, drop, min, refl, sym, ◌∙◌, ap, subst, arith, length-take, length-drop, length-append, take_all, drop_of_length-le, append-nil}
use Rattle.std.specs.Prelude.{◌==◌}
use Rattle.std.proofs.lemmas.Bool.{cases_lt, ne_eqb}
use Rattle.std.proofs.lemmas.List.{take-append-le, drop-append-le}
use Rattle.std.proofs.Math.Seq.{take-append-add, drop-append-add}
use Rattle.ogg_page.specs.Laws.Halves.{halves}
use Rattle.serve_machine.specs.Hub.{is_nothing}
use Rattle.serve_machine.specs.Places.{part_at, IsStreamRest}
use Rattle.serve_sending.specs.Sending.{IsBodyLeft, GivesBody, Gives, is_empty_body}
use Rattle.serve_sending.specs.Walking.{IsPulled, IsOver}
use Rattle.serve_sending.specs.declared.body.Body.{Body}
use Rattle.serve_sending.specs.declared.body.Body.TheVariants.{Nothing, Part, Stream}
use Rattle.serve_sending.specs.declared.walking.StreamLeft.{StreamLeft}

-- ---- a stream's rest
pub stream_gives : (committed rest : List ℕ) (serial size n : ℕ) (left : StreamLeft) (buffer : List ℕ) → IsPulled committed rest serial left n buffer → IsOver size n left
    → n ≤ size → GivesBody committed rest size buffer n (Stream serial left.place left.skip left.count)
stream_gives committed rest serial size n left buffer b (inl full) le =
    record {
      count_is = let total = b.total in grind (arith, total, full);
      given = b.taken ∙ ap (λ k. take k rest) full;
      left = subst (λ k. IsStreamRest committed serial left.place left.skip left.count (drop k rest)) full b.is_rest;
    }
stream_gives committed rest serial size n left buffer b (inr none) le =
    let all : n ≡ length rest = omega (arith, b.total, none) in
    record {
      count_is = grind (arith, all, le);
      given = b.taken ∙ take_all n rest (omega (arith, all)) ∙ sym (take_all size rest (omega (arith, all, le)));
      left = subst (IsStreamRest committed serial left.place left.skip left.count)
          (drop_of_length-le rest (let e : length rest ≤ n = omega (arith, all) in e) ∙ sym (drop_of_length-le rest (let e : length rest ≤ size = omega (arith, all, le) in e))) b.is_rest;
    }

-- ---- a text and what follows it
-- nothing is left of a body exactly if its count is zero
length_zero : (l : List ℕ) (n : ℕ) → length l ≡ n → (n == 0) ≡ is_nothing l
length_zero [] n e = ap (λ k. k == 0) (sym e)
length_zero (x ∷ l) n e = ne_eqb n 0 (λ z. omega (arith, e, z))

empty_is : (committed : List ℕ) (body : Body) (rest : List ℕ) → IsBodyLeft committed body rest → is_empty_body body ≡ is_nothing rest
empty_is committed Nothing rest e = ap is_nothing (sym e)
empty_is committed (Part place count) rest (inside, e) =
    length_zero rest count (ap length e ∙ (let n : length (part_at place count committed) ≡ count = grind (arith, length-take, length-drop, inside) in n))
empty_is committed (Stream serial place skip count) rest r =
    length_zero rest count (ap length r.rest_is ∙ (let inside = r.inside in grind (arith, length-take, length-drop, inside)))

-- whether anything is left of both
nothing_after : (front rest : List ℕ) → front ≡ [] → is_nothing (front ++ rest) ≡ is_nothing rest
nothing_after front rest e = ap (λ (l : List ℕ). is_nothing (l ++ rest)) e

something : (front rest : List ℕ) → front ≢ [] → is_nothing (front ++ rest) ≡ false
something [] rest some = absurd (some refl)
something (x ∷ front) rest some = refl

second_none : (front rest : List ℕ) → front ++ rest ≡ [] → rest ≡ []
second_none [] rest e = e
second_none (x ∷ front) rest e = cc

-- if a byte of the body was to be given, a byte of the text and the body together was
pub some_given : (text body rest : List ℕ) (size k room : ℕ) → k ≡ min (length text) size → room ≡ size - k → rest ≡ text ++ body → take room body ≢ [] → take size rest ≢ []
some_given text body rest size k room is fits joined some none =
    let h = halves text body size k is in
    some (ap (λ n. take n body) fits ∙ second_none (take size text) (take (size - k) body) (sym h.given ∙ ap (take size) (sym joined) ∙ none))

-- what decides whether nothing is left of both
abbrev pub SaysDone : List ℕ → ℕ → Body → Bool → Type 0
SaysDone text k after done = ((length text ≡ k) × (done ≡ is_empty_body after)) ⊎ ((length text ≢ k) × (done ≡ false))

pub both_given : (committed text body rest front buffer : List ℕ) (size k room more : ℕ) (done : Bool) (after : Body) → rest ≡ text ++ body → k ≡ min (length text) size
    → room ≡ size - k → front ≡ take size text → GivesBody committed body room buffer more after → SaysDone text k after done
    → Gives committed rest size (front ++ buffer) (record { count = k + more; done = done }) (record { text = drop k text; body = after })
both_given committed text body rest front buffer size k room more done after joined is fits first b says =
    let h = halves text body size k is in
    let len : length front ≡ k = ap length first ∙ (let e : length (take size text) ≡ k = grind (arith, length-take, is) in e) in
    let left_is : drop size rest ≡ drop k text ++ drop room body = ap (drop size) joined ∙ h.left ∙ ap (λ n. drop k text ++ drop n body) (sym fits) in
    record {
      count_is = h.count more (b.count_is ∙ ap (min (length body)) fits) ∙ ap (λ (l : List ℕ). min (length l) size) (sym joined);
      given = ap (λ n. take (n + more) (front ++ buffer)) (sym len) ∙ take-append-add front buffer more ∙ ap (λ l. front ++ l) (b.given ∙ ap (λ n. take n body) fits)
          ∙ ap (λ l. l ++ take (size - k) body) first ∙ sym h.given ∙ ap (take size) (sym joined);
      done = elim says [
        | inl (all, e) ↦ e ∙ empty_is committed after (drop room body) b.left
            ∙ sym (nothing_after (drop k text) (drop room body) (drop_of_length-le text (let le : length text ≤ k = omega (arith, all) in le))) ∙ ap is_nothing (sym left_is)
        | inr (part, e) ↦ e ∙ sym (something (drop k text) (drop room body) (λ none. part (let n = ap length none ∙ refl in grind (arith, length-drop, is, n)))) ∙ ap is_nothing (sym left_is)
      ];
      left = record { body = drop room body; body_left = b.left; joined = left_is };
    }
