-- Streams with distinct serials, and their places.
use Rattle.std.proofs.Common.{◌≡◌, ℕ, zero, suc, ◌≤◌, Bool, true, false, List, [], ◌∷◌, ◌++◌, length, map, cond, Option, Some, None, refl, sym, ◌∙◌, ap, subst, arith, inl, inr}
use Rattle.std.specs.Prelude.{nat_eq, nat_lt, slice_get, slice_set, unwrap_or}
use Rattle.std.specs.Option.{option_map_or}
use Rattle.std.specs.List.{AllByRecursion, IsDistinct, position, position_or_len}
use Rattle.std.proofs.lemmas.Bool.{cond-true, cond-false, eqb-true, eqb-false, eq-eqb, ne_eqb, cases_Bool, ltb-false}
use Rattle.std.proofs.lemmas.Option.{slice_get_past}
use Rattle.std.proofs.lemmas.List.Folds.{find_at}
use Rattle.link_chain.specs.declared.stream_state.StreamState.{StreamState}
use Rattle.link_chain.specs.Progress.{stream_in, change_at}
use Rattle.link_chain.specs.Places.{HaveOwnSerials, IsPlace}

abbrev pub serial_in : StreamState → ℕ
serial_in stream = stream.serial

-- none of the streams has this serial
abbrev pub Lacks : ℕ → List StreamState → Type 0
Lacks serial streams = AllByRecursion (λ y. nat_eq serial y ≡ false) (map serial_in streams)

pub lacking_stay : (serial : ℕ) (change : StreamState → StreamState) (streams : List StreamState) → Lacks serial streams →
    map (change_at serial change) streams ≡ streams
lacking_stay serial change [] h = refl
lacking_stay serial change (s ∷ streams) h =
    ap (λ x. x ∷ map (change_at serial change) streams)
    (cond-false (nat_eq s.serial serial) (change s) s (ne_eqb s.serial serial (λ e. eqb-false serial s.serial h.0 (sym e))))
    ∙ ap (λ l. s ∷ l) (lacking_stay serial change streams h.1)

pub not_found : (serial : ℕ) (streams : List StreamState) → stream_in streams serial ≡ None → Lacks serial streams
not_found serial [] e = tt
not_found serial (s ∷ streams) e =
    let parts : (nat_eq s.serial serial ≡ false) × (stream_in streams serial ≡ None) = split (nat_eq s.serial serial) (stream_in streams serial) e in
    (ne_eqb serial s.serial (λ f. eqb-false s.serial serial parts.0 (sym f)), not_found serial streams parts.1)
  where
    split : (b : Bool) (rest : Option StreamState) → cond b (Some s) rest ≡ None → (b ≡ false) × (rest ≡ None)
    split true rest e = cc
    split false rest e = (refl, e)

apart : (t s : StreamState) (streams : List StreamState) (i : ℕ) → Lacks t.serial streams → slice_get streams i ≡ Some s → nat_eq t.serial s.serial ≡ false
apart t s [] i h e = cc
apart t s (u ∷ streams) zero h e = ap (λ (o : Option StreamState). nat_eq t.serial (option_map_or serial_in o 0)) (sym e) ∙ h.0
apart t s (u ∷ streams) (suc i) h e = apart t s streams i h.1 e

-- a stream at any place is the one with its serial
pub found_there : (serial : ℕ) (streams : List StreamState) (i : ℕ) (s : StreamState) → HaveOwnSerials streams → slice_get streams i ≡ Some s →
    s.serial ≡ serial → IsPlace streams serial i
unfolding IsDistinct
found_there serial [] i s d e same = cc
found_there serial (t ∷ streams) zero s d e same =
    sym (cond-true (nat_eq t.serial serial) (Some t) (stream_in streams serial)
    (eq-eqb t.serial serial (ap (λ (o : Option StreamState). option_map_or serial_in o 0) e ∙ same)))
found_there serial (t ∷ streams) (suc i) s d e same =
    found_there serial streams i s d.1 e same
    ∙ sym (cond-false (nat_eq t.serial serial) (Some t) (stream_in streams serial) (ap (nat_eq t.serial) (sym same) ∙ apart t s streams i d.0 e))

-- a change of it is a change at its place
pub changed_there : (serial : ℕ) (change : StreamState → StreamState) (streams : List StreamState) (i : ℕ) (s : StreamState) → HaveOwnSerials streams →
    slice_get streams i ≡ Some s
    → s.serial ≡ serial → map (change_at serial change) streams ≡ slice_set streams i (change s)
unfolding IsDistinct
changed_there serial change [] i s d e same = cc
changed_there serial change (t ∷ streams) zero s d e same =
    let is : t ≡ s = ap (λ (o : Option StreamState). option_map_or (λ (u : StreamState). u) o t) e in
    ap (λ x. x ∷ map (change_at serial change) streams)
    (cond-true (nat_eq t.serial serial) (change t) t (eq-eqb t.serial serial (ap serial_in is ∙ same)) ∙ ap change is)
    ∙ ap (λ l. change s ∷ l) (lacking_stay serial change streams (subst (λ k. Lacks k streams) (ap serial_in is ∙ same) d.0))
changed_there serial change (t ∷ streams) (suc i) s d e same =
    ap (λ x. x ∷ map (change_at serial change) streams)
    (cond-false (nat_eq t.serial serial) (change t) t (ap (nat_eq t.serial) (sym same) ∙ apart t s streams i d.0 e))
    ∙ ap (λ l. t ∷ l) (changed_there serial change streams i s d.1 e same)

found_serial : (serial : ℕ) (streams : List StreamState) (s : StreamState) → stream_in streams serial ≡ Some s → s.serial ≡ serial
found_serial serial [] s e = cc
found_serial serial (t ∷ streams) s e =
    elim (cases_Bool (nat_eq t.serial serial)) [
      | inl yes_so ↦
          ap (λ (o : Option StreamState). option_map_or serial_in o 0) (sym e ∙ cond-true (nat_eq t.serial serial) (Some t) (stream_in streams serial) yes_so)
          ∙ eqb-true t.serial serial yes_so
      | inr not_so ↦ found_serial serial streams s (sym (cond-false (nat_eq t.serial serial) (Some t) (stream_in streams serial) not_so) ∙ e)
    ]

-- the stream at the place of a serial is changed
pub change_one : (serial : ℕ) (change : StreamState → StreamState) (streams : List StreamState) (i : ℕ) (s : StreamState) → HaveOwnSerials streams →
    IsPlace streams serial i
    → slice_get streams i ≡ Some s → map (change_at serial change) streams ≡ slice_set streams i (change s)
change_one serial change streams i s d is e = changed_there serial change streams i s d e (found_serial serial streams s (sym is ∙ e))

-- there is no such stream
pub change_none : (serial : ℕ) (change : StreamState → StreamState) (streams : List StreamState) (i : ℕ) → IsPlace streams serial i → length streams ≤ i
    → map (change_at serial change) streams ≡ streams
change_none serial change streams i is past = lacking_stay serial change streams (not_found serial streams (sym is ∙ slice_get_past streams i past))

-- ---- searching
-- what stands at the hint has the serial
pub hinted : (serial : ℕ) (streams : List StreamState) (i : ℕ) → HaveOwnSerials streams
    → option_map_or (λ (stream : StreamState). nat_eq stream.serial serial) (slice_get streams i) false ≡ true → IsPlace streams serial i
hinted serial streams i d h = by_case (slice_get streams i) refl h
  where
    by_case : (o : Option StreamState) → slice_get streams i ≡ o →
        option_map_or (λ (stream : StreamState). nat_eq stream.serial serial) o false ≡ true → IsPlace streams serial i
    by_case None e h = cc
    by_case (Some s) e h = found_there serial streams i s d e (eqb-true s.serial serial h)

-- the first place at which it stands, or the end
pub first_or_end : (serial : ℕ) (streams : List StreamState) →
    IsPlace streams serial (unwrap_or (position (λ (stream : StreamState). nat_eq stream.serial serial) streams) (length streams))
first_or_end serial streams =
    let test : StreamState → Bool = λ (stream : StreamState). nat_eq stream.serial serial in
    elim (cases_Bool (nat_lt (position_or_len test streams) (length streams))) [
      | inl inside ↦
          ap (λ (o : Option ℕ). slice_get streams (unwrap_or o (length streams)))
          (cond-true (nat_lt (position_or_len test streams) (length streams)) (Some (position_or_len test streams)) None inside)
          ∙ sym (find_at test streams)
      | inr past ↦
          ap (λ (o : Option ℕ). slice_get streams (unwrap_or o (length streams)))
          (cond-false (nat_lt (position_or_len test streams) (length streams)) (Some (position_or_len test streams)) None past)
          ∙ slice_get_past streams (length streams) (omega arith)
          ∙ sym (slice_get_past streams (position_or_len test streams) (ltb-false (position_or_len test streams) (length streams) past))
          ∙ sym (find_at test streams)
    ]

-- ---- serials stay
serial_stays : (serial : ℕ) (change : StreamState → StreamState) (s : StreamState) (b : Bool) → ((s : StreamState) → (change s).serial ≡ s.serial) →
    (cond b (change s) s).serial ≡ s.serial
serial_stays serial change s true keeps = keeps s
serial_stays serial change s false keeps = refl

pub serials_stay : (serial : ℕ) (change : StreamState → StreamState) (streams : List StreamState) → ((s : StreamState) → (change s).serial ≡ s.serial)
    → map serial_in (map (change_at serial change) streams) ≡ map serial_in streams
serials_stay serial change [] keeps = refl
serials_stay serial change (s ∷ streams) keeps =
    ap (λ n. n ∷ map serial_in (map (change_at serial change) streams)) (serial_stays serial change s (nat_eq s.serial serial) keeps)
    ∙ ap (λ l. s.serial ∷ l) (serials_stay serial change streams keeps)

pub own_stay : (serial : ℕ) (change : StreamState → StreamState) (streams : List StreamState) → ((s : StreamState) → (change s).serial ≡ s.serial)
    → HaveOwnSerials streams → HaveOwnSerials (map (change_at serial change) streams)
own_stay serial change streams keeps d = subst (λ l. IsDistinct nat_eq l) (sym (serials_stay serial change streams keeps)) d

-- one more stream, whose serial no other has
pub own_push : (streams : List StreamState) (stream : StreamState) → HaveOwnSerials streams → stream_in streams stream.serial ≡ None →
    HaveOwnSerials (streams ++ stream ∷ [])
unfolding IsDistinct
own_push [] stream d none = (tt, tt)
own_push (s ∷ streams) stream d none =
    let lacks : Lacks stream.serial (s ∷ streams) = not_found stream.serial (s ∷ streams) none in
    let other : nat_eq s.serial stream.serial ≡ false = ne_eqb s.serial stream.serial (λ e. eqb-false stream.serial s.serial lacks.0 (sym e)) in
    let rest : stream_in streams stream.serial ≡ None =
    sym (cond-false (nat_eq s.serial stream.serial) (Some s) (stream_in streams stream.serial) other) ∙ none in
    (pushed s.serial stream streams d.0 other, own_push streams stream d.1 rest)
  where
    pushed : (serial : ℕ) (stream : StreamState) (streams : List StreamState) → Lacks serial streams → nat_eq serial stream.serial ≡ false →
        Lacks serial (streams ++ stream ∷ [])
    pushed serial stream [] h e = (e, tt)
    pushed serial stream (s ∷ streams) h e = (h.0, pushed serial stream streams h.1 e)

pub own_none : HaveOwnSerials []
unfolding IsDistinct
own_none = tt

pub own_one : (stream : StreamState) → HaveOwnSerials (stream ∷ [])
unfolding IsDistinct
own_one stream = (tt, tt)
