-- How long commands wait for their commit, and how an end stays.
use Rattle.std.proofs.Common.{◌≡◌, ◌⊎◌, ◌<◌, ◌≤◌, ◌+◌, ◌-◌, ◌||◌, ◌&&◌, nat_le, nat_lt, ℕ, zero, suc, Bool, true, false, not, Option, None, Some, List, [], ◌∷◌, refl, sym, ◌∙◌, ap, subst, inl, inr, arith}
use Rattle.std.proofs.lemmas.Bool.{cases_Bool, lt-ltb}
use Rattle.std.proofs.lemmas.Bool.Decides.{leb_tells}
use Rattle.disk_model.specs.declared.disk.Disk.{Ghosts as DiskModel}
use Rattle.serve_hub.specs.Parts.{failed_in}
use Rattle.serve_hub.specs.Showing.{Shows}
use Rattle.serve_machine.specs.Hub.{HubState}
use Rattle.station_hub.specs.Patience.{is_due}
use Rattle.station.specs.Clocks.{Clocks, ended_with_input, since_after}
use Rattle.station.specs.Ending.{has_finished}
use Rattle.station.specs.declared.station.Station.{Station}
use Rattle.station_laws.specs.Calling.{Accepted, After, Aside, Call, Closed, EndedOpen, Looked, Next, NextTurn, PeerEnded, ReadFailed, Received, Stepped, Turned, Woken, WriteFailed, Wrote, left_by}
use Rattle.station_laws.specs.Waiting.{AreInTime, IsCommitted, IsInTime, WaitsAt, WaitsOn}

since_some : (waiting old now : ℕ) → 0 < waiting → since_after waiting old now ≡ old
since_some zero old now some = absurd (omega (arith, some))
since_some (suc waiting) old now some = refl

not_due : (waiting since now : ℕ) → waiting ≡ 0 → is_due waiting since now ≡ false
not_due zero since now none = refl
not_due (suc waiting) since now none = absurd (omega (arith, none))

or_right : (a b : Bool) → b ≡ true → (a || b) ≡ true
or_right true b e = refl
or_right false b e = e

both : (a b : Bool) → a ≡ true → b ≡ true → (a && b) ≡ true
both true b e f = f
both false b e f = cc

at_most : (a b : ℕ) → a ≤ b → nat_le a b ≡ true
at_most a b is = elim (leb_tells a b) [
  | inl so ↦ so.0
  | inr other ↦ absurd (omega (arith, is, other.1))
]

due : (waiting since begun now : ℕ) → 0 < waiting → since ≡ begun → begun + 150 ≤ now → is_due waiting since now ≡ true
due waiting since begun now some is late =
    or_right (nat_le 64 waiting) (nat_lt 0 waiting && nat_le 150 (now - since))
    (both (nat_lt 0 waiting) (nat_le 150 (now - since)) (lt-ltb 0 waiting some) (at_most 150 (now - since) (omega (arith, is, late))))

over : (connected : Bool) (since now : ℕ) → since + 60000 ≤ now → has_finished (Some since) false true connected now ≡ true
over connected since now late = or_right (not connected) (nat_le 60000 (now - since)) (at_most 60000 (now - since) (omega (arith, late)))

module _ {D : Type 0} (model : DiskModel D) where
  step_waits : (now : ℕ) (old new : Station D) → IsInTime model (Stepped now) old new → WaitsAt model (Stepped now) old → new.waiting_since ≡ old.waiting_since
  step_waits now old new steps (machine, shows, some) = elim (cases_Bool (failed_in old.live.hub.file)) [
    | inl failed ↦ steps.due machine shows (inl failed)
    | inr works ↦ elim (cases_Bool (is_due machine.waiting old.waiting_since now)) [
      | inl is ↦ steps.due machine shows (inr is)
      | inr isnt ↦ steps.since machine shows works isnt ∙ since_some machine.waiting old.waiting_since now some
    ]
  ]

  call_waits : (call : Call) (old new : Station D) → IsInTime model call old new → WaitsAt model call old → new.waiting_since ≡ old.waiting_since
  call_waits (Stepped now) old new steps waits = step_waits now old new steps waits
  call_waits EndedOpen old new same waits = ap (λ (c : Clocks). c.waiting_since) same
  call_waits Aside old new (inl same) waits = ap (λ (c : Clocks). c.waiting_since) same
  call_waits Aside old new (inr (now, same)) waits = ap (λ (c : Clocks). c.waiting_since) same
  call_waits (Accepted now answer) old new same waits = ap (λ (c : Clocks). c.waiting_since) same
  call_waits (Closed key) old new same waits = ap (λ (c : Clocks). c.waiting_since) same
  call_waits (Received key bytes now) old new same waits = ap (λ (c : Clocks). c.waiting_since) same
  call_waits (PeerEnded key) old new same waits = ap (λ (c : Clocks). c.waiting_since) same
  call_waits (Next key size now count buffer) old new same waits = ap (λ (c : Clocks). c.waiting_since) same
  call_waits (Wrote key bytes count now) old new same waits = ap (λ (c : Clocks). c.waiting_since) same
  call_waits (ReadFailed key trouble) old new same waits = ap (λ (c : Clocks). c.waiting_since) same
  call_waits (WriteFailed key bytes trouble) old new same waits = ap (λ (c : Clocks). c.waiting_since) same
  call_waits (Woken key readable writable) old new same waits = ap (λ (c : Clocks). c.waiting_since) same
  call_waits (NextTurn answer) old new same waits = ap (λ (c : Clocks). c.waiting_since) same
  call_waits (Turned key now) old new same waits = ap (λ (c : Clocks). c.waiting_since) same
  call_waits (Looked now) old new same waits = ap (λ (c : Clocks). c.waiting_since) same

  all_wait : (old : Station D) (calls : List (After D)) → AreInTime model old calls → WaitsOn model old calls → (left_by old calls).waiting_since ≡ old.waiting_since
  all_wait old [] are waits = refl
  all_wait old (one ∷ later) (is, are) (waits, more) = all_wait one.after later are more ∙ call_waits one.call old one.after is waits

  pub no_longer : (old : Station D) (begun now : ℕ) (first last : After D) (later : List (After D)) (before machine : HubState)
      → first.call ≡ Stepped begun → last.call ≡ Stepped now → AreInTime model old (first ∷ later)
      → Shows model old.live.hub before → failed_in old.live.hub.file ≡ false → before.waiting ≡ 0
      → WaitsOn model first.after later → AreInTime model (left_by first.after later) (last ∷ [])
      → Shows model (left_by first.after later).live.hub machine → failed_in (left_by first.after later).live.hub.file ≡ false
      → 0 < machine.waiting → begun + 150 ≤ now → IsCommitted model (left_by first.after later) last.after
  no_longer old begun now first last later before machine first_is last_is (steps, are) shows works none waits (ends, rest) shown goes some late =
      let began = subst (λ (call : Call). IsInTime model call old first.after) first_is steps in
      let at = left_by first.after later in
      let since : at.waiting_since ≡ begun =
      all_wait first.after later are waits ∙ began.since before shows works (not_due before.waiting old.waiting_since begun none)
      ∙ ap (λ (n : ℕ). since_after n old.waiting_since begun) none in
      let end = subst (λ (call : Call). IsInTime model call at last.after) last_is ends in
      end.commits machine shown goes (due machine.waiting at.waiting_since begun now some since late)

still : (ends : Bool) (ending : Option ℕ) (since now : ℕ) → ending ≡ Some since → ended_with_input ends ending now ≡ Some since
still false ending since now is = is
still true None since now is = cc
still true (Some other) since now is = is

module _ {D : Type 0} (model : DiskModel D) where
  call_ends : (call : Call) (old new : Station D) (since : ℕ) → IsInTime model call old new → old.ending ≡ Some since → new.ending ≡ Some since
  call_ends (Stepped at) old new since steps is = steps.rest.1 ∙ is
  call_ends EndedOpen old new since same is = ap (λ (c : Clocks). c.ending) same ∙ is
  call_ends Aside old new since (inl same) is = ap (λ (c : Clocks). c.ending) same ∙ is
  call_ends Aside old new since (inr (at, same)) is =
      ap (λ (c : Clocks). c.ending) same ∙ still old.options.ends_with_input old.ending since at is
  call_ends (Accepted at answer) old new since same is = ap (λ (c : Clocks). c.ending) same ∙ is
  call_ends (Closed key) old new since same is = ap (λ (c : Clocks). c.ending) same ∙ is
  call_ends (Received key bytes at) old new since same is = ap (λ (c : Clocks). c.ending) same ∙ is
  call_ends (PeerEnded key) old new since same is = ap (λ (c : Clocks). c.ending) same ∙ is
  call_ends (Next key size at count buffer) old new since same is = ap (λ (c : Clocks). c.ending) same ∙ is
  call_ends (Wrote key bytes count at) old new since same is = ap (λ (c : Clocks). c.ending) same ∙ is
  call_ends (ReadFailed key trouble) old new since same is = ap (λ (c : Clocks). c.ending) same ∙ is
  call_ends (WriteFailed key bytes trouble) old new since same is = ap (λ (c : Clocks). c.ending) same ∙ is
  call_ends (Woken key readable writable) old new since same is = ap (λ (c : Clocks). c.ending) same ∙ is
  call_ends (NextTurn answer) old new since same is = ap (λ (c : Clocks). c.ending) same ∙ is
  call_ends (Turned key at) old new since same is = ap (λ (c : Clocks). c.ending) same ∙ is
  call_ends (Looked at) old new since same is = ap (λ (c : Clocks). c.ending) same ∙ is

  pub stays : (old : Station D) (since : ℕ) (calls : List (After D)) → old.ending ≡ Some since → AreInTime model old calls
      → (left_by old calls).ending ≡ Some since
  stays old since [] is are = is
  stays old since (one ∷ later) is (first, are) = stays one.after since later (call_ends one.call old one.after since first is) are

  pub finishes : (old : Station D) (since now : ℕ) (calls : List (After D)) (connected : Bool)
      → old.ending ≡ Some since → AreInTime model old calls → since + 60000 ≤ now
      → has_finished (left_by old calls).ending false true connected now ≡ true
  finishes old since now calls connected is are late =
      subst (λ (ending : Option ℕ). has_finished ending false true connected now ≡ true) (sym (stays old since calls is are))
      (over connected since now late)
