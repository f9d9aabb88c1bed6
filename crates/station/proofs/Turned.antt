-- Whether another turn follows.
use Rattle.std.proofs.Common.{◌≡◌, ◌⊎◌, ℕ, Bool, true, false, not, ◌&&◌, ◌||◌, Option, refl, sym, ◌∙◌, ap, inl, inr}
use Rattle.std.proofs.lemmas.Bool.{cases_Bool}
use Rattle.serve_clients.specs.Client.{ClientState, after_of, with_line, with_stage}
use Rattle.serve_clients.specs.Line.{read_failed_by}
use Rattle.serve_clients.specs.declared.client.Stage.{Stage}
use Rattle.serve_clients.specs.declared.client.Stage.TheVariants.{Asking, Offering, Waiting, Reading, Sending, Hearing, Ending, Closing, Cut}
use Rattle.serve_clients.specs.declared.line.Line.{Line}
use Rattle.serve_clients.specs.declared.line.Trouble.TheVariants.{Blocked}
use Rattle.serve_clients.specs.Clients.{goes_again, is_shut}
use Rattle.serve_clients.specs.declared.client.After.{After}
use Rattle.serve_clients.specs.declared.client.After.TheVariants.{Goes, Shuts, Closes}
use Rattle.station.specs.Turning.{GoesOn, IsRead, half_closed, stage_at_half_close}
use Rattle.station_sources.specs.declared.air.OnAir.{OnAir}

false_true : false ≡ true → ⊥
false_true e = cc

or_right : (a b : Bool) → b ≡ true → (a || b) ≡ true
or_right true b e = refl
or_right false b e = e

or_cases : (a b : Bool) → (a || b) ≡ true → (a ≡ true) ⊎ (b ≡ true)
or_cases true b e = inl refl
or_cases false b e = inr e

shut_is : (after : After) → is_shut after ≡ true → after ≡ Shuts
shut_is Goes e = absurd (false_true e)
shut_is Shuts e = refl
shut_is Closes e = absurd (false_true e)

and_cases : (a b : Bool) → (a && not b) ≡ true → (a ≡ true) × (b ≡ false)
and_cases true false e = (refl, refl)
and_cases true true e = absurd (false_true e)
and_cases false b e = absurd (false_true e)

pub goes_on : (key : ℕ) (waiting : Bool) (client : ClientState) (air : Option OnAir) (reads : Bool) → (reads ≡ false → IsRead key client air → ⊥)
    → GoesOn key waiting client air → goes_again reads waiting client ≡ true
goes_on key waiting client air reads unread (inl (moved, isnt)) =
    ap (λ (m : Bool). (m && not waiting) || (is_shut (after_of client) || reads)) moved ∙ ap (λ (w : Bool). not w || (is_shut (after_of client) || reads)) isnt
goes_on key waiting client air reads unread (inr (inl shuts)) =
    or_right (client.line.moved && not waiting) (is_shut (after_of client) || reads) (ap (λ (after : After). is_shut after || reads) shuts)
goes_on key waiting client air reads unread (inr (inr read)) = elim (cases_Bool reads) [
  | inl is ↦ or_right (client.line.moved && not waiting) (is_shut (after_of client) || reads) (or_right (is_shut (after_of client)) reads is)
  | inr isnt ↦ absurd (unread isnt read)
]

pub rests : (key : ℕ) (waiting : Bool) (client : ClientState) (air : Option OnAir) (reads : Bool) → (reads ≡ true → IsRead key client air)
    → (GoesOn key waiting client air → ⊥) → goes_again reads waiting client ≡ false
rests key waiting client air reads read over = elim (cases_Bool (goes_again reads waiting client)) [
  | inl goes ↦ elim (or_cases (client.line.moved && not waiting) (is_shut (after_of client) || reads) goes) [
    | inl moved ↦ absurd (over (inl (and_cases client.line.moved waiting moved)))
    | inr other ↦ elim (or_cases (is_shut (after_of client)) reads other) [
      | inl shuts ↦ absurd (over (inr (inl (shut_is (after_of client) shuts))))
      | inr is ↦ absurd (over (inr (inr (read is))))
    ]
  ]
  | inr rest ↦ rest
]

-- ---- a peer that sends no more
pub goes_at : (stage : Stage) → (stage ≡ Waiting) ⊎ ((stage ≡ Sending) ⊎ ((stage ≡ Ending) ⊎ (stage ≡ Cut))) → stage_at_half_close stage ≡ stage
goes_at stage (inl is) = ap stage_at_half_close is ∙ sym is
goes_at stage (inr (inl is)) = ap stage_at_half_close is ∙ sym is
goes_at stage (inr (inr (inl is))) = ap stage_at_half_close is ∙ sym is
goes_at stage (inr (inr (inr is))) = ap stage_at_half_close is ∙ sym is

pub cuts_at : (stage : Stage) → (stage ≡ Asking) ⊎ ((stage ≡ Offering) ⊎ ((stage ≡ Reading) ⊎ ((stage ≡ Hearing) ⊎ (stage ≡ Closing))))
    → stage_at_half_close stage ≡ Cut
cuts_at stage (inl is) = ap stage_at_half_close is
cuts_at stage (inr (inl is)) = ap stage_at_half_close is
cuts_at stage (inr (inr (inl is))) = ap stage_at_half_close is
cuts_at stage (inr (inr (inr (inl is)))) = ap stage_at_half_close is
cuts_at stage (inr (inr (inr (inr is)))) = ap stage_at_half_close is

unread : ClientState → ClientState
unread client = with_line (read_failed_by Blocked client.line) client

pub half_goes : (client new : ClientState) (line : Line) → line ≡ read_failed_by Blocked client.line → new ≡ with_line line client
    → stage_at_half_close client.stage ≡ client.stage → new ≡ half_closed client
unfolding unread
half_goes client new line is becomes same =
    becomes ∙ ap (λ (one : Line). with_line one client) is ∙ ap (λ (stage : Stage). with_stage stage (unread client)) (sym same)

pub half_gone : (client mid new : ClientState) (line : Line) → line ≡ read_failed_by Blocked client.line → mid ≡ with_line line client
    → new ≡ with_stage Cut mid → stage_at_half_close client.stage ≡ Cut → new ≡ half_closed client
unfolding unread
half_gone client mid new line is becomes cuts at =
    cuts ∙ ap (with_stage Cut) (becomes ∙ ap (λ (one : Line). with_line one client) is) ∙ ap (λ (stage : Stage). with_stage stage (unread client)) (sym at)
