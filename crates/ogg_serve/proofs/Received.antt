-- How far the head of a session's request has come.
use Rattle.std.proofs.Common.{◌≡◌, ◌+◌, ◌≤◌, ℕ, Option, Some, Ok, List, [], ◌++◌, length, refl, sym, ◌∙◌, ap, subst, inl, inr, arith, append-nil, length-append}
use Rattle.std.specs.Io.KnownBytes.{Consumes, IsAtEnd}
use Rattle.std.proofs.KnownBytes.{Consumes-nil, Consumes-trans}
use Rattle.serve_responses.specs.Response.{IsResponse}
use Rattle.serve_machine.specs.declared.answers.Progress.{Progress}
use Rattle.serve_machine.specs.declared.answers.Progress.TheVariants.{More, Ready}
use Rattle.serve_machine.specs.Hub.{HubState, Reading, Receive, hub_step, phase_of}
use Rattle.serve_machine.specs.Own.{HasReceived}
use Rattle.ogg_serve.specs.Pieces.{HasHead, HasEnded, HasReadSome}
use Rattle.ogg_serve.specs.Keeping.{OnlyServes}
use Rattle.ogg_serve.specs.Serving.{HasNoHead}
use Rattle.ogg_serve.proofs.Moves.{none, both, committed_is}

-- these bytes were received, and more of the head has to come
pub record IsReading (id : ℕ) (coming left : Option (List ℕ)) (before now : HubState) : Type 0 where
  pub received : List ℕ
  pub only : OnlyServes id before now
  pub read : Consumes coming left received
  pub phase : phase_of now id ≡ Some (Reading received)
  pub no_head : HasNoHead received

pub at_first : (id : ℕ) (coming : Option (List ℕ)) (before : HubState) → phase_of before id ≡ Some (Reading []) → IsReading id coming coming before before
at_first id coming before phase =
    record { received = []; only = none id before; read = Consumes-nil coming; phase = phase; no_head = inl refl }

-- another piece
pub more : (id : ℕ) (coming left next : Option (List ℕ)) (before now after : HubState) (piece : List ℕ) → (r : IsReading id coming left before now)
    → Consumes left next piece → OnlyServes id now after → HasReceived now id (r.received ++ piece) More after → IsReading id coming next before after
more id coming left next before now after piece r read only has =
    record {
      received = r.received ++ piece;
      only = both id before now after r.only only;
      read = Consumes-trans coming left next r.received piece r.read read;
      phase = has.1;
      no_head = inr has.0;
    }

-- and how many bytes these are at least, if the piece has one
pub longer : (n id : ℕ) (coming left next : Option (List ℕ)) (before now after : HubState) (piece : List ℕ) → (r : IsReading id coming left before now)
    → Consumes left next piece → OnlyServes id now after → HasReceived now id (r.received ++ piece) More after → n ≤ length r.received → 1 ≤ length piece
    → (s : IsReading id coming next before after) × (n + 1 ≤ length s.received)
unfolding more
longer n id coming left next before now after piece r read only has many some =
    (more id coming left next before now after piece r read only has, omega (arith, many, some, length-append r.received piece))

-- the head is complete
pub ready : (id : ℕ) (coming left next : Option (List ℕ)) (before now after : HubState) (piece : List ℕ) → (r : IsReading id coming left before now)
    → Consumes left next piece → HasReceived now id (r.received ++ piece) Ready after → HasHead coming next id before.committed after
ready id coming left next before now after piece r read has =
    record {
      received = r.received ++ piece;
      response = has.0;
      read = Consumes-trans coming left next r.received piece r.read read;
      is_response = subst (λ (bytes : List ℕ). IsResponse bytes (r.received ++ piece) has.0) (committed_is id before now r.only) has.1;
      phase = has.2;
    }

-- a head of so many bytes is complete
pub never_so_long : (n : ℕ) (received : List ℕ) → HasNoHead received → n ≤ length received → n ≡ 8192 → ⊥
never_so_long n received (inl none) le all =
    let long : length received ≡ 0 = ap length none in absurd (omega (arith, le, all, long))
never_so_long n received (inr awaited) le all = absurd (omega (arith, le, all, awaited.short))

pub ended : (id : ℕ) (coming left next : Option (List ℕ)) (before now : HubState) (piece : List ℕ) → (r : IsReading id coming left before now)
    → Consumes left next piece → piece ≡ [] → IsAtEnd next → HasEnded coming next
ended id coming left next before now piece r read nothing at_end =
    record {
      received = r.received ++ piece;
      read = Consumes-trans coming left next r.received piece r.read read;
      no_head = subst HasNoHead (sym (ap (λ (l : List ℕ). r.received ++ l) nothing ∙ append-nil r.received)) r.no_head;
      ended = at_end;
    }

pub some_read : (id : ℕ) (coming left next : Option (List ℕ)) (before now : HubState) (piece : List ℕ) → (r : IsReading id coming left before now)
    → Consumes left next piece → HasReadSome coming next
some_read id coming left next before now piece r read = (r.received ++ piece, Consumes-trans coming left next r.received piece r.read read)

-- the same step, with an answer that is equal
pub taken : (old new : HubState) (id : ℕ) (bytes : List ℕ) (some other : Progress) → some ≡ other
    → hub_step old (Receive id bytes (Ok some)) new → hub_step old (Receive id bytes (Ok other)) new
taken old new id bytes some other e step = subst (λ (progress : Progress). hub_step old (Receive id bytes (Ok progress)) new) e step
