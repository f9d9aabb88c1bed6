-- How far a session's response has been written.
use Rattle.std.proofs.Common.{◌≡◌, ◌⊎◌, ℕ, ◌+◌, ◌*◌, ◌<◌, ◌≤◌, suc, Bool, Option, Some, None, Ok, Err, List, [], ◌++◌, length, take, drop, refl, sym, ◌∙◌, ap, subst, inl, inr, arith, append_assoc, length-append}
use Rattle.std.specs.Io.KnownBytes.{Appends, Consumes}
use Rattle.std.proofs.KnownBytes.{Appends-nil, Appends-trans}
use Rattle.std.proofs.lemmas.List.{take_at, take-append-drop, take-append-le, length-take-le, length-drop}
use Rattle.std.proofs.Math.Seq.{take-append-add}
use Rattle.ogg_page.specs.Output.{WritesPrefix}
use Rattle.serve_responses.specs.Response.{IsResponse}
use Rattle.serve_machine.specs.Hub.{HubState, Sending, phase_of}
use Rattle.serve_machine.specs.declared.fault.HubFault.{HubFault}
use Rattle.ogg_serve.specs.declared.pieces.Served.{Served}
use Rattle.ogg_serve.specs.declared.pieces.Served.TheVariants.{Whole, NoHead, Cut}
use Rattle.ogg_serve.specs.Pieces.{HasHead, HasRead, HasSent, HasTried, piece}
use Rattle.ogg_serve.specs.Serving.{Gets, GetsWhole, GetsFront, HasTriedAll, IsCut, MayMeet}
use Rattle.ogg_serve.specs.Steps.{AreIn, GetsIn, StopsIn}
use Rattle.ogg_serve.proofs.Faults.{may_meet}
use Rattle.ogg_serve.proofs.Written.{prefix_of_all}

-- these bytes were written, and the rest is left
pub record IsSending (id : ℕ) (coming left : Option (List ℕ)) (old new : Option (List ℕ)) (before now : HubState) : Type 0 where
  pub received : List ℕ
  pub written : List ℕ
  pub rest : List ℕ
  pub read : Consumes coming left received
  pub is_response : IsResponse before.committed received (written ++ rest)
  pub wrote : Appends old new written
  pub phase : phase_of now id ≡ Some (Sending rest)

pub at_first : (id : ℕ) (coming left : Option (List ℕ)) (old : Option (List ℕ)) (before now : HubState) → HasHead coming left id before.committed now
    → IsSending id coming left old old before now
at_first id coming left old before now head =
    record { received = head.received; written = []; rest = head.response; read = head.read; is_response = head.is_response; wrote = Appends-nil old; phase = head.phase }

pub more : (id : ℕ) (coming left : Option (List ℕ)) (old mid new : Option (List ℕ)) (before now after : HubState) → (s : IsSending id coming left old mid before now)
    → Appends mid new (take piece s.rest) → phase_of after id ≡ Some (Sending (drop piece s.rest)) → IsSending id coming left old new before after
more id coming left old mid new before now after s wrote phase =
    let whole : s.written ++ s.rest ≡ (s.written ++ take piece s.rest) ++ drop piece s.rest =
    ap (λ (l : List ℕ). s.written ++ l) (sym (take-append-drop piece s.rest)) ∙ sym (append_assoc s.written (take piece s.rest) (drop piece s.rest)) in
    record {
      received = s.received;
      written = s.written ++ take piece s.rest;
      rest = drop piece s.rest;
      read = s.read;
      is_response = subst (λ (l : List ℕ). IsResponse before.committed s.received l) whole s.is_response;
      wrote = Appends-trans old mid new s.written (take piece s.rest) s.wrote wrote;
      phase = phase;
    }

pub whole : (id : ℕ) (coming left : Option (List ℕ)) (old mid new : Option (List ℕ)) (before now : HubState) → (s : IsSending id coming left old mid before now)
    → Appends mid new s.rest → GetsWhole coming left old new before.committed
whole id coming left old mid new before now s wrote =
    record { received = s.received; response = s.written ++ s.rest; read = s.read; is_response = s.is_response; written = Appends-trans old mid new s.written s.rest s.wrote wrote }

-- a prefix of the rest was written
pub front : (id : ℕ) (coming left : Option (List ℕ)) (old mid new : Option (List ℕ)) (before now : HubState) → (s : IsSending id coming left old mid before now)
    → WritesPrefix mid new s.rest → GetsFront coming left old new before.committed
front id coming left old mid new before now s (n, low, wrote) =
    record {
      received = s.received;
      read = s.read;
      written = inr (
        s.written ++ s.rest,
        s.is_response,
        (
          length s.written + n,
          omega (arith, low, length-append s.written s.rest),
          subst (Appends old new) (sym (take-append-add s.written s.rest n)) (Appends-trans old mid new s.written (take n s.rest) s.wrote wrote),
        ),
      );
    }

-- nothing more was written
pub stopped : (id : ℕ) (coming left : Option (List ℕ)) (old mid : Option (List ℕ)) (before now : HubState) → (s : IsSending id coming left old mid before now)
    → GetsFront coming left old mid before.committed
stopped id coming left old mid before now s = front id coming left old mid mid before now s (0, omega arith, Appends-nil mid)

-- nothing of the response changes while the session stays in its phase
pub later : (id : ℕ) (coming left : Option (List ℕ)) (old new : Option (List ℕ)) (before now after : HubState) → (s : IsSending id coming left old new before now)
    → phase_of after id ≡ phase_of now id → IsSending id coming left old new before after
later id coming left old new before now after s same = record {
  received = s.received;
  written = s.written;
  rest = s.rest;
  read = s.read;
  is_response = s.is_response;
  wrote = s.wrote;
  phase = same ∙ s.phase;
}

-- ---- how a connection has ended
pub by_head : (id : ℕ) (coming left : Option (List ℕ)) (old : Option (List ℕ)) (before after : HubState) (has_file : Bool) (served : Served)
    → HasRead coming left id before.committed after (Ok (Some served)) → Gets coming left old old has_file before.committed (Ok served)
by_head id coming left old before after has_file Whole has = absurd has
by_head id coming left old before after has_file NoHead has =
    record { received = has.received; read = has.read; no_head = has.no_head; ended = has.ended; written = refl }
by_head id coming left old before after has_file Cut has = record { received = has.0; read = has.1; written = inl refl }

pub by_piece : (id : ℕ) (coming left : Option (List ℕ)) (old mid new : Option (List ℕ)) (before now after : HubState) (has_file : Bool) (served : Served)
    → (s : IsSending id coming left old mid before now) → HasSent mid new id s.rest after (Ok (Some served))
    → Gets coming left old new has_file before.committed (Ok served)
by_piece id coming left old mid new before now after has_file Whole s sent = whole id coming left old mid new before now s sent.0
by_piece id coming left old mid new before now after has_file NoHead s sent = absurd sent
by_piece id coming left old mid new before now after has_file Cut s sent =
    front id coming left old mid new before now s (prefix_of_all mid new piece (take piece s.rest) s.rest refl sent)

-- by a fault of the hub
pub by_head_fault : (id : ℕ) (coming left : Option (List ℕ)) (old : Option (List ℕ)) (before after : HubState) (has_file : Bool) (fault : HubFault)
    → after.has_file ≡ has_file → HasRead coming left id before.committed after (Err fault)
    → MayMeet has_file fault × GetsFront coming left old old before.committed
by_head_fault id coming left old before after has_file fault same has = (
  subst (λ (b : Bool). MayMeet b fault) same (may_meet fault after.has_file (phase_of after id) has.0),
  record { received = has.1.0; read = has.1.1; written = inl refl },
)

pub by_fault : (id : ℕ) (coming left : Option (List ℕ)) (old mid new : Option (List ℕ)) (before now after : HubState) (has_file : Bool) (fault : HubFault)
    → after.has_file ≡ has_file → (s : IsSending id coming left old mid before now) → HasSent mid new id s.rest after (Err fault)
    → MayMeet has_file fault × GetsFront coming left old new before.committed
by_fault id coming left old mid new before now after has_file fault same s sent = (
  subst (λ (b : Bool). MayMeet b fault) same (may_meet fault after.has_file (phase_of after id) sent.0),
  subst (λ (o : Option (List ℕ)). GetsFront coming left old o before.committed) (sym sent.2) (stopped id coming left old mid before now s),
)

-- ---- in how many pieces
pub one_more : (n : ℕ) (written rest : List ℕ) → length written ≡ n * piece → piece < length rest
    → length (written ++ take piece rest) ≡ suc n * piece
one_more n written rest long more_is_left =
    omega (arith, long, more_is_left, length-append written (take piece rest), length-take-le piece rest (omega (arith, more_is_left)))

pub some_is_left : (rest : List ℕ) → piece < length rest → 0 < length (drop piece rest)
some_is_left rest more_is_left = omega (arith, more_is_left, length-drop piece rest)

are_in : (n : ℕ) (written rest : List ℕ) → length written ≡ n * piece → (n ≡ 0) ⊎ (0 < length rest) → length rest ≤ piece
    → AreIn (suc n) (length (written ++ rest))
are_in n written rest long (inl none) short = (omega (arith, long, short, length-append written rest), inl (ap suc none))
are_in n written rest long (inr some) short =
    (omega (arith, long, short, length-append written rest), inr (omega (arith, long, some, length-append written rest)))

-- this number of full pieces was written, and the rest is left
pub record IsSendingIn (n : ℕ) (id : ℕ) (coming left : Option (List ℕ)) (old new : Option (List ℕ)) (before now : HubState) : Type 0 where
  pub sending : IsSending id coming left old new before now
  pub long : length sending.written ≡ n * piece
  pub some : (n ≡ 0) ⊎ (0 < length sending.rest)

-- a prefix of the next piece was written
front_in : (n id : ℕ) (coming left : Option (List ℕ)) (old mid new : Option (List ℕ)) (before now : HubState) → (s : IsSendingIn n id coming left old mid before now)
    → WritesPrefix mid new (take piece s.sending.rest) → StopsIn coming left old new (suc n) before.committed
front_in n id coming left old mid new before now s (k, low, wrote) =
    let written : List ℕ = s.sending.written in
    let rest : List ℕ = s.sending.rest in
    let long : length (take piece rest) + length (drop piece rest) ≡ length rest =
    sym (length-append (take piece rest) (drop piece rest)) ∙ ap (λ (l : List ℕ). length l) (take-append-drop piece rest) in
    let left_is = length-drop piece rest in
    let same : take k (take piece rest) ≡ take k rest =
    sym (take-append-le k (take piece rest) (drop piece rest) low) ∙ ap (take k) (take-append-drop piece rest) in
    record {
      received = s.sending.received;
      read = s.sending.read;
      written = inr (
        written ++ rest,
        length written + k,
        s.sending.is_response,
        omega (arith, low, long, length-append written rest),
        subst (Appends old new) (sym (take-append-add written rest k))
            (Appends-trans old mid new written (take k rest) s.sending.wrote (subst (Appends mid new) same wrote)),
        (omega arith, omega (arith, s.long), omega (arith, s.long, low, long, left_is)),
      );
    }

pub at_first_in : (id : ℕ) (coming left : Option (List ℕ)) (old : Option (List ℕ)) (before now : HubState)
    → HasHead coming left id before.committed now
    → IsSendingIn 0 id coming left old old before now
unfolding at_first
at_first_in id coming left old before now head = record { sending = at_first id coming left old before now head; long = refl; some = inl refl }

pub more_in : (n id : ℕ) (coming left : Option (List ℕ)) (old mid new : Option (List ℕ)) (before now after : HubState)
    → (s : IsSendingIn n id coming left old mid before now)
    → HasSent mid new id s.sending.rest after (Ok None) → IsSendingIn (n + 1) id coming left old new before after
unfolding more
more_in n id coming left old mid new before now after s sent = record {
  sending = more id coming left old mid new before now after s.sending sent.0 sent.1;
  long = omega (arith, one_more n s.sending.written s.sending.rest s.long sent.2);
  some = inr (some_is_left s.sending.rest sent.2);
}

pub by_piece_in : (n id : ℕ) (coming left : Option (List ℕ)) (old mid new : Option (List ℕ)) (before now after : HubState) (has_file : Bool) (served : Served)
    → (s : IsSendingIn n id coming left old mid before now) → HasSent mid new id s.sending.rest after (Ok (Some served))
    → GetsIn coming left old new (suc n) has_file before.committed (Ok served)
unfolding whole
by_piece_in n id coming left old mid new before now after has_file Whole s sent =
    (whole id coming left old mid new before now s.sending sent.0, are_in n s.sending.written s.sending.rest s.long s.some sent.1)
by_piece_in n id coming left old mid new before now after has_file NoHead s sent = absurd sent
by_piece_in n id coming left old mid new before now after has_file Cut s sent = front_in n id coming left old mid new before now s sent

pub by_head_in : (id : ℕ) (coming left : Option (List ℕ)) (old : Option (List ℕ)) (before after : HubState) (has_file : Bool) (served : Served)
    → HasRead coming left id before.committed after (Ok (Some served)) → GetsIn coming left old old 0 has_file before.committed (Ok served)
by_head_in id coming left old before after has_file Whole has = absurd has
by_head_in id coming left old before after has_file NoHead has = (record { received = has.received; read = has.read; no_head = has.no_head; ended = has.ended; written = refl }, refl)
by_head_in id coming left old before after has_file Cut has = record { received = has.0; read = has.1; written = inl (refl, refl) }

-- by a fault of the hub
pub by_head_fault_in : (id : ℕ) (coming left : Option (List ℕ)) (old : Option (List ℕ)) (before after : HubState) (fault : HubFault)
    → HasRead coming left id before.committed after (Err fault) → GetsIn coming left old old 0 after.has_file before.committed (Err fault)
by_head_fault_in id coming left old before after fault has = (
  may_meet fault after.has_file (phase_of after id) has.0,
  record { received = has.1.0; read = has.1.1; written = inl (refl, refl) },
)

pub by_fault_in : (n id : ℕ) (coming left : Option (List ℕ)) (old mid new : Option (List ℕ)) (before now after : HubState) (fault : HubFault)
    → (s : IsSendingIn n id coming left old mid before now) → HasSent mid new id s.sending.rest after (Err fault)
    → GetsIn coming left old new (suc n) after.has_file before.committed (Err fault)
by_fault_in n id coming left old mid new before now after fault s sent = (
  may_meet fault after.has_file (phase_of after id) sent.0,
  subst (λ (o : Option (List ℕ)). StopsIn coming left old o (suc n) before.committed) (sym sent.2)
      (front_in n id coming left old mid mid before now s (0, omega arith, Appends-nil mid)),
)

-- all these pieces are full, and the response isn't whole
pub ended_in : (n id : ℕ) (coming left : Option (List ℕ)) (old mid : Option (List ℕ)) (before now : HubState) → (s : IsSendingIn n id coming left old mid before now)
    → 1 ≤ n → StopsIn coming left old mid n before.committed
ended_in n id coming left old mid before now s some =
    let written : List ℕ = s.sending.written in
    let rest : List ℕ = s.sending.rest in
    record {
      received = s.sending.received;
      read = s.sending.read;
      written = inr (
        written ++ rest,
        length written,
        s.sending.is_response,
        omega (arith, length-append written rest),
        subst (Appends old mid) (sym (take_at written rest (length written) refl)) s.sending.wrote,
        (some, omega (arith, s.long), omega (arith, s.long)),
      );
    }

pub later_in : (n id : ℕ) (coming left : Option (List ℕ)) (old new : Option (List ℕ)) (before now after : HubState)
    → (s : IsSendingIn n id coming left old new before now)
    → phase_of after id ≡ phase_of now id → IsSendingIn n id coming left old new before after
unfolding later
later_in n id coming left old new before now after s same =
    record { sending = later id coming left old new before now after s.sending same; long = s.long; some = s.some }

-- the same, with an answer that is equal
pub read_as : (coming left : Option (List ℕ)) (id : ℕ) (committed : List ℕ) (after : HubState) (some other : Option Served) → some ≡ other
    → HasRead coming left id committed after (Ok some) → HasRead coming left id committed after (Ok other)
read_as coming left id committed after some other e has = subst (λ (o : Option Served). HasRead coming left id committed after (Ok o)) e has

pub sent_as : (old new : Option (List ℕ)) (id : ℕ) (rest : List ℕ) (after : HubState) (some other : Option Served) → some ≡ other
    → HasSent old new id rest after (Ok some) → HasSent old new id rest after (Ok other)
sent_as old new id rest after some other e sent = subst (λ (o : Option Served). HasSent old new id rest after (Ok o)) e sent

-- ---- which calls have failed
pub tried_all : (failed : Bool) (committed : List ℕ) (served : Served) → HasTried failed (Ok (Some served)) → HasTriedAll failed committed (Ok served)
tried_all failed committed Whole tried = tried
tried_all failed committed NoHead tried = tried
tried_all failed committed Cut tried = inl tried

-- the same, with an answer that is equal
pub tried_as : (failed : Bool) (some other : Option Served) → some ≡ other → HasTried failed (Ok some) → HasTried failed (Ok other)
tried_as failed some other e tried = subst (λ (o : Option Served). HasTried failed (Ok o)) e tried

-- after so many pieces the response is longer than any file
pub too_long : (n id : ℕ) (failed : Bool) (coming left : Option (List ℕ)) (old new : Option (List ℕ)) (before now : HubState)
    → (s : IsSendingIn n id coming left old new before now) → n ≡ 4503599627370496 → IsCut failed before.committed
too_long n id failed coming left old new before now s all =
    let size = length-append s.sending.written s.sending.rest in
    inr (s.sending.received, s.sending.written ++ s.sending.rest, s.sending.is_response, omega (arith, s.long, all, size))
