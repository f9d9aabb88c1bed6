-- What one piece of a session reads or writes. Ours.
use Rattle.std.specs.Prelude.{◌≡◌, ◌≢◌, ℕ, Bool, true, false, Option, Some, None, IsSome, Result, Ok, Err, List, take, drop, length, ◌<◌, ◌≤◌}
use Rattle.std.specs.Io.KnownBytes.{Appends, Consumes, IsAtEnd}
use Rattle.ogg_page.specs.Output.{WritesPrefix}
use Rattle.serve_responses.specs.Response.{IsResponse}
use Rattle.serve_machine.specs.declared.fault.HubFault.{HubFault}
use Rattle.serve_machine.specs.declared.fault.HubFault.TheVariants.{NoSession, SessionsFull, Source, Memory, NoFile}
use Rattle.serve_machine.specs.Hub.{HubState, Phase, Sending, phase_of}
use Rattle.ogg_serve.specs.Serving.{HasNoHead}
use Rattle.ogg_serve.specs.declared.pieces.Served.{Served}
use Rattle.ogg_serve.specs.declared.pieces.Served.TheVariants.{Whole, NoHead, Cut}

-- the greatest number of bytes of a piece
abbrev pub piece : ℕ
piece = 4096

-- What a fault of the hub has left, by whether the hub has a file and by the phase of the session: `Source` has ended
-- the session, and after any other it is there.
abbrev pub LeftBy : HubFault → Bool → Option Phase → Type 0
LeftBy NoSession has_file phase = ⊥
LeftBy SessionsFull has_file phase = ⊥
LeftBy NoFile has_file phase = (has_file ≡ false) × IsSome phase
LeftBy Source has_file phase = (has_file ≡ true) × (phase ≡ None)
LeftBy Memory has_file phase = (has_file ≡ true) × IsSome phase

-- `coming` and `left` are the bytes that the reader shows before and after.
module _ (coming left : Option (List ℕ)) where
  -- A head was read, and its response over the committed bytes is fixed.
  pub record HasHead (id : ℕ) (committed : List ℕ) (after : HubState) : Type 0 where
    pub received : List ℕ
    pub response : List ℕ
    pub read : Consumes coming left received
    pub is_response : IsResponse committed received response
    pub phase : phase_of after id ≡ Some (Sending response)

  -- The reader came to its end before the head did.
  pub record HasEnded : Type 0 where
    pub received : List ℕ
    pub read : Consumes coming left received
    pub no_head : HasNoHead received
    pub ended : IsAtEnd left

  -- some bytes were read
  abbrev pub HasReadSome : Type 0
  HasReadSome = (received : List ℕ) × Consumes coming left received

  abbrev pub HasRead : ℕ → List ℕ → HubState → Result (Option Served) HubFault → Type 0
  HasRead id committed after (Ok None) = HasHead id committed after
  HasRead id committed after (Ok (Some Whole)) = ⊥
  HasRead id committed after (Ok (Some NoHead)) = HasEnded
  HasRead id committed after (Ok (Some Cut)) = HasReadSome
  HasRead id committed after (Err fault) = LeftBy fault after.has_file (phase_of after id) × HasReadSome

-- whether a call on the reader or on the writer has failed: exactly if the connection is cut
abbrev pub HasTried : Bool → Result (Option Served) HubFault → Type 0
HasTried failed (Ok (Some Cut)) = failed ≡ true
HasTried failed result = failed ≡ false

-- `old` and `new` are the bytes that the writer shows before and after. Of what was left of the response a full piece
-- was written, and more is left; or all of it was written; or a front of the piece.
abbrev pub HasSent : (old new : Option (List ℕ)) → ℕ → List ℕ → HubState → Result (Option Served) HubFault → Type 0
HasSent old new id rest after (Ok None) = Appends old new (take piece rest) × (phase_of after id ≡ Some (Sending (drop piece rest)))
    × (piece < length rest)
HasSent old new id rest after (Ok (Some Whole)) = Appends old new rest × (length rest ≤ piece)
HasSent old new id rest after (Ok (Some NoHead)) = ⊥
HasSent old new id rest after (Ok (Some Cut)) = WritesPrefix old new (take piece rest)
HasSent old new id rest after (Err fault) = LeftBy fault after.has_file (phase_of after id) × (fault ≢ Memory) × (new ≡ old)
