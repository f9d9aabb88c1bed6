-- What one connection gets. Ours.
use Rattle.std.specs.Prelude.{◌≡◌, ◌⊎◌, ◌≤◌, ◌^◌, ℕ, Bool, true, false, Option, Result, Ok, Err, List, [], length}
use Rattle.std.specs.Io.KnownBytes.{Appends, Consumes, IsAtEnd}
use Rattle.ogg_http.specs.Head.{IsAwaited}
use Rattle.ogg_page.specs.Output.{WritesPrefix}
use Rattle.serve_responses.specs.Response.{IsResponse}
use Rattle.serve_machine.specs.declared.fault.HubFault.{HubFault}
use Rattle.serve_machine.specs.declared.fault.HubFault.TheVariants.{NoSession, SessionsFull, NoFile}
use Rattle.ogg_serve.specs.declared.pieces.Served.{Served}
use Rattle.ogg_serve.specs.declared.pieces.Served.TheVariants.{Whole, NoHead, Cut}

-- ---- what is read and written
-- A fault that a session may get, if the hub has a file or if it has none: `NoFile` comes exactly without one.
abbrev pub MayMeet : Bool → HubFault → Type 0
MayMeet has_file NoSession = ⊥
MayMeet has_file SessionsFull = ⊥
MayMeet has_file NoFile = has_file ≡ false
MayMeet has_file fault = has_file ≡ true

-- no head was complete: nothing came, or more of it has to come
abbrev pub HasNoHead : List ℕ → Type 0
HasNoHead received = (received ≡ []) ⊎ IsAwaited received

-- A connection that was cut: a call on its reader or on its writer has failed, or the response has more bytes than any
-- file.
abbrev pub IsCut : Bool → List ℕ → Type 0
IsCut failed committed =
    (failed ≡ true) ⊎ ((received : List ℕ) × (response : List ℕ) × IsResponse committed received response × (2 ^ 64 ≤ length response))

-- whether a call on the reader or on the writer has failed, by how the connection has ended
abbrev pub HasTriedAll : Bool → List ℕ → Result Served HubFault → Type 0
HasTriedAll failed committed (Ok Cut) = IsCut failed committed
HasTriedAll failed committed result = failed ≡ false

-- `coming` and `left` are the bytes that the reader shows before and after, `old` and `new` those of the writer.
module _ (coming left : Option (List ℕ)) (old new : Option (List ℕ)) where
  -- A request was read, and its response over these committed bytes was written.
  pub record GetsWhole (committed : List ℕ) : Type 0 where
    pub received : List ℕ
    pub response : List ℕ
    pub read : Consumes coming left received
    pub is_response : IsResponse committed received response
    pub written : Appends old new response

  -- The reader came to its end before the head did, and nothing was written.
  pub record GetsNothing : Type 0 where
    pub received : List ℕ
    pub read : Consumes coming left received
    pub no_head : HasNoHead received
    pub ended : IsAtEnd left
    pub written : new ≡ old

  -- What was written is a front of the response, if anything was.
  pub record GetsFront (committed : List ℕ) : Type 0 where
    pub received : List ℕ
    pub read : Consumes coming left received
    pub written : (new ≡ old) ⊎ ((response : List ℕ) × IsResponse committed received response × WritesPrefix old new response)

  -- what a connection gets if it ends with this result, and if the hub has a file or none
  abbrev pub Gets : Bool → List ℕ → Result Served HubFault → Type 0
  Gets has_file committed (Ok Whole) = GetsWhole committed
  Gets has_file committed (Ok NoHead) = GetsNothing
  Gets has_file committed (Ok Cut) = GetsFront committed
  Gets has_file committed (Err fault) = MayMeet has_file fault × GetsFront committed
