-- What is found among the bytes of a source, and noted of it. Ours.
use Rattle.std.specs.Prelude.{◌≡◌, ◌⊎◌, ℕ, ◌+◌, ◌-◌, Bool, true, nat_le, Option, None, Some, List, [], length}
use Rattle.serve_sources.specs.Body.{Ends, Finds, HasFault}
use Rattle.serve_sources.specs.declared.body.Body.{Body}
use Rattle.serve_sources.specs.declared.body.BodyFault.{BodyFault}
use Rattle.serve_sources.specs.declared.body.Piece.TheVariants.{Data, More}

-- What the decoding looks at of a source: its body, if the bytes have a framing; where those stand that aren't taken
-- yet; how many of these are known to be of the stream; whether they say nothing before more come; whether no further
-- byte comes; and whether the end of the body was found.
pub record Look : Type 0 where
  pub body : Option Body
  pub at : ℕ
  pub decoded : ℕ
  pub starved : Bool
  pub ended : Bool
  pub complete : Bool

abbrev pub look : Option Body → ℕ → ℕ → Bool → Bool → Bool → Look
look body at decoded starved ended complete =
    record { body = body; at = at; decoded = decoded; starved = starved; ended = ended; complete = complete }

-- ---- what is found among the bytes that aren't taken yet
-- Without a framing all of them are of the stream.
abbrev pub GoesOn : List ℕ → Look → Look → Type 0
GoesOn bytes old new = new ≡ record old { decoded = length bytes; starved = nat_le (length bytes) 0 }

-- The next data of the body is among them: exactly that is of the stream, and exactly the framing before it is passed
-- over.
pub record HasData (body : Body) (bytes : List ℕ) (old new : Look) : Type 0 where
  pub after : Body
  pub start : ℕ
  pub end : ℕ
  pub finds : Finds body bytes after (Data start end)
  pub noted : new ≡ record old { body = Some after; at = old.at + start; decoded = end - start }

-- No data and no end are among them: exactly what was used is passed over, and more must come.
pub record WantsMore (body : Body) (bytes : List ℕ) (old new : Look) : Type 0 where
  pub after : Body
  pub used : ℕ
  pub finds : Finds body bytes after (More used)
  pub noted : new ≡ record old { body = Some after; at = old.at + used; starved = true }

-- no byte that follows is of the stream
abbrev pub stopped : Look → Look
stopped old = record old { at = 0; starved = true; ended = true }

-- the body is framed as it was, and answered as it was
abbrev pub IsOf : Body → Option Body → Type 0
IsOf body None = ⊥
IsOf body (Some after) = (after.framed ≡ body.framed) × (after.answered ≡ body.answered)

-- The end of the body is among them, and that is noted.
pub record HasEnded (body : Body) (bytes : List ℕ) (old new : Look) : Type 0 where
  pub used : ℕ
  pub ends : Ends body bytes used
  pub same : IsOf body new.body
  pub noted : new ≡ record (stopped old) { body = new.body; complete = true }

-- They aren't a body's. The stream ends, and no end of its body was found.
pub record IsMalformed (body : Body) (bytes : List ℕ) (old new : Look) : Type 0 where
  pub fault : BodyFault
  pub wrong : HasFault body.decoder bytes fault
  pub same : IsOf body new.body
  pub noted : new ≡ record (stopped old) { body = new.body }

abbrev pub HasDecodedIn : Option Body → List ℕ → Look → Look → Type 0
HasDecodedIn None bytes old new = GoesOn bytes old new
HasDecodedIn (Some body) bytes old new =
    HasData body bytes old new ⊎ (WantsMore body bytes old new ⊎ (HasEnded body bytes old new ⊎ IsMalformed body bytes old new))

-- These bytes, which weren't taken yet, were looked at.
abbrev pub HasDecoded : List ℕ → Look → Look → Type 0
HasDecoded bytes old new = HasDecodedIn old.body bytes old new
