-- The body of a source's request (RFC 9112, sections 6 and 7.1), by the grammar of `http1`.
use Rattle.std.specs.Prelude.{◌≡◌, ℕ, ◌<◌, ◌≤◌, Bool, true, false, List, [], ◌++◌, length, drop, slice_range}
use Rattle.httparse.specs.Grammar.{Field}
use Rattle.http1.specs.declared.conn.Limits.{Limits}
use Rattle.http1.specs.declared.decode.Decoder.{Decoder}
use Rattle.http1.specs.declared.decode.Decoder.TheVariants as Decoding
use Rattle.http1.specs.declared.framing.Framing.{Framing}
use Rattle.http1.specs.declared.framing.Framing.TheVariants as Framed
use Rattle.http1.specs.Body.{body_of}
use Rattle.http1.specs.Decoder.{Completes, Continues, Starves, decoder_for}
use Rattle.http1.specs.ChunkedDecoder.{IsDone, run}
use Rattle.http1.specs.declared.chunked.ChunkError.{ChunkError}
use Rattle.http1.specs.declared.chunked.State.TheVariants.{Failed}
use Rattle.http1.specs.declared.error.ReadError.{ReadError}
use Rattle.http1.specs.declared.error.ReadError.TheVariants.{Chunk as ChunkWrong}
use Rattle.serve_sources.specs.declared.body.Body.{Body}
use Rattle.serve_sources.specs.declared.body.BodyFault.{BodyFault}
use Rattle.serve_sources.specs.declared.body.BodyFault.TheVariants.{Chunk, Trailers}
use Rattle.serve_sources.specs.declared.body.Piece.{Piece}
use Rattle.serve_sources.specs.declared.body.Piece.TheVariants.{Data, More, End}
use Rattle.serve_sources.specs.declared.reply.Reply.{Reply}
use Rattle.serve_sources.specs.Reply.{is_final}

-- ours: the limits of the chunk extensions of one body together, and of its trailer section, in bytes
abbrev pub limits : Limits
limits = record { max_head_len = 8192; max_extensions_len = 8192; max_trailers_len = 8192 }

-- ours: the greatest number of trailer fields
abbrev pub most_trailers : ℕ
most_trailers = 16

-- the end is marked: by a length or by the last chunk
abbrev pub is_marked : Framing → Bool
is_marked Framed.UntilClose = false
is_marked _ = true

-- a body of which nothing has come
abbrev pub body_for : Framing → Reply → Body
body_for framing reply =
    record { decoder = decoder_for limits framing; framed = is_marked framing; answered = is_final reply }

-- a chunk is at fault, or what follows the last one is
abbrev pub fault_of : ReadError → BodyFault
fault_of (ChunkWrong wrong) = Chunk
fault_of _ = Trailers

-- The cause of a fault: the bytes fail as chunks, or they hold all chunks, and what follows is no trailer section. Only a
-- chunked body has one.
abbrev pub HasFault : Decoder → List ℕ → BodyFault → Type 0
HasFault (Decoding.Chunked chunks max_len) bytes Chunk =
    (wrong : ChunkError) × ((run chunks bytes).ends.state ≡ Failed wrong)
HasFault (Decoding.Chunked chunks max_len) bytes Trailers = IsDone (run chunks bytes).ends
HasFault _ bytes fault = ⊥

-- Of these bytes the first so many are used up, and they hold this data; what the body is made of is this data and then
-- what is left to come, whatever that will be.
abbrev pub Gives : Body → List ℕ → Body → ℕ → List ℕ → Type 0
Gives old bytes new used held = Continues old.decoder bytes new.decoder used held

-- the same without data: there is no more data in these bytes and no end, and all are used up, or else the trailer section
-- goes on
abbrev pub Waits : Body → List ℕ → Body → ℕ → Type 0
Waits old bytes new used = Starves old.decoder bytes new.decoder used

-- the body ends after so many bytes
pub record Ends (body : Body) (bytes : List ℕ) (used : ℕ) : Type 0 where
  pub within : used ≤ length bytes
  pub trailers : List Field
  pub ends : (more : List ℕ) → Completes body.decoder (bytes ++ more) (body_of [] trailers) (drop used bytes ++ more)

-- what a call finds
abbrev pub Finds : Body → List ℕ → Body → Piece → Type 0
Finds old bytes new (Data start end) = (start < end) × Gives old bytes new end (slice_range bytes start end)
Finds old bytes new (More used) = Waits old bytes new used
Finds old bytes new (End used) = Ends old bytes used

-- the places lie in the bytes
abbrev pub LiesWithin : ℕ → Piece → Type 0
LiesWithin count (Data start end) = (start ≤ end) × (end ≤ count)
LiesWithin count (More used) = used ≤ count
LiesWithin count (End used) = used ≤ count

-- What a caller has taken who passes the bytes that came, at each call some front of what is left of the stream, drops
-- those that were used up, and keeps the data: the stream held this data up to the body's end, and this rest after it.
pub data Takes : Body → List ℕ → List ℕ → List ℕ → Type 0 where
  data_came : (old new : Body) (bytes more : List ℕ) (start end : ℕ) (taken rest : List ℕ)
      → Finds old bytes new (Data start end) → Takes new (drop end bytes ++ more) taken rest
      → Takes old (bytes ++ more) (slice_range bytes start end ++ taken) rest
  more_must_come : (old new : Body) (bytes more : List ℕ) (used : ℕ) (taken rest : List ℕ)
      → Finds old bytes new (More used) → Takes new (drop used bytes ++ more) taken rest
      → Takes old (bytes ++ more) taken rest
  end_came : (old new : Body) (bytes more : List ℕ) (used : ℕ)
      → Finds old bytes new (End used) → Takes old (bytes ++ more) [] (drop used bytes ++ more)
  connection_ended : (body : Body) → body.decoder ≡ Decoding.UntilClose → Takes body [] [] []
