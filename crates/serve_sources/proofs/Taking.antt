-- What a caller takes piece by piece is the body of the grammar, however the bytes were cut.
use Rattle.std.proofs.Common.{◌≡◌, ℕ, List, [], refl, ap, sym, subst}
use Rattle.httparse.specs.Grammar.{Field}
use Rattle.http1.specs.declared.framing.Framing.{Framing}
use Rattle.http1.specs.Body.{body_of, ReadsBody}
use Rattle.http1.specs.Decoder.{Completes}
use Rattle.http1.proofs.OneParse.{body_from_completes, body_unique}
use Rattle.serve_sources.specs.declared.body.Body.{Body}
use Rattle.serve_sources.specs.declared.reply.Reply.{Reply}
use Rattle.serve_sources.specs.Body.{Takes, data_came, more_must_come, end_came, connection_ended, body_for, limits}

-- what was taken is what the body waited for
taken_completes : {body : Body} {stream taken rest : List ℕ} → Takes body stream taken rest → (trailers : List Field) × Completes body.decoder stream (body_of taken trailers) rest
taken_completes (data_came old new bytes more start end taken rest found later) =
    let (trailers, left) = taken_completes later in
    (trailers, found.1.back more (body_of taken trailers) rest left)
taken_completes (more_must_come old new bytes more used taken rest found later) =
    let (trailers, left) = taken_completes later in
    (trailers, found.continues.back more (body_of taken trailers) rest left)
taken_completes (end_came old new bytes more used found) = (found.trailers, found.ends more)
taken_completes (connection_ended body last) =
    ([], subst (λ d. Completes d [] (body_of [] []) []) (sym last) (refl, refl, refl))

-- so it is the body of the grammar
pub taken_is_read : (framing : Framing) (reply : Reply) (stream taken rest : List ℕ) → Takes (body_for framing reply) stream taken rest → (trailers : List Field) × ReadsBody limits framing stream (body_of taken trailers) rest
taken_is_read framing reply stream taken rest takes =
    let (trailers, completes) = taken_completes takes in
    (trailers, body_from_completes limits framing stream (body_of taken trailers) rest completes)

-- and the same however the bytes were cut
pub taken_is_one : (framing : Framing) (reply other : Reply) (stream taken others rest left : List ℕ) → Takes (body_for framing reply) stream taken rest → Takes (body_for framing other) stream others left → (taken ≡ others) × (rest ≡ left)
taken_is_one framing reply other stream taken others rest left a b =
    let (trailers, read) = taken_is_read framing reply stream taken rest a in
    let (more, again) = taken_is_read framing other stream others left b in
    let (same, behind) = body_unique limits framing stream (body_of taken trailers) (body_of others more) rest left read again in
    (ap (λ body. body.bytes) same, behind)
