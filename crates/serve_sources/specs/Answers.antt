-- The answers to source clients and to live listeners, line by line (RFC 9112, section 4, and RFC 9110).
-- Ours: none of them keeps its connection open (RFC 9112, section 9.6).
use Rattle.std.specs.Prelude.{ℕ, List, [], ◌++◌, codes}
use Rattle.ogg_http.specs.Answer.{line}
use Rattle.serve_sources.specs.declared.outcome.Outcome.{Outcome}
use Rattle.serve_sources.specs.declared.outcome.Outcome.TheVariants.{Whole, Broken, Lost, Foreign}
use Rattle.serve_sources.specs.declared.refused.Refused.{Refused}
use Rattle.serve_sources.specs.declared.refused.Refused.TheVariants.{BadRequest, Unauthorized, OnTheAir}

-- no content, and nothing after it
abbrev pub end_of_answer : List ℕ
end_of_answer = line (codes "Content-Length: 0") ++ line (codes "Connection: close") ++ line []

-- 400, 401 and 403 (RFC 9110, sections 15.5.1, 15.5.2 and 15.5.4); the challenge is RFC 7617's (section 2)
abbrev pub refusal : Refused → List ℕ
refusal BadRequest = line (codes "HTTP/1.1 400 Bad Request") ++ end_of_answer
refusal Unauthorized =
    line (codes "HTTP/1.1 401 Unauthorized")
    ++ line (codes "WWW-Authenticate: Basic realm=\"kudzuturret\"")
    ++ end_of_answer
refusal OnTheAir = line (codes "HTTP/1.1 403 Forbidden") ++ end_of_answer

-- the source may send its body (RFC 9110, section 15.2.1)
abbrev pub go_on_text : List ℕ
go_on_text = line (codes "HTTP/1.1 100 Continue") ++ line []

-- what a client that says SOURCE waits for before it sends
abbrev pub accepted_text : List ℕ
accepted_text = line (codes "HTTP/1.0 200 OK") ++ line []

-- A body's end was found, or that there is none: it was taken whole (RFC 9110, section 15.3.1), the client's framing is
-- at fault (section 15.5.1), or the server couldn't take something of it (section 15.6.1). Or it is in a format that isn't
-- supported (section 15.5.16).
abbrev pub answer_after : Outcome → List ℕ
answer_after Whole = line (codes "HTTP/1.1 200 OK") ++ end_of_answer
answer_after Broken = refusal BadRequest
answer_after Lost = line (codes "HTTP/1.1 500 Internal Server Error") ++ end_of_answer
answer_after Foreign = line (codes "HTTP/1.1 415 Unsupported Media Type") ++ end_of_answer

-- the head before what is live: its content ends with the connection (RFC 9112, section 6.3), and no cache keeps it
-- (RFC 9111, section 5.2.2.5). The type is RFC 5334's.
abbrev pub live_text : List ℕ
live_text =
    line (codes "HTTP/1.1 200 OK")
    ++ line (codes "Content-Type: application/ogg")
    ++ line (codes "Cache-Control: no-store")
    ++ line (codes "Connection: close")
    ++ line []

-- there are as many connections as may be (RFC 9110, section 15.6.4); a second later there may be room (section 10.2.3)
abbrev pub full_text : List ℕ
full_text = line (codes "HTTP/1.1 503 Service Unavailable") ++ line (codes "Retry-After: 1") ++ end_of_answer
