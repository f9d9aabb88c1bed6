-- The heads of answers (RFC 9112, section 4, and RFC 9110), line by line.
use Rattle.std.specs.Prelude.{ℕ, ◌+◌, ◌-◌, ◌≤◌, ◌<◌, List, [], ◌++◌, codes, ⊤}
use Rattle.std.specs.Fmt.{decimal}
use Rattle.ogg_http.specs.declared.answer.Answer.{Answer}
use Rattle.ogg_http.specs.declared.answer.Answer.TheVariants.{Full, Part, Unsatisfiable, Listing, BadRequest, NotFound, NotAllowed}

-- a part has a byte, and all its bytes are the representation's (RFC 9110, section 14.4)
abbrev pub AnswerFits : Answer → Type 0
AnswerFits (Part first last len) = (first ≤ last) × (last < len)
AnswerFits _ = ⊤

-- ours: the room for a head, in bytes
abbrev pub head_room : ℕ
head_room = 256

-- a line and its end (RFC 9112, section 2.2)
abbrev pub line : List ℕ → List ℕ
line text = text ++ codes "\r\n"

-- the length of the content (RFC 9110, section 8.6)
abbrev pub content_length : ℕ → List ℕ
content_length len = line (codes "Content-Length: " ++ decimal len)

-- which bytes follow, and the length of the whole (RFC 9110, section 14.4)
abbrev pub content_range : ℕ → ℕ → ℕ → List ℕ
content_range first last len =
    line (codes "Content-Range: bytes " ++ decimal first ++ codes "-" ++ decimal last ++ codes "/" ++ decimal len)

-- The whole head of an answer: 200, 206, 416, 400, 404 and 405 (RFC 9110, sections 15.3.1, 15.3.7, 15.5.17, 15.5.1,
-- 15.5.5 and 15.5.6) with the fields that they need. The type `application/ogg` is from RFC 5334.
-- Ours: no answer keeps its connection open (RFC 9112, section 9.6), and a listing has no ranges.
abbrev pub answer_head : Answer → List ℕ
answer_head (Full len) =
    line (codes "HTTP/1.1 200 OK")
    ++ line (codes "Content-Type: application/ogg")
    ++ content_length len
    ++ line (codes "Accept-Ranges: bytes")
    ++ line (codes "Connection: close")
    ++ line []
answer_head (Part first last len) =
    line (codes "HTTP/1.1 206 Partial Content")
    ++ line (codes "Content-Type: application/ogg")
    ++ content_length (last - first + 1)
    ++ content_range first last len
    ++ line (codes "Accept-Ranges: bytes")
    ++ line (codes "Connection: close")
    ++ line []
answer_head (Unsatisfiable len) =
    line (codes "HTTP/1.1 416 Range Not Satisfiable")
    ++ line (codes "Content-Length: 0")
    ++ line (codes "Content-Range: bytes */" ++ decimal len)
    ++ line (codes "Accept-Ranges: bytes")
    ++ line (codes "Connection: close")
    ++ line []
answer_head (Listing len) =
    line (codes "HTTP/1.1 200 OK")
    ++ line (codes "Content-Type: text/plain")
    ++ content_length len
    ++ line (codes "Connection: close")
    ++ line []
answer_head BadRequest =
    line (codes "HTTP/1.1 400 Bad Request")
    ++ line (codes "Content-Length: 0")
    ++ line (codes "Connection: close")
    ++ line []
answer_head NotFound =
    line (codes "HTTP/1.1 404 Not Found")
    ++ line (codes "Content-Length: 0")
    ++ line (codes "Connection: close")
    ++ line []
answer_head NotAllowed =
    line (codes "HTTP/1.1 405 Method Not Allowed")
    ++ line (codes "Content-Length: 0")
    ++ line (codes "Allow: GET, HEAD")
    ++ line (codes "Connection: close")
    ++ line []
