-- What a line of the log has of a response, from its bytes as they are sent (RFC 9112, sections 4 and 6).
use Rattle.std.specs.Prelude.{◌≢◌, ◌<◌, ◌++◌, codes, ℕ, ◌+◌, ◌-◌, ◌*◌, ◌/◌, ◌%◌, ◌^◌, min, Bool, true, false, nat_le, nat_lt, ◌==◌, ◌&&◌, if◌then◌else◌, List, [], ◌∷◌, length}
use Rattle.std.specs.Char.{is_ascii_digit}
use Rattle.std.specs.List.{All, flat_map}
use Rattle.ogg_http.specs.Answer.{line}
use Rattle.serve_texts.specs.Status.{three_digits}
use Rattle.serve_texts.specs.declared.reply.Reply.{Reply}

-- nothing was sent
abbrev pub fresh : Reply
fresh = record { seen = 0; status = 0; ending = 0; in_content = false; content = 0 }

-- how many bytes of CR LF CR LF, which end a head, came last
abbrev pub next_ending : ℕ → ℕ → ℕ
next_ending ending b =
    if b == 13 then (if ending == 2 then 3 else 1)
    else if b == 10 then (if ending == 1 then 2 else if ending == 3 then 4 else 0)
    else 0

-- the status is the digits at 9 to 11, after `HTTP/1.1 `
abbrev pub next_status : ℕ → ℕ → ℕ → ℕ
next_status seen status b =
    if nat_le 9 seen && nat_lt seen 12 && is_ascii_digit b then status % 100 * 10 + (b - 48) else status

-- a response of a status from 100 to 199 is followed by another (RFC 9110, section 15.2)
abbrev pub is_interim : ℕ → Bool
is_interim status = status / 100 == 1

-- a head of this status was sent, and so many bytes of content
abbrev pub replied : ℕ → ℕ → Reply
replied status content = record { seen = 12; status = status; ending = 4; in_content = true; content = content }

abbrev pub after_head : ℕ → Reply
after_head status = if is_interim status then fresh else replied status 0

-- one more byte of a head
abbrev pub next : Reply → ℕ → Reply
next reply b =
    let ending = next_ending reply.ending b in
    let status = next_status reply.seen reply.status b in
    if ending == 4 then after_head status
    else record { seen = min (reply.seen + 1) 12; status = status; ending = ending; in_content = false; content = 0 }

-- so many more bytes of content
abbrev pub counted : Reply → ℕ → Reply
counted reply more = record reply { content = min (reply.content + more) (2 ^ 64 - 1) }

-- what was sent after these bytes too
abbrev pub reply_after : Reply → List ℕ → Reply
reply_after reply [] = reply
reply_after reply (b ∷ rest) =
    if reply.in_content then counted reply (length (b ∷ rest)) else reply_after (next reply b) rest

-- The same of whole responses, for the laws.

-- no part of a line end
abbrev pub IsText : ℕ → Type 0
IsText b = (b ≢ 13) × (b ≢ 10)

-- a line of a head that isn't the empty one at its end
abbrev pub IsFieldLine : List ℕ → Type 0
IsFieldLine text = (0 < length text) × All IsText text

-- a status line, fields, an empty line and content (RFC 9112, sections 2.1 and 4)
abbrev pub response_bytes : ℕ → List ℕ → List (List ℕ) → List ℕ → List ℕ
response_bytes status reason fields content =
    line (codes "HTTP/1.1 " ++ (three_digits status ++ reason)) ++ (flat_map line fields ++ (line [] ++ content))
