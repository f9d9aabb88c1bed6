-- Responses of constant fields and their content (RFC 9112, section 4, and RFC 9110).
use Rattle.std.specs.Prelude.{ℕ, Bool, true, false, List, [], ◌++◌, length}
use Rattle.std.specs.Borrow.{Bor}
use Rattle.std.specs.List.{flat_map}
use Rattle.ogg_http.specs.Answer.{line, content_length}

-- pieces of a text, one after another
abbrev pub joined : List (Bor (List ℕ)) → List ℕ
joined pieces = flat_map (λ (piece : Bor (List ℕ)). piece.now) pieces

-- HEAD gets no content (RFC 9110, section 9.3.2)
abbrev pub shown : Bool → List ℕ → List ℕ
shown true content = []
shown false content = content

-- the status line and fields of this kind of response, the length of its content, and the content
abbrev pub response : List ℕ → List ℕ → Bool → List ℕ
response front content head = front ++ (content_length (length content) ++ (line [] ++ (shown head content ++ [])))
