-- A response with a field after its first line (RFC 9112, section 2.1).
use Rattle.std.specs.Prelude.{◌≡◌, ⊤, ℕ, ◌==◌, if◌then◌else◌, List, [], ◌∷◌, ◌++◌, codes, drop, take}
use Rattle.ogg_http.specs.Answer.{line}
use Rattle.serve_origins.specs.declared.added.Added.{Added}
use Rattle.serve_origins.specs.declared.added.Added.TheVariants.{Nothing, Part, Whole}

-- the field that lets the pages of an origin read a response (Fetch, section 3.2.3)
abbrev pub field_of : List ℕ → List ℕ
field_of origin = line (codes "Access-Control-Allow-Origin: " ++ origin)

-- the bytes of a response, with this after the first line
abbrev pub with_field : List ℕ → List ℕ → List ℕ
with_field field [] = []
with_field field (b ∷ rest) = if b == 10 then b ∷ (field ++ rest) else b ∷ with_field field rest

-- what is to be written of these bytes of a response, where so much of the field was written
abbrev pub left_of : Added → List ℕ → List ℕ → List ℕ
left_of Nothing field bytes = with_field field bytes
left_of (Part sent) field bytes = drop sent field ++ bytes
left_of Whole field bytes = bytes

-- So many bytes were written of what was to be written: these are so many of the response's own, and what is left follows,
-- whatever comes of the response.
abbrev pub HasWritten : List ℕ → Added → List ℕ → ℕ → Added → ℕ → Type 0
HasWritten field old bytes count new own =
    (more : List ℕ) → left_of old field (take own bytes ++ more) ≡ take count (left_of old field bytes) ++ left_of new field more

-- A response is written piece by piece: of these bytes of it so many were written, with what was added.
pub record Writing : Type 0 where
  pub bytes : List ℕ
  pub count : ℕ
  pub added : Added
  pub own : ℕ

-- each goes on where the one before has stopped
abbrev pub AreWritten : List ℕ → Added → List Writing → Type 0
AreWritten field old [] = ⊤
AreWritten field old (one ∷ rest) =
    HasWritten field old one.bytes one.count one.added one.own × AreWritten field one.added rest

-- all that was written, where so much of the field was written before
abbrev pub written_of : List ℕ → Added → List Writing → List ℕ
written_of field old [] = []
written_of field old (one ∷ rest) = take one.count (left_of old field one.bytes) ++ written_of field one.added rest

-- how much of the field was written in the end
abbrev pub end_of : Added → List Writing → Added
end_of old [] = old
end_of old (one ∷ rest) = end_of one.added rest

-- what was written of the response itself
abbrev pub own_of : List Writing → List ℕ
own_of [] = []
own_of (one ∷ rest) = take one.own one.bytes ++ own_of rest
