-- What a resource has, as a place in the committed bytes. Ours.
use Rattle.std.specs.Prelude.{◌≡◌, ℕ, ◌+◌, ◌≤◌, ◌<◌, ◌^◌, Bool, nat_eq, if◌then◌else◌, Option, Some, None, List, [], ◌∷◌, ◌++◌, length, ⊤}
use Rattle.link_index.specs.declared.info.StreamInfo.{StreamInfo}
use Rattle.ogg_http.specs.Answer.{answer_head}
use Rattle.ogg_http.specs.declared.answer.Answer.{Answer}
use Rattle.ogg_http.specs.declared.answer.Answer.TheVariants.{Listing as ListingOf}
use Rattle.serve_responses.specs.Response.{Content, Text, Pages, Response}
use Rattle.serve_machine.specs.Places.{part_at}
use Rattle.serve_sending.specs.Sending.{SendingState, IsBodyLeft, IsLeft}
use Rattle.serve_sending.specs.declared.body.Body.{Body}
use Rattle.serve_sending.specs.declared.body.Body.TheVariants.{Nothing, Part, Stream}
use Rattle.serve_sending.specs.declared.finding.Found.{Found}
use Rattle.serve_sending.specs.declared.finding.Found.TheVariants.{Listing, File, Pages as PagesOf}

-- this many bytes of what was found, after those that are passed over
abbrev pub cut : Found → ℕ → ℕ → Body
cut Listing skip count = Nothing
cut (File place len) skip count = Part (place + skip) count
cut (PagesOf serial place len) skip count = Stream serial place skip count

abbrev pub length_of : Found → ℕ
length_of Listing = 0
length_of (File place len) = len
length_of (PagesOf serial place len) = len

-- the end of a part of the file; anything else has no end
abbrev pub end_of : Found → ℕ
end_of Listing = 0
end_of (File place len) = place + len
end_of (PagesOf serial place len) = 0

-- these bytes are what was found, so each part of them is a cut of it
pub record AreFound (committed bytes : List ℕ) (found : Found) : Type 0 where
  pub length_is : length bytes ≡ length_of found
  pub cuts : (skip count : ℕ) → skip + count ≤ length bytes → IsBodyLeft committed (cut found skip count) (part_at skip count bytes)
  pub short : end_of found < 2 ^ 64

-- what a resource has was found, while the listing is this text
abbrev pub IsContent : List ℕ → List ℕ → Content → Found → Type 0
IsContent committed text (Text bytes) Listing = bytes ≡ text
IsContent committed text (Text bytes) (File place len) = ⊥
IsContent committed text (Text bytes) (PagesOf serial place len) = ⊥
IsContent committed text (Pages bytes) Listing = ⊥
IsContent committed text (Pages bytes) (File place len) = AreFound committed bytes (File place len)
IsContent committed text (Pages bytes) (PagesOf serial place len) = AreFound committed bytes (PagesOf serial place len)

-- or there is no such resource
abbrev pub IsFound : List ℕ → List ℕ → Option Content → Option Found → Type 0
IsFound committed text None None = ⊤
IsFound committed text None (Some found) = ⊥
IsFound committed text (Some content) None = ⊥
IsFound committed text (Some content) (Some found) = IsContent committed text content found

-- how many bytes the first stream with this serial has
abbrev pub bytes_with : ℕ → List StreamInfo → Option ℕ
bytes_with serial [] = None
bytes_with serial (stream ∷ streams) = if nat_eq stream.serial serial then Some stream.bytes else bytes_with serial streams

-- the head states this answer, and the body is what follows it
abbrev pub IsAnswered : List ℕ → Response → Answer → Body → Type 0
IsAnswered committed response answer body = (answer ≡ response.answer) × IsBodyLeft committed body response.content

-- all of this response is left
abbrev pub IsWhole : List ℕ → Response → SendingState → Type 0
IsWhole committed response sending = IsLeft committed sending (answer_head response.answer ++ response.content)

-- the text of a listing's response, with or without its content
abbrev pub listing_text : List ℕ → Bool → List ℕ
listing_text text whole = answer_head (ListingOf (length text)) ++ (if whole then text else [])
