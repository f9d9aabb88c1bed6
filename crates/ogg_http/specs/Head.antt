-- The head of a request (RFC 9112, sections 2 to 5), by the grammar of `httparse` in its default configuration.
use Rattle.std.specs.Prelude.{◌≡◌, ◌⊎◌, ℕ, ◌<◌, ◌≤◌, List, length, take, drop, map, option_copied, if◌then◌else◌, ◌==◌, codes, ⊤}
use Rattle.std.specs.Str.{bytes_eq}
use Rattle.httparse.specs.Grammar.{RequestHead, ReadsRequest, NeverHasRequest, MayBecomeRequest, HasNoRequest, print_request}
use Rattle.httparse.specs.Spans.{RequestExceeds, RequestOverflows, name_and_value}
use Rattle.ogg_http.specs.Fields.{count_of, range_in}
use Rattle.ogg_http.specs.declared.head.Verb.{Verb}
use Rattle.ogg_http.specs.declared.head.Verb.TheVariants.{Get, Head, Other}
use Rattle.ogg_http.specs.declared.head.Request.{Request}
use Rattle.ogg_http.specs.declared.head.HeadRead.{HeadRead}
use Rattle.ogg_http.specs.declared.head.HeadRead.TheVariants.{Whole}

-- ours: the greatest number of bytes of a head; the empty lines before it count
abbrev pub most_bytes : ℕ
most_bytes = 8192

-- ours: the greatest number of its fields
abbrev pub most_fields : ℕ
most_fields = 64

-- the bytes in which a head is looked for
abbrev pub head_bytes : List ℕ → List ℕ
head_bytes bytes = take most_bytes bytes

-- the case of a method counts (RFC 9110, section 9.1)
abbrev pub verb_of : List ℕ → Verb
verb_of method =
    if bytes_eq method (codes "GET") then Get
    else if bytes_eq method (codes "HEAD") then Head
    else Other

-- the bytes begin with the head, and the request has its parts
pub record HoldsRequest (bytes : List ℕ) (head : RequestHead) (request : Request) : Type 0 where
  pub reads : ReadsRequest bytes head (drop request.used bytes)
  pub used : request.used ≡ length (print_request head)
  pub room : length head.fields ≤ most_fields
  pub verb : request.verb ≡ verb_of head.method
  pub target : request.target.now ≡ head.target
  pub http11 : request.http11 ≡ (head.minor == 1)
  pub hosts : request.hosts ≡ count_of (codes "host") (map name_and_value head.fields)
  pub range : option_copied request.range ≡ range_in (map name_and_value head.fields)

-- no head has come, and more bytes may still make one
pub record IsAwaited (bytes : List ℕ) : Type 0 where
  pub short : length bytes < most_bytes
  pub none : HasNoRequest bytes
  pub hopeful : MayBecomeRequest bytes

-- nothing that follows makes a head that is read
pub record IsHopeless (bytes : List ℕ) : Type 0 where
  -- nothing makes one at all, or a field too many has come
  pub cause : NeverHasRequest bytes ⊎ RequestExceeds most_fields bytes
  -- whatever follows, a head at the front has too many fields
  pub never_read : RequestOverflows most_fields bytes

-- P holds of the request, if there is one
abbrev pub IfWhole : HeadRead → (Request → Type 0) → Type 0
IfWhole (Whole request) P = P request
IfWhole _ P = ⊤

-- there is a request, and P holds of it
abbrev pub IsWholeAnd : HeadRead → (Request → Type 0) → Type 0
IsWholeAnd (Whole request) P = P request
IsWholeAnd _ P = ⊥
