-- The response to a request: its head and its content (RFC 9110, sections 9.3 and 15).
use Rattle.std.specs.Prelude.{◌≡◌, ◌⊎◌, ℕ, ◌+◌, ◌<◌, ◌≤◌, Bool, not, ◌&&◌, ◌==◌, if◌then◌else◌, Option, Some, None, option_map, option_and_then, option_copied, List, [], ◌++◌, length, map, slice_get, slice_range, codes}
use Rattle.std.specs.List.{flat_map}
use Rattle.httparse.specs.Grammar.{RequestHead, ReadsRequest}
use Rattle.httparse.specs.Spans.{name_and_value}
use Rattle.ogg_page.specs.Page.{Page, bytes_of_pages}
use Rattle.link_chain.specs.Links.{AreLinks, pages_with, has_stream}
use Rattle.link_index.specs.Index.{index_of}
use Rattle.link_index.specs.Listing.{listing}
use Rattle.ogg_http.specs.Answer.{answer_head}
use Rattle.ogg_http.specs.Fields.{count_of, range_in}
use Rattle.ogg_http.specs.Head.{IsAwaited, IsHopeless, head_bytes, most_bytes, most_fields, verb_of}
use Rattle.ogg_http.specs.Range.{range_of}
use Rattle.ogg_http.specs.Target.{resource_of}
use Rattle.ogg_http.specs.declared.answer.Answer.{Answer}
use Rattle.ogg_http.specs.declared.answer.Answer.TheVariants.{Full, Part as PartOf, Unsatisfiable as NoPart, Listing, BadRequest, NotFound, NotAllowed}
use Rattle.ogg_http.specs.declared.head.Request.{Request}
use Rattle.ogg_http.specs.declared.head.Verb.{Verb}
use Rattle.ogg_http.specs.declared.head.Verb.TheVariants.{Get, Head, Other}
use Rattle.ogg_http.specs.declared.range.Ranged.{Ranged}
use Rattle.ogg_http.specs.declared.range.Ranged.TheVariants.{Whole, Part, Unsatisfiable}
use Rattle.ogg_http.specs.declared.target.Resource.{Resource}
use Rattle.ogg_http.specs.declared.target.Resource.TheVariants.{List as ListingOf, All as AllOf, Link as LinkOf, Stream as StreamOf}

-- ---- what is asked
-- the parts of a request on which its response depends
pub record Asked : Type 0 where
  pub verb : Verb
  pub target : List ℕ
  -- the request is of HTTP/1.1
  pub http11 : Bool
  -- how many Host fields it has
  pub hosts : ℕ
  -- the value of its Range field
  pub range : Option (List ℕ)

abbrev pub asked_of : RequestHead → Asked
asked_of head =
    record {
      verb = verb_of head.method;
      target = head.target;
      http11 = head.minor == 1;
      hosts = count_of (codes "host") (map name_and_value head.fields);
      range = range_in (map name_and_value head.fields);
    }

-- the same parts of a request that was read
abbrev pub asked_by : Request → Asked
asked_by request =
    record {
      verb = request.verb;
      target = request.target.now;
      http11 = request.http11;
      hosts = request.hosts;
      range = option_copied request.range;
    }

-- What was received begins with this head. Ours: the head ends within the first `most_bytes`, and has at most
-- `most_fields` fields.
pub record HasRequest (received : List ℕ) (head : RequestHead) : Type 0 where
  pub rest : List ℕ
  pub reads : ReadsRequest (head_bytes received) head rest
  pub room : length head.fields ≤ most_fields

-- What was received begins with no head; below the limit of bytes, nothing that follows makes one any more. At which
-- byte that is found isn't fixed.
pub record HasNoRequest (received : List ℕ) : Type 0 where
  pub none : (head : RequestHead) → ¬ (HasRequest received head)
  pub cause : length received < most_bytes → IsHopeless received

-- what was received asks this, or it asks nothing, since it is no request
abbrev pub Asks : List ℕ → Option Asked → Type 0
Asks received (Some asked) = (head : RequestHead) × HasRequest received head × (asked ≡ asked_of head)
Asks received None = HasNoRequest received

-- what was received asks something, or more of the head has to come
abbrev pub AsksOrWaits : List ℕ → Type 0
AsksOrWaits received = ((asked : Option Asked) × Asks received asked) ⊎ IsAwaited received

-- ---- what a resource has
-- a text, or the bytes of pages; a range can be asked of pages only
pub data Content : Type 0 where
  Text : (bytes : List ℕ) → Content
  Pages : (bytes : List ℕ) → Content

abbrev pub bytes_of_links : List (List Page) → List ℕ
bytes_of_links links = flat_map bytes_of_pages links

-- the pages of the link's stream with this serial
abbrev pub stream_in_link : ℕ → List Page → Option Content
stream_in_link serial link = if has_stream link serial then Some (Pages (bytes_of_pages (pages_with serial link))) else None

-- what a resource has while the file is these links, if there is such a resource
abbrev pub content_of : List (List Page) → Resource → Option Content
content_of links ListingOf = Some (Text (listing (length (bytes_of_links links)) (index_of links)))
content_of links AllOf = Some (Pages (bytes_of_links links))
content_of links (LinkOf number) = option_map (λ link. Pages (bytes_of_pages link)) (slice_get links number)
content_of links (StreamOf number serial) = option_and_then (stream_in_link serial) (slice_get links number)

-- ---- the response
pub record Response : Type 0 where
  pub answer : Answer
  pub content : List ℕ

abbrev pub without_content : Answer → Response
without_content answer = record { answer = answer; content = [] }

-- all of the bytes (RFC 9110, section 15.3.1), the part that is asked for (section 15.3.7), or none (section 15.5.17)
abbrev pub ranged : List ℕ → Ranged → Response
ranged bytes Whole = record { answer = Full (length bytes); content = bytes }
ranged bytes (Part first last) = record { answer = PartOf first last (length bytes); content = slice_range bytes first (last + 1) }
ranged bytes Unsatisfiable = without_content (NoPart (length bytes))

-- what a Range field asks of this many bytes; without one, all of them
abbrev pub asked_range : Option (List ℕ) → ℕ → Ranged
asked_range None len = Whole
asked_range (Some text) len = range_of text len

-- the response to GET (RFC 9110, section 9.3.1); ours: a text has no ranges
abbrev pub get_response : Option (List ℕ) → Option Content → Response
get_response range None = without_content NotFound
get_response range (Some (Text bytes)) = record { answer = Listing (length bytes); content = bytes }
get_response range (Some (Pages bytes)) = ranged bytes (asked_range range (length bytes))

-- HEAD gets the head of a GET without a Range field (sections 9.3.2 and 14.2); ours: no other method is allowed
abbrev pub response_by : Verb → Option (List ℕ) → Option Content → Response
response_by Get range content = get_response range content
response_by Head range content = without_content (get_response None content).answer
response_by Other range content = without_content NotAllowed

-- HTTP/1.1 wants exactly one Host field (RFC 9112, section 3.2)
abbrev pub lacks_host : Asked → Bool
lacks_host asked = asked.http11 && not (asked.hosts == 1)

-- the response while the file is these links; what is no request gets 400, as one without its Host field does
abbrev pub response_of : List (List Page) → Option Asked → Response
response_of links None = without_content BadRequest
response_of links (Some asked) =
    if lacks_host asked then without_content BadRequest
    else response_by asked.verb asked.range (option_and_then (content_of links) (resource_of asked.target))

-- its bytes: the head of the answer, and then the content (RFC 9112, section 2.1)
abbrev pub response : List (List Page) → Option Asked → List ℕ
response links asked = let whole = response_of links asked in answer_head whole.answer ++ whole.content

-- The bytes are the response to what was received, while the file's committed bytes are these.
pub record IsResponse (committed received bytes : List ℕ) : Type 0 where
  pub links : List (List Page)
  pub are_links : AreLinks committed links
  pub asked : Option Asked
  pub asks : Asks received asked
  pub whole : bytes ≡ response links asked
