-- What comes of a source's request, by its head.
use Rattle.std.specs.Prelude.{◌≡◌, ◌≤◌, ℕ, ⊤, Bool, List, length, map, ◌==◌, if◌then◌else◌, Option, Some, None, codes}
use Rattle.std.specs.Str.{bytes_eq}
use Rattle.httparse.specs.Grammar.{RequestHead, print_request}
use Rattle.httparse.specs.Spans.{name_and_value}
use Rattle.http1.specs.Fields.{known_fields}
use Rattle.http1.specs.declared.fields.KnownFields.{KnownFields}
use Rattle.http1.specs.declared.framing.Framing.{Framing}
use Rattle.http1.specs.declared.framing.Framing.TheVariants.{Length}
use Rattle.ogg_http.specs.Head.{IsAwaited}
use Rattle.serve_sources.specs.declared.refused.Refused.{Refused}
use Rattle.serve_sources.specs.declared.refused.Refused.TheVariants.{BadRequest, Unauthorized}
use Rattle.serve_sources.specs.declared.reply.Reply.{Reply}
use Rattle.serve_sources.specs.declared.offer.Offer.{Offer}
use Rattle.serve_sources.specs.declared.offer.Offer.TheVariants as Offered
use Rattle.serve_sources.specs.Asking.{LacksHead}
use Rattle.serve_sources.specs.Body.{body_for}
use Rattle.serve_sources.specs.Credentials.{authorizes}
use Rattle.serve_sources.specs.Fields.{only}
use Rattle.serve_sources.specs.Framing.{framing_of}
use Rattle.serve_sources.specs.Reply.{reply_to, reply_text}

-- what is done with a source's request
pub data Decision : Type 0 where
  refuse : Refused → Decision
  take_nothing : Decision
  take_body : Framing → Reply → Decision

-- a body of no bytes is no recording: libshout and others ask in this way whether the password is right
abbrev pub take_framed : Framing → Reply → Decision
take_framed (Length len) reply = if len == 0 then take_nothing else take_body (Length len) reply
take_framed framing reply = take_body framing reply

-- Ours: a head that doesn't say in one way where the body ends is refused before its password is looked at, and one
-- without the password before its body is.
abbrev pub by_framing : Option Framing → Bool → Reply → Decision
by_framing None authorized reply = refuse BadRequest
by_framing (Some framing) authorized reply = if authorized then take_framed framing reply else refuse Unauthorized

-- of a request with the method SOURCE or another one, of HTTP/1.1 or 1.0, with these fields and the password or not
abbrev pub decision_by : Bool → Bool → KnownFields → Bool → Decision
decision_by is_source http11 known authorized =
    by_framing (framing_of http11 known) authorized (reply_to is_source http11 known.expect_continue)

-- of this head
abbrev pub decision_of : List ℕ → RequestHead → Decision
decision_of password head =
    let fields = map name_and_value head.fields in
    decision_by (bytes_eq head.method (codes "SOURCE")) (head.minor == 1) (known_fields fields)
    (authorizes (only (codes "authorization") fields) password)

-- the body begins after so many bytes, and this is answered before it
abbrev pub IsBody : ℕ → Framing → Reply → Offer → Type 0
IsBody used framing reply (Offered.Body at body answer) =
    (at ≡ used) × (body ≡ body_for framing reply) × (answer.now ≡ reply_text reply)
IsBody used framing reply _ = ⊥

-- the offer is what the decision on a head of so many bytes says
abbrev pub IsOffer : ℕ → Decision → Offer → Type 0
IsOffer used (refuse why) offer = offer ≡ Offered.Refused why
IsOffer used take_nothing offer = offer ≡ Offered.Nothing used
IsOffer used (take_body framing reply) offer = IsBody used framing reply offer

-- what a head says
abbrev pub Says : List ℕ → RequestHead → Offer → Type 0
Says password head offer = IsOffer (length (print_request head)) (decision_of password head) offer

-- there is no head: more may come, or none comes, or none came within the limit
abbrev pub IsUnread : List ℕ → Offer → Type 0
IsUnread front Offered.More = IsAwaited front
IsUnread front (Offered.Refused why) = (why ≡ BadRequest) × LacksHead front
IsUnread front _ = ⊥

-- the head lies in so many bytes
abbrev pub LiesIn : ℕ → Offer → Type 0
LiesIn count (Offered.Nothing used) = used ≤ count
LiesIn count (Offered.Body used body answer) = used ≤ count
LiesIn count _ = ⊤
