-- What was received asks something, or more has to come.
use Rattle.std.proofs.Common.{◌≡◌, ℕ, ◌<◌, ◌≤◌, Some, None, List, length, drop, refl, inl, inr}
use Rattle.httparse.specs.Grammar.{RequestHead, ReadsRequest}
use Rattle.ogg_http.specs.Head.{HoldsRequest, IfWhole, IsWholeAnd, IsAwaited, IsHopeless, head_bytes, most_bytes, most_fields}
use Rattle.ogg_http.specs.declared.head.HeadRead.{HeadRead}
use Rattle.ogg_http.specs.declared.head.HeadRead.TheVariants.{Whole, Partial, Bad}
use Rattle.serve_responses.specs.Response.{AsksOrWaits, asked_of}

pub asks_or_waits : (received : List ℕ) (read : HeadRead)
    → IfWhole read (λ request. (head : RequestHead) × HoldsRequest (head_bytes received) head request)
    → ((head : RequestHead) (rest : List ℕ) → ReadsRequest (head_bytes received) head rest → length head.fields ≤ most_fields
    → IsWholeAnd read (HoldsRequest (head_bytes received) head))
    → (read ≡ Partial → IsAwaited received) → (read ≡ Bad → length received < most_bytes → IsHopeless received)
    → AsksOrWaits received
asks_or_waits received (Whole request) whole found partial bad = inl (
  Some (asked_of whole.0),
  (
    whole.0,
    record { rest = drop request.used (head_bytes received); reads = whole.1.reads; room = whole.1.room },
    refl,
  ),
)
asks_or_waits received Bad whole found partial bad = inl (
  None,
  record { none = λ head has. found head has.rest has.reads has.room; cause = bad refl },
)
asks_or_waits received Partial whole found partial bad = inr (partial refl)
