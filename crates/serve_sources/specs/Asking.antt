-- What the first bytes of a connection ask for, by their request line: a method, a space, a target, a space, a version
-- (RFC 9112, section 3).
-- Ours: a connection has one request, so no empty line is passed over before it (section 2.2).
use Rattle.std.specs.Prelude.{◌≡◌, ◌≤◌, ℕ, ◌⊎◌, Bool, true, false, List, length, drop, take, map, not, nat_eq, ◌||◌, ◌&&◌, ◌==◌, if◌then◌else◌, Option, Some, None, position, codes}
use Rattle.std.specs.List.{starts_with}
use Rattle.std.specs.Str.{byte}
use Rattle.httparse.specs.Grammar.{RequestHead, ReadsRequest}
use Rattle.httparse.specs.Spans.{name_and_value}
use Rattle.ogg_http.specs.Fields.{count_of}
use Rattle.ogg_http.specs.Head.{head_bytes, most_bytes, most_fields, IsAwaited, IsHopeless}
use Rattle.std.specs.Option.{is_some}
use Rattle.serve_sources.specs.declared.own.OwnResource.{OwnResource}
use Rattle.serve_sources.specs.Own.{own_of, may_be_own_target}

-- a source's method and the space after it: PUT (RFC 9110, section 9.3.4), or SOURCE as encoders have it
abbrev pub is_source : List ℕ → Bool
is_source front = starts_with nat_eq front (codes "PUT ") || starts_with nat_eq front (codes "SOURCE ")

-- more bytes may make this a source's method
abbrev pub may_be_source : List ℕ → Bool
may_be_source front = starts_with nat_eq (codes "PUT ") front || starts_with nat_eq (codes "SOURCE ") front

-- a listener's method and the space after it
abbrev pub listener_method : Bool → List ℕ
listener_method false = codes "GET "
listener_method true = codes "HEAD "

-- the bytes after the method may still become a target that the station answers itself, or it has come and is one
abbrev pub may_go_on : Option ℕ → List ℕ → Bool
may_go_on None target = may_be_own_target target
may_go_on (Some end) target = is_some (own_of (take end target))

-- the same of all bytes after the method
abbrev pub may_name_own : List ℕ → Bool
may_name_own target = may_go_on (position (λ b. b == byte " ") target) target

-- more bytes may make this a listener's method
abbrev pub may_be_listener : List ℕ → Bool
may_be_listener front =
    starts_with nat_eq (listener_method false) front || starts_with nat_eq (listener_method true) front

-- more bytes may make this the request line of such a listener, or they have made it
abbrev pub may_be_own : List ℕ → Bool
may_be_own front =
    if may_be_listener front then true
    else if starts_with nat_eq front (listener_method false) then may_name_own (drop 4 front)
    else if starts_with nat_eq front (listener_method true) then may_name_own (drop 5 front)
    else false

-- the bytes begin with this head, and it isn't past the limits
abbrev pub HasHead : List ℕ → RequestHead → Type 0
HasHead front request =
    (rest : List ℕ) × ReadsRequest (head_bytes front) request rest × (length request.fields ≤ most_fields)

-- what a target names in a head of this version with this number of Host fields: HTTP/1.1 has exactly one (section 3.2)
abbrev pub named : List ℕ → Bool → ℕ → Option OwnResource
named target http11 hosts = if http11 && not (hosts == 1) then None else own_of target

-- what a head names of all that the station answers itself
abbrev pub named_by : RequestHead → Option OwnResource
named_by request =
    named request.target (request.minor == 1) (count_of (codes "host") (map name_and_value request.fields))

-- a whole head asks for this, by GET or by HEAD
pub record IsOwn (resource : OwnResource) (head : Bool) (front : List ℕ) : Type 0 where
  pub method : starts_with nat_eq front (listener_method head) ≡ true
  pub request : RequestHead
  pub has : HasHead front request
  pub names : named_by request ≡ Some resource

-- a source's or a listener's request may still come
abbrev pub MayCome : List ℕ → Type 0
MayCome front = (may_be_source front ≡ true) ⊎ ((may_be_own front ≡ true) × IsAwaited front)

-- a whole head asks for something else
abbrev pub AsksOther : List ℕ → Type 0
AsksOther front =
    (request : RequestHead) × HasHead front request
    × ((resource : OwnResource) (head : Bool)
    → starts_with nat_eq front (listener_method head) ≡ true → named_by request ≡ Some resource → ⊥)

-- there is no head, and none comes, or none came within the limit
pub record LacksHead (front : List ℕ) : Type 0 where
  pub none : (request : RequestHead) → HasHead front request → ⊥
  pub cause : IsHopeless front ⊎ (most_bytes ≤ length front)

-- neither a source's nor a listener's request comes: the request line is another one, the head asks for something else,
-- or there is none
pub record IsOther (front : List ℕ) : Type 0 where
  pub no_source : is_source front ≡ false
  pub nor_front : may_be_source front ≡ false
  pub cause : (may_be_own front ≡ false) ⊎ (AsksOther front ⊎ LacksHead front)
