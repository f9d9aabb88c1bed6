-- What the target of a request names of an archive (RFC 9112, section 3.2). The names are ours.
use Rattle.std.specs.Prelude.{◌≡◌, ◌≢◌, ◌⊎◌, ◌^◌, ◌<◌, ◌≤◌, ⊤, ℕ, length, Bool, true, false, None, List, [], ◌++◌, codes, drop, nat_eq, ◌||◌, if◌then◌else◌}
use Rattle.std.specs.Fmt.{decimal}
use Rattle.std.specs.List.{starts_with}
use Rattle.ogg_http.specs.Target.{first_slash}
use Rattle.httparse.specs.Grammar.{RequestHead}
use Rattle.ogg_http.specs.Head.{IsHopeless, most_bytes}
use Rattle.serve_sources.specs.Asking.{HasHead, listener_method, may_be_listener}
use Rattle.serve_sources.specs.Own.{may_have_scheme}
use Rattle.archive_fetch.specs.declared.wishes.Wish.{Wish}
use Rattle.archive_fetch.specs.declared.wishes.Wish.TheVariants.{Files, File, From, Between}

-- two times, as a path has them
abbrev pub both_times : List ℕ → List ℕ → List ℕ
both_times since until = since ++ (codes "/to/" ++ until)

-- the path of what is wished for: with its number in decimal, or with its times as they are written
abbrev pub path_to : Wish → List ℕ
path_to Files = codes "/files"
path_to (File number) = codes "/file/" ++ decimal number
path_to (From since) = codes "/from/" ++ since.now
path_to (Between since until) = codes "/from/" ++ both_times since.now until.now

-- a part of a path (RFC 3986, section 3.3)
abbrev pub IsSegment : List ℕ → Type 0
IsSegment text = (text ≢ []) × (first_slash text ≡ None)

-- numbers of files have 64 bits, and times are parts of the path
abbrev pub IsWish : Wish → Type 0
IsWish Files = ⊤
IsWish (File number) = number < 2 ^ 64
IsWish (From since) = IsSegment since.now
IsWish (Between since until) = IsSegment since.now × IsSegment until.now

-- ---- what may still become such a target
-- more bytes may make the one begin with the other, or it does
abbrev pub may_begin : List ℕ → List ℕ → Bool
may_begin name target = starts_with nat_eq name target || starts_with nat_eq target name

abbrev pub may_name : List ℕ → Bool
may_name target = may_begin (codes "/file") target || (may_begin (codes "/from/") target || may_have_scheme target)

-- more bytes may make this a listener's request for such a target
abbrev pub may_wish : List ℕ → Bool
may_wish front =
    if may_be_listener front then true
    else if starts_with nat_eq front (listener_method false) then may_name (drop 4 front)
    else if starts_with nat_eq front (listener_method true) then may_name (drop 5 front)
    else false

-- no more bytes make it such a request: it has another method or another target, its head is whole, none can come, or none
-- came within the limit
abbrev pub IsSettled : List ℕ → Type 0
IsSettled front =
    (may_wish front ≡ false) ⊎ (((request : RequestHead) × HasHead front request) ⊎ (IsHopeless front ⊎ (most_bytes ≤ length front)))
