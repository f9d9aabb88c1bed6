-- What a station answers itself, by the target of a request (RFC 9112, section 3.2). The names are ours.
use Rattle.std.specs.Prelude.{ℕ, Bool, true, List, [], ◌∷◌, length, take, drop, map, min, nat_eq, ◌||◌, ◌&&◌, ◌==◌, if◌then◌else◌, Option, Some, None, codes}
use Rattle.std.specs.Char.{to_ascii_lowercase}
use Rattle.std.specs.List.{starts_with}
use Rattle.std.specs.Str.{byte, bytes_eq}
use Rattle.ogg_http.specs.Target.{path_of}
use Rattle.serve_sources.specs.declared.own.OwnResource.{OwnResource}
use Rattle.serve_sources.specs.declared.own.OwnResource.TheVariants.{Live, Player, Status}

-- what may follow a path: nothing, or a query (RFC 3986, section 3.4), which is ignored
abbrev pub ends_path : List ℕ → Bool
ends_path [] = true
ends_path (b ∷ rest) = b == byte "?"

-- the path is this one
abbrev pub is_at : List ℕ → List ℕ → Bool
is_at name path = starts_with nat_eq path name && ends_path (drop (length name) path)

-- what stands at a path
abbrev pub own_at : List ℕ → Option OwnResource
own_at path =
    if is_at (codes "/live") path || is_at (codes "/live.ogg") path then Some Live
    else if is_at (codes "/player") path then Some Player
    else if is_at (codes "/status") path then Some Status
    else None

-- what a target names; an absolute form is judged by its path
abbrev pub own_of : List ℕ → Option OwnResource
own_of target = own_at (path_of target)

-- more bytes may make this the path, or it is
abbrev pub may_be_at : List ℕ → List ℕ → Bool
may_be_at name path = starts_with nat_eq name path || is_at name path

-- more bytes may make this a path at which something stands
abbrev pub may_be_own_path : List ℕ → Bool
may_be_own_path path =
    may_be_at (codes "/live") path || may_be_at (codes "/live.ogg") path
    || may_be_at (codes "/player") path || may_be_at (codes "/status") path

-- the target is the beginning of an absolute form
abbrev pub may_have_scheme : List ℕ → Bool
may_have_scheme target =
    let count = min (length target) 7 in
    bytes_eq (map to_ascii_lowercase (take count target)) (map to_ascii_lowercase (take count (codes "http://")))

-- more bytes may make this a target that names something
-- ours: an absolute form is read up to its end before it is judged
abbrev pub may_be_own_target : List ℕ → Bool
may_be_own_target target = may_be_own_path target || may_have_scheme target
