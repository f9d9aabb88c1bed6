-- What the target of a request names (RFC 9112, section 3.2). The names are ours.
use Rattle.std.specs.Prelude.{ℕ, ◌+◌, ◌^◌, ◌<◌, ⊤, ◌&&◌, ◌||◌, not, Bool, List, ◌∷◌, ◌++◌, length, take, drop, map, slice_index, nat_eq, nat_lt, if◌then◌else◌, ◌==◌, Option, Some, None, option_map, option_and_then, position, codes}
use Rattle.std.specs.Char.{to_ascii_lowercase}
use Rattle.std.specs.Fmt.{decimal}
use Rattle.std.specs.List.{starts_with}
use Rattle.std.specs.Str.{byte, bytes_eq}
use Rattle.std.specs.Str.Parse.{digits_value}
use Rattle.ogg_http.specs.Digits.{is_number}
use Rattle.ogg_http.specs.declared.target.Resource.{Resource}
use Rattle.ogg_http.specs.declared.target.Resource.TheVariants.{List as Listing, All, Link, Stream}

-- the byte of `/`
abbrev pub slash : ℕ
slash = byte "/"

-- the path of a resource, with its numbers in decimal
abbrev pub path_to : Resource → List ℕ
path_to Listing = codes "/"
path_to All = codes "/all"
path_to (Link link) = codes "/link/" ++ decimal link
path_to (Stream link serial) = codes "/link/" ++ decimal link ++ slash ∷ decimal serial

-- links and serials are numbers of 32 bits
abbrev pub IsResource : Resource → Type 0
IsResource (Link link) = link < 2 ^ 32
IsResource (Stream link serial) = (link < 2 ^ 32) × (serial < 2 ^ 32)
IsResource _ = ⊤

-- the place of the first slash
abbrev pub first_slash : List ℕ → Option ℕ
first_slash text = position (λ b. b == slash) text

-- a scheme's case doesn't count (RFC 9110, section 4.2.3)
abbrev pub has_scheme : List ℕ → Bool
has_scheme target = bytes_eq (map to_ascii_lowercase (take 7 target)) (codes "http://")

-- the path from this slash on; an empty path is the root (RFC 9110, section 4.2.3)
abbrev pub path_from : Option ℕ → List ℕ → List ℕ
path_from None rest = codes "/"
path_from (Some at) rest = drop at rest

-- the path of an absolute form (section 3.2.2); any other target is taken as the path itself (section 3.2.1)
abbrev pub path_of : List ℕ → List ℕ
path_of target =
    if has_scheme target then path_from (first_slash (drop 7 target)) (drop 7 target) else target

-- The resource of a path as a function, for definitions that cite it: `Resource::of` in src/ has both.

-- a number of 32 bits, without leading zeros
abbrev pub name_of : List ℕ → Option ℕ
name_of text =
    if is_number text && (length text == 1 || not (slice_index text 0 == 48)) && nat_lt (digits_value 10 text) (2 ^ 32)
    then Some (digits_value 10 text) else None

-- a link alone, or a link and a serial before and after the first slash
abbrev pub named_by_numbers : Option ℕ → List ℕ → Option Resource
named_by_numbers None text = option_map (λ link. Link link) (name_of text)
named_by_numbers (Some at) text =
    option_and_then
    (λ link. option_map (λ serial. Stream link serial) (name_of (drop (at + 1) text)))
    (name_of (take at text))

-- what a path names
abbrev pub named_by : List ℕ → Option Resource
named_by path =
    if bytes_eq path (codes "/") then Some Listing
    else if bytes_eq path (codes "/all") then Some All
    else if starts_with nat_eq path (codes "/link/") then named_by_numbers (first_slash (drop 6 path)) (drop 6 path)
    else None

-- what a target names
abbrev pub resource_of : List ℕ → Option Resource
resource_of target = named_by (path_of target)
