-- Lacing values (RFC 3533, sections 5 and 6): how long packets are cut into segments.
use Rattle.std.specs.Prelude.{ℕ, ◌-◌, ◌/◌, ◌%◌, Bool, nat_eq, List, [], ◌∷◌, ◌++◌, length, replicate, slice_index}
use Rattle.ogg_page.specs.Sizes.{full_value}

-- the lacing values of a packet of this length: a full one for each whole segment, and then the rest, which may be 0
unfoldable pub lacing_of : ℕ → List ℕ
lacing_of bytes = replicate (bytes / full_value) full_value ++ bytes % full_value ∷ []

-- the lacing values of a packet
abbrev pub lace : List ℕ → List ℕ
lace packet = lacing_of (length packet)

-- whether the last lacing value says that its packet goes on
abbrev pub ends_open : List ℕ → Bool
ends_open values = nat_eq (slice_index values (length values - 1)) full_value
