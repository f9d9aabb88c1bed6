-- What is left of a page that is mended.
use Rattle.std.specs.Prelude.{ℕ, suc, ◌-◌, Bool, not, ◌&&◌, nat_eq, nat_lt, if◌then◌else◌, List, [], ◌∷◌, take, drop, sum}
use Rattle.std.specs.List.{list_any}
use Rattle.ogg_page.specs.Page.{Page}
use Rattle.ogg_page.specs.LogicalStream.{is_last, is_continued}
use Rattle.ogg_page.specs.Sizes.{full_value}
use Rattle.link_chain.specs.declared.stream_state.StreamState.{StreamState}
use Rattle.import_mend.specs.Ways.{number_due}

-- a packet ends among these lacing values (RFC 3533, section 5)
abbrev pub ends_some : List ℕ → Bool
ends_some values = list_any (λ (value : ℕ). nat_lt value full_value) values

-- The page is joined with the stream's page before: its number is the next one, and its continued flag says what the
-- last lacing value of that page says. A packet that goes on from there must not grow too long, and must end in a
-- page that is the stream's last.
abbrev pub is_joined : ℕ → StreamState → Bool → Page → Bool
is_joined lost stream too_long page =
    nat_eq page.sequence (number_due lost stream)
    && (if is_continued page then not stream.finished else stream.finished)
    && not too_long
    && not (is_last page && is_continued page && not (ends_some page.lacing))

-- how many lacing values a packet has that goes on from the page before: those up to the first that isn't full
abbrev pub front_values : List ℕ → ℕ
front_values [] = 0
front_values (value ∷ values) = if nat_lt value full_value then 1 else suc (front_values values)

-- how many lacing values the packets have that end in the page: those up to the last that isn't full
abbrev pub whole_values : List ℕ → ℕ
whole_values [] = 0
whole_values (value ∷ values) = if ends_some (value ∷ values) then suc (whole_values values) else 0

-- the page without its first lacing values, and without their bytes
abbrev pub without_values : ℕ → Page → Page
without_values count page = record page { lacing = drop count page.lacing; body = drop (sum (take count page.lacing)) page.body }

-- the page with its first lacing values, and their bytes
abbrev pub with_values : ℕ → Page → Page
with_values count page = record page { lacing = take count page.lacing; body = take (sum (take count page.lacing)) page.body }

-- it begins with the rest of a packet whose beginning isn't there: that rest is cut off
abbrev pub is_cut : Bool → Page → Bool
is_cut joined page = is_continued page && not joined

abbrev pub behind_rest : Bool → Page → Page
behind_rest joined page =
    if is_cut joined page then record (without_values (front_values page.lacing) page) { flags = page.flags - 1 } else page

-- a stream's last page leaves no packet unfinished: the beginning of one is cut off
abbrev pub left_whole : Page → Page
left_whole page = if is_last page then with_values (whole_values page.lacing) page else page

-- what is left, with the number that it is given
abbrev pub mended : Bool → ℕ → Page → Page
mended joined number page = record (left_whole (behind_rest joined page)) { sequence = number }

-- ---- a stream that has no last page
-- it is ended by a page without packets, at the position that it has reached
abbrev pub last_page : ℕ → ℕ → ℕ → Page
last_page serial position number =
    record { flags = 4; position = position; serial = serial; sequence = number; lacing = []; body = [] }

abbrev pub end_page : ℕ → StreamState → Page
end_page number stream = last_page stream.serial stream.last_position number
