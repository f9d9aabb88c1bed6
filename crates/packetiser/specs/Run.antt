-- The pages of a run: packets of one logical stream, each with its position, that go into pages together
-- (RFC 3533, sections 5 and 6).
use Rattle.std.specs.Prelude.{ℕ, zero, suc, ◌+◌, ◌-◌, ◌*◌, ◌/◌, ◌^◌, ◌<◌, nat_eq, nat_lt, if◌then◌else◌, List, [], ◌∷◌, length, take, drop, map, sum, sum_by, count_by}
use Rattle.std.specs.List.{flat_map, AllByRecursion}
use Rattle.ogg_page.specs.Page.{Page, IsByte}
use Rattle.ogg_page.specs.Lacing.{lace, ends_open}
use Rattle.ogg_page.specs.Sizes.{fixed_size, most_values, full_value}

-- a packet with its position
pub record Timed : Type 0 where
  pub position : ℕ
  pub packet : List ℕ

-- its numbers are in their fields' ranges
pub record IsTimed (item : Timed) : Type 0 where
  pub position : item.position < 2 ^ 64
  pub packet : AllByRecursion IsByte item.packet

-- this many numbers, from a first one on
abbrev pub counted : ℕ → ℕ → List ℕ
counted first zero = []
counted first (suc n) = first ∷ counted (first + 1) n

-- the position of a page in which no packet ends: -1, as 64 bits
abbrev pub no_position : ℕ
no_position = 2 ^ 64 - 1

-- the joined lacing values of a run, and its joined bytes
unfoldable pub run_lacing : List Timed → List ℕ
run_lacing run = flat_map (λ item. lace item.packet) run

unfoldable pub run_bytes : List Timed → List ℕ
run_bytes run = flat_map (λ item. item.packet) run

-- page k has as many lacing values as a page can have, from those of the pages before it on
unfoldable pub values_at : ℕ → List ℕ → List ℕ
values_at k values = take most_values (drop (most_values * k) values)

-- the values of the pages before page k
unfoldable pub values_before : ℕ → List ℕ → List ℕ
values_before k values = take (most_values * k) values

-- the number of packets that end in these values
abbrev pub packets_ended : List ℕ → ℕ
packets_ended values = count_by (λ value. nat_lt value full_value) values

-- the position of the n-th packet of the run, from 1 on
abbrev pub position_of : ℕ → List Timed → ℕ
position_of zero run = no_position
position_of (suc n) [] = no_position
position_of (suc zero) (item ∷ run) = item.position
position_of (suc (suc n)) (item ∷ run) = position_of (suc n) run

-- the position of the last packet that ends in page k, else -1
unfoldable pub page_position : ℕ → List Timed → ℕ
page_position k run =
    if nat_eq (packets_ended (values_at k (run_lacing run))) 0 then no_position
    else position_of (packets_ended (values_before (k + 1) (run_lacing run))) run

-- page k of a run: its values, its share of the bytes, and the continued flag if the page before it leaves a packet
-- unfinished
unfoldable pub page_of_run : ℕ → ℕ → List Timed → ℕ → Page
page_of_run serial first_sequence run k =
    let values = run_lacing run in
    record {
      flags = if ends_open (values_before k values) then 1 else 0;
      position = page_position k run;
      serial = serial;
      sequence = first_sequence + k;
      lacing = values_at k values;
      body = take (sum (values_at k values)) (drop (sum (values_before k values)) (run_bytes run));
    }

-- how many pages this number of lacing values takes
abbrev pub pages_for : ℕ → ℕ
pages_for values = (values + (most_values - 1)) / most_values

-- the pages of a run
unfoldable pub pages_of_run : ℕ → ℕ → List Timed → List Page
pages_of_run serial first_sequence run = map (page_of_run serial first_sequence run) (counted 0 (pages_for (length (run_lacing run))))

-- how many bytes the pages of a run have, by the numbers of its lacing values and of its packets' bytes
abbrev pub size_for : ℕ → ℕ → ℕ
size_for values bytes = fixed_size * pages_for values + values + bytes

-- the pages with flags added to the first
abbrev pub flagged : ℕ → List Page → List Page
flagged flags [] = []
flagged flags (page ∷ pages) = record page { flags = page.flags + flags } ∷ pages

-- how many bytes the packets of a run have together
abbrev pub lengths : List Timed → ℕ
lengths run = sum_by (λ item. length item.packet) run

-- the page of a packet that lies whole in it
abbrev pub whole_page : ℕ → ℕ → ℕ → Timed → Page
whole_page serial sequence flags item =
    record { flags = flags; position = item.position; serial = serial; sequence = sequence; lacing = lace item.packet; body = item.packet }
