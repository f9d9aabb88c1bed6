-- What is left of a run after some of its pages.
use Rattle.std.specs.Prelude.{ℕ, zero, suc, ◌+◌, ◌-◌, ◌*◌, ◌<◌, ◌≤◌, ◌≡◌, nat_lt, if◌then◌else◌, List, [], ◌∷◌, ◌++◌, length, take, drop, sum}
use Rattle.ogg_page.specs.Page.{Page}
use Rattle.ogg_page.specs.Lacing.{lacing_of, ends_open}
use Rattle.packetiser.specs.Run.{Timed, run_lacing, run_bytes, values_before, packets_ended, position_of}
use Rattle.ogg_page.specs.Sizes.{most_values}

-- the lacing values that are left, if this number of bytes of the first packet is done
abbrev pub values_left : ℕ → List Timed → List ℕ
values_left done [] = []
values_left done (item ∷ rest) = lacing_of (length item.packet - done) ++ run_lacing rest

-- the bytes that are left
abbrev pub bytes_left : ℕ → List Timed → List ℕ
bytes_left done rest = drop done (run_bytes rest)

-- the first packet has this number of bytes or more; if no packet is left, the number is 0
abbrev pub IsWithin : ℕ → List Timed → Type 0
IsWithin done [] = done ≡ 0
IsWithin done (item ∷ rest) = done ≤ length item.packet

-- the lacing values of the next page
abbrev pub next_values : ℕ → List Timed → List ℕ
next_values done rest = take most_values (values_left done rest)

-- the next page, with further flags
abbrev pub next_page : ℕ → ℕ → ℕ → ℕ → List Timed → Page
next_page serial sequence flags done rest =
    record {
      flags = (if nat_lt 0 done then 1 else 0) + flags;
      position = position_of (packets_ended (next_values done rest)) rest;
      serial = serial;
      sequence = sequence;
      lacing = next_values done rest;
      body = take (sum (next_values done rest)) (bytes_left done rest);
    }

-- these packets are left after the next page, and `done'` bytes of the first of them are done
pub record IsBehind (done : ℕ) (rest : List Timed) (done' : ℕ) (rest' : List Timed) : Type 0 where
  pub values : values_left done' rest' ≡ drop most_values (values_left done rest)
  pub bytes : bytes_left done' rest' ≡ drop (sum (next_values done rest)) (bytes_left done rest)
  pub ended : rest' ≡ drop (packets_ended (next_values done rest)) rest
  pub within : IsWithin done' rest'
  pub open_is : 0 < length (next_values done rest) → nat_lt 0 done' ≡ ends_open (next_values done rest)

-- the flags that are added to page k: only the first page has any
abbrev pub added : ℕ → ℕ → ℕ
added flags zero = flags
added flags (suc k) = 0

-- `done` bytes of the first of these packets stand before page k
pub record IsAt (run : List Timed) (k done : ℕ) (rest : List Timed) : Type 0 where
  pub values : drop (most_values * k) (run_lacing run) ≡ values_left done rest
  pub bytes : drop (sum (values_before k (run_lacing run))) (run_bytes run) ≡ bytes_left done rest
  pub ended : rest ≡ drop (packets_ended (values_before k (run_lacing run))) run
  pub open_is : ends_open (values_before k (run_lacing run)) ≡ nat_lt 0 done
  pub within : IsWithin done rest
