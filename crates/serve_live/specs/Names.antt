-- How the streams of a file are heard: under which serials, and with which numbers. Ours.
use Rattle.std.specs.Prelude.{ℕ, nat_eq, if◌then◌else◌, List, [], ◌∷◌}
use Rattle.serve_live.specs.declared.names.StreamName.{StreamName}

-- a stream under its own serial, whose numbers go on without its gap
abbrev pub plain : (ℕ → ℕ) → ℕ → StreamName
plain gaps serial = record { serial = serial; name = serial; less = gaps serial; more = 0 }

-- how the first stream with this serial is heard, or as it is if there is none
abbrev pub name_in : List StreamName → ℕ → StreamName
name_in [] serial = record { serial = serial; name = serial; less = 0; more = 0 }
name_in (stream ∷ streams) serial = if nat_eq stream.serial serial then stream else name_in streams serial

-- how many numbers of the stream aren't heard
abbrev pub gap_in : List StreamName → ℕ → ℕ
gap_in names serial = (name_in names serial).less
