-- A reader that has read nothing ahead of a file of which no more than so many bytes are taken.
use Rattle.std.proofs.Common.{◌≡◌, ◌==◌, ◌++◌, ◌<◌, ℕ, List, [], Option, None, Some, Result, Err, IfSome, if◌then◌else◌, take, length, refl, sym, ◌∙◌, ap, subst}
use Rattle.std.specs.Option.{option_map}
use Rattle.std.specs.Io.BufRead.{take_through}
use Rattle.std.specs.Io.KnownBytes.{prepend_known}
use Rattle.fault_lines.specs.declared.fault.Fault.{Fault}

nothing_ahead : (known : Option (List ℕ)) → prepend_known [] known ≡ known
nothing_ahead None = refl
nothing_ahead (Some bytes) = refl

-- what is known of the reader, by its room, what it has read ahead, and what is known of the file that it reads
pub known_of : (room limit : ℕ) (ahead : List ℕ) (known : Option (List ℕ)) → room ≡ 8192 → ahead ≡ [] → limit ≡ 4097
    → (if room == 0 then None else prepend_known ahead (option_map (take limit) known)) ≡ option_map (take 4097) known
known_of room limit ahead known roomy none short =
    ap (λ (n : ℕ). if n == 0 then None else prepend_known ahead (option_map (take limit) known)) roomy
    ∙ ap (λ (bytes : List ℕ). prepend_known bytes (option_map (take limit) known)) none
    ∙ nothing_ahead (option_map (take limit) known)
    ∙ ap (λ (n : ℕ). option_map (take n) known) short

-- the line that it gives is that of the file
pub line_of : (known read : Option (List ℕ)) (before line : List ℕ) → before ≡ [] → read ≡ option_map (take 4097) known
    → IfSome read (λ bytes. line ≡ before ++ take_through 10 bytes) → IfSome known (λ bytes. line ≡ take_through 10 (take 4097 bytes))
line_of None read before line none is given = tt
line_of (Some bytes) read before line none is given =
    let it : line ≡ before ++ take_through 10 (take 4097 bytes) =
    subst (λ (one : Option (List ℕ)). IfSome one (λ xs. line ≡ before ++ take_through 10 xs)) is given in
    it ∙ ap (λ (front : List ℕ). front ++ take_through 10 (take 4097 bytes)) none

-- a line that is too long is refused
pub refused : {A : Type 0} (known : Option (List ℕ)) (line : List ℕ) (result : Result A Fault) → IfSome known (λ bytes. line ≡ take_through 10 (take 4097 bytes))
    → (4096 < length line → result ≡ Err Fault.File) → IfSome known (λ bytes. 4096 < length (take_through 10 (take 4097 bytes)) → result ≡ Err Fault.File)
refused None line result is long = tt
refused (Some bytes) line result is long = λ much. long (subst (λ (one : List ℕ). 4096 < length one) (sym is) much)
