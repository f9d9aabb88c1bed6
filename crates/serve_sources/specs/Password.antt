-- The password that a source has to give, and the file that holds it. The file's form is ours.
use Rattle.std.specs.Prelude.{◌≡◌, ℕ, ◌-◌, List, length, take, ◌==◌, nat_eq, if◌then◌else◌, Option, Some, None, position, codes}
use Rattle.std.specs.List.{ends_with}
use Rattle.std.specs.Str.{byte}
use Rattle.serve_sources.specs.declared.password.Password.{Password}
use Rattle.serve_sources.specs.declared.password.PasswordFault.{PasswordFault}
use Rattle.serve_sources.specs.declared.password.PasswordFault.TheVariants.{Memory}

-- a line that may end in CR, without it
abbrev pub without_return : List ℕ → List ℕ
without_return text = if ends_with nat_eq text (codes "\r") then take (length text - 1) text else text

-- what stands before this line feed, or all
abbrev pub line_before : Option ℕ → List ℕ → List ℕ
line_before None file = without_return file
line_before (Some end) file = without_return (take end file)

-- the first line of a file, without its end, which is LF or CR LF
abbrev pub first_line : List ℕ → List ℕ
first_line file = line_before (position (λ b. b == byte "\n") file) file

-- the bytes that are kept
abbrev pub password_bytes : Password → List ℕ
password_bytes password = password.bytes.items

-- want of memory is the fault `Memory`
abbrev pub IsMemory : {A : Type 0} → A → PasswordFault → Type 0
IsMemory refused fault = fault ≡ Memory
