-- What is noted of growths that were refused. Ours.
use Rattle.std.specs.Prelude.{◌≡◌, Bool, ◌||◌, Result, is_err}

-- An error of a call that only wants memory is noted, as a growth was refused; else what was noted stays as it is.
abbrev pub IsNoted : {T E : Type 0} → Result T E → Bool → Bool → Type 0
IsNoted result old new = new ≡ (is_err result || old)
