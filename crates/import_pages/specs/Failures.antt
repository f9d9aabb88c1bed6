-- How often reads have failed. Ours.
use Rattle.std.specs.Prelude.{ℕ, ◌+◌, ◌-◌, ◌^◌, min, Result, Ok, Err}
use Rattle.import_pages.specs.declared.fault.PageReaderFault.{PageReaderFault}
use Rattle.import_pages.specs.declared.fault.PageReaderFault.TheVariants.{Page, Read}

-- once more, as far as a `u64` goes
abbrev pub once_more : ℕ → ℕ
once_more count = min (count + 1) (2 ^ 64 - 1)

-- The count after a call: only a call that answers `Read` raises it.
abbrev pub failures_after : {T : Type 0} → Result T PageReaderFault → ℕ → ℕ
failures_after (Ok value) count = count
failures_after (Err (Page fault)) count = count
failures_after (Err Read) count = once_more count
