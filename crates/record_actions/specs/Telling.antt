-- What a recording has come to, by the steps that were told of it, and with which fault it ends. Ours.
use Rattle.std.specs.Prelude.{◌≡◌, ◌+◌, ◌-◌, ◌^◌, ℕ, zero, suc, min, Bool, true, false, Option, None, Some}
use Rattle.fault_lines.specs.declared.fault.Fault.{Fault}
use Rattle.fault_lines.specs.declared.fault.Fault.TheVariants.{Mended, NoPage, Refused}
use Rattle.import_mend.specs.declared.mend.Mend.{Mend}
use Rattle.import_record.specs.declared.lines.Totals.{Totals}
use Rattle.import_record.specs.declared.reading.Step.{Step}
use Rattle.import_record.specs.declared.reading.Step.TheVariants.{Ended, Page}
use Rattle.ogg_command.specs.declared.refusal.Refusal.{Refusal}
use Rattle.ogg_command.specs.declared.refusal.Refusal.TheVariants.{Disk, Failed}

-- Something was refused; or, in a strict run, mended; or bytes came that had to be mended, and no page among them.
abbrev pub fault_of : Bool → Bool → Bool → ℕ → Option Fault
fault_of true strict has_pages mends = Some Refused
fault_of false true has_pages (suc mends) = Some Mended
fault_of false false false (suc mends) = Some NoPage
fault_of false strict has_pages mends = None

-- whether a page has come, after a step of the input
abbrev pub HasCome : Step → Bool → Bool → Type 0
HasCome (Page offset junk taken) old new = new ≡ true
HasCome step old new = new ≡ old

-- nothing yet, over a file whose pages have so many bytes
abbrev pub nothing_to : ℕ → Totals
nothing_to end = record { links = 0; packets = 0; bytes = end; mends = 0 }

-- a count stays at its greatest number
abbrev pub more : ℕ → ℕ → ℕ
more count added = min (count + added) (2 ^ 64 - 1)

-- each mend is counted
abbrev pub mended_by : Option Mend → Totals → Totals
mended_by None totals = totals
mended_by (Some mend) totals = record totals { mends = more totals.mends 1 }

abbrev pub mended_in : Step → Totals → Totals
mended_in (Page offset junk taken) totals = mended_by taken.mend (mended_by junk totals)
mended_in (Ended junk) totals = mended_by junk totals
mended_in step totals = totals

-- the links and packets that wait for their commit, after a step
abbrev pub links_after : Step → ℕ → ℕ
links_after (Page offset junk taken) links = more links taken.answered.links
links_after step links = links

abbrev pub packets_after : Step → ℕ → ℕ
packets_after (Page offset junk taken) packets = more packets taken.answered.packets
packets_after step packets = packets

-- a fault of the disk is told when the file is opened again, and any other refusal at once
abbrev pub is_told : Option Refusal → Bool
is_told None = false
is_told (Some Disk) = false
is_told (Some Failed) = false
is_told (Some refusal) = true

abbrev pub refuses_in : Step → Bool
refuses_in (Page offset junk taken) = is_told taken.answered.refused
refuses_in step = false

-- what a recording has come to once these links and packets are on the disk too, and the file's pages end there
abbrev pub totals_with : Totals → ℕ → ℕ → ℕ → Totals
totals_with totals links packets end = record totals
    { links = more totals.links links; packets = more totals.packets packets; bytes = end }
