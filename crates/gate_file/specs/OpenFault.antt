-- The numbers and names of the reasons not to open a file. They are ours.
use Rattle.std.specs.Prelude.{◌≡◌, ℕ, List, codes, refl}
use Rattle.std.proofs.Common.{sym}
use Rattle.ogg_page.specs.declared.fault.PageFault.{PageFault}
use Rattle.gate_file.specs.declared.fault.FindFault.{FindFault}
use Rattle.gate_file.specs.declared.fault.FindFault.TheVariants.{Disk as FindDisk, Page as FindPage}
use Rattle.gate_file.specs.declared.fault.OpenFault.{OpenFault}
use Rattle.gate_file.specs.declared.fault.OpenFault.TheVariants.{Disk, Page, Memory, Chain, Unfinished}

abbrev pub code_of : OpenFault → ℕ
code_of Disk = 1
code_of (Page offset fault) = 2
code_of Memory = 3
code_of (Chain offset fault) = 4
code_of (Unfinished serial) = 5

abbrev pub name_of : OpenFault → List ℕ
name_of Disk = codes "Disk"
name_of (Page offset fault) = codes "Page"
name_of Memory = codes "Memory"
name_of (Chain offset fault) = codes "Chain"
name_of (Unfinished serial) = codes "Unfinished"

-- why a file isn't opened, if the end of its committed bytes isn't found
abbrev pub fault_of_finding : FindFault → OpenFault
fault_of_finding FindDisk = Disk
fault_of_finding (FindPage offset fault) = Page offset fault

abbrev pub IsOfFinding : FindFault → OpenFault → Type 0
IsOfFinding finding fault = fault ≡ fault_of_finding finding

pub no_page : (offset : ℕ) (fault : PageFault) → Disk ≡ Page offset fault → ⊥
no_page offset fault e = cc

same_page : (at offset : ℕ) (why fault : PageFault) → Page at why ≡ Page offset fault → (at ≡ offset) × (why ≡ fault)
same_page at offset why fault e = (cc, cc)

-- Opening tells of a page if finding did.
pub told_page : (finding : FindFault) (offset : ℕ) (fault : PageFault) → fault_of_finding finding ≡ Page offset fault → finding ≡ FindPage offset fault
told_page FindDisk offset fault e = absurd (no_page offset fault e)
told_page (FindPage at why) offset fault e =
    let same = same_page at offset why fault e in
    (λ i. FindPage (same.0 i) (same.1 i))

-- It blames the disk if finding did.
pub told_disk : (finding : FindFault) → fault_of_finding finding ≡ Disk → finding ≡ FindDisk
told_disk FindDisk e = refl
told_disk (FindPage offset fault) e = absurd (no_page offset fault (sym e))
