-- The numbers and names of what can be wrong with a packet of a Skeleton. They are ours.
use Rattle.std.specs.Prelude.{ℕ, List, codes}
use Rattle.skeleton3.specs.declared.fault.SkeletonFault.{SkeletonFault}
use Rattle.skeleton3.specs.declared.fault.SkeletonFault.TheVariants.{Length, Name, Version, Fields}

abbrev pub code_of : SkeletonFault → ℕ
code_of Length = 1
code_of Name = 2
code_of Version = 3
code_of Fields = 4

abbrev pub name_of : SkeletonFault → List ℕ
name_of Length = codes "Length"
name_of Name = codes "Name"
name_of Version = codes "Version"
name_of Fields = codes "Fields"
