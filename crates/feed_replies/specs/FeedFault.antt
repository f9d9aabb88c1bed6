-- The numbers and names of what can be wrong with a feed. They are ours.
use Rattle.std.specs.Prelude.{◌≡◌, ℕ, List, codes}
use Rattle.feed_replies.specs.declared.fault.FeedFault.{FeedFault}
use Rattle.feed_replies.specs.declared.fault.FeedFault.TheVariants.{Truncated, Kind, Length, Form, Read, Memory}

abbrev pub code_of : FeedFault → ℕ
code_of Truncated = 1
code_of Kind = 2
code_of Length = 3
code_of Form = 4
code_of Read = 5
code_of Memory = 6

abbrev pub name_of : FeedFault → List ℕ
name_of Truncated = codes "Truncated"
name_of Kind = codes "Kind"
name_of Length = codes "Length"
name_of Form = codes "Form"
name_of Read = codes "Read"
name_of Memory = codes "Memory"

-- lack of memory is the fault `Memory`
abbrev pub IsMemory : {A : Type 0} → A → FeedFault → Type 0
IsMemory refused fault = fault ≡ Memory
