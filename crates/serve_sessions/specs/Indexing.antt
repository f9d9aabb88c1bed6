-- How far an index goes. Ours.
use Rattle.std.specs.Prelude.{◌≡◌, ◌≤◌, ℕ, ⊤, Option, Some, None, Result, Ok, Err, List, [], ◌++◌}
use Rattle.ogg_page.specs.Page.{Page}
use Rattle.ogg_page.specs.declared.fault.WindowFault.{WindowFault}
use Rattle.ogg_page.specs.declared.visiting.Visit.{Visit}
use Rattle.ogg_page.specs.declared.visiting.Visit.TheVariants.{GoesOn, Ends}
use Rattle.link_chain.specs.Taking.{HasRoomFor, fault_of_page}
use Rattle.link_chain.specs.declared.chain_fault.ChainFault.{ChainFault}
use Rattle.link_chain.specs.declared.chain_fault.ChainFault.TheVariants.{Memory as NoRoom}
use Rattle.link_index.specs.Adding.{AddsPages, IndexState}
use Rattle.serve_machine.specs.declared.fault.HubFault.{HubFault}
use Rattle.serve_machine.specs.declared.fault.HubFault.TheVariants.{Source, Memory}

-- the index is that of whole pages that stand in front of these bytes
pub record IsOfFront (bytes : List ℕ) (index : IndexState) : Type 0 where
  pub front : List ℕ
  pub rest : List ℕ
  pub split : bytes ≡ front ++ rest
  pub added : AddsPages [] front index (Ok tt)

-- The index had no room for this page, if the page may follow, and it has what it had.
pub record LacksRoom (page : Page) (before after : IndexState) : Type 0 where
  pub lacks : fault_of_page before.chain.chain page ≡ None → HasRoomFor before.chain page → 1 ≤ before.link_room → 1 ≤ before.stream_room → ⊥
  pub chain : after.chain.chain ≡ before.chain.chain
  pub entries : after.entries ≡ before.entries

-- The fault if a page isn't added: in a file of links only memory can be lacking.
abbrev pub fault_unadded : Option (ℕ × ChainFault) → HubFault
fault_unadded (Some (offset, NoRoom)) = Memory
fault_unadded broken = Source

-- the result of a walk that added pages to an index, if the page at which it ended wasn't added for this fault
abbrev pub result_of : Result Visit WindowFault → Option (ℕ × ChainFault) → Result ⊤ HubFault
result_of (Ok GoesOn) broken = Ok tt
result_of (Ok Ends) broken = Err (fault_unadded broken)
result_of (Err wrong) broken = Err Source
