-- Why a listener couldn't join.
use Rattle.std.proofs.Common.{◌≡◌, ◌⊎◌, ℕ, ◌-◌, ◌≤◌, ◌<◌, ◌^◌, Result, Err, refl, sym, ◌∙◌, ap, arith, inl, inr}
use Rattle.serve_live.specs.Listening.{ListenerState}
use Rattle.serve_live.specs.declared.fault.JoinFault.{JoinFault}
use Rattle.serve_live.specs.declared.fault.JoinFault.TheVariants.{Source as JoinSource, Memory as JoinMemory}
use Rattle.serve_machine.specs.declared.fault.HubFault.{HubFault}
use Rattle.serve_machine.specs.declared.fault.HubFault.TheVariants.{Source, Memory}
use Rattle.serve_sessions.specs.Joining.{fault_of_join}

fault_is : (fault : JoinFault) → ◌≡◌ {A = Result ListenerState HubFault} (Err (fault_of_join fault)) (Err Source) → ◌≡◌ {A = Result ListenerState JoinFault} (Err fault) (Err JoinSource)
fault_is JoinSource e = refl
fault_is JoinMemory e = absurd (let f : ◌≡◌ {A = Result ListenerState HubFault} (Err Memory) (Err Source) = e in cc)

-- a fault of the source was one
pub join_is_source : (fault : JoinFault) (told : HubFault) → told ≡ fault_of_join fault → ◌≡◌ {A = Result ListenerState HubFault} (Err told) (Err Source) → ◌≡◌ {A = Result ListenerState JoinFault} (Err fault) (Err JoinSource)
join_is_source fault told is e = fault_is fault (ap (λ (f : HubFault). Err f) (sym is) ∙ e)

-- two calls that give different things, and the same fault
pub same_fault : {T U : Type 0} (a b : HubFault) → ◌≡◌ {A = Result T HubFault} (Err a) (Err b) → ◌≡◌ {A = Result U HubFault} (Err a) (Err b)
same_fault a b e = ap (λ (f : HubFault). Err f) (let f : a ≡ b = cc in f)

-- a failure since a later moment
pub later_failed : (first before now : ℕ) → first ≤ before → (before < now) ⊎ (now ≡ 2 ^ 64 - 1) → (first < now) ⊎ (now ≡ 2 ^ 64 - 1)
later_failed first before now le (inl rose) = inl (omega arith)
later_failed first before now le (inr at) = inr at
