-- What an opening reports of a page that wasn't taken.
use Rattle.std.proofs.Common.{◌≡◌, ◌≢◌, ◌⊎◌, inl, inr, ⊎_elim, ℕ, refl, sym, ◌∙◌, ap}
use Rattle.gate_file.specs.declared.fault.OpenFault.TheVariants.{Memory as NoMemory, Chain, Unfinished}
use Rattle.link_chain.specs.declared.chain_fault.ChainFault.{ChainFault}
use Rattle.link_chain.specs.declared.chain_fault.ChainFault.TheVariants.{Sequence, Continued, BosPlace, BosShape, SerialTwice, NoStream, AfterEos, BosWhileOpen, TooMany, EosUnfinished, Memory}
use Rattle.file_recorder.specs.Taking.{open_fault}

-- want of memory, or the fault itself
fault_told : (fault : ChainFault) → (fault ≡ Memory) ⊎ ((offset : ℕ) → open_fault (offset, fault) ≡ Chain offset fault)
fault_told Sequence = inr (λ offset. refl)
fault_told Continued = inr (λ offset. refl)
fault_told BosPlace = inr (λ offset. refl)
fault_told BosShape = inr (λ offset. refl)
fault_told SerialTwice = inr (λ offset. refl)
fault_told NoStream = inr (λ offset. refl)
fault_told AfterEos = inr (λ offset. refl)
fault_told BosWhileOpen = inr (λ offset. refl)
fault_told TooMany = inr (λ offset. refl)
fault_told EosUnfinished = inr (λ offset. refl)
fault_told Memory = inl refl

at_place : (at offset : ℕ) (why fault : ChainFault) → Chain at why ≡ Chain offset fault → (at ≡ offset) × (why ≡ fault)
at_place at offset why fault e = (cc, cc)

no_memory : (at offset : ℕ) (why fault : ChainFault) → why ≡ Memory → open_fault (at, why) ≡ Chain offset fault → ⊥
no_memory at offset why fault is e = let told : NoMemory ≡ Chain offset fault = sym (ap (λ (f : ChainFault). open_fault (at, f)) is) ∙ e in cc

pub told_chain : (place : ℕ × ChainFault) (offset : ℕ) (fault : ChainFault) → open_fault place ≡ Chain offset fault
    → (◌≡◌ {A = ℕ × ChainFault} place (offset, fault)) × (fault ≢ Memory)
told_chain (at, why) offset fault e =
    ⊎_elim
    (λ memory. absurd (no_memory at offset why fault memory e))
    (λ is.
    let same = at_place at offset why fault (sym (is at) ∙ e) in
    ((λ i. (same.0 i, same.1 i)), λ memory. no_memory at offset why fault (same.1 ∙ memory) e))
    (fault_told why)

pub told_not_unfinished : (place : ℕ × ChainFault) (serial : ℕ) → open_fault place ≡ Unfinished serial → ⊥
told_not_unfinished (at, why) serial e =
    ⊎_elim
    (λ memory. let told : NoMemory ≡ Unfinished serial = sym (ap (λ (f : ChainFault). open_fault (at, f)) memory) ∙ e in cc)
    (λ is. let told : Chain at why ≡ Unfinished serial = sym (is at) ∙ e in cc)
    (fault_told why)

pub told_not_chain : (serial offset : ℕ) (fault : ChainFault) → Unfinished serial ≡ Chain offset fault → ⊥
told_not_chain serial offset fault e = cc

pub same_serial : (a b : ℕ) → Unfinished a ≡ Unfinished b → a ≡ b
same_serial a b e = cc
