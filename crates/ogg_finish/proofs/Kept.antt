-- What is left of a source after two calls in turn.
use Rattle.std.proofs.Common.{◌≡◌, ◌≢◌, ℕ, List, Result, Err, ◌∙◌}
use Rattle.ogg_finish.specs.declared.fault.FinishFault.{FinishFault}
use Rattle.ogg_split.specs.declared.fault.SplitFault.{SplitFault}
use Rattle.ogg_split.specs.declared.fault.SplitFault.TheVariants.{NoLink, NoStream, Source, Write}
use Rattle.ogg_page.specs.Window.{KeepsSource}

pub keeps_on : {S : Type 0} (bytes : S → List ℕ) (honest : S → Type 0) (size : S → ℕ) (only : S → S → Type 0)
    → ((first second third : S) → only first second → only second third → only first third)
    → (old mid now : S) → KeepsSource bytes honest size only old mid → KeepsSource bytes honest size only mid now → KeepsSource bytes honest size only old now
keeps_on bytes honest size only on old mid now a b = record {
  bytes_same = λ sure. b.bytes_same (a.honest_same.0 sure) ∙ a.bytes_same sure;
  honest_same = ((λ h. b.honest_same.0 (a.honest_same.0 h)), (λ h. a.honest_same.1 (b.honest_same.1 h)));
  size_same = b.size_same ∙ a.size_same;
  only = on old mid now a.only b.only;
}

-- each fault of a copy is one of these four
pub none_of : {T : Type 0} (result : Result T SplitFault) (fault : SplitFault) → result ≡ Err fault → result ≢ Err NoLink → result ≢ Err NoStream → result ≢ Err Source
    → result ≢ Err Write → ⊥
none_of result NoLink is a b c d = a is
none_of result NoStream is a b c d = b is
none_of result Source is a b c d = c is
none_of result Write is a b c d = d is

-- a result has one fault
pub one_fault : {T : Type 0} (result : Result T FinishFault) (fault other : FinishFault) → result ≡ Err fault → result ≡ Err other → fault ≡ other
one_fault result fault other a b = cc
