-- What holds of reads from a source. These are laws, to be cited.
use Rattle.std.proofs.Common.{ℕ, List, ◌∙◌}
use Rattle.ogg_page.specs.Window.{KeepsSource}

-- reads that follow reads
pub keeps_both : {S : Type 0} (bytes : S → List ℕ) (honest : S → Type 0) (size : S → ℕ) (only : S → S → Type 0) (old mid new : S)
    → ((first second third : S) → only first second → only second third → only first third)
    → KeepsSource bytes honest size only old mid → KeepsSource bytes honest size only mid new → KeepsSource bytes honest size only old new
keeps_both bytes honest size only old mid new reads_on a b = record {
  bytes_same = λ sure. b.bytes_same (a.honest_same.0 sure) ∙ a.bytes_same sure;
  honest_same = ((λ h. b.honest_same.0 (a.honest_same.0 h)), (λ h. a.honest_same.1 (b.honest_same.1 h)));
  size_same = b.size_same ∙ a.size_same;
  only = reads_on old mid new a.only b.only;
}
