use Rattle.std.proofs.Common.{◌≡◌, ℕ, List, [], ◌∷◌, ◌++◌, take, refl, ap, sym, ◌∙◌, append_assoc}
use Rattle.serve_origins.specs.Added.{AreWritten, Writing, end_of, left_of, own_of, written_of}
use Rattle.serve_origins.specs.declared.added.Added.{Added}
use Rattle.serve_origins.specs.declared.added.Added.TheVariants.{Nothing}
use Rattle.serve_origins.proofs.laws.responses_have_their_field.Goals as goal

goes_on : (field : List ℕ) (old : Added) (writings : List Writing) (more : List ℕ) → AreWritten field old writings
    → left_of old field (own_of writings ++ more) ≡ written_of field old writings ++ left_of (end_of old writings) field more
goes_on field old [] more written = refl
goes_on field old (one ∷ rest) more (here, later) =
    ap (left_of old field) (append_assoc (take one.own one.bytes) (own_of rest) more)
    ∙ here (own_of rest ++ more)
    ∙ ap (λ l. take one.count (left_of old field one.bytes) ++ l) (goes_on field one.added rest more later)
    ∙ sym (append_assoc (take one.count (left_of old field one.bytes)) (written_of field one.added rest) (left_of (end_of one.added rest) field more))

pub returns : goal.returns
returns c field writings more written = goes_on field Nothing writings more written
