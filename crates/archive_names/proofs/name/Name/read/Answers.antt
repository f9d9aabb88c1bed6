use Rattle.std.proofs.Common.{◌≡◌, true, sym, subst, ◌∙◌}
use Rattle.std.proofs.lemmas.Slice.Eq.{bytes_eq-Decides}
use Rattle.archive_names.specs.Name.{IsText}
use Rattle.archive_names.specs.declared.name.Kind.{Kind}
use Rattle.archive_names.specs.declared.name.Name.{Name}
use Rattle.archive_names.proofs.Texts.{clash, same_parts, same_text}
use Rattle.archive_names.proofs.name.Name.read.Goals as goal

pub returns-then-eq-clause-name : goal.returns-then-eq-clause-name
returns-then-eq-clause-name c =
    let same : c.as_slice.result.now ≡ c.args.text.now = (bytes_eq-Decides c.as_slice.result.now c.args.text.now).0 (sym c.eq.ensures ∙ c.if-eq.true) in
    subst (IsText _ _) (sym c.as_slice.ensures ∙ same) c.text-written.ensures

pub returns-else-eq-clause-each : goal.returns-else-eq-clause-each
returns-else-eq-clause-each c name kind is_name is =
    let some = c.in_ok-name.ensures name kind is_name is in
    let (name_is, kind_is) = same_parts (c.in_ok-name.name, c.in_ok-name.kind) (name, kind) some in
    let written : IsText kind name c.text-written.result =
    subst (λ (k : Kind). IsText k name c.text-written.result) kind_is
    (subst (λ (n : Name). IsText c.in_ok-name.kind n c.text-written.result) name_is c.text-written.ensures) in
    let same = c.as_slice.ensures ∙ same_text kind name c.text-written.result c.args.text.now written is in
    let equal : c.eq.result ≡ true = c.eq.ensures ∙ (bytes_eq-Decides c.as_slice.result.now c.args.text.now).1 same in
    absurd (clash c.eq.result equal c.if-eq.false)
