use Rattle.std.proofs.Common.{true, false, sym, ◌∙◌, ap, subst, ℕ, List, [], ◌∷◌, ◌++◌}
use Rattle.std.specs.Option.{is_some}
use Rattle.import_changes.specs.Naming.{Keeps, name_of}
use Rattle.import_changes.proofs.Names.{keyed, keeps_none, keeps_one}
use Rattle.import_changes.proofs.naming.keep.Goals as goal

pub returns-then-is_some-clause-kept : goal.returns-then-is_some-clause-kept
returns-then-is_some-clause-kept c =
    let names : List (ℕ × ℕ) = c.args.names.now.items in
    keeps_none c.args.given.now.listed c.args.serial names
    (λ new. keyed names c.args.serial true
    (ap (λ l. is_some (name_of l c.args.serial)) (sym c.as_slice.ensures.value) ∙ ap is_some (sym c.name_of.ensures)
    ∙ sym c.is_some.ensures ∙ c.if-is_some.true))

pub returns-clause-kept : goal.returns-clause-kept
returns-clause-kept c =
    let names : List (ℕ × ℕ) = c.args.names.now.items in
    subst (Keeps c.args.given.now.listed c.args.serial names) (sym (c.push_reserved.ensures.items ∙ ap (λ l. l ++ (c.args.serial, c.args.serial) ∷ []) c.reserve.ensures.items))
    (keeps_one c.args.given.now.listed c.args.serial names (sym c.contains.ensures ∙ c.if-contains.false)
    (keyed names c.args.serial false
    (ap (λ l. is_some (name_of l c.args.serial)) (sym c.as_slice.ensures.value) ∙ ap is_some (sym c.name_of.ensures)
    ∙ sym c.is_some.ensures ∙ c.if-is_some.false)))

pub returns-in-Err-clause-unnamed : goal.returns-in-Err-clause-unnamed
returns-in-Err-clause-unnamed c = (
  c.reserve.ensures.items,
  keyed c.args.names.now.items c.args.serial false
      (ap (λ l. is_some (name_of l c.args.serial)) (sym c.as_slice.ensures.value) ∙ ap is_some (sym c.name_of.ensures)
      ∙ sym c.is_some.ensures ∙ c.if-is_some.false),
)
