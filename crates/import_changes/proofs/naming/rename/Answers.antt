use Rattle.std.proofs.Common.{true, false, refl, sym, ◌∙◌, ap, subst, ℕ, List, [], ◌∷◌, ◌++◌}
use Rattle.std.specs.Option.{is_some}
use Rattle.std.specs.Map.{values_of}
use Rattle.import_changes.specs.Naming.{IsFirstFree, IsLow, Renames, name_of}
use Rattle.import_changes.proofs.Names.{keyed, low_named, renames_none, renames_one}
use Rattle.import_changes.proofs.naming.rename.Goals as goal

pub returns-then-is_some-clause-names : goal.returns-then-is_some-clause-names
returns-then-is_some-clause-names c =
    let names : List (ℕ × ℕ) = c.args.names.now.items in
    renames_none c.args.given.now.listed c.args.serial names
    (keyed names c.args.serial true
    (ap (λ l. is_some (name_of l c.args.serial)) (sym c.as_slice.ensures.value) ∙ ap is_some (sym c.name_of.ensures)
    ∙ sym c.is_some.ensures ∙ c.if-is_some.true))

pub returns-clause-names : goal.returns-clause-names
returns-clause-names c =
    let names : List (ℕ × ℕ) = c.args.names.now.items in
    subst (Renames c.args.given.now.listed c.args.serial names)
    (sym (c.push_reserved.ensures.items ∙ ap (λ l. l ++ (c.args.serial, c.in-Ok.free) ∷ []) c.reserve.ensures.items))
    (renames_one c.args.given.now.listed c.args.serial c.in-Ok.free names
    (keyed names c.args.serial false
    (ap (λ l. is_some (name_of l c.args.serial)) (sym c.as_slice.ensures.value) ∙ ap is_some (sym c.name_of.ensures)
    ∙ sym c.is_some.ensures ∙ c.if-is_some.false))
    (subst (λ l. IsFirstFree 0 c.args.given.now.listed (values_of l) c.in-Ok.free) c.as_slice-2.ensures.value c.in-Ok.ensures.free))

pub returns-clause-low : goal.returns-clause-low
returns-clause-low c =
    let names : List (ℕ × ℕ) = c.args.names.now.items in
    subst (λ l. IsLow c.args.given.now.listed (values_of l) c.in-Ok.free)
    (sym (c.push_reserved.ensures.items ∙ ap (λ l. l ++ (c.args.serial, c.in-Ok.free) ∷ []) c.reserve.ensures.items))
    (low_named c.args.given.now.listed names c.args.serial c.in-Ok.free
    (subst (λ l. IsFirstFree 0 c.args.given.now.listed (values_of l) c.in-Ok.free) c.as_slice-2.ensures.value c.in-Ok.ensures.free))

pub returns-in-Err-clause-unnamed : goal.returns-in-Err-clause-unnamed
returns-in-Err-clause-unnamed c = (
  refl,
  keyed c.args.names.now.items c.args.serial false
      (ap (λ l. is_some (name_of l c.args.serial)) (sym c.as_slice.ensures.value) ∙ ap is_some (sym c.name_of.ensures)
      ∙ sym c.is_some.ensures ∙ c.if-is_some.false),
)

pub returns-in-Err-reserve-clause-unnamed : goal.returns-in-Err-reserve-clause-unnamed
returns-in-Err-reserve-clause-unnamed c = (
  c.reserve.ensures.items,
  keyed c.args.names.now.items c.args.serial false
      (ap (λ l. is_some (name_of l c.args.serial)) (sym c.as_slice.ensures.value) ∙ ap is_some (sym c.name_of.ensures)
      ∙ sym c.is_some.ensures ∙ c.if-is_some.false),
)
