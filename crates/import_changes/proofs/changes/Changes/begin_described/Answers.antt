use Rattle.std.specs.Prelude.{vec_capacity}
use Rattle.std.proofs.Common.{◌++◌, ◌∷◌, [], List, ℕ, sym, ◌∙◌, ap, subst}
use Rattle.std.specs.List.{AllZip}
use Rattle.ogg_command.specs.declared.command.NewStream.{NewStream}
use Rattle.import_changes.specs.Changed.{ChangeState}
use Rattle.import_changes.specs.Naming.{IsLow, serials_of}
use Rattle.import_changes.specs.Steps.{AreNamedFor, IsDescribedUnder}
use Rattle.import_changes.proofs.Low.{low_described}
use Rattle.import_changes.proofs.changes.Changes.begin_described.Goals as goal

pub invariant_of-self-2 : goal.invariant_of-self-2
invariant_of-self-2 c =
    let given : List ℕ = c.self.inside.given.listed in
    let names : List (ℕ × ℕ) = c.self.inside.names.items in
    let stay : List NewStream = c.args.stay.items in
    let state : ChangeState =
    record { options = c.self.inside.options; given = given; names = names; room = c.self.inside.given.room; name_room = vec_capacity c.self.inside.names } in
    let by : AreNamedFor state stay c.args.low =
    subst (λ (s : ChangeState). AreNamedFor s stay c.args.low) (sym c.self.view_is) c.requires in
    subst (λ l. IsLow l [] c.args.low)
    (sym (c.in-Ok-give_with.ensures.ok ∙ ap (λ s. given ++ c.in-Ok.serial ∷ serials_of s) c.as_slice-3.ensures.value))
    (low_described given c.in-Ok.serial names c.args.said.now stay c.in-Ok-all_described.streams.items c.args.low by.once by.named by.only
    (subst (λ n. AllZip (IsDescribedUnder n c.args.said.now) stay c.in-Ok-all_described.streams.items) c.as_slice-2.ensures.value
    c.in-Ok-all_described.ensures) by.taken)
