use Rattle.std.specs.Prelude.{vec_capacity}
use Rattle.std.proofs.Common.{◌++◌, [], List, ℕ, map, sym, ◌∙◌, ap, subst}
use Rattle.ogg_command.specs.declared.command.NewStream.{NewStream}
use Rattle.import_changes.specs.Changed.{ChangeState}
use Rattle.import_changes.specs.Naming.{IsLow, serials_of, stream_named}
use Rattle.import_changes.specs.Steps.{AreNamedFor}
use Rattle.import_changes.proofs.Low.{low_begun}
use Rattle.import_changes.proofs.changes.Changes.begin_plain.Goals as goal

pub invariant_of-self-2 : goal.invariant_of-self-2
invariant_of-self-2 c =
    let given : List ℕ = c.self.inside.given.listed in
    let names : List (ℕ × ℕ) = c.self.inside.names.items in
    let stay : List NewStream = c.args.stay.items in
    let state : ChangeState =
    record { options = c.self.inside.options; given = given; names = names; room = c.self.inside.given.room; name_room = vec_capacity c.self.inside.names } in
    let by : AreNamedFor state stay c.args.low =
    subst (λ (s : ChangeState). AreNamedFor s stay c.args.low) (sym c.self.view_is) c.requires in
    subst (λ l. IsLow l [] c.args.low)
    (sym (c.in-Ok.ensures.ok ∙ ap (λ s. given ++ serials_of s) (c.as_slice-2.ensures.value ∙ c.streams_named-streams.ensures
    ∙ ap (λ n. map (stream_named n) stay) c.as_slice.ensures.value)))
    (low_begun given names stay c.args.low by.once by.named by.only by.taken)
