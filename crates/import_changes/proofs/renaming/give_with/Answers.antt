use Rattle.std.proofs.Common.{◌∙◌, ap, append_assoc, ◌++◌, ◌∷◌, []}
use Rattle.import_changes.specs.Naming.{serials_of}
use Rattle.import_changes.proofs.renaming.give_with.Goals as goal

pub returns-clause-ok : goal.returns-clause-ok
returns-clause-ok c =
    c.give_reserved.ensures ∙ ap (λ l. l ++ serials_of c.args.streams.now) (c.push_reserved.ensures.listed
    ∙ ap (λ l. l ++ c.args.serial ∷ []) c.reserve.ensures.same)
    ∙ append_assoc c.args.given.now.listed (c.args.serial ∷ []) (serials_of c.args.streams.now)
