use Rattle.std.proofs.Common.{rules, sym, ◌∙◌, ap}
use Rattle.std.proofs.lemmas.Fn.{filter_same}
use Rattle.import_record.specs.Begun.{is_other, open_with}
use Rattle.import_record.proofs.begun.keep_open.Goals as goal

pub returns-in-End-clause-serials : goal.returns-in-End-clause-serials
returns-in-End-clause-serials c =
    filter_same _ (is_other c.in-End.serial) _ (λ x b f' k. search rules) _ _ c.retain.ensures.filtered
    ∙ ap (open_with c.args.serials.now.items) (sym c.in-End.is)
