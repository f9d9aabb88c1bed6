use Rattle.std.proofs.Common.{rules}
use Rattle.std.proofs.lemmas.Fn.{filter_same}
use Rattle.archive_record.specs.Files.{is_other}
use Rattle.archive_record.proofs.files.forget.Goals as goal

pub returns : goal.returns
returns c = filter_same _ (is_other c.args.number) _ (λ x b f' k. search rules) _ _ c.retain.ensures.filtered
