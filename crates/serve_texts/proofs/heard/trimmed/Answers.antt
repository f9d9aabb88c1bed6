use Rattle.std.proofs.Common.{ap, ◌∙◌}
use Rattle.std.proofs.lemmas.Str.Ascii.{trim_ascii_start_is, trim_ascii_end_is}
use Rattle.serve_texts.specs.Heard.{trimmed_end}
use Rattle.serve_texts.proofs.heard.trimmed.Goals as goal

pub returns : goal.returns
returns c =
    trim_ascii_end_is _ _ c.trim_ascii_end.ensures.value
    ∙ ap trimmed_end (trim_ascii_start_is _ _ c.trim_ascii_start.ensures.value)
