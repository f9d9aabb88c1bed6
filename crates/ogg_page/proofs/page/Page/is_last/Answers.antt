use Rattle.std.proofs.Common.{bit_and, ◌∙◌, ap}
use Rattle.std.specs.Prelude.{nat_eq, not}
use Rattle.ogg_page.proofs.Flags.{last_tested}
use Rattle.ogg_page.proofs.page.Page.is_last.Goals as goal

pub returns : goal.returns
returns c = ap (λ n. not (nat_eq (bit_and n 4) 0)) c.flags.ensures ∙ last_tested c.args.self.now.flags
