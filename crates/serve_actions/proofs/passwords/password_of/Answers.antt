use Rattle.std.proofs.Common.{◌<◌, ℕ, List, length, subst, sym}
use Rattle.serve_actions.proofs.FirstLine.{refused}
use Rattle.serve_actions.proofs.passwords.password_of.Goals as goal

pub returns-in-Ok-clause-long : goal.returns-in-Ok-clause-long
returns-in-Ok-clause-long g c =
    refused (g.R.Read.remaining c.args.file) c.in-Ok.line.items c.password_in.result c.in-Ok.ensures.line
    (λ much. c.password_in.ensures.long (subst (λ (one : List ℕ). 4096 < length one) (sym c.as_slice.ensures.value) much))
