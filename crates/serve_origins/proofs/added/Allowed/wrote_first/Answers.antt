use Rattle.std.proofs.Common.{◌≤◌, length, arith, ap, sym, ◌∙◌}
use Rattle.serve_origins.proofs.Splicing.{in_line, no_feed, without_line}
use Rattle.serve_origins.proofs.added.Allowed.wrote_first.Goals as goal

pub returns-in-None : goal.returns-in-None
returns-in-None c fits =
    let bytes = c.args.bytes.now in
    let none = no_feed bytes (sym c.line_end.ensures ∙ c.in-None.is) in
    let few : c.args.count ≤ length bytes = omega (arith, fits, ap length (without_line c.args.self.now bytes none)) in
    in_line c.args.self.now bytes c.args.count (λ j small. none j (omega (arith, small, few))) few
