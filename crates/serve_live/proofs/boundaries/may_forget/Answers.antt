use Rattle.std.proofs.Common.{◌∙◌, sym, ap}
use Rattle.std.specs.Prelude.{nat_le, option_copied}
use Rattle.serve_live.proofs.Forgetting.{decides}
use Rattle.serve_live.proofs.boundaries.may_forget.Goals as goal

pub returns-in-Some : goal.returns-in-Some
returns-in-Some c =
    decides c.args.end c.in-Some.place.now c.args.kept.now.items (nat_le 65536 c.saturating_sub.result) (sym c.get.ensures ∙ ap option_copied c.in-Some.is)
    (ap (nat_le 65536) c.saturating_sub.ensures)
