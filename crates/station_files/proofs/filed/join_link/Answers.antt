use Rattle.std.proofs.Common.{refl, sym, ◌∙◌, inr}
use Rattle.station_files.proofs.filed.join_link.Goals as goal

pub returns-clause-joined : goal.returns-clause-joined
returns-clause-joined g c = inr (
  record { «open» = c.args.open; begun = c.in-Ok.begun; begun_end = c.end-begun_end.result },
  c.goes_on.ensures,
  refl,
  sym c.in-Ok.begun.ok.0 ∙ sym c.len.ensures ∙ c.if-len.false ∙ c.len-2.ensures ∙ c.args.open.ok.0,
)
