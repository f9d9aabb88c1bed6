use Rattle.std.proofs.Common.{length, inl, inr}
use Rattle.std.proofs.lemmas.Bool.Decides.{leb_tells}
use Rattle.ogg_http.specs.Head.{most_bytes}
use Rattle.archive_fetch.proofs.asking.may_ask.Goals as goal

pub returns-in-Bad-clause-settled : goal.returns-in-Bad-clause-settled
returns-in-Bad-clause-settled c e =
    inr (inr (elim (leb_tells most_bytes (length c.args.front.now)) [
      | inl long ↦ inr long.1
      | inr short ↦ inl (c.read_head.ensures.bad c.in-Bad.is short.1)
    ]))
