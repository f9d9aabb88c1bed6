use Rattle.std.proofs.Common.{◌≡◌, ◌<◌, ◌+◌, ◌++◌, List, ℕ, length, vec_len, subst}
use Rattle.std.specs.Prelude.{OnOk, OnErr, vec_capacity}
use Rattle.httpdate.specs.declared.date.HttpDate.{HttpDate as Date}
use Rattle.serve_texts.specs.Log.{IsAt, log_line}
use Rattle.serve_texts.proofs.visit.Visit.append_line.Goals as goal

pub returns-clause-ok : goal.returns-clause-ok
returns-clause-ok c =
    let P : List ℕ → Type 0 = λ head. OnOk c.append_line.result ((date : Date) × IsAt c.args.seconds date × (c.append_line.new.out.items ≡ c.args.out.now.items ++ log_line c.args.address.now date head c.args.self.now.reply)) in
    subst P c.as_slice.ensures.value c.append_line.ensures.ok

pub returns-clause-full : goal.returns-clause-full
returns-clause-full c =
    let P : List ℕ → Type 0 = λ head. OnErr c.append_line.result ((date : Date) × IsAt c.args.seconds date × (vec_capacity c.args.out.now < vec_len c.args.out.now + length (log_line c.args.address.now date head c.args.self.now.reply))) in
    subst P c.as_slice.ensures.value c.append_line.ensures.full
