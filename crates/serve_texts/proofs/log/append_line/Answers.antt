use Rattle.std.proofs.Common.{◌<◌, ◌+◌, ◌++◌, List, ℕ, length, vec_len, ap, subst, ◌∙◌}
use Rattle.std.specs.Prelude.{vec_capacity}
use Rattle.serve_texts.specs.Log.{line_text}
use Rattle.serve_texts.proofs.log.append_line.Goals as goal

pub returns-in-Ok-clause-ok : goal.returns-in-Ok-clause-ok
returns-in-Ok-clause-ok c = (
  c.date_at-date.result,
  c.date_at-date.ensures,
  c.in-Ok.ensures.ok ∙ ap (λ d. c.args.out.now.items ++ line_text c.args.address.now d c.args.head.now c.args.reply.now) c.to_bytes.ensures,
)

pub returns-in-Err-clause-full : goal.returns-in-Err-clause-full
returns-in-Err-clause-full c = (
  c.date_at-date.result,
  c.date_at-date.ensures,
  let P : List ℕ → Type 0 = λ d. vec_capacity c.args.out.now < vec_len c.args.out.now + length (line_text c.args.address.now d c.args.head.now c.args.reply.now) in
      subst P c.to_bytes.ensures c.in-Err.ensures.full,
)
