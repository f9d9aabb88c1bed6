use Rattle.std.proofs.Common.{◌+◌, ◌≤◌, ap, length, arith}
use Rattle.ogg_page.specs.Head.{head_size}
use Rattle.serve_live.proofs.heads.heard_head.Goals as goal

pub returns-clause-told : goal.returns-clause-told
returns-clause-told c page f = record {
  begins = ap (λ x. x.begins) f.facts;
  len = ap (λ x. x.len) f.facts;
  size = ap (λ x. x.size) f.facts;
  bytes = c.put_heard.ensures.heard page (head_size page) f.is_page f.facts (let e : 26 ≤ 27 + length page.lacing = omega arith in e) f.bytes;
}
