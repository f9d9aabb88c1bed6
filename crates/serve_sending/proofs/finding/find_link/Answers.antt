use Rattle.std.proofs.Common.{sym, ◌∙◌, arith}
use Rattle.serve_sending.proofs.Located.{link_found, no_whole_link}
use Rattle.serve_sending.proofs.finding.find_link.Goals as goal
use Rattle.serve_sending.proofs.finding.find_link.Goals.{then-link-end-via-then-link-end, then-link-end-via-else-link-end+then-link-end-2}

pub returns-then-link-end : goal.returns-then-link-end
returns-then-link-end c committed text links are is =
    let f = link_found committed text links c.args.index.now c.args.number c.end-end.result c.in-Some.link are is c.end-end.ensures (omega arith) (sym c.link.ensures ∙ c.in-Some.is) in
    elim c.then-link-end.branch [
      | then-link-end-via-then-link-end w ↦ absurd (omega (arith, f.1, w.if-link-end.true))
      | then-link-end-via-else-link-end+then-link-end-2 w ↦ absurd (omega (arith, f.1, w.if-link-end.false, w.if-link-end-2.true))
    ]

pub returns-else-link-end-2 : goal.returns-else-link-end-2
returns-else-link-end-2 c committed text links are is =
    let f = link_found committed text links c.args.index.now c.args.number c.end-end.result c.in-Some.link are is c.end-end.ensures (omega arith) (sym c.link.ensures ∙ c.in-Some.is) in
    f.0

pub returns-in-None : goal.returns-in-None
returns-in-None c committed text links are is =
    no_whole_link committed text links c.args.index.now c.args.number is are (sym c.link.ensures ∙ c.in-None.is)
