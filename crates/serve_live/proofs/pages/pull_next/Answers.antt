use Rattle.std.proofs.Common.{◌≡◌, ◌∙◌, subst, arith}
use Rattle.serve_live.specs.Pulling.{ArePulled}
use Rattle.serve_live.proofs.pages.pull_next.Goals as goal

pub returns-clause-pulled : goal.returns-clause-pulled
returns-clause-pulled g c committed more rest sure is end some b =
    let ahead = c.pull_ahead-count in
    let names = c.args.names.now in
    let buffer = ahead.new.buffer in
    let none : ahead.result.0 ≡ c.args.given = omega (arith, c.if-count-given.false, ahead.ensures.further.0) in
    let same = ahead.ensures.none none in
    let b2 : ArePulled committed rest names c.args.left c.args.given buffer =
    subst (λ n. ArePulled committed rest names c.args.left n buffer) none
    (subst (λ left. ArePulled committed rest names left ahead.result.0 buffer) same (ahead.ensures.pulled committed more rest sure is end some b)) in
    let sure1 = ahead.ensures.source.honest_same.0 sure in
    let is1 = ahead.ensures.source.bytes_same sure ∙ is in
    c.pull_page.ensures.pulled committed more rest sure1 is1 some b2

pub returns-clause-passes : goal.returns-clause-passes
returns-clause-passes g c committed more rest sure is end some b =
    let ahead = c.pull_ahead-count in
    let names = c.args.names.now in
    let buffer = ahead.new.buffer in
    let none : ahead.result.0 ≡ c.args.given = omega (arith, c.if-count-given.false, ahead.ensures.further.0) in
    let same = ahead.ensures.none none in
    let b2 : ArePulled committed rest names c.args.left c.args.given buffer =
    subst (λ n. ArePulled committed rest names c.args.left n buffer) none
    (subst (λ left. ArePulled committed rest names left ahead.result.0 buffer) same (ahead.ensures.pulled committed more rest sure is end some b)) in
    let sure1 = ahead.ensures.source.honest_same.0 sure in
    let is1 = ahead.ensures.source.bytes_same sure ∙ is in
    c.pull_page.ensures.passes committed more rest sure1 is1 some b2
