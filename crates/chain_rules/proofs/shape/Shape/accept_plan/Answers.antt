use Rattle.std.proofs.Common.{sym, ap, ◌∙◌, subst}
use Rattle.link_chain.specs.Followed.{moved_on}
use Rattle.ogg_command.specs.declared.command.Command.TheVariants.{Begin as BeginOf, Put as PutOf, End as EndOf}
use Rattle.chain_rules.specs.Shape.{ShapeState}
use Rattle.chain_rules.proofs.Planned.{CanGoOn, put_goes_on, end_goes_on, goes_by}
use Rattle.chain_rules.proofs.shape.Shape.accept_plan.Goals as goal

pub go_on-requires-clause-count : goal.go_on-requires-clause-count
go_on-requires-clause-count c =
    (subst (λ (s : ShapeState). CanGoOn s.chain c.streams-in-Put.result.now c.size-in-Put.result) (sym c.self.view_is)
    (put_goes_on c.args.self.now.chain c.in-Put.field-0 c.args.command.now c.args.plan.now c.streams-in-Put.result.now c.size-in-Put.result c.in-Put.is c.requires.planned c.streams-in-Put.ensures.value c.size-in-Put.ensures)).count

pub go_on-requires-clause-own : goal.go_on-requires-clause-own
go_on-requires-clause-own c =
    (put_goes_on c.args.self.now.chain c.in-Put.field-0 c.args.command.now c.args.plan.now c.streams-in-Put.result.now c.size-in-Put.result c.in-Put.is c.requires.planned c.streams-in-Put.ensures.value c.size-in-Put.ensures).own

pub go_on-requires-clause-long : goal.go_on-requires-clause-long
go_on-requires-clause-long c =
    (subst (λ (s : ShapeState). CanGoOn s.chain c.streams-in-Put.result.now c.size-in-Put.result) (sym c.self.view_is)
    (put_goes_on c.args.self.now.chain c.in-Put.field-0 c.args.command.now c.args.plan.now c.streams-in-Put.result.now c.size-in-Put.result c.in-Put.is c.requires.planned c.streams-in-Put.ensures.value c.size-in-Put.ensures)).long

pub go_on-requires-in-End-clause-own : goal.go_on-requires-in-End-clause-own
go_on-requires-in-End-clause-own c =
    (end_goes_on c.args.self.now.chain c.in-End.field-0 c.args.command.now c.args.plan.now c.streams-in-End.result.now c.size-in-End.result c.in-End.is c.requires.planned c.streams-in-End.ensures.value c.size-in-End.ensures).own

pub go_on-requires-in-End-clause-long : goal.go_on-requires-in-End-clause-long
go_on-requires-in-End-clause-long c =
    (subst (λ (s : ShapeState). CanGoOn s.chain c.streams-in-End.result.now c.size-in-End.result) (sym c.self-in-End.view_is)
    (end_goes_on c.args.self.now.chain c.in-End.field-0 c.args.command.now c.args.plan.now c.streams-in-End.result.now c.size-in-End.result c.in-End.is c.requires.planned c.streams-in-End.ensures.value c.size-in-End.ensures)).long

pub returns-in-Begin-clause-links : goal.returns-in-Begin-clause-links
returns-in-Begin-clause-links c = λ links before.
    c.add_link.ensures.after
    ∙ goes_by links c.args.self.now.chain c.args.command.now (BeginOf c.in-Begin.begin) c.streams.result.now c.size.result c.args.plan.now c.add_link.ensures.time c.requires.planned c.in-Begin.is
    c.streams.ensures.value c.size.ensures before

pub returns-in-Put-clause-links : goal.returns-in-Put-clause-links
returns-in-Put-clause-links c = λ links before.
    c.go_on.ensures.chain
    ∙ ap (λ (s : ShapeState). moved_on s.chain c.streams-in-Put.result.now c.size-in-Put.result) c.self.view_is
    ∙ goes_by links c.args.self.now.chain c.args.command.now (PutOf c.in-Put.field-0) c.streams-in-Put.result.now c.size-in-Put.result c.args.plan.now tt c.requires.planned c.in-Put.is
    c.streams-in-Put.ensures.value c.size-in-Put.ensures before

pub returns-in-End-clause-links : goal.returns-in-End-clause-links
returns-in-End-clause-links c = λ links before.
    c.go_on-in-End.ensures.chain
    ∙ ap (λ (s : ShapeState). moved_on s.chain c.streams-in-End.result.now c.size-in-End.result) c.self-in-End.view_is
    ∙ goes_by links c.args.self.now.chain c.args.command.now (EndOf c.in-End.field-0) c.streams-in-End.result.now c.size-in-End.result c.args.plan.now tt c.requires.planned c.in-End.is
    c.streams-in-End.ensures.value c.size-in-End.ensures before
