use Rattle.std.proofs.Common.{inl, inr, sym, ◌∙◌}
use Rattle.serve_sources.proofs.Naming.{named_so}
use Rattle.serve_sources.proofs.Methods.{listens_or_feeds, feeds_or_listens}
use Rattle.serve_sources.proofs.asking.Asks.of.Goals as goal

pub returns-then-may_be_source-clause-own : goal.returns-then-may_be_source-clause-own
returns-then-may_be_source-clause-own c resource head = (
  λ e. absurd (cc e),
  λ own. absurd (listens_or_feeds _ head own.method (sym c.may_be_source.ensures ∙ c.if-may_be_source.true)),
)

pub returns-then-is_source-clause-own : goal.returns-then-is_source-clause-own
returns-then-is_source-clause-own c resource head = (
  λ e. absurd (cc e),
  λ own. absurd (feeds_or_listens _ head (sym c.is_source.ensures ∙ c.if-is_source.true) own.method),
)

pub returns-in-Whole-clause-own : goal.returns-in-Whole-clause-own
returns-in-Whole-clause-own c resource head = (
  λ e.
      let (request, holds) = c.in-Whole.ensures.whole in
      let (method, named) = (c.asks_whole.ensures.own resource head).0 e in
      record {
        method = method;
        request = request;
        has = (_, holds.reads, holds.room);
        names = sym (named_so _ _ request _ holds c.named-named.ensures) ∙ named;
      },
  λ own.
      let holds = c.in-Whole.ensures.found own.request own.has.0 own.has.1 own.has.2 in
      (c.asks_whole.ensures.own resource head).1 (own.method, named_so _ _ own.request _ holds c.named-named.ensures ∙ own.names),
)

-- what is asked for in a whole head is none of these
pub returns-in-Whole-clause-file : goal.returns-in-Whole-clause-file
returns-in-Whole-clause-file c file =
    let (request, holds) = c.in-Whole.ensures.whole in record {
      no_source = sym c.is_source.ensures ∙ c.if-is_source.false;
      nor_front = sym c.may_be_source.ensures ∙ c.if-may_be_source.false;
      cause = inr (inl (
        request,
        (_, holds.reads, holds.room),
        λ resource head method names.
            absurd (cc (sym file ∙ (c.asks_whole.ensures.own resource head).1 (method, named_so _ _ request _ holds c.named-named.ensures ∙ names))),
      ));
    }
