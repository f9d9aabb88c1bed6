use Rattle.std.proofs.Common.{sym, ◌∙◌, ap}
use Rattle.std.specs.Prelude.{not}
use Rattle.std.specs.List.{find}
use Rattle.link_chain.specs.declared.stream_state.StreamState.{StreamState}
use Rattle.import_mend.proofs.Open.{found_open, none_open}
use Rattle.import_mend.proofs.ending.first_open.Goals as goal

pub returns-clause-some : goal.returns-clause-some
returns-clause-some c =
    found_open c.args.chain.now.chain.streams c.first_unended.result c.streams.ensures.own
    (c.first_unended.ensures ∙ ap (find (λ (s : StreamState). not s.ended)) c.streams.ensures.value)

pub returns-clause-none : goal.returns-clause-none
returns-clause-none c = λ e.
    none_open c.args.chain.now.chain.streams (sym (c.first_unended.ensures ∙ ap (find (λ (s : StreamState). not s.ended)) c.streams.ensures.value) ∙ e)
