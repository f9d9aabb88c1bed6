use Rattle.std.proofs.Common.{sym, ◌∙◌, ap}
use Rattle.link_chain.specs.Taking.{unfinished_stream}
use Rattle.file_recorder.proofs.opening.shape_of.Goals as goal

pub returns-clause-each : goal.returns-clause-each
returns-clause-each c = λ bytes links are is.
    let whole = ap unfinished_stream (sym is) ∙ sym c.unfinished.ensures ∙ c.in_default-unfinished.is in
    let held = c.links_left_whole_hold_a_recording.ensures bytes links are whole in
    record { links = links; recording = held.0; chain_is = ap (λ s. s.chain) c.of.ensures ∙ is; are_links = are; holds = held.1 }
