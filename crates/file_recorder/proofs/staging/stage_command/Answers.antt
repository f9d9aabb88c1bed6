use Rattle.std.proofs.Common.{[], ◌∷◌, ◌++◌, ◌∙◌, ap, refl, sym, subst, arith, IsOk, length}
use Rattle.link_chain.specs.ChainState.{ChainState}
use Rattle.chain_rules.specs.Decision.{decision}
use Rattle.chain_rules.specs.Encoding.{command_bytes, pages_of_command}
use Rattle.file_recorder.proofs.Growing.{pages_append}
use Rattle.file_recorder.proofs.Small.{small_size}
use Rattle.file_recorder.proofs.staging.stage_command.Goals as goal

pub make-requires-clause-kept : goal.make-requires-clause-kept
make-requires-clause-kept g c =
    subst (λ (chain : ChainState). IsOk (decision chain c.args.command.now)) (sym c.prepare.ensures.chain) (subst (λ r. IsOk r) (sym c.requires.kept) refl)

pub make-requires-clause-small : goal.make-requires-clause-small
make-requires-clause-small g c =
    let command = c.args.command.now in
    let chain = c.args.shape.now.chain in
    let long = c.command_adds_its_packets.ensures.size chain command c.args.size c.requires.kept in
    let short = small_size command c.args.size (sym c.is_small.ensures ∙ c.if-is_small.true) in
    omega (arith, long, short, ap (λ (s : ChainState). length (command_bytes s command)) c.prepare.ensures.chain)

pub stage_last-staged-requires-clause-pages : goal.stage_last-staged-requires-clause-pages
stage_last-staged-requires-clause-pages g c =
    let command = c.args.command.now in
    pages_append (pages_of_command c.args.shape.now.chain command) c.as_slice.result.now c.requires.are c.requires.some
    (c.as_slice.ensures ∙ c.make.ensures ∙ ap (λ (chain : ChainState). command_bytes chain command ++ 0 ∷ []) c.prepare.ensures.chain)
