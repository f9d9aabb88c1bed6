use Rattle.std.proofs.Common.{◌∙◌, ap, subst}
use Rattle.serve_hub.specs.Showing.{ShowsPlace}
use Rattle.serve_hub.proofs.Heard.{place_file}
use Rattle.serve_hub.proofs.Told.{chain_is, no_links}
use Rattle.serve_hub.proofs.telling.streams_of.Goals as goal

pub returns-in-Some-clause-machine : goal.returns-in-Some-clause-machine
returns-in-Some-clause-machine g c lost machine links s has =
    let d = g.D.Disk in
    let f = place_file d c.args.file.now c.in-Some.recorder lost machine c.in-Some.is s in
    c.streams.ensures ∙ ap (λ chain. chain.streams) (chain_is d c.bytes_are_one_chain.ensures.links c.in-Some.recorder machine links c.end-end.ensures.always f has)

pub returns-in-None-clause-machine : goal.returns-in-None-clause-machine
returns-in-None-clause-machine g c lost machine links s has =
    let d = g.D.Disk in
    absurd (no_links d c.bytes_are_one_chain.ensures.links lost machine links (subst (λ o. ShowsPlace d o lost machine) c.in-None.is s) has)
