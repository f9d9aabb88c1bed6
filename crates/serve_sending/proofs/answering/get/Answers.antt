use Rattle.std.proofs.Common.{Option, Some, option_copied, ◌∙◌, ap, subst}
use Rattle.link_index.specs.Listing.{listing}
use Rattle.serve_sending.specs.Answering.{IsFound}
use Rattle.serve_sending.specs.declared.finding.Found.{Found}
use Rattle.serve_sending.proofs.Answered.{file_got, pages_got}
use Rattle.serve_sending.proofs.answering.get.Goals as goal

pub returns-in-File : goal.returns-in-File
returns-in-File c committed content found =
    let text = listing c.args.index.now.chain.chain.length_of c.args.index.now.entries in
    file_got committed text content (option_copied c.args.range) c.in-File.place c.in-File.len c.paged.result
    (subst (λ (f : Option Found). IsFound committed text content f) (c.in-Some.is ∙ ap Some c.in-File.is) found) (c.paged.ensures committed)

pub returns-in-Pages : goal.returns-in-Pages
returns-in-Pages c committed content found =
    let text = listing c.args.index.now.chain.chain.length_of c.args.index.now.entries in
    pages_got committed text content (option_copied c.args.range) c.in-Pages.serial c.in-Pages.place c.in-Pages.len c.paged-in-Pages.result
    (subst (λ (f : Option Found). IsFound committed text content f) (c.in-Some.is ∙ ap Some c.in-Pages.is) found) (c.paged-in-Pages.ensures committed)
