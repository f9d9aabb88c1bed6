use Rattle.std.proofs.Common.{Some, sym, subst, arith}
use Rattle.link_index.specs.Listing.{listing}
use Rattle.serve_responses.specs.Response.{content_of}
use Rattle.serve_sending.specs.Answering.{IsFound}
use Rattle.serve_sending.specs.declared.finding.Found.TheVariants.{Listing, File}
use Rattle.serve_sending.proofs.Located.{all_found, list_found}
use Rattle.serve_sending.proofs.finding.find_resource.Goals as goal

pub returns-in-List : goal.returns-in-List
returns-in-List c committed links are is =
    subst (λ r. IsFound committed (listing c.args.index.now.chain.chain.length_of c.args.index.now.entries) (content_of links r) (Some Listing)) (sym c.in-List.is)
    (list_found committed links c.args.index.now are is)

pub returns-in-All : goal.returns-in-All
returns-in-All c committed links are is =
    subst (λ r. IsFound committed (listing c.args.index.now.chain.chain.length_of c.args.index.now.entries) (content_of links r) (Some (File 0 c.end.result))) (sym c.in-All.is)
    (all_found committed (listing c.args.index.now.chain.chain.length_of c.args.index.now.entries) links c.args.index.now c.end.result are is c.end.ensures (omega arith))
