use Rattle.import_gather.specs.Kept.{waits}
use Rattle.import_gather.proofs.Plain.{plain_begin, plain_page}
use Rattle.import_gather.proofs.laws.links_are_begun_without_a_skeleton.Goals as goal

pub returns : goal.returns
returns c = record { page = plain_page; end = λ link. plain_begin (waits link) link }
