use Rattle.std.proofs.Common.{[]}
use Rattle.import_mend.proofs.Plain.{all_plain, end_plain}
use Rattle.import_mend.proofs.laws.commands_begin_links_without_a_skeleton.Goals as goal

pub returns-clause-pages : goal.returns-clause-pages
returns-clause-pages c pages start new mends given begins taken = all_plain pages start new mends [] given [] taken (begins.gathered, begins.goes_on)

pub returns-clause-end : goal.returns-clause-end
returns-clause-end c links old new given more ends held =
    end_plain c.links_are_begun_without_a_skeleton.ensures.end links old new given more ends held
