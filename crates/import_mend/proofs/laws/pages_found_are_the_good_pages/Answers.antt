use Rattle.import_mend.proofs.Good.{all_good, end_good, one_list}
use Rattle.import_mend.proofs.laws.pages_found_are_the_good_pages.Goals as goal

pub returns-clause-pages : goal.returns-clause-pages
returns-clause-pages c pages old bytes new left small found =
    let all = all_good pages old bytes new left small found in
    (all.rest, all.left_is, all.good, all.small)

pub returns-clause-end : goal.returns-clause-end
returns-clause-end c old bytes new left before now small found none = end_good old bytes new left before now small found none

pub returns-clause-one : goal.returns-clause-one
returns-clause-one c offset bytes pages others rest left good none good' none' = one_list offset bytes pages others rest left good none good' none'
