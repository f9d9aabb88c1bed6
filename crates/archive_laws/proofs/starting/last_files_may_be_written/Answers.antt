use Rattle.archive_laws.proofs.Started.{may_be_written, none_written}
use Rattle.archive_laws.proofs.starting.last_files_may_be_written.Goals as goal

pub returns-clause-last : goal.returns-clause-last
returns-clause-last g c a front n rising stay safe ours is = may_be_written a n stay ours (c.the_last_file_is_kept.ensures.found a n front rising stay safe is)

pub returns-clause-none : goal.returns-clause-none
returns-clause-none g c a stay none = none_written a stay none
