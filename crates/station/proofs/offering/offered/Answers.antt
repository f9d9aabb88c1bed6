use Rattle.serve_sources.specs.Password.{password_bytes}
use Rattle.station.proofs.Unread.{is_unread}
use Rattle.station.proofs.offering.offered.Goals as goal

pub returns-clause-comes : goal.returns-clause-comes
returns-clause-comes c = record { says = c.of.ensures.says; each = c.of.ensures.each }

pub returns-clause-more : goal.returns-clause-more
returns-clause-more c more = is_unread (password_bytes c.args.password.now) c.args.head.now c.of.result more c.of.ensures.each
