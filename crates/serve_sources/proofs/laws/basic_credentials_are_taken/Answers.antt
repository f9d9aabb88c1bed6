use Rattle.serve_sources.proofs.Basic.{each_basic, only_basic}
use Rattle.serve_sources.proofs.laws.basic_credentials_are_taken.Goals as goal

pub returns-clause-each : goal.returns-clause-each
returns-clause-each c = each_basic

pub returns-clause-only : goal.returns-clause-only
returns-clause-only c = only_basic
