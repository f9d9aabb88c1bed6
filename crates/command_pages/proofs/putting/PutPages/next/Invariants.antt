use Rattle.std.proofs.Common.{◌≡◌, length}
use Rattle.command_pages.specs.CommandPages.{PutGoesOn, pages_to_put}
use Rattle.command_pages.proofs.putting.PutPages.next.Given as goal

-- no page has been made yet
abbrev pub invariant-loop-self : goal.invariant-loop-self
invariant-loop-self l = record {
  pages : pages_to_put l.self ≡ pages_to_put l.initial.self;
  on : PutGoesOn l.self;
}

-- each step leaves one run fewer
abbrev pub decreases-loop-self : goal.decreases-loop-self
decreases-loop-self l = length l.self.rest.now
