use Rattle.std.proofs.Common.{◌≡◌, ◌+◌, length}
use Rattle.command_pages.specs.CommandPages.{BeginGoesOn, pages_to_begin}
use Rattle.command_pages.proofs.beginning.BeginPages.next.Given as goal

-- no page has been made yet
abbrev pub invariant-loop-self : goal.invariant-loop-self
invariant-loop-self g l = record {
  pages : pages_to_begin l.self ≡ pages_to_begin l.initial.self;
  on : BeginGoesOn l.self;
  space : l.space ≡ l.initial.space;
}

-- each step leaves one stream fewer
abbrev pub decreases-loop-self : goal.decreases-loop-self
decreases-loop-self g l = length l.self.firsts.now + length l.self.others.now
