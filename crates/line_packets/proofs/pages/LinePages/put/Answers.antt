use Rattle.std.proofs.Common.{◌≡◌, ◌++◌, ◌∙◌, length, ap, arith}
use Rattle.std.proofs.lemmas.Result.{on_ok_weaker}
use Rattle.line_packets.specs.Pages.{HasPut}
use Rattle.line_packets.specs.declared.pages.LinePages.{LinePages}
use Rattle.line_packets.proofs.Putting.{none_of, puts, same, moved, twice}
use Rattle.line_packets.proofs.pages.LinePages.put.Goals as goal

pub returns-then-is_empty-clause-put : goal.returns-then-is_empty-clause-put
returns-then-is_empty-clause-put c = λ before bytes put.
    let none : length c.args.entries.items ≡ 0 = grind (arith, c.is_empty.ensures, c.if-is_empty.true, c.args.entries.ok) in
    same _ _ _ _ _ _ _ _ (none_of c.args.entries.items none) put

pub returns-clause-put : goal.returns-clause-put
returns-clause-put c = λ before bytes put.
    let begun = c.in_ok-begin.ensures.put before bytes put in
    on_ok_weaker c.add.result (λ adds.
    twice (HasPut c.args.media.now c.add.new.self.lines.streams c.add.new.self.has_begun c.add.new.self.bitstream.shape.chain (before ++ c.args.entries.items))
    _ _ _ bytes begun.0 begun.1
    (moved _ _ _ _ _ _ _ _ _ _
    (ap (λ (s : LinePages). s.lines.streams) c.add.ensures.same)
    (ap (λ (s : LinePages). s.has_begun) c.add.ensures.same ∙ c.in_ok-begin.ensures.begun)
    (puts _ _ c.args.entries.items _ c.put_of.ensures _ c.in_ok-begin.ensures.begun _ _ _ _ _ _ begun.2 adds c.add.ensures.fits)))
    c.add.ensures.ok
