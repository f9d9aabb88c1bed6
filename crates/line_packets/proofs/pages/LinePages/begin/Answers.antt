use Rattle.std.proofs.Common.{List, [], ℕ, ap, sym, append-nil, subst}
use Rattle.std.proofs.lemmas.Result.{on_ok_weaker}
use Rattle.line_packets.specs.Pages.{HasPut}
use Rattle.line_packets.specs.declared.pages.LinePages.{LinePages}
use Rattle.line_packets.proofs.Putting.{begins, moved}
use Rattle.line_packets.proofs.pages.LinePages.begin.Goals as goal

pub returns-then-self-clause-put : goal.returns-then-self-clause-put
returns-then-self-clause-put c = λ entries before put. (
  [],
  sym (append-nil c.args.pages.now.items),
  subst (λ (all : List ℕ). HasPut c.args.media.now c.args.self.now.lines.streams c.args.self.now.has_begun c.args.self.now.bitstream.shape.chain entries all)
      (sym (append-nil before)) put,
)

pub returns-in-Ok-clause-put : goal.returns-in-Ok-clause-put
returns-in-Ok-clause-put c = λ entries before put.
    on_ok_weaker c.add.result (λ adds.
    moved _ _ _ _ _ _ _ _ _ _
    (ap (λ (s : LinePages). s.lines.streams) c.add.ensures.same)
    (ap (λ (s : LinePages). s.has_begun) c.add.ensures.same)
    (begins _ _ _ _ c.in-Ok.ensures _ c.if-self.false _ _ _ _ _ _ put adds c.add.ensures.fits))
    c.add.ensures.ok
