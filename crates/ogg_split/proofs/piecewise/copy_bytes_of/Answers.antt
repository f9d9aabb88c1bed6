use Rattle.std.proofs.Common.{◌+◌, ◌∙◌, arith, length}
use Rattle.std.specs.Io.KnownBytes.{Appends}
use Rattle.ogg_page.specs.Output.{WritesPrefix}
use Rattle.ogg_split.proofs.Pieced.{more_written, cut_short, own_piece}
use Rattle.ogg_split.proofs.piecewise.copy_bytes_of.Goals as goal

pub pieces-preserved : goal.pieces-preserved
pieces-preserved g c =
    let s = g.S.PageSource in
    let inv = c.pieces.invariant in
    let moved = c.copy_piece.ensures.source in
    let own = s.bytes c.args.source.now in
    record {
      inside = omega (arith, c.min-size.ensures, c.pieces-test.true, inv.inside);
      source = record {
        bytes_same = λ sure. moved.bytes_same (inv.source.honest_same.0 sure) ∙ inv.source.bytes_same sure;
        honest_same = ((λ h. moved.honest_same.0 (inv.source.honest_same.0 h)), (λ h. inv.source.honest_same.1 (moved.honest_same.1 h)));
        size_same = moved.size_same ∙ inv.source.size_same;
        only = g.met.S.PageSource.reads_on _ _ _ inv.source.only moved.only;
      };
      later = omega (arith, inv.later, c.copy_piece.ensures.later);
      copied = λ sure. more_written own c.args.from c.pieces.done c.min-size.result _ _ _ (inv.copied sure)
          (own_piece (Appends (g.W.Write.contents c.pieces.out) (g.W.Write.contents c.copy_piece.new.out)) own (s.bytes c.pieces.source) (c.args.from + c.pieces.done)
          (length c.split_at_mut.result.0.now) c.min-size.result c.split_at_mut.ensures.front_len (inv.source.bytes_same sure)
          (c.in-Ok.ensures.ok (inv.source.honest_same.0 sure)));
    }

pub returns-in-Err-clause-copied : goal.returns-in-Err-clause-copied
returns-in-Err-clause-copied g c sure =
    let s = g.S.PageSource in
    let inv = c.pieces.invariant in
    cut_short (s.bytes c.args.source.now) c.args.from c.pieces.done c.min-size.result c.args.count _ _ _ (omega (arith, c.min-size.ensures, c.pieces-test.true, inv.inside)) (inv.copied sure)
    (own_piece (WritesPrefix (g.W.Write.contents c.pieces.out) (g.W.Write.contents c.copy_piece.new.out)) (s.bytes c.args.source.now) (s.bytes c.pieces.source) (c.args.from + c.pieces.done)
    (length c.split_at_mut.result.0.now) c.min-size.result c.split_at_mut.ensures.front_len (inv.source.bytes_same sure)
    (c.in-Err.ensures.err (inv.source.honest_same.0 sure)))
