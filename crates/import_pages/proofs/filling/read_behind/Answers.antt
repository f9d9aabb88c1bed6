use Rattle.std.proofs.Common.{arith, take, sym}
use Rattle.import_pages.proofs.InRoom.{read_behind_held}
use Rattle.import_pages.proofs.filling.read_behind.Goals as goal

pub returns-in-Ok-clause-ok : goal.returns-in-Ok-clause-ok
returns-in-Ok-clause-ok g c =
    let before = c.requires.held in
    let read = c.in-Ok.ensures in
    record {
      taken = take c.in-Ok.count c.read.new.free;
      consumed = read.bytes.0;
      all = read_behind_held c.args.room.now c.split_at_mut-free.result.0.now c.read.new.free c.args.held.now.start c.args.held.now.end c.in-Ok.count
          before.ordered (omega (arith, before.fits, before.whole)) c.split_at_mut-free.ensures.front;
      counted = sym read.bound.1;
      at_end = λ none. read.bytes.1 none (omega (arith, c.requires.free, before.whole, c.read.auto.free, c.split_at_mut-free.ensures.back_len));
    }
