use Rattle.std.proofs.Common.{◌++◌, ◌∙◌, ap, arith}
use Rattle.packetiser.proofs.Appending.{goes_on}
use Rattle.packetiser.proofs.space.VecU8PageSpace.put.Goals as goal

pub returns-clause-work : goal.returns-clause-work
returns-clause-work c = λ before head lacing body work.
    let appended = rw c.unwrap.ensures at c.extend_from_slice.ensures.items in
    record {
      items = appended ∙ ap (λ l. l ++ c.args.bytes.now) work.items ∙ goes_on before.items head lacing body c.args.bytes.now;
      room = omega (arith, work.room, c.extend_from_slice.ensures.capacity);
    }
