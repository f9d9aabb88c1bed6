use Rattle.std.proofs.Common.{append_assoc}
use Rattle.skeleton3.proofs.fisbone.Fisbone.write_with.Goals as goal

pub returns-clause-ok : goal.returns-clause-ok
returns-clause-ok c =
    rw (c.append_fields.ensures, c.append-4.ensures.items, c.append-3.ensures.items, c.append-2.ensures.items, c.append.ensures.items, c.fixed_part.ensures, c.in_ok-reserve.ensures.items)
    (simp append_assoc)
