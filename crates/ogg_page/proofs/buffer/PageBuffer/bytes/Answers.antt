use Rattle.std.proofs.Common.{◌+◌, take, ◌∙◌, ap}
use Rattle.ogg_page.proofs.InRoom.{finished_bytes}
use Rattle.ogg_page.proofs.buffer.PageBuffer.bytes.Goals as goal

pub returns : goal.returns
returns c = rw (← c.self.view_is) (λ page e.
    ap (take (27 + c.self.inside.values + c.self.inside.size)) c.deref.ensures.value
    ∙ finished_bytes c.self.inside.head c.self.inside.values c.self.inside.size c.self.inside.room.items page c.self.invariant e)
