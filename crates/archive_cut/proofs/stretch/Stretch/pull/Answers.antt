use Rattle.std.proofs.Common.{◌≡◌, ℕ, ◌+◌, ◌-◌, List, length, take, drop, min, sym, ◌∙◌, ap, arith, drop-drop}
use Rattle.archive_cut.proofs.Stretches.{stretch_gives}
use Rattle.archive_cut.proofs.stretch.Stretch.pull.Goals as goal

pub returns-in-Ok-clause-gives : goal.returns-in-Ok-clause-gives
returns-in-Ok-clause-gives g c =
    let in_ = c.self.inside in
    let sent : ℕ = in_.sent in
    let items : List ℕ = in_.text.items in
    let size : ℕ = length c.args.buffer.now in
    let n : ℕ = c.in-Ok.count in
    let told : ℕ = c.copy_text-told.result in
    let bytes : List ℕ = g.S.PageSource.bytes c.args.source.now in
    let text_is : c.split_at.result.1.now ≡ drop sent items = c.split_at.ensures.back ∙ ap (drop sent) c.as_slice.ensures.value in
    let same : length c.read_part.new.buffer ≡ size = c.read_part.auto.buffer in
    let room0 : length c.split_at_mut-room.result.1.now + n ≡ length c.read_part.new.buffer = c.split_at_mut-room.ensures.back_len in
    let room : length c.split_at_mut-room.result.1.now ≡ size - n = omega (arith, same, room0) in
    rw (← c.self.view_is)
    (λ honest fits.
    let all : length bytes ≡ g.S.PageSource.size c.args.source.now = g.met.S.PageSource.fits c.args.source.now honest in
    stretch_gives bytes (drop sent items) in_.place in_.end size n told c.split_at_mut-room.result.0.now c.copy_text-told.new.buffer (drop (sent + told) items)
    c.self.invariant.0 (omega (arith, all, fits)) c.in-Ok.ensures.count
    (c.split_at_mut-room.ensures.front ∙ c.in-Ok.ensures.read honest fits) c.split_at_mut-room.ensures.front_len
    (c.copy_text-told.ensures.count ∙ ap (λ t. min (length t) (length c.split_at_mut-room.result.1.now)) text_is ∙ ap (min (length (drop sent items))) room)
    (c.copy_text-told.ensures.given ∙ ap (λ k. take k c.split_at.result.1.now) room ∙ ap (take (size - n)) text_is)
    (sym (drop-drop told sent items)))
