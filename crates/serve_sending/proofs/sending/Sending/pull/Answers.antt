use Rattle.std.proofs.Common.{◌≡◌, ◌≤◌, ℕ, List, ◌++◌, length, drop, take, min, ◌+◌, ◌-◌, sym, ◌∙◌, ap, subst, arith, inl, inr, refl, length-drop, drop-drop}
use Rattle.std.proofs.lemmas.Bool.{ne_eqb}
use Rattle.std.specs.Vec.{vec_len}
use Rattle.serve_sending.specs.Sending.{Gives, IsLeft, SendingState}
use Rattle.serve_sending.proofs.Joined.{SaysDone, both_given, some_given}
use Rattle.serve_sending.proofs.sending.Sending.pull.Goals as goal
use Rattle.serve_sending.proofs.sending.Sending.pull.Goals.{then-self-len, else-self-len}

pub returns-after-self-len-clause-gives : goal.returns-after-self-len-clause-gives
returns-after-self-len-clause-gives g c committed more rest sure is l0 =
    let sent : ℕ = c.self.inside.sent in
    let items : List ℕ = c.self.inside.text.items in
    let text : List ℕ = drop sent items in
    let k : ℕ = c.pull_text-count.result in
    let size : ℕ = length c.args.buffer.now in
    let l = subst (λ (s : SendingState). IsLeft committed s rest) (sym c.self.view_is) l0 in
    let all : c.as_slice.result.now ≡ items = c.as_slice.ensures.value in
    let all_len : length c.as_slice.result.now ≡ vec_len c.self.inside.text = c.as_slice.ensures.len in
    let back : c.split_at.result.1.now ≡ drop sent c.as_slice.result.now = c.split_at.ensures.back in
    let text_is : c.split_at.result.1.now ≡ text = back ∙ ap (drop sent) all in
    let count0 : k ≡ min (length c.split_at.result.1.now) size = c.pull_text-count.ensures.count in
    let count : k ≡ min (length text) size = count0 ∙ ap (λ (t : List ℕ). min (length t) size) text_is in
    let given0 : take k c.pull_text-count.new.buffer ≡ take size c.split_at.result.1.now = c.pull_text-count.ensures.given in
    let front0 : c.split_at_mut-room.result.0.now ≡ take k c.pull_text-count.new.buffer = c.split_at_mut-room.ensures.front in
    let front : c.split_at_mut-room.result.0.now ≡ take size text = front0 ∙ given0 ∙ ap (take size) text_is in
    let same : length c.pull_text-count.new.buffer ≡ size = c.pull_text-count.auto.buffer in
    let room0 : length c.split_at_mut-room.result.1.now + k ≡ length c.pull_text-count.new.buffer = c.split_at_mut-room.ensures.back_len in
    let room : length c.split_at_mut-room.result.1.now ≡ size - k = omega (arith, same, room0) in
    let len : c.len.result ≡ vec_len c.self.inside.text = c.len.ensures in
    let lengths : length items ≡ c.len.result = ap length (sym all) ∙ all_len ∙ sym len in
    let within : sent ≤ length items = c.self.invariant in
    let text_len : length text ≡ length items - sent = length-drop sent items in
    let says : SaysDone text k c.in-Ok.body c.if-self-len.done = elim c.if-self-len.branch [
      | then-self-len w ↦ inl (omega (arith, w.if-self-len.true, lengths, text_len), w.done-is ∙ w.is_empty_body-done.ensures)
      | else-self-len w ↦ inr ((λ e. w.if-self-len.false (omega (arith, e, lengths, text_len, within))), w.done-is ∙ ne_eqb (sent + k) c.len.result w.if-self-len.false)
    ] in
    let gives = c.in-Ok.ensures.gives committed more l.body sure is l.body_left in
    let both = both_given committed text l.body rest c.split_at_mut-room.result.0.now c.pull_body.new.buffer size k (length c.split_at_mut-room.result.1.now) c.in-Ok.more
    c.if-self-len.done c.in-Ok.body l.joined count room front gives says in
    subst (λ (t : List ℕ). Gives committed rest size (c.split_at_mut-room.result.0.now ++ c.pull_body.new.buffer) (record { count = k + c.in-Ok.more; done = c.if-self-len.done })
    (record { text = t; body = c.in-Ok.body })) (drop-drop k sent items) both

pub returns-in-Err-clause-cause : goal.returns-in-Err-clause-cause
returns-in-Err-clause-cause g c committed more rest sure is l0 err =
    let sent : ℕ = c.self.inside.sent in
    let items : List ℕ = c.self.inside.text.items in
    let text : List ℕ = drop sent items in
    let k : ℕ = c.pull_text-count.result in
    let size : ℕ = length c.args.buffer.now in
    let l = subst (λ (s : SendingState). IsLeft committed s rest) (sym c.self.view_is) l0 in
    let all : c.as_slice.result.now ≡ items = c.as_slice.ensures.value in
    let back : c.split_at.result.1.now ≡ drop sent c.as_slice.result.now = c.split_at.ensures.back in
    let text_is : c.split_at.result.1.now ≡ text = back ∙ ap (drop sent) all in
    let count0 : k ≡ min (length c.split_at.result.1.now) size = c.pull_text-count.ensures.count in
    let count : k ≡ min (length text) size = count0 ∙ ap (λ (t : List ℕ). min (length t) size) text_is in
    let same : length c.pull_text-count.new.buffer ≡ size = c.pull_text-count.auto.buffer in
    let room0 : length c.split_at_mut-room.result.1.now + k ≡ length c.pull_text-count.new.buffer = c.split_at_mut-room.ensures.back_len in
    let room : length c.split_at_mut-room.result.1.now ≡ size - k = omega (arith, same, room0) in
    let cause = c.in-Err.ensures.cause committed more l.body sure is l.body_left refl in
    (cause.0, some_given text l.body rest size k (length c.split_at_mut-room.result.1.now) count room l.joined cause.1)
