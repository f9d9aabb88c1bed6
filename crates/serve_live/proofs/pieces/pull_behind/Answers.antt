use Rattle.std.proofs.Common.{◌≡◌, ℕ, ◌-◌, length, inl, inr, refl, ◌∙◌, arith}
use Rattle.serve_live.proofs.Pulled.{gives_behind, some_behind}
use Rattle.serve_live.proofs.pieces.pull_behind.Goals as goal

pub returns-in-Err-clause-cause : goal.returns-in-Err-clause-cause
returns-in-Err-clause-cause g c committed more pages sure is end left err =
    let size : ℕ = length c.args.buffer.now in
    let f = c.in-Err.ensures.cause committed more pages sure is end (record { some = omega arith; taken = refl; left_is = left }) err in
    let same : length c.pull_text-told.new.buffer ≡ size = c.pull_text-told.auto.buffer in
    let room : length c.split_at_mut-room.result.1.now ≡ size - c.pull_text-told.result = omega (arith, c.split_at_mut-room.ensures.back_len, same) in
    (f.0, some_behind c.args.text.now pages size c.pull_text-told.result _ c.pull_text-told.ensures.count room f.1)

pub returns-in-Ok-clause-gives : goal.returns-in-Ok-clause-gives
returns-in-Ok-clause-gives g c committed more pages sure is end left =
    let size : ℕ = length c.args.buffer.now in
    let b = c.in-Ok.ensures.pulled committed more pages sure is end (record { some = omega arith; taken = refl; left_is = left }) in
    let s = c.split_at_mut-room.ensures in
    let same : length c.pull_text-told.new.buffer ≡ size = c.pull_text-told.auto.buffer in
    let room : length c.split_at_mut-room.result.1.now ≡ size - c.pull_text-told.result = omega (arith, s.back_len, same) in
    gives_behind committed c.args.text.now pages c.args.names.now c.in-Ok.left size c.pull_text-told.result c.in-Ok.heard c.split_at_mut-room.result.0.now c.pull_pages.new.buffer _
    c.pull_text-told.ensures.count (s.front ∙ c.pull_text-told.ensures.given) refl b.0
    (elim b.1 [ inl full ↦ inl (full ∙ room) | inr all ↦ inr all ]) (omega (arith, c.in-Ok.ensures.within, room))

pub returns-in-Ok-clause-passes : goal.returns-in-Ok-clause-passes
returns-in-Ok-clause-passes g c committed more pages sure is end left =
    c.in-Ok.ensures.passes committed more pages sure is end (record { some = omega arith; taken = refl; left_is = left })
