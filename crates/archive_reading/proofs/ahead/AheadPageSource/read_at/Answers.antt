use Rattle.std.proofs.Common.{ℕ, List, ◌∙◌, ap, length, take, drop}
use Rattle.archive_reading.proofs.HeldBytes.{held_part}
use Rattle.archive_reading.proofs.ahead.AheadPageSource.read_at.Goals as goal

pub returns-in-Some-clause-read : goal.returns-in-Some-clause-read
returns-in-Some-clause-read g c =
    let a = c.self.inside in
    let count : ℕ = length c.args.buffer.now in
    rw (← c.self.view_is)
    (λ honest.
    c.copy_from.ensures
    ∙ ap (λ (l : List ℕ). take count (drop c.in-Some.skip l)) c.as_slice.ensures.value
    ∙ held_part (g.S.PageSource.bytes a.source) a.room.items a.from a.held c.in-Some.skip count c.args.at
    c.in-Some.ensures.1 c.self.invariant.0 c.in-Some.ensures.0 (c.self.invariant.1 honest))
