use Rattle.std.proofs.Common.{◌≡◌, ◌+◌, ◌-◌, ◌*◌, List, ℕ, length, drop, ◌∙◌, ap, subst, arith}
use Rattle.archive_fetch.specs.Meetings.{EndIn}
use Rattle.archive_fetch.proofs.EndPages.{at_end}
use Rattle.archive_fetch.proofs.meetings.open_at_end.Goals as goal

pub split_at-requires : goal.split_at-requires
split_at-requires g c = omega (arith, ap (λ l. length l) c.as_slice.ensures.value, c.in-Ok.ensures.so_many, c.in-Some.ensures)

pub returns-in-Ok-Some-clause-ended : goal.returns-in-Ok-Some-clause-ended
returns-in-Ok-Some-clause-ended g c sure =
    let s = g.S.PageSource in
    let all : List ℕ = s.bytes c.args.source.now in
    let bytes : List ℕ = c.as_slice.result.now in
    let count : ℕ = c.args.count in
    let streams = c.in-Ok-Some.ended.items in
    let (is, fits) = c.in-Ok.ensures.read sure in
    let size : c.in-Some.size ≡ 27 + 27 * count = c.in-Some.ensures in
    let bytes_are : bytes ≡ drop (length all - (27 + 27 * count)) all = c.as_slice.ensures.value ∙ is ∙ ap (λ n. drop (length all - n) all) size in
    let found = rw c.in-Ok-Some.field-0-is at (rw c.in-Ok-Some.is at c.ended_in.ensures) in
    let ends : EndIn (drop 27 bytes) 0 streams = subst (λ l. EndIn l 0 streams) c.split_at.ensures.back found in
    let so_many : length streams ≡ count = omega (arith, c.len.ensures, c.if-len-count.true, c.in-Ok-Some.ended.ok.0) in
    subst (λ n. EndIn all (n - 27 * count) streams) (g.met.S.PageSource.fits c.args.source.now sure)
    (at_end all bytes count streams bytes_are (omega (arith, fits, size)) ends so_many)
