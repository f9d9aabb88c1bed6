use Rattle.std.proofs.Common.{◌≡◌, ◌-◌, ◌*◌, ◌==◌, List, ℕ, length, vec_len, ◌∙◌, ap, subst, arith}
use Rattle.archive_fetch.specs.Meetings.{BeginIn, EndIn}
use Rattle.archive_fetch.proofs.meetings.Meeting.of.Goals as goal

pub returns-in-Ok-Some-open_at_end-clause-meets : goal.returns-in-Ok-Some-open_at_end-clause-meets
returns-in-Ok-Some-open_at_end-clause-meets g c news so sn s =
    let old : List ℕ = g.S.PageSource.bytes c.args.old.now in
    let ended = c.in-Ok-Some-open_at_end.ended in
    let begun : BeginIn news c.in-Ok-Some.begun_end c.in-Ok-Some.begun.items = rw c.in-Ok-Some.field-0-is at (c.in-Ok-Some.ensures.begun news sn s) in
    let end = (rw c.in-Ok-Some-open_at_end.field-0-is at (rw c.in-Ok-Some-open_at_end.is at c.open_at_end.ensures.ended)) so in
    let so_many : length ended.items ≡ c.len.result =
    rw c.in-Ok-Some-open_at_end.field-0-is at (rw c.in-Ok-Some-open_at_end.is at c.open_at_end.ensures.as_many) in
    let len : c.len-in-Ok-Some-open_at_end.result ≡ length ended.items = omega (arith, c.len-in-Ok-Some-open_at_end.ensures, ended.ok.0) in
    let place : g.S.PageSource.size c.args.old.now - 27 * c.len.result ≡ c.before_ends.result =
    omega (arith, c.before_ends.ensures, c.end-old_end.ensures, len, so_many) in
    let begun_len : c.len.result ≡ length c.in-Ok-Some.begun.items = omega (arith, c.len.ensures, c.in-Ok-Some.begun.ok.0) in
    record {
      some = λ none.
          let zero : vec_len ended ≡ 0 = omega (arith, ended.ok.0, ap (λ l. length l) none) in
          absurd (cc (c.if-not-is_empty.ensures ∙ ap (λ n. n == 0) zero));
      end = subst (λ n. EndIn old n ended.items) place end;
      begun = begun;
      as_many = so_many ∙ begun_len;
    }
