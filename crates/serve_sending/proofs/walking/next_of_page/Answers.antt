use Rattle.std.proofs.Common.{◌≡◌, ◌+◌, ◌<◌, ◌≤◌, ◌-◌, length, drop, refl, sym, ◌∙◌, ap, subst, arith}
use Rattle.ogg_page.specs.Page.{page_bytes}
use Rattle.ogg_page.specs.PageLaws.{length-page_bytes}
use Rattle.serve_machine.specs.Places.{IsStreamRest}
use Rattle.serve_sending.proofs.walking.next_of_page.Goals as goal

pub returns-then-extent-serial-clause-given : goal.returns-then-extent-serial-clause-given
returns-then-extent-serial-clause-given c committed rest page s is r =
    let left = c.args.left in
    let size : c.args.extent.size ≡ length (page_bytes page) = ap (λ x. x.size) is ∙ sym (length-page_bytes page) in
    let law = c.stream_rests_are_places.ensures in
    record {
      given = refl;
      is_rest = subst (λ k. IsStreamRest committed c.args.serial (left.place + k) left.skip left.count rest) (sym size)
          (law.other committed c.args.serial left.place left.skip left.count rest page s.tail r c.requires.some s.is_page s.spelled
          (λ e. c.if-extent-serial.true (ap (λ x. x.serial) is ∙ e)));
    }

pub returns-then-left-extent-clause-given : goal.returns-then-left-extent-clause-given
returns-then-left-extent-clause-given c committed rest page s is r =
    let left = c.args.left in
    let size : c.args.extent.size ≡ length (page_bytes page) = ap (λ x. x.size) is ∙ sym (length-page_bytes page) in
    let same = sym (ap (λ x. x.serial) is) ∙ c.if-extent-serial.false in
    let skip : left.skip ≡ length (page_bytes page) + (left.skip - c.args.extent.size) = omega (arith, size, c.if-left-extent.true) in
    let law = c.stream_rests_are_places.ensures in
    record {
      given = refl;
      is_rest = subst (λ k. IsStreamRest committed c.args.serial (left.place + k) (left.skip - c.args.extent.size) left.count rest) (sym size)
          (law.passed committed c.args.serial left.place (left.skip - c.args.extent.size) left.count rest page s.tail
          (subst (λ k. IsStreamRest committed c.args.serial left.place k left.count rest) skip r) c.requires.some s.is_page s.spelled same);
    }

pub returns-then-count-gt0-clause-given : goal.returns-then-count-gt0-clause-given
returns-then-count-gt0-clause-given c committed rest page s is r =
    let left = c.args.left in
    let n = c.min-taken.result in
    let size : c.args.extent.size ≡ length (page_bytes page) = ap (λ x. x.size) is ∙ sym (length-page_bytes page) in
    let same = sym (ap (λ x. x.serial) is) ∙ c.if-extent-serial.false in
    let parts : left.count ≡ n + (left.count - n) = grind (arith, c.min.ensures, c.min-taken.ensures) in
    let some : 0 < n + (left.count - n) = omega (arith, parts, c.requires.some) in
    let law = c.stream_rests_are_places.ensures in
    let given = law.given committed c.args.serial left.place left.skip n (left.count - n) rest page s.tail
    (subst (λ k. IsStreamRest committed c.args.serial left.place left.skip k rest) parts r) some s.is_page s.spelled same (omega (arith, size, c.if-skip-extent.true)) in
    let skip : left.skip + n ≡ length (page_bytes page) + 0 = omega (arith, size, c.if-skip-extent.true) in
    record {
      given = given.0;
      is_rest = subst (λ k. IsStreamRest committed c.args.serial (left.place + k) 0 (left.count - n) (drop n rest)) (sym size)
          (law.passed committed c.args.serial left.place 0 (left.count - n) (drop n rest) page s.tail
          (subst (λ k. IsStreamRest committed c.args.serial left.place k (left.count - n) (drop n rest)) skip given.1) c.if-count-gt0.true s.is_page s.spelled same);
    }

pub returns-clause-given : goal.returns-clause-given
returns-clause-given c committed rest page s is r =
    let left = c.args.left in
    let n = c.min-taken.result in
    let size : c.args.extent.size ≡ length (page_bytes page) = ap (λ x. x.size) is ∙ sym (length-page_bytes page) in
    let same = sym (ap (λ x. x.serial) is) ∙ c.if-extent-serial.false in
    let parts : left.count ≡ n + (left.count - n) = grind (arith, c.min.ensures, c.min-taken.ensures) in
    let some : 0 < n + (left.count - n) = omega (arith, parts, c.requires.some) in
    let fits : left.skip + n ≤ length (page_bytes page) = grind (arith, size, c.min.ensures, c.min-taken.ensures, c.if-left-extent.false) in
    let given = c.stream_rests_are_places.ensures.given committed c.args.serial left.place left.skip n (left.count - n) rest page s.tail
    (subst (λ k. IsStreamRest committed c.args.serial left.place left.skip k rest) parts r) some s.is_page s.spelled same fits in
    record { given = given.0; is_rest = given.1 }
