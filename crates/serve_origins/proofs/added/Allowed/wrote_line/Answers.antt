use Rattle.std.proofs.Common.{◌≡◌, ℕ, suc, ◌+◌, ◌-◌, ◌≤◌, List, ◌++◌, length, drop, arith, ap, ◌∙◌, subst}
use Rattle.std.proofs.lemmas.List.Quantifiers.{position-Some}
use Rattle.serve_origins.specs.Added.{HasWritten}
use Rattle.serve_origins.specs.declared.added.Added.TheVariants.{Nothing, Part}
use Rattle.serve_origins.proofs.Splicing.{in_line, is_feed, past_line, room_after}
use Rattle.serve_origins.proofs.added.Allowed.wrote_line.Goals as goal

pub returns-then-count-end : goal.returns-then-count-end
returns-then-count-end c fits =
    let (inside, is, before) = position-Some is_feed c.args.bytes.now c.args.end 0 c.requires in
    in_line c.args.self.now c.args.bytes.now c.args.count (λ j small. before j (omega (arith, small, c.if-count-end.true))) (omega (arith, inside, c.if-count-end.true))

pub returns : goal.returns
returns c fits =
    let bytes = c.args.bytes.now in
    let end = c.args.end in
    let (inside, is, before) = position-Some is_feed bytes end 0 c.requires in
    let later = c.args.count - end - 1 in
    let count : suc end + later ≡ c.args.count = omega (arith, c.if-count-end.false) in
    let room : later ≤ length (c.args.self.now ++ drop (suc end) bytes) = omega (arith, fits, count, room_after c.args.self.now bytes end before inside is) in
    let field : c.as_slice.result.now ≡ c.args.self.now = c.as_slice.ensures.value ∙ c.self.view_is in
    let rest = drop (suc end) bytes in
    let own = c.past_field-added.result.1 in
    let goes = subst (λ f. HasWritten f (Part 0) rest later c.past_field-added.result.0 own) field
    (c.past_field-added.ensures.written rest (omega (arith, room, ap (λ (f : List ℕ). length (f ++ rest)) field))) in
    let sum : suc end + own ≡ c.saturating_add.result =
    omega (arith, c.saturating_add.ensures, c.past_field-added.ensures.few, c.ranges.count.fits, c.if-count-end.false) in
    subst (λ n. HasWritten c.args.self.now Nothing bytes n c.past_field-added.result.0 c.saturating_add.result) count
    (subst (λ n. HasWritten c.args.self.now Nothing bytes (suc end + later) c.past_field-added.result.0 n) sum
    (past_line c.args.self.now bytes end later own c.past_field-added.result.0 before inside is goes))
