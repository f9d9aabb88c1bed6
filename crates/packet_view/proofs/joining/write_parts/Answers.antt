use Rattle.std.proofs.Common.{◌≡◌, ◌+◌, ◌∙◌, ◌++◌, List, ℕ, length, ap, sym, subst, arith, append_assoc, length-append}
use Rattle.std.specs.List.{concat}
use Rattle.std.specs.Io.KnownBytes.{Appends}
use Rattle.std.proofs.KnownBytes.{Appends-trans}
use Rattle.std.proofs.lemmas.Result.{err_from_is_err_and}
use Rattle.ogg_page.specs.OutputLaws.{front_part}
use Rattle.packet_view.proofs.joining.write_parts.Goals as goal

pub loop-part-preserved : goal.loop-part-preserved
loop-part-preserved g c =
    let (written, whole, appended) = c.loop-part.invariant in
    let part : List ℕ = c.in-Some.part.now in
    let step : concat c.loop-part.parts ≡ part ++ concat c.next.new.self = ap concat c.in-Some.ensures.steps in (
      written ++ part,
      whole ∙ ap (λ l. written ++ l) step ∙ sym (append_assoc written part (concat c.next.new.self)),
      Appends-trans _ _ _ _ _ appended c.in_ok-write_whole.ensures.ok,
    )

pub returns-in_err-write_whole-clause-err : goal.returns-in_err-write_whole-clause-err
returns-in_err-write_whole-clause-err g c =
    let (written, whole, appended) = c.loop-part.invariant in
    let part : List ℕ = c.in-Some.part.now in
    let step : concat c.loop-part.parts ≡ part ++ concat c.next.new.self = ap concat c.in-Some.ensures.steps in
    let all : concat c.args.parts ≡ written ++ (part ++ concat c.next.new.self) = whole ∙ ap (λ l. written ++ l) step in
    let (n, less, more) = c.in_err-write_whole.ensures.err in
    let p = err_from_is_err_and c.from_residual.result c.from_residual.ensures.1 in
    rw p.1 (
      length written + n,
      omega (arith, less, ap length all, length-append written (part ++ concat c.next.new.self), length-append part (concat c.next.new.self)),
      subst (Appends _ _) (sym (front_part (concat c.args.parts) written part (concat c.next.new.self) n all (omega (arith, less)))) (Appends-trans _ _ _ _ _ appended more),
    )
