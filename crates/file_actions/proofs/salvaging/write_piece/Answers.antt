use Rattle.std.proofs.Common.{◌≡◌, ◌≤◌, ◌+◌, ℕ, List, length, sym, ◌∙◌, subst, arith}
use Rattle.std.specs.Io.KnownBytes.{Appends}
use Rattle.ogg_split.specs.Salvage.{AreGoodPages}
use Rattle.ogg_split.specs.declared.salvaging.GoodPage.{GoodPage}
use Rattle.file_actions.specs.Salvage.{AreGoodBetween, IsSure, page_lines, pages_before, searched_with}
use Rattle.file_actions.proofs.Salvaged.{listed_between, searched_within}
use Rattle.file_actions.proofs.salvaging.write_piece.Goals as goal

pub returns-in-Ok-write_whole-clause-listed : goal.returns-in-Ok-write_whole-clause-listed
returns-in-Ok-write_whole-clause-listed g c = λ bytes whole is.
    let at : ℕ = c.args.at in
    let sure : ℕ = c.sure_of-sure.result in
    let pages : List GoodPage = c.as_slice.result.now in
    let good : AreGoodPages c.args.piece.now pages = subst (AreGoodPages c.args.piece.now) (sym c.as_slice.ensures.value) c.in-Ok.ensures.pages in
    let known : IsSure (length c.args.piece.now) c.args.left sure = c.sure_of-sure.ensures.sure c.requires.piece in
    let searched : c.in-Ok-lines_of.listed.1 ≡ searched_with sure sure pages = c.in-Ok-lines_of.ensures.searched in
    let lines : c.in-Ok-lines_of.listed.0.items ≡ page_lines (pages_before at sure pages) = c.in-Ok-lines_of.ensures.lines in
    let written : Appends (g.W.Write.contents c.args.out.now) (g.W.Write.contents c.write_whole.new.writer) c.as_slice-2.result.now = c.in-Ok-write_whole.ensures.ok in (
      pages_before at sure pages,
      subst (λ n. AreGoodBetween at (at + n) bytes (pages_before at sure pages)) (sym searched)
          (listed_between bytes c.args.piece.now at c.args.left whole c.requires.short c.requires.within is sure pages known good),
      subst (Appends (g.W.Write.contents c.args.out.now) (g.W.Write.contents c.write_whole.new.writer)) (c.as_slice-2.ensures.value ∙ lines) written,
    )

pub returns-in-Ok-write_whole-clause-within : goal.returns-in-Ok-write_whole-clause-within
returns-in-Ok-write_whole-clause-within g c =
    let sure : ℕ = c.sure_of-sure.result in
    let pages : List GoodPage = c.as_slice.result.now in
    let good : AreGoodPages c.args.piece.now pages = subst (AreGoodPages c.args.piece.now) (sym c.as_slice.ensures.value) c.in-Ok.ensures.pages in
    let known : IsSure (length c.args.piece.now) c.args.left sure = c.sure_of-sure.ensures.sure c.requires.piece in
    let searched : c.in-Ok-lines_of.listed.1 ≡ searched_with sure sure pages = c.in-Ok-lines_of.ensures.searched in
    let reach : sure ≤ c.args.left = omega (arith, known.inside, c.requires.some, c.requires.within) in
    let within : searched_with sure sure pages ≤ c.args.left = searched_within c.args.piece.now sure sure c.args.left pages good.each reach c.requires.within in
    subst (λ n. n ≤ c.args.left) (sym searched) within
