use Rattle.std.proofs.Common.{◌≡◌, [], ◌∙◌, ap, sym, Ok, Some}
use Rattle.std.proofs.lemmas.List.{append-nil}
use Rattle.ogg_finish.specs.Finishing.{marked_last}
use Rattle.ogg_page.specs.Page.{page_bytes}
use Rattle.archive_cut.proofs.finishing.mark_last.Goals as goal

pub returns-else-is_last-clause-made : goal.returns-else-is_last-clause-made
returns-else-is_last-clause-made c whole is bytes =
    let read : c.read_page.result ≡ Ok whole = c.read_page.ensures.each whole [] is (bytes ∙ sym (append-nil (page_bytes whole))) in
    let same : c.in-Ok.page ≡ whole = cc in
    c.make_marked.ensures ∙ ap (λ p. Some (marked_last p)) same
