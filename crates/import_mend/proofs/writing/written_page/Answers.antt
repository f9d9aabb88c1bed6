use Rattle.std.proofs.Common.{[], refl, sym, ◌∙◌, ap, subst, append-nil}
use Rattle.std.specs.Result.{IsOk}
use Rattle.ogg_page.specs.Page.{page_bytes}
use Rattle.ogg_page.specs.PageLaws.{one_page}
use Rattle.ogg_page.specs.Reading.{page_at}
use Rattle.ogg_page.specs.ReadingLaws.{page_is_read}
use Rattle.import_mend.proofs.writing.written_page.Goals as goal

pub split_known_page-page-requires : goal.split_known_page-page-requires
split_known_page-page-requires c =
    let (page, is, e) = c.requires in
    subst IsOk (sym (ap page_at (e ∙ sym (append-nil (page_bytes page))) ∙ page_is_read page [] is)) refl

pub returns : goal.returns
returns c = λ page is e.
    let split = c.split_known_page-page.ensures in
    (one_page c.split_known_page-page.result.0 page c.split_known_page-page.result.1.now [] split.0 is (sym split.1 ∙ e ∙ sym (append-nil (page_bytes page)))).0
