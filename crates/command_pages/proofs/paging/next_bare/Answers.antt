use Rattle.std.proofs.Common.{[], ◌∷◌, Some, sym, ◌∙◌, ap}
use Rattle.ogg_page.specs.Page.{page_of}
use Rattle.ogg_page.specs.PageInWork.{PageInWork}
use Rattle.command_pages.specs.CommandPages.{bare_pages}
use Rattle.command_pages.proofs.paging.next_bare.Goals as goal

pub returns : goal.returns
returns c = (
  page_of c.in-Some.next [] [],
  ap bare_pages (sym c.take.ensures.value ∙ c.in-Some.is)
      ∙ ap (λ head. page_of c.in-Some.next [] [] ∷ bare_pages head) (sym c.take.ensures.after),
  ap (λ (work : PageInWork). work.finished) c.finish.ensures
      ∙ ap (λ (work : PageInWork). Some (page_of c.in-Some.next work.lacing work.body)) c.start.ensures,
)
