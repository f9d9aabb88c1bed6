use Rattle.std.proofs.Common.{◌≡◌, ◌∙◌, ap, sym, length, arith, length-append}
use Rattle.ogg_page.specs.Page.{page_bytes, page_size}
use Rattle.ogg_page.specs.Laws.ReadAgain.{length-page_bytes}
use Rattle.import_pages.proofs.front.size_in_front.Goals as goal

pub returns-clause-found : goal.returns-clause-found
returns-clause-found c =
    let found = c.read_page.ensures.found in
    let size : length c.whole.result.now ≡ page_size c.in_ok-page.page = ap length c.whole.ensures.bytes ∙ length-page_bytes c.in_ok-page.page in
    record {
      page = c.in_ok-page.page;
      is = c.whole.ensures.is_page;
      read = sym c.read_page.ensures.exact ∙ c.in_ok-page.was;
      whole = size;
      fits = omega (arith, size, ap length c.in_ok-page.ensures.found.2, length-append (page_bytes c.in_ok-page.page) c.in_ok-page.ensures.found.1, length-page_bytes c.in_ok-page.page);
      small = λ i. omega (arith, c.type_inv.bytes i);
    }
