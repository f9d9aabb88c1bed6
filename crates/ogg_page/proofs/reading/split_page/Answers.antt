use Rattle.std.proofs.Common.{◌≡◌, length, arith, ap, ◌∙◌}
use Rattle.ogg_page.specs.Page.{page_size}
use Rattle.ogg_page.specs.Laws.ReadAgain.{length-page_bytes}
use Rattle.ogg_page.proofs.reading.split_page.Goals as goal

pub returns-clause-size : goal.returns-clause-size
returns-clause-size c =
    let size : length c.whole.result.now ≡ page_size c.in_ok-page.page = ap length c.whole.ensures.bytes ∙ length-page_bytes c.in_ok-page.page in
    omega (arith, size, c.split_at.ensures.back_len)
