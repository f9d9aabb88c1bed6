use Rattle.std.proofs.Common.{◌≡◌, ◌+◌, ◌≤◌, ap, arith, length}
use Rattle.std.proofs.lemmas.Result.{on_err_weaker}
use Rattle.ogg_page.specs.Page.{Page}
use Rattle.ogg_page.specs.PageLaws.{page_fits}
use Rattle.ogg_page.specs.Sizes.{fixed_size, longest_page}
use Rattle.import_mend.specs.Mended.{mended}
use Rattle.import_mend.proofs.Kept.{mended_is_page}
use Rattle.import_mend.proofs.writing.write_mended.Goals as goal

pub returns-clause-is_page : goal.returns-clause-is_page
returns-clause-is_page c = mended_is_page c.args.joined c.args.number c.args.page.now (omega (arith, c.ranges.number.fits)) c.whole-bytes.ensures.is_page

pub returns-clause-full : goal.returns-clause-full
returns-clause-full c =
    let now : Page = mended c.args.joined c.args.number c.args.page.now in
    let fits : fixed_size + length now.lacing + length now.body ≤ longest_page =
    page_fits now (mended_is_page c.args.joined c.args.number c.args.page.now (omega (arith, c.ranges.number.fits)) c.whole-bytes.ensures.is_page) in
    let lacing : length c.left_of-part.result.lacing.now ≡ length now.lacing = ap length c.left_of-part.ensures.lacing in
    let body : length c.left_of-part.result.body.now ≡ length now.body = ap length c.left_of-part.ensures.body in
    on_err_weaker c.write_page.result (λ lack. omega (arith, lack, fits, lacing, body)) c.write_page.ensures.full
