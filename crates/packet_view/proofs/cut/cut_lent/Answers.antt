use Rattle.std.proofs.Common.{◌≡◌, ◌∙◌, sym, Some}
use Rattle.ogg_page.specs.Window.{LentAt}
use Rattle.packet_view.proofs.Cuts.{cut_there, fits_there}
use Rattle.packet_view.proofs.cut.cut_lent.Goals as goal

pub returns : goal.returns
returns g c =
    let w = c.args.window.now in
    let at : LentAt = (c.in_ok-page.field-0-0, c.in_ok-page.page) in
    let cut = c.in_ok-cut.cut in
    let lent : w.lent ≡ Some at = sym c.lent.ensures ∙ c.in_ok-page.was in
    let fits = fits_there w.fault w.lent at c.args.progress.cut cut lent c.in_ok-cut.was c.requires.fits in
    cut_there w.fault w.lent at c.args.progress cut c.cut_front.result.0 c.cut_front.result.1 lent c.in_ok-cut.was fits.0 c.cut_front.ensures
