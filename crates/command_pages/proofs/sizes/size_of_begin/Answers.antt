use Rattle.std.proofs.Common.{◌≡◌, false, sym, subst}
use Rattle.std.specs.Prelude.{IfSome}
use Rattle.std.specs.List.{list_any}
use Rattle.command_pages.specs.Fits.{has_long_message}
use Rattle.command_pages.specs.Encoding.{pages_of_begin}
use Rattle.link_chain.specs.Size.{has_no_number}
use Rattle.command_pages.proofs.BeginPages.{each_small}
use Rattle.command_pages.proofs.DescribedPages.{described_numbered}
use Rattle.command_pages.proofs.sizes.size_of_begin.Goals as goal

pub returns-in-Some-clause-numbered : goal.returns-in-Some-clause-numbered
returns-in-Some-clause-numbered c =
    subst (λ o. list_any has_no_number (pages_of_begin o c.args.streams.now) ≡ false) (sym c.in-Some.is)
    (described_numbered c.in-Some.head c.args.streams.now (each_small c.args.streams.now c.requires.fits.few c.requires.fits.short) c.size_of_skeleton.ensures.time
    (subst (λ o. IfSome o (λ _. list_any has_long_message c.args.streams.now ≡ false)) c.in-Some.is c.requires.fits.media) c.requires.fits.links)
