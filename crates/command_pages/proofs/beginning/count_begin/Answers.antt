use Rattle.std.proofs.Common.{◌≡◌, false, List, length, ap, subst, arith}
use Rattle.std.specs.Prelude.{IfSome}
use Rattle.std.specs.List.{list_any}
use Rattle.ogg_command.specs.declared.command.NewStream.{NewStream}
use Rattle.command_pages.specs.Encoding.{pages_of_begin}
use Rattle.command_pages.specs.Fits.{has_long_message}
use Rattle.command_pages.proofs.MadePages.{described_counted}
use Rattle.command_pages.proofs.beginning.count_begin.Goals as goal

pub returns-in-Some : goal.returns-in-Some
returns-in-Some c =
    let streams : List NewStream = c.args.streams.now in
    record {
      value = omega (
        arith,
        c.count_headers-count.ensures.value,
        ap (λ skeleton. length (pages_of_begin skeleton streams)) c.in-Some.is,
        described_counted c.in-Some.head streams c.fishead_of-time.ensures.time
            (subst (λ skeleton. IfSome skeleton (λ _. list_any has_long_message streams ≡ false)) c.in-Some.is c.requires.fits.media),
      );
    }
