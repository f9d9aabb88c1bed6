use Rattle.std.proofs.Common.{◌≡◌, [], ◌∷◌, length, sym, ◌∙◌, ap, arith}
use Rattle.packetiser.specs.Run.{pages_of_run}
use Rattle.skeleton3.specs.Fishead.{fishead_bytes}
use Rattle.command_pages.specs.Encoding.{header, first_flag, fishead_of}
use Rattle.packetiser.specs.Laws.Appending.{flagged_size}
use Rattle.command_pages.specs.Laws.Short.{length-fishead}
use Rattle.command_pages.proofs.skeleton.size_of_fishead.Goals as goal

pub size_of_packet-requires : goal.size_of_packet-requires
size_of_packet-requires c =
    let size : c.size.result ≡ length (fishead_bytes (fishead_of c.args.head.now)) = c.size.ensures ∙ ap (λ f. length (fishead_bytes f)) c.fishead_of.ensures.value in
    omega (arith, size, length-fishead c.args.head.now c.fishead_of.ensures.time)

pub returns-clause-value : goal.returns-clause-value
returns-clause-value c =
    let size : c.size.result ≡ length (fishead_bytes (fishead_of c.args.head.now)) = c.size.ensures ∙ ap (λ f. length (fishead_bytes f)) c.fishead_of.ensures.value in
    c.size_of_packet.ensures.value c.args.head.now.serial 0 (fishead_bytes (fishead_of c.args.head.now)) (sym size)
    ∙ sym (flagged_size first_flag (pages_of_run c.args.head.now.serial 0 (header (fishead_bytes (fishead_of c.args.head.now)) ∷ [])))

pub returns-clause-small : goal.returns-clause-small
returns-clause-small c =
    let size : c.size.result ≡ length (fishead_bytes (fishead_of c.args.head.now)) = c.size.ensures ∙ ap (λ f. length (fishead_bytes f)) c.fishead_of.ensures.value in
    omega (arith, size, length-fishead c.args.head.now c.fishead_of.ensures.time, c.size_of_packet.ensures.small)
