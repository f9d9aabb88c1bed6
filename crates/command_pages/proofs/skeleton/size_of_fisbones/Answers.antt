use Rattle.std.proofs.Common.{ℕ, ◌+◌, List, [], ◌∷◌, ap, arith}
use Rattle.packetiser.specs.Run.{pages_of_run}
use Rattle.ogg_command.specs.declared.command.NewStream.{NewStream}
use Rattle.command_pages.specs.Encoding.{header, fisbone_packet}
use Rattle.link_chain.specs.Size.{size_of_pages}
use Rattle.command_pages.proofs.FisbonePages.{size_more}
use Rattle.command_pages.proofs.skeleton.size_of_fisbones.Goals as goal

pub loop-stream-preserved : goal.loop-stream-preserved
loop-stream-preserved c =
    let streams : List NewStream = c.args.streams.now in
    let i : ℕ = c.loop-stream.stream-index in
    let stream : NewStream = c.stream-item.result in
    record {
      value = λ serial. omega (
        arith,
        c.loop-stream.invariant.value serial,
        c.size_of_fisbone-size.ensures.value serial (1 + i),
        size_more serial 1 streams i stream c.loop-stream-test.true,
        ap (λ (s : NewStream). size_of_pages (pages_of_run serial (1 + i) (header (fisbone_packet s) ∷ []))) c.stream-item.is,
      );
      small = omega (arith, c.loop-stream.invariant.small, c.size_of_fisbone-size.ensures.small);
    }
