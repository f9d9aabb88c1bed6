-- The packets of a Skeleton are short: each fills one page at most.
use Rattle.std.proofs.Common.{◌≡◌, ℕ, ◌≤◌, false, List, [], ◌∷◌, length, arith}
use Rattle.std.proofs.lemmas.Bool.{ltb-false}
use Rattle.std.proofs.lemmas.List.Sums.{sum_by-cons}
use Rattle.ogg_page.specs.Numbers.{u16_bytes, i64_bytes}
use Rattle.packetiser.specs.Run.{pages_for, run_lacing}
use Rattle.packetiser.specs.Laws.Sizes.{length-run_lacing, values_in}
use Rattle.skeleton3.specs.Fishead.{fishead_bytes, fishead_with}
use Rattle.skeleton3.specs.Fields.{message_of}
use Rattle.skeleton3.specs.FisboneLaws.{length-fisbone_bytes_with}
use Rattle.ogg_command.specs.declared.command.NewStream.{NewStream}
use Rattle.ogg_command.specs.declared.command.SkeletonHead.{SkeletonHead}
use Rattle.command_pages.specs.Encoding.{header, fishead_of, fisbone_of, fisbone_packet}
use Rattle.command_pages.specs.Fits.{has_long_message}
use Rattle.command_pages.specs.Limits.{longest_message}
use Rattle.skeleton3.specs.Sizes.{fishead_size, time_size}
use Rattle.ogg_page.specs.Sizes.{longest_whole}

pub length-fishead : (head : SkeletonHead) → length head.utc ≡ time_size → length (fishead_bytes (fishead_of head)) ≡ fishead_size
unfolding fishead_with u16_bytes i64_bytes
length-fishead head size = omega (arith, size)

pub short_fishead : (head : SkeletonHead) → length head.utc ≡ time_size → length (fishead_bytes (fishead_of head)) ≤ longest_whole
short_fishead head size = omega (arith, length-fishead head size)

pub short_fisbone : (stream : NewStream) → has_long_message stream ≡ false → length (fisbone_packet stream) ≤ longest_whole
short_fisbone stream h = omega (arith, length-fisbone_bytes_with stream.fields (fisbone_of stream), ltb-false longest_message (length (message_of stream.media stream.fields)) h)

-- a short packet fills one page at most
pub one_each : (packet : List ℕ) → length packet ≤ longest_whole → pages_for (length (run_lacing (header packet ∷ []))) ≡ 1
one_each packet short = omega (arith, length-run_lacing (header packet ∷ []), sum_by-cons values_in (header packet) [])
