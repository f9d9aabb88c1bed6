-- The definitions compute: packets of pages written out.
use Rattle.std.proofs.Common.{◌≡◌, ℕ, List, [], ◌∷◌, refl, Some, None, Ok, Option, false}
use Rattle.ogg_page.specs.Page.{Page}
use Rattle.ogg_page.specs.Pages.{FoundPage}
use Rattle.packet_view.specs.Packets.{Part, PacketParts, PacketsLeft, packets_from, packets_in, parts_behind}
use Rattle.packet_view.specs.declared.fault.ViewFault.TheVariants.{Sequence, Continued, AfterEos}

abbrev page : ℕ → ℕ → ℕ → ℕ → List ℕ → List ℕ → Page
page flags position serial sequence lacing body =
    record { flags = flags; position = position; serial = serial; sequence = sequence; lacing = lacing; body = body }

abbrev at : ℕ → Page → FoundPage
at offset page = Ok (offset, page)

abbrev packet : List Part → Option ℕ → PacketParts
packet parts position = record { parts = parts; position = position }

abbrev part : ℕ → List ℕ → Part
part place bytes = record { place = place; bytes = bytes }

abbrev from_start : List FoundPage → PacketsLeft
from_start found = packets_from 1 (record { number = None; ended = false }) [] found

abbrev abc : FoundPage
abc = at 0 (page 2 0 1 0 (3 ∷ []) (97 ∷ 98 ∷ 99 ∷ []))

abbrev abc_packet : PacketParts
abc_packet = packet (part 28 (97 ∷ 98 ∷ 99 ∷ []) ∷ []) (Some 0)

abbrev nil_page : FoundPage
nil_page = at 31 (page 4 5 1 2 [] [])

one_after_the_other : from_start (abc ∷ at 31 (page 0 5 1 1 (1 ∷ 2 ∷ []) (120 ∷ 121 ∷ 122 ∷ [])) ∷ [])
    ≡ record { packets = abc_packet ∷ packet (part 60 (120 ∷ []) ∷ []) None ∷ packet (part 61 (121 ∷ 122 ∷ []) ∷ []) (Some 5) ∷ []; fault = None }
unfolding packets_from packets_in parts_behind
one_after_the_other = refl

a_page_is_missing : from_start (abc ∷ nil_page ∷ []) ≡ record { packets = abc_packet ∷ []; fault = Some (Sequence 31) }
unfolding packets_from packets_in parts_behind
a_page_is_missing = refl

nothing_is_continued : from_start (abc ∷ at 31 (page 1 5 1 1 (1 ∷ []) (120 ∷ [])) ∷ []) ≡ record { packets = abc_packet ∷ []; fault = Some (Continued 31) }
unfolding packets_from packets_in parts_behind
nothing_is_continued = refl

the_stream_has_ended : from_start (at 0 (page 6 0 1 0 (3 ∷ []) (97 ∷ 98 ∷ 99 ∷ [])) ∷ nil_page ∷ []) ≡ record { packets = abc_packet ∷ []; fault = Some (AfterEos 31) }
unfolding packets_from packets_in parts_behind
the_stream_has_ended = refl

another_stream : from_start (at 0 (page 2 0 2 0 (3 ∷ []) (97 ∷ 98 ∷ 99 ∷ [])) ∷ []) ≡ record { packets = []; fault = None }
unfolding packets_from packets_in parts_behind
another_stream = refl

an_empty_packet : from_start (at 0 (page 2 0 1 0 (0 ∷ []) []) ∷ []) ≡ record { packets = packet [] (Some 0) ∷ []; fault = None }
unfolding packets_from packets_in parts_behind
an_empty_packet = refl
