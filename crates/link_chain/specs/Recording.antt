-- What a chain of links holds: for each link its streams, with their packets.
use Rattle.std.specs.Prelude.{◌≡◌, ℕ, Bool, List, [], ◌∷◌}
use Rattle.std.specs.List.{AllZip}
use Rattle.ogg_page.specs.Page.{Page}
use Rattle.ogg_page.specs.LogicalStream.{HoldsPackets}
use Rattle.link_chain.specs.Links.{AreLinks, pages_with, serials_of, has_ended}

-- a logical bitstream: its packets in order, and whether it has ended
pub record Stream : Type 0 where
  pub serial : ℕ
  pub packets : List (List ℕ)
  pub ended : Bool

-- the streams of each link
abbrev pub Recording : Type 0
Recording = List (List Stream)

-- these pages of a link hold the stream with this serial, and no packet is left unfinished
pub record HoldsStream (pages : List Page) (serial : ℕ) (stream : Stream) : Type 0 where
  pub serial_is : stream.serial ≡ serial
  pub packets : HoldsPackets (pages_with serial pages) stream.packets 0 []
  pub ended : stream.ended ≡ has_ended pages serial

-- the link's streams, in the order of their first pages
abbrev pub HoldsLink : List Page → List Stream → Type 0
HoldsLink pages streams = AllZip (HoldsStream pages) (serials_of pages) streams

abbrev pub HoldsLinks : List (List Page) → Recording → Type 0
HoldsLinks links recording = AllZip HoldsLink links recording

-- the bytes hold the recording
abbrev pub Holds : List ℕ → Recording → Type 0
Holds bytes recording = (links : List (List Page)) × AreLinks bytes links × HoldsLinks links recording

-- a change of the last one, as of the last link
abbrev pub change_last : {A : Type 0} → (A → A) → List A → List A
change_last change [] = []
change_last change (x ∷ []) = change x ∷ []
change_last change (x ∷ y ∷ xs) = x ∷ change_last change (y ∷ xs)
