-- The definitions on small packets.
use Rattle.std.proofs.Common.{◌≡◌, [], ◌∷◌, ◌++◌, length, Some, None, pos, codes, replicate, refl}
use Rattle.ogg_page.specs.Numbers.{u16_bytes, u32_bytes, i64_bytes}
use Rattle.skeleton3.specs.Fields.{lines_of, trimmed, field_of, media_in}
use Rattle.skeleton3.specs.Fishead.{fishead_with, fishead_bytes, fishead_fault}
use Rattle.skeleton3.specs.Fisbone.{Fisbone, fixed_part, fisbone_bytes, fisbone_fault}
use Rattle.skeleton3.specs.declared.fishead.Fishead.{Fishead}
use Rattle.skeleton3.specs.declared.fault.SkeletonFault.TheVariants.{Length, Name, Version, Fields}

-- lines end with CR LF, with LF alone or with the text; empty ones don't count
some_lines : lines_of (codes "a: b\r\n\nc\r\r\n\r\nd\r") ≡ codes "a: b" ∷ codes "c\r" ∷ codes "d" ∷ []
some_lines = refl

-- only spaces and tabs are taken off, and only at the ends
some_value : trimmed (codes " \ta b\r ") ≡ codes "a b\r"
some_value = refl

-- a name is what stands before the first colon, as it stands
some_field : field_of (codes "Title : a:b") ≡ Some (codes "Title ", codes "a:b")
some_field = refl

another_case : media_in (codes "content-type:audio/ogg\r\n") ≡ Some (codes "audio/ogg")
another_case = refl

the_first : media_in (codes "Title: One\nContent-Type: a\nCONTENT-TYPE: b\n") ≡ Some (codes "a")
the_first = refl

no_colon : media_in (codes "Content-Type: a\r\nTitle\r\n") ≡ None
no_colon = refl

no_line : media_in [] ≡ None
no_line = refl

-- a numerator of 0 and a denominator of 1,000
a_fishead : Fishead
a_fishead = record { presentation = (pos 0, pos 1000); base = (pos 0, pos 1000); utc = replicate 20 0 }

its_bytes : fishead_bytes a_fishead ≡
    codes "fishead" ++ 0 ∷ 3 ∷ 0 ∷ 0 ∷ 0
    ∷ 0 ∷ 0 ∷ 0 ∷ 0 ∷ 0 ∷ 0 ∷ 0 ∷ 0 ∷ 0xe8 ∷ 3 ∷ 0 ∷ 0 ∷ 0 ∷ 0 ∷ 0 ∷ 0
    ∷ 0 ∷ 0 ∷ 0 ∷ 0 ∷ 0 ∷ 0 ∷ 0 ∷ 0 ∷ 0xe8 ∷ 3 ∷ 0 ∷ 0 ∷ 0 ∷ 0 ∷ 0 ∷ 0 ∷ replicate 20 0
unfolding a_fishead fishead_with u16_bytes i64_bytes
its_bytes = refl

another_minor : fishead_fault (fishead_with 7 a_fishead) ≡ None
unfolding a_fishead fishead_with u16_bytes i64_bytes
another_minor = refl

cut_short : fishead_fault (codes "fishead" ++ replicate 56 0) ≡ Some Length
unfolding u16_bytes
cut_short = refl

version_zero : fishead_fault (codes "fishead" ++ replicate 57 0) ≡ Some Version
unfolding u16_bytes
version_zero = refl

-- 44,100 granules in a second
a_fisbone : Fisbone
a_fisbone = record { serial = 1; headers = 3; rate = (pos 44100, pos 1); base_granule = pos 0; preroll = 2; shift = 0; media = codes "audio/vorbis" }

eighty : length (fisbone_bytes a_fisbone) ≡ 80
unfolding a_fisbone fixed_part u32_bytes i64_bytes
eighty = refl

no_fault : fisbone_fault (fisbone_bytes a_fisbone) ≡ None
unfolding a_fisbone fixed_part u32_bytes i64_bytes
no_fault = refl

no_message : fisbone_fault (codes "fisbone" ++ replicate 45 0) ≡ Some Fields
no_message = refl

-- the length comes before the name
neither : fisbone_fault (codes "fishead" ++ replicate 44 0) ≡ Some Length
neither = refl

other_name : fisbone_fault (codes "fishead" ++ replicate 45 0) ≡ Some Name
other_name = refl
