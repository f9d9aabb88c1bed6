-- Packets as text. Strings are those of JSON (RFC 8259, section 7); what is told is ours.
use Rattle.std.specs.Prelude.{◌≡◌, ℕ, ◌+◌, ◌/◌, ◌%◌, nat_lt, nat_eq, if◌then◌else◌, Option, Some, None, List, [], ◌∷◌, ◌++◌, length, codes}
use Rattle.std.specs.List.{flat_map}
use Rattle.std.specs.Str.{is_utf8}
use Rattle.std.specs.Fmt.{decimal}
use Rattle.base64.specs.Engines.{standard}
use Rattle.base64.specs.GeneralPurpose.{encode_of}
use Rattle.archive_clock.specs.Told.{IsTimeText}
use Rattle.line_packets.specs.declared.texts.Told.{Told}

-- 0 to 9, and a to f
abbrev pub hex_digit : ℕ → ℕ
hex_digit number = if nat_lt number 10 then 48 + number else 87 + number

-- a quote and a backslash get a backslash, and what is below 32 is written in hexadecimal
abbrev pub escape : ℕ → List ℕ
escape byte =
    if nat_eq byte 34 then 92 ∷ 34 ∷ []
    else (if nat_eq byte 92 then 92 ∷ 92 ∷ []
    else (if nat_lt byte 32 then 92 ∷ 117 ∷ 48 ∷ 48 ∷ hex_digit (byte / 16) ∷ hex_digit (byte % 16) ∷ []
    else byte ∷ []))

abbrev pub escaped : List ℕ → List ℕ
escaped text = flat_map escape text

abbrev pub text_field : List ℕ → List ℕ
text_field packet = codes ",\"text\":\"" ++ (escaped packet ++ codes "\"}\n")

abbrev pub data_field : List ℕ → List ℕ
data_field packet = codes ",\"data\":\"" ++ (encode_of standard packet ++ codes "\"}\n")

-- the bytes as text, or in base64 (RFC 4648, section 4) if they aren't UTF-8
abbrev pub content_of : List ℕ → List ℕ
content_of packet = if is_utf8 packet then text_field packet else data_field packet

abbrev pub numbers_text : Told → ℕ → List ℕ
numbers_text told bytes =
    codes "\"link\":" ++ (decimal told.link ++ (codes ",\"serial\":" ++ (decimal told.serial
    ++ (codes ",\"position\":" ++ (decimal told.position ++ (codes ",\"bytes\":" ++ decimal bytes))))))

abbrev pub file_text : Option ℕ → List ℕ
file_text None = []
file_text (Some file) = codes "\"file\":" ++ (decimal file ++ codes ",")

-- the time, if there is one, in UTC with milliseconds
abbrev pub IsWhen : Option ℕ → List ℕ → Type 0
IsWhen None when = when ≡ []
IsWhen (Some time) when = (told : List ℕ) × IsTimeText time told × (when ≡ codes "\"time\":\"" ++ (told ++ codes "\","))

abbrev pub json_text : List ℕ → Told → List ℕ → List ℕ
json_text when told packet =
    codes "{" ++ (when ++ (file_text told.file ++ (numbers_text told (length packet) ++ content_of packet)))
