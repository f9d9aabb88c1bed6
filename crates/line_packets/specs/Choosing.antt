-- Which packets of links are written, in which order, and what is told of each. Ours.
use Rattle.std.specs.Prelude.{◌≡◌, ◌⊎◌, min, ◌^◌, ℕ, ◌+◌, ◌-◌, nat_eq, nat_lt, Bool, true, false, ◌&&◌, ◌||◌, if◌then◌else◌, Option, Some, None, List, [], ◌∷◌, ◌++◌, drop, codes}
use Rattle.std.specs.List.{starts_with}
use Rattle.std.specs.Str.{bytes_eq, str_eq_ignore_ascii_case}
use Rattle.skeleton3.specs.Fields.{NamedValue, fields_of}
use Rattle.skeleton3.specs.Fisbone.{Fisbone, HoldsFisbone, fisbone_fault}
use Rattle.skeleton3.specs.Sizes.{fixed_size}
use Rattle.skeleton3.specs.declared.fault.SkeletonFault.{SkeletonFault}
use Rattle.ogg_command.specs.declared.command.Command.{Command}
use Rattle.ogg_command.specs.declared.command.Command.TheVariants.{Begin as BeginOf, Put as PutOf, End as EndOf}
use Rattle.ogg_command.specs.declared.command.Entry.{Entry}
use Rattle.ogg_command.specs.declared.command.NewStream.{NewStream}
use Rattle.line_packets.specs.Texts.{IsWhen, json_text}
use Rattle.line_packets.specs.declared.choosing.Known.{Known}
use Rattle.line_packets.specs.declared.choosing.Named.{Named}
use Rattle.line_packets.specs.declared.choosing.Wanted.{Wanted}
use Rattle.line_packets.specs.declared.choosing.When.{When}
use Rattle.line_packets.specs.declared.texts.Told.{Told}

-- ---- the streams of a link
-- the first header of a Skeleton's stream is a fishead (Ogg Skeleton 3.0)
abbrev pub is_skeleton : List (List ℕ) → Bool
is_skeleton [] = false
is_skeleton (first ∷ headers) = starts_with nat_eq first (codes "fishead" ++ 0 ∷ [])

abbrev pub known_at : ℕ → NewStream → Known
known_at place stream = record { serial = stream.serial; place = place }

-- Streams in order, after so many. A Skeleton has no place among them.
abbrev pub known_from : ℕ → List NewStream → List Known
known_from place [] = []
known_from place (stream ∷ streams) =
    if is_skeleton stream.headers then known_at 0 stream ∷ known_from place streams
    else known_at (place + 1) stream ∷ known_from (place + 1) streams

abbrev pub stream_with : ℕ → List Known → Option Known
stream_with serial [] = None
stream_with serial (stream ∷ streams) = if nat_eq stream.serial serial then Some stream else stream_with serial streams

-- the first name that a Skeleton gives to the stream
abbrev pub name_among : List Named → ℕ → Option (List ℕ)
name_among [] serial = None
name_among (one ∷ names) serial = if nat_eq one.serial serial then Some one.name else name_among names serial

abbrev pub is_named : List ℕ → Option (List ℕ) → Bool
is_named name None = false
is_named name (Some own) = bytes_eq own name

abbrev pub is_at : Option ℕ → ℕ → Bool
is_at None place = false
is_at (Some asked) place = nat_eq asked place

-- the stream is asked for: each if none is asked for by name
abbrev pub is_wanted_by : Option (List ℕ) → Wanted → List Named → Known → Bool
is_wanted_by None wanted names stream = true
is_wanted_by (Some name) wanted names stream =
    nat_lt 0 stream.place && (is_named name (name_among names stream.serial) || is_at wanted.place stream.place)

abbrev pub is_wanted : Wanted → List Named → Known → Bool
is_wanted wanted names stream = is_wanted_by wanted.name wanted names stream

-- ---- names
-- the value of the first field of this name, in any case
abbrev pub first_named : List NamedValue → Option (List ℕ)
first_named [] = None
first_named (field ∷ fields) = if str_eq_ignore_ascii_case field.0 (codes "name") then Some field.1 else first_named fields

abbrev pub named : ℕ → Option (List ℕ) → List Named
named serial None = []
named serial (Some name) = record { serial = serial; name = name } ∷ []

-- What a packet of a Skeleton names: if it is a fisbone, the stream of which it speaks, by its field `Name`.
abbrev pub Names : List ℕ → List Named → Type 0
Names packet names = ((fault : SkeletonFault) × (fisbone_fault packet ≡ Some fault) × (names ≡ []))
    ⊎ (fisbone : Fisbone) × (fields : List NamedValue) × HoldsFisbone packet fisbone × (fields_of (drop fixed_size packet) ≡ Some fields)
    × (names ≡ named fisbone.serial (first_named fields))

-- What packets of a Skeleton name, in order.
abbrev pub NamesAll : List (List ℕ) → List Named → Type 0
NamesAll [] names = names ≡ []
NamesAll (packet ∷ packets) names = (first : List Named) × (rest : List Named) × Names packet first × NamesAll packets rest × (names ≡ first ++ rest)

abbrev pub NamesIf : Bool → List (List ℕ) → List Named → Type 0
NamesIf false packets names = names ≡ []
NamesIf true packets names = NamesAll packets names

-- What the Skeletons of a link that begins name.
abbrev pub NamesFrom : List NewStream → List Named → Type 0
NamesFrom [] names = names ≡ []
NamesFrom (stream ∷ streams) names =
    (first : List Named) × (rest : List Named) × NamesIf (is_skeleton stream.headers) stream.headers first × NamesFrom streams rest × (names ≡ first ++ rest)

-- ---- lines
-- the line of a packet
abbrev pub IsLine : Bool → Told → List ℕ → List ℕ → Type 0
IsLine false told packet line = line ≡ packet ++ 10 ∷ []
IsLine true told packet line = (when : List ℕ) × IsWhen told.time when × (line ≡ json_text when told packet)

-- the lines of packets of which the same is told
abbrev pub AreLines : Bool → Told → List (List ℕ) → List ℕ → Type 0
AreLines json told [] text = text ≡ []
AreLines json told (packet ∷ packets) text =
    (line : List ℕ) × (rest : List ℕ) × IsLine json told packet line × AreLines json told packets rest × (text ≡ line ++ rest)

-- ---- commands, one after the other
-- the last link that has begun: how many have, its streams, and the names that its Skeleton gave
pub record LinkState : Type 0 where
  pub begun : ℕ
  pub streams : List Known
  pub names : List Named

abbrev pub no_link : LinkState
no_link = record { begun = 0; streams = []; names = [] }

-- links are counted from 0
abbrev pub number_of : LinkState → ℕ
number_of link = link.begun - 1

abbrev pub told : When → LinkState → Known → ℕ → Told
told when link stream position =
    record { time = when.time; file = when.file; link = number_of link; serial = stream.serial; position = position }

abbrev pub is_link : Option ℕ → ℕ → Bool
is_link None number = true
is_link (Some asked) number = nat_eq asked number

-- what comes now of the link with this number is asked for
abbrev pub asks : Wanted → When → ℕ → Bool
asks wanted when number = when.is_asked && is_link wanted.link number

-- Another packet of the stream is written: not a Skeleton's, unless headers are.
abbrev pub own_packet : Wanted → When → LinkState → Known → List ℕ → List (List ℕ)
own_packet wanted when link stream packet =
    if is_wanted wanted link.names stream && (asks wanted when (number_of link) && (wanted.headers || nat_lt 0 stream.place)) then packet ∷ [] else []

-- A packet of this stream. One of a Skeleton may name a stream.
pub record WritesPacket (wanted : Wanted) (when : When) (link : LinkState) (stream : Known) (entry : Entry) (after : LinkState) (text : List ℕ) : Type 0 where
  pub names : List Named
  pub packet : AreLines wanted.json (told when link stream entry.position) (own_packet wanted when link stream entry.packet) text
  pub names_are : NamesIf (nat_eq stream.place 0) (entry.packet ∷ []) names
  pub after_is : after ≡ record { begun = link.begun; streams = link.streams; names = link.names ++ names }

abbrev pub WritesOf : Wanted → When → LinkState → Entry → Option Known → LinkState → List ℕ → Type 0
WritesOf wanted when link entry None after text = (after ≡ link) × (text ≡ [])
WritesOf wanted when link entry (Some stream) after text = WritesPacket wanted when link stream entry after text

abbrev pub WritesEntries : Wanted → When → LinkState → List Entry → LinkState → List ℕ → Type 0
WritesEntries wanted when link [] after text = (after ≡ link) × (text ≡ [])
WritesEntries wanted when link (entry ∷ entries) after text =
    (between : LinkState) × (front : List ℕ) × (rest : List ℕ) × WritesOf wanted when link entry (stream_with entry.serial link.streams) between front
    × WritesEntries wanted when between entries after rest × (text ≡ front ++ rest)

-- the headers of a stream of the link that begins, if they are asked for
abbrev pub headers_of : Wanted → When → LinkState → Known → List (List ℕ) → List (List ℕ)
headers_of wanted when link stream headers =
    if is_wanted wanted link.names stream && (asks wanted when (number_of link) && wanted.headers) then headers else []

abbrev pub WritesOne : Wanted → When → LinkState → List (List ℕ) → Option Known → List ℕ → Type 0
WritesOne wanted when link headers None text = text ≡ []
WritesOne wanted when link headers (Some stream) text = AreLines wanted.json (told when link stream 0) (headers_of wanted when link stream headers) text

-- the headers of its streams, in their order
abbrev pub WritesHeaders : Wanted → When → LinkState → List NewStream → List ℕ → Type 0
WritesHeaders wanted when link [] text = text ≡ []
WritesHeaders wanted when link (stream ∷ streams) text =
    (front : List ℕ) × (rest : List ℕ) × WritesOne wanted when link stream.headers (stream_with stream.serial link.streams) front
    × WritesHeaders wanted when link streams rest × (text ≡ front ++ rest)

abbrev pub next_begun : LinkState → ℕ
next_begun link = min (link.begun + 1) (2 ^ 64 - 1)

-- a link begins
abbrev pub begun_by : LinkState → List NewStream → List Named → LinkState
begun_by link streams names = record { begun = next_begun link; streams = known_from 0 streams; names = names }

abbrev pub Writes : Wanted → When → LinkState → Command → LinkState → List ℕ → Type 0
Writes wanted when link (BeginOf begin) after text =
    (names : List Named) × NamesFrom begin.streams names × (after ≡ begun_by link begin.streams names) × WritesHeaders wanted when after begin.streams text
Writes wanted when link (PutOf put) after text = WritesEntries wanted when link put.entries after text
Writes wanted when link (EndOf serial) after text = (after ≡ link) × (text ≡ [])

-- commands, each with what is known when it comes
abbrev pub Came : Type 0
Came = Command × When

abbrev pub command_in : Came → Command
command_in came = came.0

abbrev pub coming : When → Command → Came
coming when command = (command, when)

abbrev pub WritesAll : Wanted → LinkState → List Came → LinkState → List ℕ → Type 0
WritesAll wanted link [] after text = (after ≡ link) × (text ≡ [])
WritesAll wanted link (came ∷ given) after text =
    (between : LinkState) × (front : List ℕ) × (rest : List ℕ) × Writes wanted came.1 link came.0 between front
    × WritesAll wanted between given after rest × (text ≡ front ++ rest)
