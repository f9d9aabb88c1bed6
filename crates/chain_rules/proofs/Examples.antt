-- The definitions on small files.
use Rattle.std.proofs.Common.{◌≡◌, ℕ, ℤ, List, [], ◌∷◌, refl, length, map, replicate, codes, Result, Ok, Err, Some, None, true}
use Rattle.std.specs.Prelude.{pos}
use Rattle.ogg_page.specs.Page.{Page, page_bytes, page_size, fixed_part as page_head}
use Rattle.ogg_page.specs.Lacing.{lacing_of}
use Rattle.page_checksum.specs.Checksum.{checksum_of, message_bits, number_of, remainder, bits_of, divisor}
use Rattle.page_checksum.specs.Checksum as crc
use Rattle.packetiser.specs.Run.{pages_of_run, page_of_run, page_position, run_lacing, run_bytes, values_at, values_before}
use Rattle.skeleton3.specs.Fields.{NamedValue}
use Rattle.skeleton3.specs.Fisbone.{fixed_part}
use Rattle.skeleton3.specs.Fishead.{fishead_with}
use Rattle.ogg_page.specs.Numbers.{u16_bytes, u32_bytes, i64_bytes}
use Rattle.link_chain.specs.ChainState.{chain_state_of}
use Rattle.chain_rules.specs.Encoding.{pages_of_command, command_bytes}
use Rattle.chain_rules.specs.Commands.{links_behind}
use Rattle.chain_rules.specs.Decision.{decision}
use Rattle.chain_rules.specs.Recording.{after}
use Rattle.ogg_command.specs.declared.command.Command.{Command}
use Rattle.ogg_command.specs.declared.command.Command.TheVariants.{Begin as BeginOf, Put as PutOf, End as EndOf}
use Rattle.ogg_command.specs.declared.command.NewStream.{NewStream}
use Rattle.ogg_command.specs.declared.command.SkeletonHead.{SkeletonHead}
use Rattle.ogg_command.specs.declared.refusal.Refusal.{Refusal}
use Rattle.ogg_command.specs.declared.refusal.Refusal.TheVariants.{LinkOpen, NoLink, TooMany, SerialTaken, BadType, BadRate, UnknownSerial, StreamEnded, PositionBack}

abbrev abc : List ℕ
abc = 97 ∷ 98 ∷ 99 ∷ []

abbrev pub hello : List ℕ
hello = 104 ∷ 101 ∷ 108 ∷ 108 ∷ 111 ∷ []

abbrev stream_of : ℕ → NewStream
stream_of serial = record { serial = serial; headers = abc ∷ []; media = []; fields = []; rate = (pos 0, pos 0); base_granule = pos 0; preroll = 0; shift = 0 }

abbrev pub begin : List ℕ → Command
begin serials = BeginOf (record { skeleton = None; streams = map stream_of serials })

abbrev pub put : ℕ → ℕ → List ℕ → Command
put serial position packet = PutOf (record { entries = record { serial = serial; position = position; packet = packet } ∷ [] })

-- the links after a command that is kept
abbrev answer : List Command → Command → Result ℕ Refusal
answer before command = decision (chain_state_of (links_behind [] before)) command

size_of_a_begin : answer [] (begin (1 ∷ [])) ≡ Ok 31
unfolding decision pages_of_command pages_of_run page_of_run page_position run_lacing run_bytes values_at values_before lacing_of
size_of_a_begin = refl

size_of_a_put : answer (begin (1 ∷ []) ∷ []) (put 1 5 hello) ≡ Ok 33
unfolding decision pages_of_command pages_of_run page_of_run page_position run_lacing run_bytes values_at values_before lacing_of
size_of_a_put = refl

size_of_an_end : answer (begin (1 ∷ []) ∷ put 1 5 hello ∷ []) (EndOf 1) ≡ Ok 27
unfolding decision pages_of_command pages_of_run page_of_run page_position run_lacing run_bytes values_at values_before lacing_of
size_of_an_end = refl

page_of_an_end : pages_of_command (chain_state_of (links_behind [] (begin (1 ∷ []) ∷ put 1 5 hello ∷ []))) (EndOf 1) ≡ record { flags = 4; position = 5; serial = 1; sequence = 2; lacing = []; body = [] } ∷ []
unfolding pages_of_command pages_of_run page_of_run page_position run_lacing run_bytes values_at values_before lacing_of
page_of_an_end = refl

unknown_serial : answer (begin (1 ∷ []) ∷ []) (PutOf (record { entries = record { serial = 1; position = 5; packet = hello } ∷ record { serial = 7; position = 5; packet = 120 ∷ [] } ∷ [] })) ≡ Err UnknownSerial
unfolding decision pages_of_command pages_of_run page_of_run page_position run_lacing run_bytes values_at values_before lacing_of
unknown_serial = refl

begin_of_two : answer [] (begin (1 ∷ 2 ∷ [])) ≡ Ok 62
unfolding decision pages_of_command pages_of_run page_of_run page_position run_lacing run_bytes values_at values_before lacing_of
begin_of_two = refl

ended_twice : answer (begin (1 ∷ 2 ∷ []) ∷ EndOf 1 ∷ []) (EndOf 1) ≡ Err StreamEnded
unfolding decision pages_of_command pages_of_run page_of_run page_position run_lacing run_bytes values_at values_before lacing_of
ended_twice = refl

begin_in_an_open_link : answer (begin (1 ∷ 2 ∷ []) ∷ EndOf 1 ∷ []) (begin (3 ∷ [])) ≡ Err LinkOpen
unfolding decision pages_of_command pages_of_run page_of_run page_position run_lacing run_bytes values_at values_before lacing_of
begin_in_an_open_link = refl

put_after_the_link : answer (begin (1 ∷ 2 ∷ []) ∷ EndOf 1 ∷ EndOf 2 ∷ []) (put 2 5 hello) ≡ Err NoLink
unfolding decision pages_of_command pages_of_run page_of_run page_position run_lacing run_bytes values_at values_before lacing_of
put_after_the_link = refl

serial_taken : answer (begin (1 ∷ 2 ∷ []) ∷ EndOf 1 ∷ EndOf 2 ∷ []) (begin (2 ∷ [])) ≡ Err SerialTaken
unfolding decision pages_of_command pages_of_run page_of_run page_position run_lacing run_bytes values_at values_before lacing_of
serial_taken = refl

begin_after_the_link : answer (begin (1 ∷ 2 ∷ []) ∷ EndOf 1 ∷ EndOf 2 ∷ []) (begin (3 ∷ [])) ≡ Ok 31
unfolding decision pages_of_command pages_of_run page_of_run page_position run_lacing run_bytes values_at values_before lacing_of
begin_after_the_link = refl

position_back : answer (begin (1 ∷ []) ∷ put 1 5 hello ∷ []) (put 1 4 hello) ≡ Err PositionBack
unfolding decision pages_of_command pages_of_run page_of_run page_position run_lacing run_bytes values_at values_before lacing_of
position_back = refl

-- a header of three, and one run of two neighbours, two of one stream each
runs_by_stream : map (λ (p : Page). p.serial) (pages_of_command (chain_state_of (links_behind [] (begin (1 ∷ 2 ∷ []) ∷ [])))
    (PutOf (record { entries = record { serial = 1; position = 0; packet = 97 ∷ [] } ∷ record { serial = 1; position = 0; packet = 98 ∷ [] } ∷ record { serial = 2; position = 0; packet = 99 ∷ [] } ∷ record { serial = 1; position = 0; packet = 100 ∷ [] } ∷ [] }))) ≡ 1 ∷ 2 ∷ 1 ∷ []
unfolding pages_of_command pages_of_run page_of_run page_position run_lacing run_bytes values_at values_before lacing_of
runs_by_stream = refl

numbers_of_the_runs : map (λ (p : Page). p.sequence) (pages_of_command (chain_state_of (links_behind [] (begin (1 ∷ 2 ∷ []) ∷ [])))
    (PutOf (record { entries = record { serial = 1; position = 0; packet = 97 ∷ [] } ∷ record { serial = 1; position = 0; packet = 98 ∷ [] } ∷ record { serial = 2; position = 0; packet = 99 ∷ [] } ∷ record { serial = 1; position = 0; packet = 100 ∷ [] } ∷ [] }))) ≡ 1 ∷ 1 ∷ 2 ∷ []
unfolding pages_of_command pages_of_run page_of_run page_position run_lacing run_bytes values_at values_before lacing_of
numbers_of_the_runs = refl

-- byte by byte: the page of a begin of one stream, without its checksum
bytes_of_a_begin : length (command_bytes (chain_state_of []) (begin (1 ∷ []))) ≡ 31
unfolding pages_of_command pages_of_run page_of_run page_position run_lacing run_bytes values_at values_before lacing_of page_bytes page_head checksum_of message_bits number_of remainder bits_of divisor crc.add
bytes_of_a_begin = refl

recording : after [] (begin (1 ∷ []) ∷ put 1 5 hello ∷ EndOf 1 ∷ []) ≡ (record { serial = 1; packets = abc ∷ hello ∷ []; ended = true } ∷ []) ∷ []
recording = refl

-- with a Skeleton: its head has the serial 9, and all times are 0/1000
abbrev head_of : ℕ → ℤ → SkeletonHead
head_of serial denominator = record { serial = serial; presentation = (pos 0, pos 1000); base = (pos 0, denominator); utc = replicate 20 0 }

abbrev described : ℕ → List (List ℕ) → List ℕ → ℤ → NewStream
described serial headers media rate =
    record { serial = serial; headers = headers; media = media; fields = []; rate = (rate, pos 1); base_granule = pos 0; preroll = 0; shift = 0 }

abbrev begin_with : SkeletonHead → List NewStream → Command
begin_with head streams = BeginOf (record { skeleton = Some head; streams = streams })

abbrev vorbis : NewStream
vorbis = described 1 (abc ∷ []) (codes "audio/vorbis") (pos 44100)

size_with_a_skeleton : answer [] (begin_with (head_of 9 (pos 1000)) (vorbis ∷ [])) ≡ Ok 259
unfolding decision pages_of_command pages_of_run page_of_run page_position run_lacing run_bytes values_at values_before lacing_of fishead_with fixed_part u16_bytes u32_bytes i64_bytes
size_with_a_skeleton = refl

pages_with_a_skeleton : map {B = ℕ × ℕ × ℕ} (λ (p : Page). (page_size p, p.serial, p.flags)) (pages_of_command (chain_state_of []) (begin_with (head_of 9 (pos 1000)) (vorbis ∷ [])))
    ≡ (92, 9, 2) ∷ (31, 1, 2) ∷ (108, 9, 0) ∷ (28, 9, 4) ∷ []
unfolding pages_of_command pages_of_run page_of_run page_position run_lacing run_bytes values_at values_before lacing_of fishead_with fixed_part u16_bytes u32_bytes i64_bytes
pages_with_a_skeleton = refl

skeleton_has_ended : answer (begin_with (head_of 9 (pos 1000)) (vorbis ∷ []) ∷ []) (EndOf 9) ≡ Err StreamEnded
unfolding decision pages_of_command pages_of_run page_of_run page_position run_lacing run_bytes values_at values_before lacing_of fishead_with fixed_part u16_bytes u32_bytes i64_bytes
skeleton_has_ended = refl

numbers_with_a_skeleton : map (λ (p : Page). p.sequence) (pages_of_command (chain_state_of []) (begin_with (head_of 9 (pos 1000)) (vorbis ∷ stream_of 2 ∷ []))) ≡ 0 ∷ 0 ∷ 0 ∷ 1 ∷ 2 ∷ 3 ∷ []
unfolding pages_of_command pages_of_run page_of_run page_position run_lacing run_bytes values_at values_before lacing_of fishead_with fixed_part u16_bytes u32_bytes i64_bytes
numbers_with_a_skeleton = refl

no_media_type : answer [] (begin_with (head_of 9 (pos 1000)) (described 1 (abc ∷ []) [] (pos 44100) ∷ [])) ≡ Err BadType
unfolding decision
no_media_type = refl

-- with message fields
abbrev with_fields : List NamedValue → NewStream
with_fields fields = record {
  serial = 1;
  headers = abc ∷ [];
  media = codes "audio/vorbis";
  fields = fields;
  rate = (pos 44100, pos 1);
  base_granule = pos 0;
  preroll = 0;
  shift = 0;
}

abbrev title : NamedValue
title = (codes "Title", codes "One")

size_with_a_field : answer [] (begin_with (head_of 9 (pos 1000)) (with_fields (title ∷ []) ∷ [])) ≡ Ok 271
unfolding decision pages_of_command pages_of_run page_of_run page_position run_lacing run_bytes values_at values_before lacing_of fishead_with fixed_part u16_bytes u32_bytes i64_bytes
size_with_a_field = refl

media_type_as_a_field : answer [] (begin_with (head_of 9 (pos 1000)) (with_fields ((codes "content-type", codes "One") ∷ []) ∷ [])) ≡ Err BadType
unfolding decision
media_type_as_a_field = refl

name_with_a_space : answer [] (begin_with (head_of 9 (pos 1000)) (with_fields ((codes "Ti tle", codes "One") ∷ []) ∷ [])) ≡ Err BadType
unfolding decision
name_with_a_space = refl

no_value : answer [] (begin_with (head_of 9 (pos 1000)) (with_fields (title ∷ (codes "Title", []) ∷ []) ∷ [])) ≡ Err BadType
unfolding decision
no_value = refl

seventeen_fields : answer [] (begin_with (head_of 9 (pos 1000)) (with_fields (replicate 17 title) ∷ [])) ≡ Err TooMany
unfolding decision
seventeen_fields = refl

-- without a Skeleton they are counted and not checked
seventeen_fields_alone : answer [] (BeginOf (record { skeleton = None; streams = with_fields (replicate 17 title) ∷ [] })) ≡ Err TooMany
unfolding decision
seventeen_fields_alone = refl

fields_alone : answer [] (BeginOf (record { skeleton = None; streams = with_fields ((codes "content-type", []) ∷ []) ∷ [] })) ≡ Ok 31
unfolding decision pages_of_command pages_of_run page_of_run page_position run_lacing run_bytes values_at values_before lacing_of
fields_alone = refl

rate_of_zero : answer [] (begin_with (head_of 9 (pos 1000)) (described 1 (abc ∷ []) (codes "audio/vorbis") (pos 0) ∷ [])) ≡ Err BadRate
unfolding decision
rate_of_zero = refl

base_of_zero_comes_first : answer [] (begin_with (head_of 9 (pos 0)) (described 1 [] (codes "audio/vorbis") (pos 44100) ∷ [])) ≡ Err BadRate
unfolding decision
base_of_zero_comes_first = refl

serial_of_the_skeleton : answer [] (begin_with (head_of 1 (pos 1000)) (vorbis ∷ [])) ≡ Err SerialTaken
unfolding decision
serial_of_the_skeleton = refl

too_many_with_the_skeleton : answer [] (begin_with (head_of 9 (pos 1000)) (replicate 64 vorbis)) ≡ Err TooMany
unfolding decision
too_many_with_the_skeleton = refl
