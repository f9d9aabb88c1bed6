-- What holds of a command that is kept.
use Rattle.std.proofs.Common.{◌≡◌, ℕ, zero, suc, ◌+◌, ◌<◌, ◌≤◌, ◌^◌, true, false, List, [], ◌∷◌, ◌++◌, length, sum_by, refl, sym, arith, Option, Some, None, Result, Ok, Err}
use Rattle.std.specs.Prelude.{nat_eq, nat_lt, nat_le, not, ◌&&◌, ◌||◌, IsOk, IfOk, IfSome}
use Rattle.std.specs.List.{list_any, list_all}
use Rattle.std.proofs.lemmas.Bool.{and_parts, or_parts, or_from, ltb-false, leb-false, le-ltb, not-false}
use Rattle.ogg_command.specs.declared.command.Command.{Command}
use Rattle.ogg_command.specs.declared.command.Command.TheVariants.{Begin as BeginOf, Put as PutOf, End as EndOf}
use Rattle.ogg_command.specs.declared.command.Begin.{Begin}
use Rattle.ogg_command.specs.declared.command.Put.{Put}
use Rattle.ogg_command.specs.declared.command.SkeletonHead.{SkeletonHead}
use Rattle.ogg_command.specs.declared.command.NewStream.{NewStream}
use Rattle.chain_rules.specs.Begun.{stream_count}
use Rattle.ogg_command.specs.declared.refusal.Refusal.{Refusal}
use Rattle.link_chain.specs.ChainState.{ChainState, is_open}
use Rattle.chain_rules.specs.Limits.{longest_file, longest_batch, longest_message, most_entries, most_fields, most_streams}
use Rattle.link_chain.specs.Progress.{next_in}
use Rattle.link_chain.specs.Rules.{first_broken}
use Rattle.skeleton3.specs.Fields.{is_field, is_media_type, message_of}
use Rattle.skeleton3.specs.FisboneLaws.{message_size}
use Rattle.chain_rules.specs.Decision.{decision, answer, rules_for, begin_rules, item_rules, parts_rules, streams_rules, entries_rules, room_rules, size_of, header_bytes, has_many_headers, has_many_fields, has_many_parts, has_long_message}
use Rattle.chain_rules.specs.Encoding.{pages_of_begin, pages_of_command, pages_of_runs, runs_of}
use Rattle.link_chain.specs.Size.{has_no_number, size_of_pages}
use Rattle.command_pages.specs.Fits.{BeginFits, PutFits, CommandFits}
use Rattle.chain_rules.proofs.Unbroken.{no_rule_broken, Unbroken}
use Rattle.link_chain.specs.Laws.LastLink.{all_split}
use Rattle.link_chain.specs.Laws.Rules.{none_broken}

-- the size with which it is answered
pub kept_size : (r : Result ℕ Refusal) → IsOk r → (size : ℕ) × (r ≡ Ok size)
kept_size (Ok size) h = (size, refl)
kept_size (Err refusal) h = cc

answered : (own size : ℕ) (broken : Option Refusal) → answer own broken ≡ Ok size → own ≡ size
answered own size None e = cc
answered own size (Some refusal) e = cc

pub size_is_own : (chain : ChainState) (command : Command) (size : ℕ) → decision chain command ≡ Ok size → size ≡ size_of chain command
unfolding decision
size_is_own chain command size e = sym (answered (size_of chain command) size (first_broken (rules_for chain command)) e)

-- ---- the end of a stream
pub record EndFits (chain : ChainState) (serial : ℕ) : Type 0 where
  pub number : next_in chain.streams serial < 2 ^ 32
  pub room : chain.length_of + 28 ≤ 2 ^ 40

pub end_fits : (chain : ChainState) (serial : ℕ) → IsOk (decision chain (EndOf serial)) → EndFits chain serial
unfolding pages_of_command
end_fits chain serial ok =
    let size = kept_size (decision chain (EndOf serial)) ok in
    let kept : Unbroken (rules_for chain (EndOf serial)) = no_rule_broken chain (EndOf serial) size.0 size.1 in
    let number : nat_le (2 ^ 32) (next_in chain.streams serial) ≡ false =
    (or_parts (nat_le (2 ^ 32) (next_in chain.streams serial)) false kept.1.1.1.1.0).0 in
    let room : chain.length_of + size_of chain (EndOf serial) + 1 ≤ 2 ^ 40 = ltb-false (2 ^ 40) (chain.length_of + size_of chain (EndOf serial) + 1) kept.1.1.1.1.1.1.0 in
    record { number = leb-false (2 ^ 32) (next_in chain.streams serial) number; room = omega (arith, room) }

-- ---- a put
pub record IsKeptPut (chain : ChainState) (put : Put) : Type 0 where
  pub fits : PutFits chain.streams put.entries
  pub room : chain.length_of + size_of_pages (pages_of_runs chain.streams (runs_of put.entries)) + 1 ≤ 2 ^ 40

pub put_fits : (chain : ChainState) (put : Put) → IsOk (decision chain (PutOf put)) → IsKeptPut chain put
unfolding pages_of_command
put_fits chain put ok =
    let size = kept_size (decision chain (PutOf put)) ok in
    let kept : Unbroken (rules_for chain (PutOf put)) = no_rule_broken chain (PutOf put) size.0 size.1 in
    let room : Unbroken (room_rules chain (PutOf put)) =
    (all_split (λ rule. rule.0 ≡ false) (entries_rules chain.streams put.entries) (room_rules chain (PutOf put)) kept.1.1.1).1 in
    record {
      fits = record {
        few = ltb-false most_entries (length put.entries) kept.1.1.0;
        short = ltb-false longest_batch (sum_by (λ entry. length entry.packet) put.entries) room.0;
        numbered = room.1.0;
      };
      room = ltb-false (2 ^ 40) (chain.length_of + size_of_pages (pages_of_runs chain.streams (runs_of put.entries)) + 1) room.1.1.1.0;
    }

-- ---- a begin
pub record IsKeptBegin (chain : ChainState) (begin : Begin) : Type 0 where
  pub closed : is_open chain ≡ false
  pub streams : stream_count begin ≤ 64
  pub some : 0 < length begin.streams
  pub parts : Unbroken (item_rules chain begin)
  pub fits : BeginFits begin.skeleton begin.streams
  pub numbered : list_any has_no_number (pages_of_begin begin.skeleton begin.streams) ≡ false
  pub links : chain.links < 65536
  pub room : chain.length_of + size_of_pages (pages_of_begin begin.skeleton begin.streams) + 1 ≤ 2 ^ 40

not_none : (n : ℕ) → nat_eq n 0 ≡ false → 0 < n
not_none zero e = cc
not_none (suc n) e = omega arith

-- the message fields of a media type and of few fields that are allowed aren't long
message_short : (stream : NewStream) → not (is_media_type stream.media && list_all is_field stream.fields) ≡ false → has_many_fields stream ≡ false → has_long_message stream ≡ false
message_short stream e few =
    let parts : (is_media_type stream.media ≡ true) × (list_all is_field stream.fields ≡ true) = and_parts _ _ (not-false _ e) in
    le-ltb longest_message (length (message_of stream.media stream.fields))
    (omega (arith, message_size stream.media stream.fields parts.0 parts.1, ltb-false most_fields (length stream.fields) few))

messages_short : (chain : ChainState) (earlier : List ℕ) (streams : List NewStream) → Unbroken (streams_rules chain true earlier streams) → list_any has_many_fields streams ≡ false
    → list_any has_long_message streams ≡ false
messages_short chain earlier [] h few = refl
messages_short chain earlier (stream ∷ streams) h few =
    let parts = or_parts (has_many_fields stream) (list_any has_many_fields streams) few in
    or_from (has_long_message stream) (list_any has_long_message streams) (message_short stream h.1.1.1.1.0 parts.0) (messages_short chain (stream.serial ∷ earlier) streams h.1.1.1.1.1.1 parts.1)

parts_short : (chain : ChainState) (skeleton : Option SkeletonHead) (streams : List NewStream) → Unbroken (parts_rules chain skeleton streams) → list_any has_many_fields streams ≡ false →
    IfSome skeleton (λ _. list_any has_long_message streams ≡ false)
parts_short chain None streams h few = tt
parts_short chain (Some head) streams h few = messages_short chain (head.serial ∷ []) streams h.1.1 few

-- the same, if no rule was found broken
pub items_short : (chain : ChainState) (begin : Begin) → has_many_parts begin ≡ false → first_broken (item_rules chain begin) ≡ None → IfSome begin.skeleton (λ _. list_any has_long_message begin.streams ≡ false)
items_short chain begin few e = parts_short chain begin.skeleton begin.streams (none_broken (item_rules chain begin) e) (or_parts (nat_lt most_streams (stream_count begin) || list_any has_many_headers begin.streams) (list_any has_many_fields begin.streams) few).1

few_streams : (begin : Begin) → stream_count begin ≤ 64 → length begin.streams ≤ 64
few_streams begin few = omega (arith, few)

pub begin_fits : (chain : ChainState) (begin : Begin) → IsOk (decision chain (BeginOf begin)) → IsKeptBegin chain begin
unfolding pages_of_command
begin_fits chain begin ok =
    let size = kept_size (decision chain (BeginOf begin)) ok in
    let kept : Unbroken (rules_for chain (BeginOf begin)) = no_rule_broken chain (BeginOf begin) size.0 size.1 in
    let whole : Unbroken (begin_rules chain begin ++ item_rules chain begin) × Unbroken (room_rules chain (BeginOf begin)) =
    all_split (λ rule. rule.0 ≡ false) (begin_rules chain begin ++ item_rules chain begin) (room_rules chain (BeginOf begin)) kept in
    let room : Unbroken (room_rules chain (BeginOf begin)) = whole.1 in
    let items : Unbroken (item_rules chain begin) = whole.0.1.1.1 in
    let counts : (nat_lt 64 (stream_count begin) || list_any has_many_headers begin.streams ≡ false) × (list_any has_many_fields begin.streams ≡ false) =
    or_parts (nat_lt 64 (stream_count begin) || list_any has_many_headers begin.streams) (list_any has_many_fields begin.streams) whole.0.1.1.0 in
    let parts : (nat_lt 64 (stream_count begin) ≡ false) × (list_any has_many_headers begin.streams ≡ false) =
    or_parts (nat_lt 64 (stream_count begin)) (list_any has_many_headers begin.streams) counts.0 in
    record {
      closed = whole.0.0;
      streams = ltb-false 64 (stream_count begin) parts.0;
      some = not_none (length begin.streams) whole.0.1.0;
      parts = items;
      fits = record {
        short = ltb-false longest_batch (sum_by header_bytes begin.streams) room.0;
        few = parts.1;
        links = few_streams begin (ltb-false 64 (stream_count begin) parts.0);
        media = parts_short chain begin.skeleton begin.streams items counts.1;
      };
      numbered = room.1.0;
      links = leb-false 65536 chain.links room.1.1.0;
      room = ltb-false (2 ^ 40) (chain.length_of + size_of_pages (pages_of_begin begin.skeleton begin.streams) + 1) room.1.1.1.0;
    }

-- ---- any command
pub command_fits : (chain : ChainState) (command : Command) → IsOk (decision chain command) → CommandFits chain command
command_fits chain (BeginOf begin) ok = (begin_fits chain begin ok).fits
command_fits chain (PutOf put) ok = (put_fits chain put ok).fits
command_fits chain (EndOf serial) ok = (end_fits chain serial ok).number

-- the last rule leaves room for the pages and one further byte
room_left : (chain : ChainState) (command : Command) → Unbroken (room_rules chain command) → chain.length_of + size_of chain command < 2 ^ 40
room_left chain command room =
    let left : chain.length_of + size_of chain command + 1 ≤ 2 ^ 40 = ltb-false (2 ^ 40) (chain.length_of + size_of chain command + 1) room.1.1.1.0 in
    omega (arith, left)

room_is_kept : (chain : ChainState) (command : Command) → Unbroken (rules_for chain command) → Unbroken (room_rules chain command)
room_is_kept chain (BeginOf begin) kept =
    (all_split (λ rule. rule.0 ≡ false) (begin_rules chain begin ++ item_rules chain begin) (room_rules chain (BeginOf begin)) kept).1
room_is_kept chain (PutOf put) kept =
    (all_split (λ rule. rule.0 ≡ false) (entries_rules chain.streams put.entries) (room_rules chain (PutOf put)) kept.1.1.1).1
room_is_kept chain (EndOf serial) kept = kept.1.1.1

if_ok : {P : ℕ → Type 0} (answer : Result ℕ Refusal) → ((size : ℕ) → answer ≡ Ok size → P size) → IfOk answer P
if_ok (Ok size) so = so size refl
if_ok (Err refusal) so = tt

pub size_fits : (chain : ChainState) (command : Command) → IfOk (decision chain command) (λ size. chain.length_of + size < longest_file)
size_fits chain command = if_ok (decision chain command) (λ size e.
    let own : size ≡ size_of chain command = size_is_own chain command size e in
    let room : chain.length_of + size_of chain command < 2 ^ 40 = room_left chain command (room_is_kept chain command (no_rule_broken chain command size e)) in
    omega (arith, own, room))
