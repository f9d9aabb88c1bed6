-- Ends after ends.
use Rattle.std.proofs.Common.{◌≡◌, ◌<◌, ◌≤◌, ◌+◌, ◌++◌, ◌∷◌, [], ℕ, Bool, true, false, cond, List, Option, Some, Result, Ok, Err, map, refl, sym, ◌∙◌, ap, subst, arith, append-nil}
use Rattle.std.specs.Prelude.{nat_eq}
use Rattle.std.specs.List.{flat_map}
use Rattle.std.proofs.lemmas.Bool.{eqb-false}
use Rattle.std.proofs.lemmas.Grind.{flat_map-append}
use Rattle.std.proofs.KnownBytes.{Appends-nil, Appends-trans}
use Rattle.std.specs.Io.KnownBytes.{Appends}
use Rattle.disk_model.specs.declared.disk.Disk.{Ghosts as DiskModel}
use Rattle.feed_records.specs.declared.item.Record.{Record}
use Rattle.feed_records.specs.declared.item.Record.TheVariants.{Command as CommandOf}
use Rattle.feed_replies.specs.declared.reply.Reply.{Reply}
use Rattle.feed_replies.specs.declared.reply.Reply.TheVariants.{Held as HeldReply, Kept as KeptReply, Refused as RefusedReply}
use Rattle.feed_replies.specs.Reply.{reply_line}
use Rattle.feed_runner.specs.Refusing.{refuses}
use Rattle.feed_runner.specs.Telling.{TellsPart}
use Rattle.ogg_command.specs.declared.command.Command.{Command}
use Rattle.ogg_command.specs.declared.command.Command.TheVariants.{End as EndOf}
use Rattle.ogg_command.specs.declared.refusal.Refusal.{Refusal}
use Rattle.link_chain.specs.declared.stream_state.StreamState.{StreamState}
use Rattle.link_chain.specs.ChainState.{ChainState, chain_state_of, is_open}
use Rattle.link_chain.specs.Followed.{moved_by}
use Rattle.link_chain.specs.Progress.{change_at, ended_by, next_in}
use Rattle.chain_rules.specs.Decision.{decision}
use Rattle.chain_rules.specs.Encoding.{links_after}
use Rattle.file_recorder.specs.Recovery.{Links}
use Rattle.file_recorder.specs.Recorder.{RecorderState}
use Rattle.file_recorder.specs.Running.{Progress, Answers, AnsweredBy, Replies, streams_in}
use Rattle.file_recorder.specs.Taking.{IsWholeChain}
use Rattle.file_recorder.specs.Ending.{AreEnded, EndRefused, HasToldSome, first_open, one_if_unended, unended}
use Rattle.file_recorder.specs.EndingLaws.{first_with, is_refused, refused_stays, some_open}

-- ---- an end that is taken leaves a stream less
no_more_at : (b : Bool) (next : ℕ) (stream : StreamState) → one_if_unended (cond b (ended_by next stream) stream) ≤ one_if_unended stream
no_more_at true next stream = omega arith
no_more_at false next stream = omega arith

no_more : (serial next : ℕ) (streams : List StreamState) → unended (map (change_at serial (ended_by next)) streams) ≤ unended streams
no_more serial next [] = omega arith
no_more serial next (stream ∷ streams) = omega (arith, no_more_at (nat_eq stream.serial serial) next stream, no_more serial next streams)

falls_at : (ended b : Bool) (serial next : ℕ) (stream : StreamState) (streams : List StreamState) → stream.ended ≡ ended → nat_eq stream.serial serial ≡ b
    → first_with ended stream streams ≡ Some serial → (first_open streams ≡ Some serial → unended (map (change_at serial (ended_by next)) streams) < unended streams)
    → one_if_unended (cond b (ended_by next stream) stream) + unended (map (change_at serial (ended_by next)) streams) < one_if_unended stream + unended streams
falls_at true b serial next stream streams e same first rest = omega (arith, no_more_at b next stream, rest first)
falls_at false true serial next stream streams e same first rest =
    let one : one_if_unended stream ≡ 1 = ap {B = ℕ} (λ (x : Bool). cond x 0 1) e in
    omega (arith, one, no_more serial next streams)
falls_at false false serial next stream streams e same first rest =
    let is : stream.serial ≡ serial = cc first in
    absurd (eqb-false stream.serial serial same is)

falls : (serial next : ℕ) (streams : List StreamState) → first_open streams ≡ Some serial
    → unended (map (change_at serial (ended_by next)) streams) < unended streams
falls serial next [] first = absurd (cc first)
falls serial next (stream ∷ streams) first =
    falls_at stream.ended (nat_eq stream.serial serial) serial next stream streams refl refl first (falls serial next streams)

pub left_open : {D : Type 0} (old new : RecorderState D) (serial : ℕ) (reply : Reply) (refusal : Refusal) → reply ≡ RefusedReply refusal
    → first_open old.chain.streams ≡ Some serial → Replies old (CommandOf (EndOf serial)) reply new → true ≡ is_open new.chain
left_open old new serial reply refusal told first is =
    let same : new.chain ≡ old.chain =
    refused_stays old new (EndOf serial) refusal (subst (λ (r : Reply). Replies old (CommandOf (EndOf serial)) r new) told is) in
    sym (ap is_open same ∙ some_open serial old.chain.streams first)

-- the first that hasn't ended, as it was found
pub as_found : {D : Type 0} (mid : Progress D) (now : RecorderState D) (found wanted : Option ℕ) → mid.now ≡ now → found ≡ first_open now.chain.streams
    → found ≡ wanted → first_open mid.now.chain.streams ≡ wanted
as_found mid now found wanted same first is = ap (λ (r : RecorderState _). first_open r.chain.streams) same ∙ (sym first ∙ is)

-- an end that is taken grows the links by its own
taken_links : {D : Type 0} (failed : Bool) (decided : Result ℕ Refusal) (old new : RecorderState D) (command : Command) (reply : Reply)
    → AnsweredBy failed decided old command reply new → refuses reply ≡ false
    → (size : ℕ) × (decided ≡ Ok size) × ((links : Links) → old.chain ≡ chain_state_of links → new.chain ≡ chain_state_of (links_after links command))
taken_links true decided old new command reply is taken = let bad : true ≡ false = sym (ap refuses is.0) ∙ taken in absurd (cc bad)
taken_links false (Err rule) old new command reply is taken = let bad : true ≡ false = sym (ap refuses is.0) ∙ taken in absurd (cc bad)
taken_links false (Ok size) old new command (HeldReply count) is taken = (size, refl, is.1.1)
taken_links false (Ok size) old new command (KeptReply kept) is taken = (size, refl, is.1.1)
taken_links false (Ok size) old new command (RefusedReply refusal) is taken = absurd (cc taken)

-- what the end of a stream makes of the links
abbrev pub EndsItsStream : Type 0
EndsItsStream =
    (links : Links) (serial size : ℕ) → decision (chain_state_of links) (EndOf serial) ≡ Ok size
    → chain_state_of (links_after links (EndOf serial)) ≡ moved_by (chain_state_of links) serial (ended_by (next_in (chain_state_of links).streams serial + 1)) 27

pub fewer : {D : Type 0} → EndsItsStream → (old new : RecorderState D) (serial : ℕ) (reply : Reply) → IsWholeChain old.chain → first_open old.chain.streams ≡ Some serial
    → Replies old (CommandOf (EndOf serial)) reply new → refuses reply ≡ false → unended new.chain.streams < unended old.chain.streams
fewer end_state old new serial reply (bytes, whole) first is taken =
    let (size, decided, grows) = taken_links old.file.failed (decision old.chain (EndOf serial)) old new (EndOf serial) reply is taken in
    let links : Links = whole.links in
    let kept : decision (chain_state_of links) (EndOf serial) ≡ Ok size = ap (λ (chain : ChainState). decision chain (EndOf serial)) (sym whole.chain_is) ∙ decided in
    let after = ap (λ (chain : ChainState). unended chain.streams) (grows links whole.chain_is ∙ end_state links serial size kept) in
    let streams : List StreamState = (chain_state_of links).streams in
    let before : unended old.chain.streams ≡ unended streams = ap (λ (chain : ChainState). unended chain.streams) whole.chain_is in
    let less = falls serial (next_in streams serial + 1) streams (ap (λ (chain : ChainState). first_open chain.streams) (sym whole.chain_is) ∙ first) in
    omega (arith, after, before, less)

-- ---- ends in turn
module _ {D : Type 0} (answers : Progress D → Record → Reply → List ℕ → Progress D → Type 0) where
  pub told_in_part : (waits : Bool) (before mid after : Progress D) (a b c : Option (List ℕ)) (replies : List Reply) (serial : ℕ) (reply : Reply) (own : List ℕ)
      → AreEnded streams_in answers before mid replies → Appends a b (flat_map reply_line replies) → first_open mid.now.chain.streams ≡ Some serial
      → answers mid (CommandOf (EndOf serial)) reply own after → TellsPart waits b c (reply_line reply) → HasToldSome answers waits before after a c
  told_in_part waits before mid after a b c replies serial reply own ended so_far first answered told = record {
    mid = mid;
    replies = replies;
    whole = b;
    ended = ended;
    told_before = so_far;
    last = CommandOf (EndOf serial);
    reply = reply;
    own = own;
    answers_it = (first, answered);
    told = told;
  }

-- the line of one more reply
pub told_on : (a b c : Option (List ℕ)) (replies : List Reply) (reply : Reply) → Appends a b (flat_map reply_line replies) → Appends b c (reply_line reply)
    → Appends a c (flat_map reply_line (replies ++ reply ∷ []))
told_on a b c replies reply so_far told =
    subst (Appends a c) (sym (flat_map-append reply_line replies (reply ∷ []) ∙ ap (λ (l : List ℕ). flat_map reply_line replies ++ l) (append-nil (reply_line reply))))
    (Appends-trans a b c (flat_map reply_line replies) (reply_line reply) so_far told)

pub none_told : (lines : Option (List ℕ)) → Appends lines lines (flat_map reply_line [])
none_told lines = Appends-nil lines

-- ---- of a recorder
pub end_refused : {D : Type 0} (model : DiskModel D) (before mid after : Progress D) (replies : List Reply) (serial : ℕ) (reply : Reply) (refusal : Refusal)
    → AreEnded streams_in (Answers model) before mid replies → first_open mid.now.chain.streams ≡ Some serial
    → Answers model mid (CommandOf (EndOf serial)) reply [] after → reply ≡ RefusedReply refusal
    → EndRefused streams_in (Answers model) before after replies refusal
end_refused model before mid after replies serial reply refusal ended first answered told =
    let is : Answers model mid (CommandOf (EndOf serial)) (RefusedReply refusal) [] after =
    subst (λ (r : Reply). Answers model mid (CommandOf (EndOf serial)) r [] after) told answered in
    is_refused streams_in (Answers model) before mid after replies serial refusal [] ended first is
    (ap (λ (chain : ChainState). first_open chain.streams) (refused_stays mid.now after.now (EndOf serial) refusal is.replies))
