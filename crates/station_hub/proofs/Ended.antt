-- The streams of a hub's file are ended in turn.
use Rattle.std.proofs.Common.{◌≡◌, ◌<◌, ◌∙◌, [], ℕ, Bool, true, false, List, Option, None, Some, Result, Ok, Err, inr, refl, sym, ap, subst}
use Rattle.std.specs.Prelude.{⊤, not, nat_eq, ◌&&◌, IfErr, OnErr, OnOk}
use Rattle.std.specs.List.{list_any}
use Rattle.feed_records.specs.declared.item.Record.{Record}
use Rattle.feed_records.specs.declared.item.Record.TheVariants.{Command as CommandOf, Flush}
use Rattle.feed_replies.specs.declared.reply.Reply.{Reply}
use Rattle.feed_replies.specs.declared.reply.Reply.TheVariants.{Held as HeldReply, Kept as KeptReply, Refused as RefusedReply}
use Rattle.feed_runner.specs.Refusing.{refuses}
use Rattle.file_recorder.specs.Ending.{AreEnded, AllEnded, EndRefused, EndsFirst, first_open, is_unended, unended}
use Rattle.file_recorder.specs.EndingLaws.{is_refused, none_open, refused_stays, some_open}
use Rattle.file_recorder.specs.Recorder.{RecorderState}
use Rattle.file_recorder.specs.Running.{FlushedBy, Replies}
use Rattle.file_recorder.specs.Taking.{IsWholeChain}
use Rattle.link_chain.specs.declared.stream_state.StreamState.{StreamState}
use Rattle.link_chain.specs.ChainState.{ChainState, is_open}
use Rattle.ogg_command.specs.declared.command.Command.{Command}
use Rattle.ogg_command.specs.declared.command.Command.TheVariants.{Begin as BeginOf, Put as PutOf, End as EndOf}
use Rattle.ogg_command.specs.declared.refusal.Refusal.{Refusal}
use Rattle.ogg_command.specs.declared.refusal.Refusal.TheVariants.{Disk}
use Rattle.serve_hub.specs.Parts.{HubParts, is_at_rest, streams_in}
use Rattle.serve_hub.specs.Running.{RepliesIn}
use Rattle.station_hub.specs.Ending.{EndsOpen, HubReplies, streams_of}

-- ---- of the file of a hub
-- an end that is taken leaves a stream less
abbrev pub LeavesFewer : Type 0 → Type 0
LeavesFewer D =
    (old new : RecorderState D) (serial : ℕ) (reply : Reply) → IsWholeChain old.chain → first_open old.chain.streams ≡ Some serial
    → Replies old (CommandOf (EndOf serial)) reply new → refuses reply ≡ false → unended new.chain.streams < unended old.chain.streams

pub fewer_in : {D : Type 0} → LeavesFewer D → (old new : Option (RecorderState D)) (serial : ℕ) (reply : Reply) → first_open (streams_in old) ≡ Some serial
    → RepliesIn old (CommandOf (EndOf serial)) reply new → refuses reply ≡ false → unended (streams_in new) < unended (streams_in old)
fewer_in fewer None new serial reply first is taken = absurd (cc first)
fewer_in fewer (Some old) None serial reply first is taken = absurd is
fewer_in fewer (Some old) (Some new) serial reply first is taken = fewer old new serial reply is.0 first is.1 taken

-- a refusal leaves the streams as they are
stay_in : {D : Type 0} (old new : Option (RecorderState D)) (command : Command) (refusal : Refusal) → RepliesIn old (CommandOf command) (RefusedReply refusal) new
    → streams_in new ≡ streams_in old
stay_in None new command refusal is = ap streams_in is.1
stay_in (Some old) None command refusal is = absurd is
stay_in (Some old) (Some new) command refusal is = ap (λ (chain : ChainState). chain.streams) (refused_stays old new command refusal is.1)

pub refused_in : {D : Type 0} (before mid after : HubParts D) (replies : List Reply) (serial : ℕ) (reply : Reply) (refusal : Refusal)
    → AreEnded streams_of HubReplies before mid replies → first_open (streams_of mid) ≡ Some serial
    → RepliesIn mid.file (CommandOf (EndOf serial)) reply after.file → reply ≡ RefusedReply refusal → EndRefused streams_of HubReplies before after replies refusal
refused_in before mid after replies serial reply refusal ended first answered told =
    let is : RepliesIn mid.file (CommandOf (EndOf serial)) (RefusedReply refusal) after.file =
    subst (λ (r : Reply). RepliesIn mid.file (CommandOf (EndOf serial)) r after.file) told answered in
    is_refused streams_of HubReplies before mid after replies serial refusal [] ended first is (ap first_open (stay_in mid.file after.file (EndOf serial) refusal is))

-- ---- at rest
both : (failed unsettled left : Bool) → failed ≡ false → unsettled ≡ true → left ≡ false → ((not failed && unsettled) && not left) ≡ true
both false true false a b e = refl
both true unsettled left a b e = absurd (cc a)
both false false left a b e = absurd (cc b)
both false true true a b e = absurd (cc e)

not_settled : (failed rest : Bool) (left : Bool) → failed ≡ true → ((not failed && rest) && not left) ≡ false
not_settled true rest left e = refl
not_settled false rest left e = absurd (cc e)

left_over : (a left : Bool) → left ≡ true → (a && not left) ≡ false
left_over true true e = refl
left_over false true e = refl
left_over a false e = absurd (cc e)

settled_by : {D : Type 0} (failed : Bool) (old new : RecorderState D) (reply : Reply) → is_open old.chain ≡ false → FlushedBy failed old reply new
    → refuses reply ≡ false → is_at_rest (Some new) ≡ true
settled_by true old new reply none is taken = let bad : true ≡ false = sym (ap refuses is.0) ∙ taken in absurd (cc bad)
settled_by false old new (HeldReply count) none is taken = absurd is
settled_by false old new (KeptReply kept) none is taken =
    let held : nat_eq new.held 0 ≡ true = ap (λ (r : RecorderState _). nat_eq r.held 0) is.3 in
    let chain : is_open new.chain ≡ false = ap (λ (r : RecorderState _). is_open r.chain) is.3 ∙ none in
    both new.file.failed (nat_eq new.held 0) (is_open new.chain) is.1 held chain
settled_by false old new (RefusedReply refusal) none is taken = absurd (cc taken)

pub rests : {D : Type 0} (old new : Option (RecorderState D)) (reply : Reply) → first_open (streams_in old) ≡ None → RepliesIn old Flush reply new
    → refuses reply ≡ false → is_at_rest new ≡ true
rests None new reply none is taken = let bad : true ≡ false = sym (ap refuses is.0) ∙ taken in absurd (cc bad)
rests (Some old) None reply none is taken = absurd is
rests (Some old) (Some new) reply none is taken = settled_by old.file.failed old new reply (none_open old.chain.streams none) is.1 taken

-- ---- not at rest
refused_flush : {D : Type 0} (failed : Bool) (old new : RecorderState D) (refusal : Refusal) → old.file.failed ≡ failed → FlushedBy failed old (RefusedReply refusal) new
    → new.file.failed ≡ true
refused_flush true old new refusal bad is = ap (λ (r : RecorderState _). r.file.failed) is.1 ∙ bad
refused_flush false old new Disk bad is = is.1.0
refused_flush false old new refusal bad is = absurd is

pub flush_refused : {D : Type 0} (old new : Option (RecorderState D)) (reply : Reply) (refusal : Refusal) → reply ≡ RefusedReply refusal → RepliesIn old Flush reply new
    → is_at_rest new ≡ false
flush_refused None new reply refusal told is = ap is_at_rest is.1
flush_refused (Some old) None reply refusal told is = absurd is
flush_refused (Some old) (Some new) reply refusal told is =
    not_settled new.file.failed (nat_eq new.held 0) (is_open new.chain)
    (refused_flush old.file.failed old new refusal refl (subst (λ (r : Reply). FlushedBy old.file.failed old r new) told is.1))

-- a flush leaves the chain as it is
flush_chain : {D : Type 0} (failed : Bool) (old new : RecorderState D) (reply : Reply) → FlushedBy failed old reply new → new.chain ≡ old.chain
flush_chain true old new reply is = ap (λ (r : RecorderState _). r.chain) is.1
flush_chain false old new (HeldReply count) is = absurd is
flush_chain false old new (KeptReply kept) is = ap (λ (r : RecorderState _). r.chain) is.3
flush_chain false old new (RefusedReply Disk) is = ap (λ (r : RecorderState _). r.chain) is.1.2
flush_chain false old new (RefusedReply refusal) is = absurd is

still_some : (streams : List StreamState) (last : Record) → EndsFirst streams last → list_any is_unended streams ≡ true
still_some streams (CommandOf (EndOf serial)) first = some_open serial streams first
still_some streams (CommandOf (BeginOf begin)) first = absurd first
still_some streams (CommandOf (PutOf put)) first = absurd first
still_some streams Flush first = absurd first

pub end_refused : {D : Type 0} (old new : Option (RecorderState D)) (reply : Reply) (last : Record) → EndsFirst (streams_in old) last → RepliesIn old Flush reply new
    → is_at_rest new ≡ false
end_refused None new reply last first is = ap is_at_rest is.1
end_refused (Some old) None reply last first is = absurd is
end_refused (Some old) (Some new) reply last first is =
    left_over (not new.file.failed && nat_eq new.held 0) (is_open new.chain)
    (ap is_open (flush_chain old.file.failed old new reply is.1) ∙ still_some old.chain.streams last first)

-- ---- what is told of it, by what the flush is told as
module _ {D : Type 0} (old mid new : HubParts D) (replies : List Reply) (flushed : Reply) (all : AllEnded streams_of HubReplies old mid replies)
    (is : RepliesIn mid.file Flush flushed new.file) where
  pub rests_if : (r : Result ⊤ Refusal) → OnOk r (refuses flushed ≡ false) → OnOk r (is_at_rest new.file ≡ true)
  rests_if (Ok done) taken = rests mid.file new.file flushed all.none is taken
  rests_if (Err refusal) taken = tt

  pub left_if : (r : Result ⊤ Refusal) → IfErr r (λ refusal. flushed ≡ RefusedReply refusal) → OnErr r (is_at_rest new.file ≡ false)
  left_if (Ok done) told = tt
  left_if (Err refusal) told = flush_refused mid.file new.file flushed refusal told is

  pub ends_if : (r : Result ⊤ Refusal) → OnOk r (refuses flushed ≡ false) → IfErr r (λ refusal. flushed ≡ RefusedReply refusal) → EndsOpen r old new
  ends_if (Ok done) taken told = (mid, replies, flushed, is, (all, taken), tt)
  ends_if (Err refusal) taken told = (mid, replies, flushed, is, tt, inr (all, told))
