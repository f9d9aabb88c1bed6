-- Streams are ended in turn, whoever has them. Ours.
use Rattle.std.proofs.Common.{◌≡◌, ◌++◌, ◌∷◌, [], ℕ, Bool, true, false, cond, List, Option, None, Some, Result, Ok, Err, refl, ◌∙◌, ap}
use Rattle.std.specs.Prelude.{not, ◌||◌, find, option_map}
use Rattle.std.specs.List.{AllByRecursion, list_any}
use Rattle.feed_records.specs.declared.item.Record.{Record}
use Rattle.feed_records.specs.declared.item.Record.TheVariants.{Command as CommandOf}
use Rattle.feed_replies.specs.declared.reply.Reply.{Reply}
use Rattle.feed_replies.specs.declared.reply.Reply.TheVariants.{Held as HeldReply, Kept as KeptReply, Refused as RefusedReply}
use Rattle.feed_runner.specs.Laws.InTurn.{one_more}
use Rattle.feed_runner.specs.Refusing.{refuses}
use Rattle.ogg_command.specs.declared.command.Command.{Command}
use Rattle.ogg_command.specs.declared.command.Command.TheVariants.{End as EndOf}
use Rattle.ogg_command.specs.declared.refusal.Refusal.{Refusal}
use Rattle.ogg_command.specs.declared.refusal.Refusal.TheVariants.{Memory, Disk}
use Rattle.link_chain.specs.declared.stream_state.StreamState.{StreamState}
use Rattle.chain_rules.specs.Decision.{decision}
use Rattle.file_recorder.specs.Recorder.{RecorderState}
use Rattle.file_recorder.specs.Running.{AnsweredBy, Becomes, Replies}
use Rattle.file_recorder.specs.Ending.{AreEnded, AllEnded, AnswersEnd, EndRefused, first_open, is_unended}

-- ---- the first that hasn't ended
-- the first stream that hasn't ended, for each stream that is looked at
abbrev pub first_with : Bool → StreamState → List StreamState → Option ℕ
first_with ended stream streams = option_map (λ (s : StreamState). s.serial) (cond (not ended) (Some stream) (find is_unended streams))

-- whether a stream is open, by the first that hasn't ended
some_at : (ended : Bool) (serial : ℕ) (stream : StreamState) (streams : List StreamState) → first_with ended stream streams ≡ Some serial
    → (first_open streams ≡ Some serial → list_any is_unended streams ≡ true) → (not ended || list_any is_unended streams) ≡ true
some_at true serial stream streams first rest = rest first
some_at false serial stream streams first rest = refl

pub some_open : (serial : ℕ) (streams : List StreamState) → first_open streams ≡ Some serial → list_any is_unended streams ≡ true
some_open serial [] first = absurd (cc first)
some_open serial (stream ∷ streams) first = some_at stream.ended serial stream streams first (some_open serial streams)

none_at : (ended : Bool) (stream : StreamState) (streams : List StreamState) → first_with ended stream streams ≡ None
    → (first_open streams ≡ None → list_any is_unended streams ≡ false) → (not ended || list_any is_unended streams) ≡ false
none_at true stream streams first rest = rest first
none_at false stream streams first rest = absurd (cc first)

pub none_open : (streams : List StreamState) → first_open streams ≡ None → list_any is_unended streams ≡ false
none_open [] first = refl
none_open (stream ∷ streams) first = none_at stream.ended stream streams first (none_open streams)

-- ---- what a reply says of the chain
-- a refusal leaves the chain as it is
refused_becomes : {D : Type 0} (old new : RecorderState D) (command : Command) (refusal : Refusal) → Becomes old command (RefusedReply refusal) new → new.chain ≡ old.chain
refused_becomes old new command Memory is = ap (λ (r : RecorderState _). r.chain) is.1
refused_becomes old new command Disk is = ap (λ (r : RecorderState _). r.chain) is.2
refused_becomes old new command refusal is = absurd is

refused_by : {D : Type 0} (failed : Bool) (decided : Result ℕ Refusal) (old new : RecorderState D) (command : Command) (refusal : Refusal)
    → AnsweredBy failed decided old command (RefusedReply refusal) new → new.chain ≡ old.chain
refused_by true decided old new command refusal is = ap (λ (r : RecorderState _). r.chain) is.1
refused_by false (Err rule) old new command refusal is = ap (λ (r : RecorderState _). r.chain) is.1
refused_by false (Ok size) old new command refusal is = refused_becomes old new command refusal is

pub refused_stays : {D : Type 0} (old new : RecorderState D) (command : Command) (refusal : Refusal) → Replies old (CommandOf command) (RefusedReply refusal) new
    → new.chain ≡ old.chain
refused_stays old new command refusal is = refused_by old.file.failed (decision old.chain command) old new command refusal is

-- a reply that is no refusal
pub not_refused : (reply : Reply) → ((refusal : Refusal) → reply ≡ RefusedReply refusal → ⊥) → refuses reply ≡ false
not_refused (HeldReply count) other = refl
not_refused (KeptReply kept) other = refl
not_refused (RefusedReply refusal) other = absurd (other refusal refl)

-- ---- ends in turn
all_both : (P : Reply → Type 0) (xs ys : List Reply) → AllByRecursion P xs → AllByRecursion P ys → AllByRecursion P (xs ++ ys)
all_both P [] ys all more = more
all_both P (x ∷ xs) ys (first, rest) more = (first, all_both P xs ys rest more)

module _ {S : Type 0} (streams_of : S → List StreamState) (answers : S → Record → Reply → List ℕ → S → Type 0) where
  pub nothing_yet : (before : S) → AreEnded streams_of answers before before []
  nothing_yet before = record { records = []; bytes = []; answers_all = (refl, refl); taken = tt }

  -- one more stream was ended
  pub ends_on : (before mid after : S) (replies : List Reply) (serial : ℕ) (reply : Reply) (own : List ℕ) → AreEnded streams_of answers before mid replies
      → first_open (streams_of mid) ≡ Some serial → answers mid (CommandOf (EndOf serial)) reply own after → refuses reply ≡ false
      → AreEnded streams_of answers before after (replies ++ reply ∷ [])
  ends_on before mid after replies serial reply own ended first answered taken = record {
    records = ended.records ++ CommandOf (EndOf serial) ∷ [];
    bytes = ended.bytes ++ own;
    answers_all =
        one_more (AnswersEnd streams_of answers) before ended.records replies ended.bytes mid (CommandOf (EndOf serial)) reply own after ended.answers_all (first, answered);
    taken = all_both (λ r. refuses r ≡ false) replies (reply ∷ []) ended.taken (taken, tt);
  }

  pub none_left : (before after : S) (replies : List Reply) → AreEnded streams_of answers before after replies → first_open (streams_of after) ≡ None
      → AllEnded streams_of answers before after replies
  none_left before after replies ended none = record { ended = ended; none = none }

  pub is_refused : (before mid after : S) (replies : List Reply) (serial : ℕ) (refusal : Refusal) (own : List ℕ) → AreEnded streams_of answers before mid replies
      → first_open (streams_of mid) ≡ Some serial → answers mid (CommandOf (EndOf serial)) (RefusedReply refusal) own after
      → first_open (streams_of after) ≡ first_open (streams_of mid) → EndRefused streams_of answers before after replies refusal
  is_refused before mid after replies serial refusal own ended first answered same = record {
    mid = mid;
    ended = ended;
    last = CommandOf (EndOf serial);
    own = own;
    answers_it = (first, answered);
    still = same ∙ first;
  }
