-- Streams that an earlier run left open are ended. Ours.
use Rattle.std.specs.Prelude.{◌≡◌, ◌⊎◌, ◌+◌, ℕ, cond, not, Option, None, Some, option_map, List, [], ◌∷◌, ◌++◌, Bool, false, find}
use Rattle.std.specs.List.{flat_map, AllByRecursion}
use Rattle.std.specs.Io.KnownBytes.{Appends}
use Rattle.ogg_command.specs.declared.command.Command.TheVariants.{End as EndOf}
use Rattle.ogg_command.specs.declared.refusal.Refusal.{Refusal}
use Rattle.feed_records.specs.declared.item.Record.{Record}
use Rattle.feed_records.specs.declared.item.Record.TheVariants.{Command as CommandOf}
use Rattle.feed_replies.specs.declared.reply.Reply.{Reply}
use Rattle.feed_replies.specs.declared.reply.Reply.TheVariants.{Refused as RefusedReply}
use Rattle.feed_replies.specs.Reply.{reply_line}
use Rattle.feed_runner.specs.Answering.{AnswersAll}
use Rattle.feed_runner.specs.Refusing.{refuses}
use Rattle.feed_runner.specs.Telling.{TellsPart}
use Rattle.link_chain.specs.declared.stream_state.StreamState.{StreamState}
use Rattle.file_recorder.specs.Running.{Progress, streams_in}

abbrev pub is_unended : StreamState → Bool
is_unended stream = not stream.ended

-- the serial of the first stream that hasn't ended, if there is one
abbrev pub first_open : List StreamState → Option ℕ
first_open streams = option_map (λ (stream : StreamState). stream.serial) (find is_unended streams)

abbrev pub one_if_unended : StreamState → ℕ
one_if_unended stream = cond stream.ended 0 1

-- how many streams haven't ended
abbrev pub unended : List StreamState → ℕ
unended [] = 0
unended (stream ∷ streams) = one_if_unended stream + unended streams

-- the command that ends the first of these streams that hasn't ended
abbrev pub EndsFirst : List StreamState → Record → Type 0
EndsFirst streams (CommandOf (EndOf serial)) = first_open streams ≡ Some serial
EndsFirst streams given = ⊥

module _ {S : Type 0} (streams_of : S → List StreamState) (answers : S → Record → Reply → List ℕ → S → Type 0) where
  -- the first stream that hasn't ended is ended, by a command that gets this reply
  abbrev pub AnswersEnd : S → Record → Reply → List ℕ → S → Type 0
  AnswersEnd before given reply own after = EndsFirst (streams_of before) given × answers before given reply own after

  -- Streams were ended in turn, each the first that hadn't ended then. They got these replies, and none was refused.
  pub record AreEnded (before after : S) (replies : List Reply) : Type 0 where
    pub records : List Record
    pub bytes : List ℕ
    pub answers_all : AnswersAll AnswersEnd before records replies bytes after
    pub taken : AllByRecursion (λ reply. refuses reply ≡ false) replies

  -- Streams were ended in turn, until none was open.
  pub record AllEnded (before after : S) (replies : List Reply) : Type 0 where
    pub ended : AreEnded before after replies
    pub none : first_open (streams_of after) ≡ None

  -- Streams were ended in turn, and then the end of the next was refused as this: it is open still.
  pub record EndRefused (before after : S) (replies : List Reply) (refusal : Refusal) : Type 0 where
    pub mid : S
    pub ended : AreEnded before mid replies
    pub last : Record
    pub own : List ℕ
    pub answers_it : AnswersEnd mid last (RefusedReply refusal) own after
    pub still : EndsFirst (streams_of after) last

module _ {D : Type 0} (answers : Progress D → Record → Reply → List ℕ → Progress D → Type 0) where
  -- Each stream that was open is ended, up to the first whose end was refused. The lines of all replies were told.
  abbrev pub HasEnded : Progress D → Progress D → Option (List ℕ) → Option (List ℕ) → Type 0
  HasEnded before after lines new_lines =
      ((replies : List Reply) × AllEnded streams_in answers before after replies × Appends lines new_lines (flat_map reply_line replies))
      ⊎ ((replies : List Reply) × (refusal : Refusal) × EndRefused streams_in answers before after replies refusal
      × Appends lines new_lines (flat_map reply_line (replies ++ RefusedReply refusal ∷ [])))

  -- Streams were ended in turn, and the lines of their replies were told; then the end of the next was answered, and
  -- its line was not told, or only in part. If lines may wait, it may wait as a whole.
  pub record HasToldSome (waits : Bool) (before after : Progress D) (lines new_lines : Option (List ℕ)) : Type 0 where
    pub mid : Progress D
    pub replies : List Reply
    pub whole : Option (List ℕ)
    pub ended : AreEnded streams_in answers before mid replies
    pub told_before : Appends lines whole (flat_map reply_line replies)
    pub last : Record
    pub reply : Reply
    pub own : List ℕ
    pub answers_it : AnswersEnd streams_in answers mid last reply own after
    pub told : TellsPart waits whole new_lines (reply_line reply)
