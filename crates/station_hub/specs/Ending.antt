-- The streams that a hub's file has open are ended. Ours.
use Rattle.std.specs.Prelude.{◌≡◌, ◌⊎◌, ⊤, ℕ, false, IfOk, IfErr, Result, List}
use Rattle.feed_records.specs.declared.item.Record.{Record}
use Rattle.feed_records.specs.declared.item.Record.TheVariants.{Flush}
use Rattle.feed_replies.specs.declared.reply.Reply.{Reply}
use Rattle.feed_replies.specs.declared.reply.Reply.TheVariants.{Refused}
use Rattle.feed_runner.specs.Refusing.{refuses}
use Rattle.file_recorder.specs.Ending.{AllEnded, EndRefused}
use Rattle.link_chain.specs.declared.stream_state.StreamState.{StreamState}
use Rattle.ogg_command.specs.declared.refusal.Refusal.{Refusal}
use Rattle.serve_hub.specs.Parts.{HubParts, streams_in}
use Rattle.serve_hub.specs.Running.{RepliesIn}

-- the streams of the last link of its file
abbrev pub streams_of : {D : Type 0} → HubParts D → List StreamState
streams_of hub = streams_in hub.file

-- the recorder of its file replies so, whatever the disk
abbrev pub HubReplies : {D : Type 0} → HubParts D → Record → Reply → List ℕ → HubParts D → Type 0
HubReplies before given reply own after = RepliesIn before.file given reply after.file

-- what is refused first: an end, or else the commit of what waits
abbrev pub IsFirst : {D : Type 0} → HubParts D → HubParts D → List Reply → Reply → Refusal → Type 0
IsFirst old mid replies flushed refusal =
    EndRefused streams_of HubReplies old mid replies refusal
    ⊎ (AllEnded streams_of HubReplies old mid replies × (flushed ≡ Refused refusal))

-- Streams are ended in turn, until none is open or an end is refused, and then what waits is committed. If nothing was
-- refused that is done; else it is told what was refused first.
abbrev pub EndsOpen : {D : Type 0} → Result ⊤ Refusal → HubParts D → HubParts D → Type 0
EndsOpen {D} result old new =
    (mid : HubParts D) × (replies : List Reply) × (flushed : Reply) × RepliesIn mid.file Flush flushed new.file
    × (IfOk result (λ done. AllEnded streams_of HubReplies old mid replies × (refuses flushed ≡ false)))
    × (IfErr result (λ refusal. IsFirst old mid replies flushed refusal))
