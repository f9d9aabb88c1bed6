-- A station goes over to another file. Ours.
use Rattle.std.specs.Prelude.{◌≡◌, ◌≢◌, ◌⊎◌, ◌||◌, ℕ, Bool, false, true, Option, None, Some, List, []}
use Rattle.disk_model.specs.declared.disk.Disk.{Ghosts as DiskModel}
use Rattle.feed_records.specs.declared.item.Record.TheVariants.{Flush}
use Rattle.feed_replies.specs.declared.reply.Reply.{Reply}
use Rattle.import_record.specs.declared.answering.Answered.{Answered}
use Rattle.serve_hub.specs.Running.{Answers, IsIn, Progress}
use Rattle.link_chain.specs.declared.stream_state.StreamState.{StreamState}
use Rattle.serve_live.specs.Following.{GoesOn, names_on}
use Rattle.serve_live.specs.Joined.{IsNew}
use Rattle.serve_live.specs.Listening.{ListenerState}
use Rattle.serve_clients.specs.Client.{ClientState, LacksHeadRoom, cut_for_memory}
use Rattle.serve_clients.specs.Clients.{told_by}
use Rattle.serve_clients.specs.Line.{new_line}
use Rattle.station_hub.specs.declared.live_hub.LiveHub.{LiveHub}
use Rattle.station_hub.specs.declared.waking.Waking.{Waking}
use Rattle.station_sources.specs.Beginning.{HasResumed}
use Rattle.station_sources.specs.declared.air.OnAir.{OnAir}
use Rattle.serve_clients.specs.declared.client.Stage.TheVariants.{Hearing}
use Rattle.station.specs.Asked.{heard, moved}

-- It has a session there, also if it was told all and is about to be closed, or hears what is recorded. The number of its
-- session is another's elsewhere.
abbrev pub ReadsFile : Option ClientState → Type 0
ReadsFile None = ⊥
ReadsFile (Some client) = (client.session ≢ None) ⊎ (client.stage ≡ Hearing)

-- another file is heard from its first byte on, and there is more for those who hear what is recorded
abbrev pub anew : Waking → Waking
anew waking = record waking { heard = 0; unheard = true }

-- it comes from another station: nothing is known of its socket, and nothing was asked for it yet
abbrev pub come : ClientState → ClientState
come client = record client { idle = false; line = new_line }

-- and then its socket may have bytes, and room for some
abbrev pub arrived : ClientState → ClientState
arrived client = told_by true true (come client)

-- bytes of its head are kept behind what has come before; or there was no room for them, and it is cut
pub record HoldsBack (bytes : List ℕ) (old new : ClientState) : Type 0 where
  pub becomes : (new ≡ heard new.head_room bytes old) ⊎ (LacksHeadRoom bytes old × (new ≡ cut_for_memory (moved old)))

-- it hears a file from its first page on
pub record HearsAnew (old new : ClientState) : Type 0 where
  pub listener : ListenerState
  pub hears : new.listener ≡ Some listener
  pub first : IsNew 0 0 0 [] listener
  pub rest : new ≡ record old { listener = Some listener }

-- It hears on in a file in which the link goes on that it has heard so far: these streams of the file before go on with
-- these
pub record HearsOn (begun : ℕ) (streams next : List StreamState) (heard : ListenerState) (old new : ClientState) : Type 0 where
  pub listener : ListenerState
  pub hears : new.listener ≡ Some listener
  pub goes_on : GoesOn begun (names_on heard.names streams next) listener
  pub rest : new ≡ record old { listener = Some listener }

-- In a file that was changed to, the link that the source has open begins again, under serials that are none of these, and
-- then what waits is kept. What was answered is told, and a loss is noted.
pub record BeginsAgain {D : Type 0} (model : DiskModel D) (serials : List ℕ) (lost : Bool) (answered : Answered) (air : OnAir)
    (now : Option OnAir) (new : LiveHub D) (before : Progress D) : Type 0 where
  pub source : OnAir
  pub begun : Progress D
  pub after : Progress D
  pub reply : Reply
  pub on_air : now ≡ Some source
  pub resumed : HasResumed (Answers model) [] serials (record air { lost = lost || air.lost }) source before begun
  pub told : resumed.answered ≡ answered
  pub kept : Answers model begun Flush reply [] after
  pub reached : IsIn model after new.hub
