-- What a connection is counted as. Ours.
use Rattle.std.specs.Prelude.{ℕ, ◌+◌, ◌^◌, ◌-◌, Bool, true, false, Option, None, Some, count_by, min}
use Rattle.slab.specs.Slab.{Slab}
use Rattle.serve_clients.specs.Client.{ClientState}
use Rattle.serve_clients.specs.declared.client.Stage.{Stage}
use Rattle.serve_clients.specs.declared.client.Stage.TheVariants.{Asking, Offering, Waiting, Feeding, Reading, Sending, Hearing, Ending, Closing, Cut}
use Rattle.serve_clients.specs.declared.kinds.Kind.{Kind}
use Rattle.serve_clients.specs.declared.kinds.Kind.TheVariants.{Listener, Session, Source, Other}
use Rattle.serve_clients.specs.declared.kinds.Kinds.{Kinds}

-- what a connection is, by how far it has come
abbrev pub kind_of : Stage → Kind
kind_of Hearing = Listener
kind_of Reading = Session
kind_of Sending = Session
kind_of Offering = Source
kind_of Waiting = Source
kind_of Feeding = Source
kind_of Asking = Other
kind_of Ending = Other
kind_of Closing = Other
kind_of Cut = Other

abbrev pub same : Kind → Kind → Bool
same Listener Listener = true
same Session Session = true
same Source Source = true
same Other Other = true
same first second = false

-- there is a connection, and it is of this kind
abbrev pub is_of : Kind → Option ClientState → Bool
is_of kind None = false
is_of kind (Some client) = same kind (kind_of client.stage)

-- how many of these connections are of this kind
abbrev pub count_of : Kind → Slab ClientState → ℕ
count_of kind slots = count_by (is_of kind) slots.slots

abbrev pub kinds_in : Slab ClientState → Kinds
kinds_in slots =
    record { listeners = count_of Listener slots; sessions = count_of Session slots; sources = count_of Source slots; others = count_of Other slots }

abbrev pub nobody : Kinds
nobody = record { listeners = 0; sessions = 0; sources = 0; others = 0 }

-- a sum stops at the greatest number
abbrev pub sum : ℕ → ℕ → ℕ
sum one other = min (one + other) (2 ^ 64 - 1)

abbrev pub both : Kinds → Kinds → Kinds
both one other =
    record { listeners = sum one.listeners other.listeners; sessions = sum one.sessions other.sessions; sources = sum one.sources other.sources; others = sum one.others other.others }
