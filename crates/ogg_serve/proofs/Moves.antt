-- The calls of one session leave the others, and the file.
use Rattle.std.proofs.Common.{◌≡◌, ◌≢◌, ℕ, Some, List, [], ◌++◌, refl, sym, ◌∙◌, ap, append-nil, append_assoc}
use Rattle.serve_machine.specs.Hub.{HubState, Event, hub_step, phase_of}
use Rattle.serve_machine.specs.Own.{AreNumbered, KeepsFile}
use Rattle.serve_machine.specs.Run.{session_of}
use Rattle.serve_machine.specs.Sound.{Extends}
use Rattle.ogg_serve.specs.Keeping.{KeepsAll, KeepsOthers, OnlyServes}

-- what the laws of sessions say
abbrev pub OthersStay : Type 0
OthersStay = (old new : HubState) (event : Event) (id : ℕ) → hub_step old event new → session_of event ≢ Some id → phase_of new id ≡ phase_of old id

abbrev FileStays : Type 0
FileStays = (old new : HubState) (event : Event) (id : ℕ) → hub_step old event new → session_of event ≡ Some id → KeepsFile old new

abbrev pub NumbersStay : Type 0
NumbersStay = (old new : HubState) (event : Event) → hub_step old event new → AreNumbered old → AreNumbered new

extends_itself : (bytes : List ℕ) → Extends bytes bytes
extends_itself bytes = ([], sym (append-nil bytes))

same_committed : (old new : HubState) → KeepsFile old new → Extends old.committed new.committed
same_committed old new file = ([], ap (λ (hub : HubState). hub.committed) file ∙ sym (append-nil old.committed))

-- one call
pub only_serves : OthersStay → FileStays → NumbersStay → (old new : HubState) (event : Event) (id : ℕ) → hub_step old event new → session_of event ≡ Some id
    → OnlyServes id old new
only_serves others file numbers old new event id step own =
    let kept = file old new event id step own in
    record {
      file = kept;
      others = record {
        others = λ other apart. others old new event other step (λ e. let same : Some id ≡ Some other = sym own ∙ e in apart cc);
        numbers = λ all. numbers old new event step all;
        extends = same_committed old new kept;
      };
    }

-- no call
others_none : (id : ℕ) (hub : HubState) → KeepsOthers id hub hub
others_none id hub = record { others = λ other apart. refl; numbers = λ all. all; extends = extends_itself hub.committed }

pub none : (id : ℕ) (hub : HubState) → OnlyServes id hub hub
none id hub = record { file = refl; others = others_none id hub }

-- calls in turn
pub others_both : (id : ℕ) (a b c : HubState) → KeepsOthers id a b → KeepsOthers id b c → KeepsOthers id a c
others_both id a b c first second = record {
  others = λ other apart. second.others other apart ∙ first.others other apart;
  numbers = λ all. second.numbers (first.numbers all);
  extends = (
    first.extends.0 ++ second.extends.0,
    second.extends.1 ∙ ap (λ (bytes : List ℕ). bytes ++ second.extends.0) first.extends.1 ∙ append_assoc a.committed first.extends.0 second.extends.0,
  );
}

pub both : (id : ℕ) (a b c : HubState) → OnlyServes id a b → OnlyServes id b c → OnlyServes id a c
both id a b c first second = record {
  file = second.file ∙ ap (λ (hub : HubState). record hub { sessions = c.sessions; next_id = c.next_id }) first.file;
  others = others_both id a b c first.others second.others;
}

pub committed_is : (id : ℕ) (a b : HubState) → OnlyServes id a b → b.committed ≡ a.committed
committed_is id a b only = ap (λ (hub : HubState). hub.committed) only.file

pub has_file_is : (id : ℕ) (a b : HubState) → OnlyServes id a b → b.has_file ≡ a.has_file
has_file_is id a b only = ap (λ (hub : HubState). hub.has_file) only.file

-- what no session sees leaves one session's others too
pub of_all : (id : ℕ) (old new : HubState) → KeepsAll old new → KeepsOthers id old new
of_all id old new keeps = record { others = λ other apart. keeps.phases other; numbers = keeps.numbers; extends = keeps.extends }

pub all_none : (hub : HubState) → KeepsAll hub hub
all_none hub = record { phases = λ id. refl; numbers = λ all. all; extends = extends_itself hub.committed }

pub all_both : (a b c : HubState) → KeepsAll a b → KeepsAll b c → KeepsAll a c
all_both a b c first second = record {
  phases = λ id. second.phases id ∙ first.phases id;
  numbers = λ all. second.numbers (first.numbers all);
  extends = (
    first.extends.0 ++ second.extends.0,
    second.extends.1 ∙ ap (λ (bytes : List ℕ). bytes ++ second.extends.0) first.extends.1 ∙ append_assoc a.committed first.extends.0 second.extends.0,
  );
}
