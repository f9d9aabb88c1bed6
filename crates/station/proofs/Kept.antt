-- What a step leaves of connections.
use Rattle.std.proofs.Common.{◌≡◌, ◌≢◌, ◌⊎◌, ℕ, true, false, is_some, Option, Some, None, List, [], refl, sym, ◌∙◌, ap, subst, inl, inr}
use Rattle.std.proofs.lemmas.Bool.{cases_Bool}
use Rattle.std.proofs.lemmas.Bool.Decides.{eqb_tells}
use Rattle.std.proofs.lemmas.List.{get_or-set_other}
use Rattle.import_changes.specs.declared.options.Skeletons.{Skeletons}
use Rattle.serve_clients.specs.Client.{ClientState, cut_for_memory, is_hearing, told, with_line, with_more, with_stage}
use Rattle.serve_sources.specs.Answers.{answer_after}
use Rattle.serve_clients.specs.Clients.{AreWoken, HasTurn, MayHaveTurn, OthersStay, told_by, with_turn}
use Rattle.serve_clients.specs.declared.clients.Clients.{Clients}
use Rattle.serve_clients.specs.declared.client.Stage.{Stage}
use Rattle.serve_clients.specs.declared.client.Stage.TheVariants.{Feeding, Ending, Cut}
use Rattle.serve_clients.specs.declared.line.Line.{Line}
use Rattle.serve_sources.specs.declared.outcome.Outcome.{Outcome}
use Rattle.serve_sources.specs.declared.password.Password.{Password}
use Rattle.slab.specs.Slab.{Slab, get, with_value}
use Rattle.station_sources.specs.declared.air.OnAir.{OnAir}
use Rattle.station.specs.Found.{placed}
use Rattle.station.specs.Kept.{AreKept, AreLeft, AreTried, AreTurned, InPlace, IsKept, IsLeft, IsTried, MayTurn, OfEach, WasTried}
use Rattle.station.specs.KeptLaws.{left_self, turned_self}
use Rattle.station.specs.Offering.{IsOffered}
use Rattle.station.specs.Parting.{FeederParted, FeederParts, HasParted}
use Rattle.station.specs.Passing.{ArePassed, GoesOnAsSource, IsPassed, has_offered, is_source}
use Rattle.station.specs.Stepping.{PartedBy, PartsBy}
use Rattle.station.specs.Succeeding.{is_waiting, waits}
use Rattle.station.specs.declared.stepping.Done.{Done}
use Rattle.station.specs.declared.stepping.Done.TheVariants.{Bytes, Ended, Failed, Flushed, Foreign, GivenUp, Lost, Nothing, Reopened, Stepped}
use Rattle.station_sources.specs.Air.{foreign_answer, noted, parting_answer}
use Rattle.station.proofs.Offered.{leads_on}
use Rattle.station.proofs.Passed.{line_like, parted, waiting}

-- ---- one connection
-- the last bytes are the same whatever turns there were
turns_last : (answer : Option Outcome) (line later : Line) (old mid new : ClientState) → HasParted answer (with_line line old) mid → new ≡ with_line later mid
    → HasParted answer (with_line later old) new
turns_last None line later old mid new is turned = turned ∙ ap (with_line later) is
turns_last (Some outcome) line later old mid new (inl is) turned =
    inl (turned ∙ ap (with_line later) is
    ∙ ap (λ room. with_stage Ending (told room (answer_after outcome) (with_line later old))) (sym (ap (λ (one : ClientState). one.room) turned)))
turns_last (Some outcome) line later old mid new (inr (lacks, is)) turned =
    inr (
      lacks,
      turned ∙ ap (with_line later) is
          ∙ ap (λ room. record (cut_for_memory (with_line later old)) { room = room }) (sym (ap (λ (one : ClientState). one.room) turned)),
    )

last_stage : (answer : Option Outcome) (old new : ClientState) → HasParted answer old new → (new.stage ≡ Ending) ⊎ (new.stage ≡ Cut)
last_stage None old new is = inl (ap (λ (one : ClientState). one.stage) is)
last_stage (Some outcome) old new (inl is) = inl (ap (λ (one : ClientState). one.stage) is)
last_stage (Some outcome) old new (inr (lacks, is)) = inr (ap (λ (one : ClientState). one.stage) is)

not_waiting : (stage : Stage) → (stage ≡ Ending) ⊎ (stage ≡ Cut) → is_waiting stage ≡ true → ⊥
not_waiting stage (inl is) waited = let e : is_waiting Ending ≡ true = sym (ap is_waiting is) ∙ waited in cc
not_waiting stage (inr is) waited = let e : is_waiting Cut ≡ true = sym (ap is_waiting is) ∙ waited in cc

left_tried : (password : Option Password) (now key : ℕ) (old mid new : ClientState) → IsLeft old mid → IsTried password now key mid new
    → IsKept password now key old new
left_tried password now key old mid new (inl same) (inl stays) = inl (old.line, stays ∙ same)
left_tried password now key old mid new (inl same) (inr tried) = inr (inr (subst (λ (one : ClientState). WasTried password now key one new) same tried))
left_tried password now key old mid new (inr (feeds, answer, left)) (inl stays) =
    inr (inl (feeds, old.line, answer, subst (HasParted answer old) (sym stays) left))
left_tried password now key old mid new (inr (feeds, answer, left)) (inr tried) =
    absurd (not_waiting mid.stage (last_stage answer old mid left) tried.0)

kept_turned : (password : Option Password) (now key : ℕ) (old mid new : ClientState) → IsKept password now key old mid → MayTurn mid new
    → IsKept password now key old new
kept_turned password now key old mid new (inl (line, is)) (later, turned) = inl (later, turned ∙ ap (with_line later) is)
kept_turned password now key old mid new (inr (inl (feeds, line, answer, left))) (later, turned) =
    inr (inl (feeds, later, answer, turns_last answer line later old mid new left turned))
kept_turned password now key old mid new (inr (inr (waited, skeletons, serials, begun, one, line, offered, is))) (later, turned) =
    inr (inr (waited, skeletons, serials, begun, one, later, offered, turned ∙ ap (with_line later) is))

both_turned : (old mid new : ClientState) → MayTurn old mid → MayTurn mid new → MayTurn old new
both_turned old mid new (line, is) (later, turned) = (later, turned ∙ ap (with_line later) is)

-- ---- what goes on as a source
feeding_source : (stage : Stage) → stage ≡ Feeding → is_source stage ≡ true
feeding_source stage is = ap is_source is

tried_on : (password : Option Password) (now key : ℕ) (skeletons : Skeletons) (serials : List ℕ) (begun : Option OnAir) (old mid : ClientState)
    → is_source old.stage ≡ true → IsOffered key [] now password skeletons serials None begun old mid → GoesOnAsSource old mid
tried_on password now key skeletons serials begun old mid source (inl (none, lacks, is)) =
    (ap (λ (one : ClientState). has_offered one.stage) is, ap (λ (one : ClientState). one.session) is)
tried_on password now key skeletons serials begun old mid source (inr (inl (none, unset, is))) =
    (ap (λ (one : ClientState). has_offered one.stage) is, ap (λ (one : ClientState). one.session) is)
tried_on password now key skeletons serials begun old mid source (inr (inr (secret, offer, room, is, comes, leads))) =
    leads_on key now skeletons serials offer None begun (with_more room [] old) mid leads source

passes : (password : Option Password) (now key : ℕ) (old new : Option ClientState) → InPlace (IsKept password now key) old new → IsPassed old new
passes password now key None new is = is
passes password now key (Some old) None is = absurd is
passes password now key (Some old) (Some new) (inl (line, is)) = inl (inl (line_like old new line is))
passes password now key (Some old) (Some new) (inr (inl (feeds, line, answer, left))) =
    inr (feeding_source old.stage feeds, parted answer (with_line line old) new left)
passes password now key (Some old) (Some new) (inr (inr (waited, skeletons, serials, begun, mid, line, offered, is))) =
    let source = waiting old.stage waited in
    let goes = tried_on password now key skeletons serials begun old mid source offered in
    inr (source, (ap (λ (one : ClientState). has_offered one.stage) is ∙ goes.0, ap (λ (one : ClientState). one.session) is ∙ goes.1))

-- ---- all of them
each_then : (R S T : ClientState → ClientState → Type 0) → ((old mid new : ClientState) → R old mid → S mid new → T old new)
    → (old mid new : Option ClientState) → InPlace R old mid → InPlace S mid new → InPlace T old new
each_then R S T then None mid new a b = subst (λ (one : Option ClientState). InPlace S one new) a b
each_then R S T then (Some old) None new a b = absurd a
each_then R S T then (Some old) (Some mid) None a b = absurd b
each_then R S T then (Some old) (Some mid) (Some new) a b = then old mid new a b

pub left_then_tried : (password : Option Password) (now : ℕ) (old mid new : Slab ClientState) → AreLeft old mid → AreTried password now mid new
    → AreKept password now old new
left_then_tried password now old mid new a b key =
    each_then IsLeft (IsTried password now key) (IsKept password now key) (left_tried password now key) (get old key) (get mid key) (get new key) (a key) (b key)

pub kept_then_turned : (password : Option Password) (now : ℕ) (old mid new : Slab ClientState) → AreKept password now old mid → AreTurned mid new
    → AreKept password now old new
kept_then_turned password now old mid new a b key =
    each_then (IsKept password now key) MayTurn (IsKept password now key) (kept_turned password now key) (get old key) (get mid key) (get new key) (a key) (b key)

pub turned_then : (old mid new : Slab ClientState) → AreTurned old mid → AreTurned mid new → AreTurned old new
turned_then old mid new a b key = each_then MayTurn MayTurn MayTurn both_turned (get old key) (get mid key) (get new key) (a key) (b key)

pub all_pass : (password : Option Password) (now : ℕ) (old new : Slab ClientState) → AreKept password now old new → ArePassed old new
all_pass password now old new are key = passes password now key (get old key) (get new key) (are key)

-- one of them alone is another
one_of : (R : ℕ → ClientState → ClientState → Type 0) → ((key : ℕ) (found : Option ClientState) → InPlace (R key) found found)
    → (old new : Slab ClientState) (key : ℕ) → ((other : ℕ) → other ≢ key → get new other ≡ get old other) → InPlace (R key) (get old key) (get new key)
    → OfEach R old new
one_of R same old new key others own at = elim (eqb_tells at key) [
  | inl is ↦ subst (λ (one : ℕ). InPlace (R one) (get old one) (get new one)) (sym is.1) own
  | inr apart ↦ subst (InPlace (R at) (get old at)) (sym (others at apart.1)) (same at (get old at))
]

pub placed_left : (slots : Slab ClientState) (key : ℕ) (old new : ClientState) → get slots key ≡ Some old → IsLeft old new
    → AreLeft slots (with_value slots key new)
placed_left slots key old new is left =
    one_of (λ at. IsLeft) (λ at. left_self) slots (with_value slots key new) key
    (λ other apart. get_or-set_other slots.slots key other (Some new) None apart)
    (subst (λ (found : Option ClientState). InPlace IsLeft found (get (with_value slots key new) key)) (sym is)
    (subst (InPlace IsLeft (Some old)) (sym (placed slots key old new is)) left))

-- ---- those that wait
none_waits : waits None ≡ true → ⊥
none_waits e = cc

offered_at : (password : Option Password) (now key : ℕ) (skeletons : Skeletons) (serials : List ℕ) (begun : Option OnAir) (old new : Option ClientState)
    → waits old ≡ true
    → ((client : ClientState) → old ≡ Some client → (after : ClientState) × (new ≡ Some after)
    × IsOffered key [] now password skeletons serials None begun client after)
    → InPlace (IsTried password now key) old new
offered_at password now key skeletons serials begun None new waited leads = absurd (none_waits waited)
offered_at password now key skeletons serials begun (Some old) new waited leads =
    let (after, is, offered) = leads old refl in
    subst (InPlace (IsTried password now key) (Some old)) (sym is)
    (inr (waited, skeletons, serials, begun, after, after.line, offered, refl))

-- this one was offered the air, and each from it on was as at first
pub tries_one : (password : Option Password) (now key : ℕ) (skeletons : Skeletons) (serials : List ℕ) (begun : Option OnAir) (old was new : Slab ClientState)
    → AreTried password now old was → get was key ≡ get old key → waits (get was key) ≡ true
    → ((other : ℕ) → other ≢ key → get new other ≡ get was other)
    → ((client : ClientState) → get was key ≡ Some client → (after : ClientState) × (get new key ≡ Some after)
    × IsOffered key [] now password skeletons serials None begun client after)
    → AreTried password now old new
tries_one password now key skeletons serials begun old was new are same waited others leads at = elim (eqb_tells at key) [
  | inl is ↦
      subst (λ (one : ℕ). InPlace (IsTried password now one) (get old one) (get new one)) (sym is.1)
      (subst (λ (found : Option ClientState). InPlace (IsTried password now key) found (get new key)) same
      (offered_at password now key skeletons serials begun (get was key) (get new key) waited leads))
  | inr apart ↦ subst (InPlace (IsTried password now at) (get old at)) (sym (others at apart.1)) (are at)
]

-- ---- turns
turn_of : (client : ClientState) (found : Option ClientState) → MayHaveTurn client found → InPlace MayTurn (Some client) found
turn_of client found (inl is) = subst (InPlace MayTurn (Some client)) (sym is) ((with_turn client).line, refl)
turn_of client found (inr is) = subst (InPlace MayTurn (Some client)) (sym is) (client.line, refl)

woken_at : (old new : Clients) (key : ℕ) (found : Option ClientState) → AreWoken old new → get old.slots key ≡ found → InPlace MayTurn found (get new.slots key)
woken_at old new key None are is = are.none key is
woken_at old new key (Some client) are is = elim (cases_Bool (is_hearing client.stage)) [
  | inl hears ↦ turn_of client (get new.slots key) (are.without key client is hears)
  | inr silent ↦ subst (InPlace MayTurn (Some client)) (sym (are.others key client is silent)) (client.line, refl)
]

pub woken : (old new : Clients) → AreWoken old new → AreTurned old.slots new.slots
woken old new are key = woken_at old new key (get old.slots key) are refl

told_turn : (key : ℕ) (client : ClientState) (old new : Clients) → HasTurn key (told_by false false client) old new
    → InPlace MayTurn (Some client) (get new.slots key)
told_turn key client old new (inl (queued, is, turns)) = subst (InPlace MayTurn (Some client)) (sym is) ((told_by false false client).line, refl)
told_turn key client old new (inr (inl (queued, is, turns))) =
    subst (InPlace MayTurn (Some client)) (sym is) ((with_turn (told_by false false client)).line, refl)
told_turn key client old new (inr (inr (queued, is, turns, full))) =
    subst (InPlace MayTurn (Some client)) (sym is) ((told_by false false client).line, refl)

one_turn : (old new : Clients) (key : ℕ) (found : Option ClientState) → get old.slots key ≡ found → found ≢ None
    → ((client : ClientState) → get old.slots key ≡ Some client → HasTurn key (told_by false false client) old new)
    → InPlace MayTurn found (get new.slots key)
one_turn old new key None is some turn = absurd (some refl)
one_turn old new key (Some client) is some turn = told_turn key client old new (turn client is)

pub woken_one : (old new : Clients) (key : ℕ) → get old.slots key ≢ None
    → ((client : ClientState) → get old.slots key ≡ Some client → HasTurn key (told_by false false client) old new)
    → OthersStay key old new → AreTurned old.slots new.slots
woken_one old new key some turn others =
    one_of (λ at. MayTurn) (λ at. turned_self) old.slots new.slots key others (one_turn old new key (get old.slots key) refl some turn)

-- ---- the one that sent
turned_on : (new : Option ClientState) (after : ClientState) → InPlace MayTurn (Some after) new → (line : Line) × (new ≡ Some (with_line line after))
turned_on None after is = absurd is
turned_on (Some new) after (line, is) = (line, ap (λ (one : ClientState). Some one) is)

feeder_parted : (answer : Option Outcome) (air : OnAir) (old mid new : Slab ClientState) → FeederParts answer air old mid → AreTurned mid new
    → FeederParted answer air old new
feeder_parted answer air old mid new parts turned key client feeds is stage =
    let (after, left, has) = parts key client feeds is stage in
    let (line, becomes) = turned_on (get new key) after (subst (λ (one : Option ClientState). InPlace MayTurn one (get new key)) left (turned key)) in
    (after, line, becomes, has)

pub parted_by : (done : Done) (air : OnAir) (old mid new : Slab ClientState) → PartsBy done air old mid → AreTurned mid new → PartedBy done air old new
parted_by (Ended offset junk taken refused) air old mid new parts turned =
    feeder_parted (parting_answer (is_some refused) (noted taken air)) air old mid new parts turned
parted_by (Foreign feeder passed refused) air old mid new parts turned = feeder_parted (foreign_answer air.body) air old mid new parts turned
parted_by (GivenUp fault refused) air old mid new parts turned = feeder_parted (parting_answer true air) air old mid new parts turned
parted_by (Stepped step) air old mid new parts turned = tt
parted_by Bytes air old mid new parts turned = tt
parted_by (Flushed reply) air old mid new parts turned = tt
parted_by (Reopened answered) air old mid new parts turned = tt
parted_by Failed air old mid new parts turned = tt
parted_by Nothing air old mid new parts turned = tt
parted_by (Lost fault) air old mid new parts turned = tt
