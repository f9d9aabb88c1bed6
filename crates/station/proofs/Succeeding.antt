-- Who waits for the air, and who is on it next.
use Rattle.std.proofs.Common.{◌≡◌, ◌≢◌, ◌⊎◌, ◌≤◌, ◌<◌, ◌+◌, ℕ, List, true, false, Option, Some, None, length, refl, sym, ◌∙◌, ap, subst, inl, inr, arith}
use Rattle.std.specs.Prelude.{is_some}
use Rattle.std.proofs.lemmas.Bool.{cases_Bool}
use Rattle.std.proofs.lemmas.Bool.Decides.{eqb_tells, leb_tells}
use Rattle.std.proofs.lemmas.List.{get_or_past}
use Rattle.serve_clients.specs.Client.{ClientState, is_hearing}
use Rattle.serve_clients.specs.Clients.{AreWoken, HasTurn, OthersStay, told_by, with_turn}
use Rattle.serve_clients.specs.declared.clients.Clients.{Clients}
use Rattle.slab.specs.Slab.{Slab, get}
use Rattle.serve_sources.specs.Offer.{IsUnread}
use Rattle.serve_sources.specs.declared.offer.Offer.TheVariants.{More}
use Rattle.serve_sources.specs.declared.outcome.Outcome.{Outcome}
use Rattle.station_sources.specs.Air.{feeder_in}
use Rattle.station_sources.specs.declared.air.Feeder.{Feeder}
use Rattle.station_sources.specs.declared.air.Feeder.TheVariants.{Peer}
use Rattle.station_sources.specs.declared.air.OnAir.{OnAir}
use Rattle.station.specs.Parting.{HasParted}
use Rattle.station.specs.Stepping.{IsSucceededBy}
use Rattle.station.specs.Succeeding.{AreOffered, HasAir, HaveTurns, IsStill, IsSucceeded, SameWait, WasOffered, is_waiting, waits}
use Rattle.station.specs.declared.stepping.Done.{Done}
use Rattle.station.specs.declared.stepping.Done.TheVariants.{Ended, Foreign, GivenUp}

nobody_feeds : (feeder : Feeder) → Some feeder ≡ None → ⊥
nobody_feeds feeder e = cc

true_false : true ≡ false → ⊥
true_false e = cc

none_waits : waits None ≡ true → ⊥
none_waits e = true_false (sym e)

no_air : (air : Option OnAir) → feeder_in air ≡ None → air ≡ None
no_air None e = refl
no_air (Some air) e = absurd (nobody_feeds air.feeder e)

pub is_taken : (air : Option OnAir) → is_some air ≡ true → air ≢ None
is_taken air is free = true_false (sym is ∙ ap (λ (one : Option OnAir). is_some one) free)

pub is_free : (air : Option OnAir) → is_some air ≡ false → air ≡ None
is_free None is = refl
is_free (Some air) is = absurd (true_false is)

-- ---- the air is offered, key by key
-- so far nobody has it, and all before this key were offered it; or one of them has it
abbrev pub HasTried : Slab ClientState → Slab ClientState → Option OnAir → ℕ → Type 0
HasTried old now air key = ((air ≡ None) × AreOffered old now key) ⊎ ((next : ℕ) × HasAir (Some next) old now air)

-- from this key on they are as they were
abbrev pub StayFrom : Slab ClientState → Slab ClientState → ℕ → Type 0
StayFrom old now key = (other : ℕ) → key ≤ other → get now other ≡ get old other

-- those that don't wait are as they were
abbrev pub OthersStand : Slab ClientState → Slab ClientState → Type 0
OthersStand old now = (key : ℕ) → waits (get old key) ≡ false → get now key ≡ get old key

pub stay_behind : (old now new : Slab ClientState) (key : ℕ) → StayFrom old now key → ((other : ℕ) → other ≢ key → get new other ≡ get now other)
    → StayFrom old new (key + 1)
stay_behind old now new key stay others other above =
    others other (λ same. omega (arith, above, same)) ∙ stay other (omega (arith, above))

-- this one doesn't wait
passed_over : (old now : Slab ClientState) (key : ℕ) → AreOffered old now key → get now key ≡ get old key → waits (get now key) ≡ false
    → AreOffered old now (key + 1)
passed_over old now key are same isnt lower below waited = elim (eqb_tells lower key) [
  | inl is ↦ absurd (true_false (sym waited ∙ ap (λ (one : ℕ). waits (get old one)) is.1 ∙ ap waits (sym same) ∙ isnt))
  | inr other ↦ are lower (omega (arith, below, other.1)) waited
]

-- or it was offered the air
offered_next : (old now new : Slab ClientState) (key : ℕ) → AreOffered old now key → ((other : ℕ) → other ≢ key → get new other ≡ get now other)
    → WasOffered (get new key) → AreOffered old new (key + 1)
offered_next old now new key are others was lower below waited = elim (eqb_tells lower key) [
  | inl is ↦ subst (λ (one : ℕ). WasOffered (get new one)) (sym is.1) was
  | inr other ↦ subst WasOffered (sym (others lower other.1)) (are lower (omega (arith, below, other.1)) waited)
]

pub tries_past : (old now : Slab ClientState) (air : Option OnAir) (key : ℕ) → air ≡ None → HasTried old now air key → StayFrom old now key
    → waits (get now key) ≡ false → HasTried old now air (key + 1)
tries_past old now air key free (inl (none, are)) stay isnt = inl (none, passed_over old now key are (stay key (omega arith)) isnt)
tries_past old now air key free (inr has) stay isnt = inr has

pub tries : (old now new : Slab ClientState) (before after : Option OnAir) (key : ℕ) → before ≡ None → HasTried old now before key → StayFrom old now key
    → waits (get now key) ≡ true → ((other : ℕ) → other ≢ key → get new other ≡ get now other) → WasOffered (get new key)
    → (feeder_in after ≡ Some (Peer key)) ⊎ (feeder_in after ≡ feeder_in before) → HasTried old new after (key + 1)
tries old now new before after key free (inl (none, are)) stay waited others was (inl takes) = inr (
  key,
  (
    ap waits (sym (stay key (omega arith))) ∙ waited,
    takes,
    offered_next old now new key are others was,
    λ other above. ap waits (stay_behind old now new key stay others other above),
  ),
)
tries old now new before after key free (inl (none, are)) stay waited others was (inr same) =
    inl (no_air after (same ∙ ap feeder_in free), offered_next old now new key are others was)
tries old now new before after key free (inr (next, (is, takes, are, on))) stay waited others was goes =
    absurd (nobody_feeds (Peer next) (sym takes ∙ ap feeder_in free))

-- one that doesn't wait is another than one that does
pub is_other : (old now : Slab ClientState) (key other : ℕ) → get now other ≡ get old other → waits (get old other) ≡ false → waits (get now key) ≡ true
    → other ≢ key
is_other old now key other same isnt waited is =
    true_false (sym waited ∙ ap (λ (one : ℕ). waits (get now one)) (sym is) ∙ ap waits same ∙ isnt)

-- all were offered it, or one of them has it
is_past : (old : Slab ClientState) (key other : ℕ) → length old.slots ≤ key → waits (get old other) ≡ true → other < key
is_past old key other past waited = elim (leb_tells (length old.slots) other) [
  | inl beyond ↦ absurd (none_waits (ap waits (sym (get_or_past old.slots other None beyond.1)) ∙ waited))
  | inr inside ↦ omega (arith, inside.1, past)
]

pub all_tried : (old now : Slab ClientState) (air : Option OnAir) (key : ℕ) → length old.slots ≤ key → HasTried old now air key → IsSucceeded old now air
all_tried old now air key past (inl (none, are)) =
    record { next = None; has_air = (none, λ other waited. are other (is_past old key other past waited) waited) }
all_tried old now air key past (inr (next, has)) = record { next = Some next; has_air = has }

pub one_has : (old now : Slab ClientState) (air : Option OnAir) (key : ℕ) → air ≢ None → HasTried old now air key → IsSucceeded old now air
one_has old now air key some (inl (none, are)) = absurd (some none)
one_has old now air key some (inr (next, has)) = record { next = Some next; has_air = has }

-- a connection that parts doesn't wait
pub parted_waits : (answer : Option Outcome) (client after : ClientState) → HasParted answer client after → is_waiting after.stage ≡ false
parted_waits None client after parted = ap (λ (one : ClientState). is_waiting one.stage) parted
parted_waits (Some outcome) client after (inl told) = ap (λ (one : ClientState). is_waiting one.stage) told
parted_waits (Some outcome) client after (inr (lacks, cut)) = ap (λ (one : ClientState). is_waiting one.stage) cut

-- ---- the same ones waited before that
succeeds : (old mid new : Slab ClientState) (next : Option ℕ) (air : Option OnAir) → SameWait old mid → HasAir next mid new air → HasAir next old new air
succeeds old mid new None air same (none, are) = (none, λ key waited. are key (same key ∙ waited))
succeeds old mid new (Some key) air same (is, takes, are, on) = (
  sym (same key) ∙ is,
  takes,
  λ lower below waited. are lower below (same lower ∙ waited),
  λ other above. on other above ∙ same other,
)

pub succeeded : (old mid new : Slab ClientState) (air : Option OnAir) → SameWait old mid → IsSucceeded mid new air → IsSucceeded old new air
succeeded old mid new air same is = record { next = is.next; has_air = succeeds old mid new is.next air same is.has_air }

-- ---- turns that are given after that
still_offered : (old new : Option ClientState) → IsStill old new → WasOffered old → WasOffered new
still_offered None new is was = subst WasOffered (sym is) tt
still_offered (Some old) new (client, is, stage, head) (inl waits_not) = subst WasOffered (sym is) (inl (ap is_waiting stage ∙ waits_not))
still_offered (Some old) new (client, is, stage, head) (inr unread) =
    subst WasOffered (sym is) (inr (subst (λ (one : List ℕ). IsUnread one More) (sym head) unread))

still_waits : (old new : Option ClientState) → IsStill old new → waits new ≡ waits old
still_waits None new is = ap waits is
still_waits (Some old) new (client, is, stage, head) = ap waits is ∙ ap is_waiting stage

still_has : (next : Option ℕ) (old mid new : Slab ClientState) (air : Option OnAir) → HaveTurns mid new → HasAir next old mid air → HasAir next old new air
still_has None old mid new air turns (none, are) = (none, λ key waited. still_offered (get mid key) (get new key) (turns key) (are key waited))
still_has (Some key) old mid new air turns (is, takes, are, on) = (
  is,
  takes,
  λ lower below waited. still_offered (get mid lower) (get new lower) (turns lower) (are lower below waited),
  λ other above. still_waits (get mid other) (get new other) (turns other) ∙ on other above,
)

still : (old mid new : Slab ClientState) (air : Option OnAir) → HaveTurns mid new → IsSucceeded old mid air → IsSucceeded old new air
still old mid new air turns is = record { next = is.next; has_air = still_has is.next old mid new air turns is.has_air }

pub still_by : (done : Done) (old mid new : Slab ClientState) (air : Option OnAir) → HaveTurns mid new → IsSucceededBy done old mid air
    → IsSucceededBy done old new air
still_by (Ended offset junk taken refused) old mid new air turns is = still old mid new air turns is
still_by (Foreign feeder passed refused) old mid new air turns is = still old mid new air turns is
still_by (GivenUp fault refused) old mid new air turns is = still old mid new air turns is
still_by done old mid new air turns is = tt

-- turns after turns
is_still : (old mid new : Option ClientState) → IsStill old mid → IsStill mid new → IsStill old new
is_still None mid new is later = subst (λ (one : Option ClientState). IsStill one new) is later
is_still (Some old) mid new (client, is, stage, head) later =
    let (after, now, stage_now, head_now) = subst (λ (one : Option ClientState). IsStill one new) is later in
    (after, now, stage_now ∙ stage, head_now ∙ head)

pub turns_then : (old mid new : Slab ClientState) → HaveTurns old mid → HaveTurns mid new → HaveTurns old new
turns_then old mid new turns later key = is_still (get old key) (get mid key) (get new key) (turns key) (later key)

-- nothing was done
as_it_was : (one : Option ClientState) → IsStill one one
as_it_was None = refl
as_it_was (Some client) = (client, refl, refl, refl)

pub no_turns : (old : Slab ClientState) (key : ℕ) → IsStill (get old key) (get old key)
no_turns old key = as_it_was (get old key)

woken_at : (old new : Clients) (key : ℕ) (found : Option ClientState) → AreWoken old new → get old.slots key ≡ found → IsStill found (get new.slots key)
woken_at old new key None are is = are.none key is
woken_at old new key (Some client) are is = elim (cases_Bool (is_hearing client.stage)) [
  | inl hears ↦ elim (are.without key client is hears) [
    | inl turn ↦ (with_turn client, turn, refl, refl)
    | inr same ↦ (client, same, refl, refl)
  ]
  | inr silent ↦ (client, are.others key client is silent, refl, refl)
]

pub woken : (old new : Clients) → AreWoken old new → HaveTurns old.slots new.slots
woken old new are key = woken_at old new key (get old.slots key) are refl

has_turn : (key : ℕ) (client : ClientState) (old new : Clients) → HasTurn key (told_by false false client) old new → IsStill (Some client) (get new.slots key)
has_turn key client old new (inl (queued, is, turns)) = (told_by false false client, is, refl, refl)
has_turn key client old new (inr (inl (queued, is, turns))) = (with_turn (told_by false false client), is, refl, refl)
has_turn key client old new (inr (inr (queued, is, turns, full))) = (told_by false false client, is, refl, refl)

one_turn : (old new : Clients) (key : ℕ) (found : Option ClientState) → get old.slots key ≡ found → found ≢ None
    → ((client : ClientState) → get old.slots key ≡ Some client → HasTurn key (told_by false false client) old new)
    → IsStill found (get new.slots key)
one_turn old new key None is some turn = absurd (some refl)
one_turn old new key (Some client) is some turn = has_turn key client old new (turn client is)

pub woken_one : (old new : Clients) (key : ℕ) → get old.slots key ≢ None
    → ((client : ClientState) → get old.slots key ≡ Some client → HasTurn key (told_by false false client) old new)
    → OthersStay key old new → HaveTurns old.slots new.slots
woken_one old new key some turn others at = elim (eqb_tells at key) [
  | inl same ↦
      subst (λ (one : ℕ). IsStill (get old.slots one) (get new.slots one)) (sym same.1)
      (one_turn old new key (get old.slots key) refl some turn)
  | inr apart ↦ subst (IsStill (get old.slots at)) (sym (others at apart.1)) (no_turns old.slots at)
]
