-- A connection that is offered, and is put in its place again.
use Rattle.std.proofs.Common.{◌≡◌, ◌≢◌, ◌⊎◌, ℕ, false, true, Option, Some, None, List, length, drop, refl, sym, ◌∙◌, ap, subst, inl, inr}
use Rattle.std.proofs.lemmas.Bool.Decides.{eqb_tells}
use Rattle.std.proofs.lemmas.List.{get_or-set_other}
use Rattle.serve_clients.specs.Client.{ClientState, HasLast}
use Rattle.slab.specs.Slab.{Slab, get, with_value}
use Rattle.import_changes.specs.declared.options.Skeletons.{Skeletons}
use Rattle.import_record.specs.declared.reading.ImportRun.{ImportRun}
use Rattle.serve_sources.specs.Answers.{answer_after, refusal}
use Rattle.serve_sources.specs.Offer.{IsUnread}
use Rattle.serve_sources.specs.declared.body.Body.{Body}
use Rattle.serve_sources.specs.declared.offer.Offer.{Offer}
use Rattle.serve_sources.specs.declared.offer.Offer.TheVariants as Offered
use Rattle.serve_sources.specs.declared.outcome.Outcome.TheVariants.{Whole}
use Rattle.station_sources.specs.Air.{HoldsMore, IsShort, feeder_in}
use Rattle.station_sources.specs.Beginning.{IsNew}
use Rattle.station_sources.specs.declared.air.Feeder.TheVariants.{Peer}
use Rattle.station_sources.specs.declared.air.OnAir.{OnAir}
use Rattle.station.specs.Beginning.{BeginsBeside, options_for, run_in}
use Rattle.station.specs.Found.{placed}
use Rattle.station.specs.Offering.{Feeds, GetsAir, IsRefusal, Leads}
use Rattle.station.specs.Passing.{GoesOnAsSource, OffersOn, has_offered, is_source}
use Rattle.station.specs.Succeeding.{SameWait, WasOffered, is_waiting, waits}
use Rattle.station.proofs.Asked.{begins_none}
use Rattle.station.proofs.Passed.{offered_to, source_is}

-- it is as it was
pub offers_self : (found : Option ClientState) → OffersOn found found
offers_self None = refl
offers_self (Some client) = source_is client

pub offers_placed : (slots : Slab ClientState) (key : ℕ) (old new : ClientState) → get slots key ≡ Some old
    → (is_source old.stage ≡ true → GoesOnAsSource old new) → OffersOn (get slots key) (get (with_value slots key new) key)
offers_placed slots key old new is goes =
    offered_to slots (with_value slots key new) key (Some old) (Some new) is (placed slots key old new is) goes

pub was_placed : (slots : Slab ClientState) (key : ℕ) (old new : ClientState) → get slots key ≡ Some old → WasOffered (Some new)
    → WasOffered (get (with_value slots key new) key)
was_placed slots key old new is was = subst WasOffered (sym (placed slots key old new is)) was

pub was_told : (found : Option ClientState) → waits found ≡ false → WasOffered found
was_told None told = tt
was_told (Some client) told = inl told

-- the others are as they were
pub others_placed : (slots : Slab ClientState) (key : ℕ) (new : ClientState) (other : ℕ) → other ≢ key
    → get (with_value slots key new) other ≡ get slots other
others_placed slots key new other apart = get_or-set_other slots.slots key other (Some new) None apart

-- it waits if it did
pub waits_placed : (slots : Slab ClientState) (key : ℕ) (old new : ClientState) → get slots key ≡ Some old → is_waiting new.stage ≡ is_waiting old.stage
    → SameWait slots (with_value slots key new)
waits_placed slots key old new is same at = elim (eqb_tells at key) [
  | inl here ↦
      subst (λ (one : ℕ). waits (get (with_value slots key new) one) ≡ waits (get slots one)) (sym here.1)
      (ap waits (placed slots key old new is) ∙ same ∙ sym (ap waits is))
  | inr apart ↦ ap waits (others_placed slots key new at apart.1)
]

-- ---- by what comes of its head
some_none : (air : OnAir) → Some air ≡ None → ⊥
some_none air e = cc

pub last_on : (text : List ℕ) (old new : ClientState) → HasLast text old new → GoesOnAsSource old new
last_on text old new (inl is) = (ap (λ (one : ClientState). has_offered one.stage) is, ap (λ (one : ClientState). one.session) is)
last_on text old new (inr (lacks, is)) = (ap (λ (one : ClientState). has_offered one.stage) is, ap (λ (one : ClientState). one.session) is)

last_waits : (text : List ℕ) (old new : ClientState) → HasLast text old new → is_waiting new.stage ≡ false
last_waits text old new (inl is) = ap (λ (one : ClientState). is_waiting one.stage) is
last_waits text old new (inr (lacks, is)) = ap (λ (one : ClientState). is_waiting one.stage) is

feeds_on : (answer : List ℕ) (now : ℕ) (old new : ClientState) → Feeds answer now old new → GoesOnAsSource old new × (is_waiting new.stage ≡ false)
feeds_on answer now old new (inl is) =
    ((ap (λ (one : ClientState). has_offered one.stage) is, ap (λ (one : ClientState). one.session) is), ap (λ (one : ClientState). is_waiting one.stage) is)
feeds_on answer now old new (inr (lacks, is)) =
    ((ap (λ (one : ClientState). has_offered one.stage) is, ap (λ (one : ClientState). one.session) is), ap (λ (one : ClientState). is_waiting one.stage) is)

gets_on : (key used : ℕ) (body : Body) (answer : List ℕ) (now : ℕ) (skeletons : Skeletons) (serials : List ℕ) (new : Option OnAir) (client after : ClientState)
    → GetsAir key used body answer now skeletons serials new client after → GoesOnAsSource client after × (is_waiting after.stage ≡ false)
gets_on key used body answer now skeletons serials new client after (inl (none, is)) =
    ((ap (λ (one : ClientState). has_offered one.stage) is, ap (λ (one : ClientState). one.session) is), ap (λ (one : ClientState). is_waiting one.stage) is)
gets_on key used body answer now skeletons serials new client after (inr (source, is, begins, feeds)) = feeds_on answer now client after feeds

same_import : (bytes : List ℕ) (count : ℕ) (old new : OnAir) → HoldsMore bytes old new ⊎ IsShort count old new → new.import ≡ old.import
same_import bytes count old new (inl holds) = holds.import
same_import bytes count old new (inr short) = short.import

module _ (key now : ℕ) (skeletons : Skeletons) (serials : List ℕ) where
  pub leads_on : (offer : Offer) (old new : Option OnAir) (client after : ClientState) → Leads key now skeletons serials offer old new client after
      → is_source client.stage ≡ true → GoesOnAsSource client after
  leads_on Offered.More old new client after leads source =
      (ap (λ (one : ClientState). has_offered one.stage) leads.1 ∙ (source_is client source).0, ap (λ (one : ClientState). one.session) leads.1)
  leads_on (Offered.Refused why) old new client after leads source = last_on (refusal why) client after leads.1
  leads_on (Offered.Nothing used) old new client after leads source = last_on (answer_after Whole) client after leads.1
  leads_on (Offered.Body used body answer) None new client after leads source =
      (gets_on key used body answer.now now skeletons serials new client after leads).0
  leads_on (Offered.Body used body answer) (Some air) new client after leads source =
      (ap (λ (one : ClientState). has_offered one.stage) leads.1, ap (λ (one : ClientState). one.session) leads.1)

  pub leads_feeder : (offer : Offer) (old new : Option OnAir) (client after : ClientState) → Leads key now skeletons serials offer old new client after
      → (feeder_in new ≡ Some (Peer key)) ⊎ (feeder_in new ≡ feeder_in old)
  leads_feeder Offered.More old new client after leads = inr (ap feeder_in leads.0)
  leads_feeder (Offered.Refused why) old new client after leads = inr (ap feeder_in leads.0)
  leads_feeder (Offered.Nothing used) old new client after leads = inr (ap feeder_in leads.0)
  leads_feeder (Offered.Body used body answer) None new client after (inl (none, is)) = inr (ap feeder_in none)
  leads_feeder (Offered.Body used body answer) None new client after (inr (source, is, begins, feeds)) = inl (ap feeder_in is ∙ ap Some begins.feeder)
  leads_feeder (Offered.Body used body answer) (Some air) new client after leads = inr (ap feeder_in leads.0)

  pub leads_keeps : (offer : Offer) (old new : Option OnAir) (client after : ClientState) → Leads key now skeletons serials offer old new client after
      → old ≢ None → new ≡ old
  leads_keeps Offered.More old new client after leads some = leads.0
  leads_keeps (Offered.Refused why) old new client after leads some = leads.0
  leads_keeps (Offered.Nothing used) old new client after leads some = leads.0
  leads_keeps (Offered.Body used body answer) None new client after leads some = absurd (some refl)
  leads_keeps (Offered.Body used body answer) (Some air) new client after leads some = leads.0

  pub leads_begins : (offer : Offer) (old new : Option OnAir) (client after : ClientState) → Leads key now skeletons serials offer old new client after
      → old ≡ None → BeginsBeside serials skeletons (run_in new)
  leads_begins Offered.More old new client after leads none = begins_none serials skeletons new (leads.0 ∙ none)
  leads_begins (Offered.Refused why) old new client after leads none = begins_none serials skeletons new (leads.0 ∙ none)
  leads_begins (Offered.Nothing used) old new client after leads none = begins_none serials skeletons new (leads.0 ∙ none)
  leads_begins (Offered.Body used body answer) None new client after (inl (free, is)) none = begins_none serials skeletons new free
  leads_begins (Offered.Body used body answer) None new client after (inr (source, is, begins, feeds)) none =
      subst (λ (one : Option OnAir). BeginsBeside serials skeletons (run_in one)) (sym is)
      (subst (λ (run : ImportRun). IsNew (options_for skeletons) serials run)
      (sym (same_import (drop used client.head) (length (drop used client.head)) begins.begun source begins.holds)) begins.begins.is_new)
  leads_begins (Offered.Body used body answer) (Some air) new client after leads none = absurd (some_none air none)

  pub leads_offered : (offer : Offer) (old new : Option OnAir) (client after : ClientState) → Leads key now skeletons serials offer old new client after
      → (offer ≡ Offered.More → IsUnread client.head Offered.More) → old ≡ None → WasOffered (Some after)
  leads_offered Offered.More old new client after leads more none =
      inr (subst (λ (one : ClientState). IsUnread one.head Offered.More) (sym leads.1) (more refl))
  leads_offered (Offered.Refused why) old new client after leads more none = inl (last_waits (refusal why) client after leads.1)
  leads_offered (Offered.Nothing used) old new client after leads more none = inl (last_waits (answer_after Whole) client after leads.1)
  leads_offered (Offered.Body used body answer) None new client after leads more none =
      inl (gets_on key used body answer.now now skeletons serials new client after leads).1
  leads_offered (Offered.Body used body answer) (Some air) new client after leads more none = absurd (some_none air none)

  pub leads_refused : (offer : Offer) (old new : Option OnAir) (client after : ClientState) → Leads key now skeletons serials offer old new client after
      → IsRefusal offer → new ≡ old
  leads_refused Offered.More old new client after leads refused = absurd refused
  leads_refused (Offered.Refused why) old new client after leads refused = leads.0
  leads_refused (Offered.Nothing used) old new client after leads refused = absurd refused
  leads_refused (Offered.Body used body answer) old new client after leads refused = absurd refused
