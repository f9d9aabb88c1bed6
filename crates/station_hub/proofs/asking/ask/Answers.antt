use Rattle.std.proofs.Common.{rules, ◌≡◌, ◌++◌, ◌∙◌, ℕ, Bool, true, List, refl, sym, ap, subst, inl}
use Rattle.serve_clients.specs.Client.{ClientState, with_more}
use Rattle.serve_sources.specs.Asking.{IsOther, IsOwn, MayCome, is_source}
use Rattle.serve_sources.specs.declared.asking.Asks.{Asks}
use Rattle.serve_sources.specs.declared.asking.Asks.TheVariants as Asked
use Rattle.serve_sources.specs.declared.own.OwnResource.{OwnResource}
use Rattle.station_hub.specs.Asking.{HasAsked}
use Rattle.station_hub.proofs.asking.ask.Goals as goal

asks_for : (asks : Asks) (front bytes : List ℕ) (old new : ClientState) → front ≡ old.head ++ bytes → new ≡ with_more new.head_room bytes old
    → (asks ≡ Asked.More → MayCome front) → (asks ≡ Asked.Source → is_source front ≡ true)
    → ((resource : OwnResource) (head : Bool) → asks ≡ Asked.Own resource head → IsOwn resource head front)
    → (asks ≡ Asked.File → IsOther front) → HasAsked asks bytes old new
asks_for Asked.More front bytes old new is becomes may source own other = inl (subst MayCome is (may refl), becomes)
asks_for Asked.Source front bytes old new is becomes may source own other = (ap is_source (sym is) ∙ source refl, becomes)
asks_for (Asked.Own resource head) front bytes old new is becomes may source own other = (subst (IsOwn resource head) is (own resource head refl), becomes)
asks_for Asked.File front bytes old new is becomes may source own other = (subst IsOther is (other refl), becomes)

pub returns-in-Ok-clause-asks : goal.returns-in-Ok-clause-asks
returns-in-Ok-clause-asks c =
    let asked = c.of.ensures in
    asks_for c.of.result c.as_slice.result.now c.args.bytes.now c.args.client.now _ (search rules) (search rules) asked.more (λ e. asked.source.0 e)
    (λ resource head e. (asked.own resource head).0 e) asked.file
