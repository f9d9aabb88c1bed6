-- What becomes of a connection in a spare place whose bytes have come.
use Rattle.std.proofs.Common.{◌≡◌, ℕ, Bool, Option, None, List, subst, inl, inr}
use Rattle.serve_clients.specs.Client.{ClientState, HasLast}
use Rattle.serve_sources.specs.declared.answers.TheConstants.{FULL}
use Rattle.serve_sources.specs.declared.asking.Asks.TheVariants as Asks
use Rattle.serve_sources.specs.declared.own.OwnResource.{OwnResource}
use Rattle.serve_sources.specs.declared.password.Password.{Password}
use Rattle.station_hub.specs.Asking.{HasAsked}
use Rattle.station.specs.Asked.{moved}
use Rattle.station.specs.Spare.{AsksElse, AsksOwn, AwaitsMore, IsAnsweredInSpare}

pub awaits_more : (bytes : List ℕ) (client one after : ClientState) → one ≡ moved client → HasAsked Asks.More bytes one after → AwaitsMore bytes client after
awaits_more bytes client one after is asked = subst (λ (it : ClientState). HasAsked Asks.More bytes it after) is asked

pub asks_own : (bytes : List ℕ) (resource : OwnResource) (head : Bool) (client one asked after : ClientState) → one ≡ moved client
    → HasAsked (Asks.Own resource head) bytes one asked → IsAnsweredInSpare resource head asked after → AsksOwn bytes client after
asks_own bytes resource head client one asked after was asks answered =
    let (own, becomes) = subst (λ (it : ClientState). HasAsked (Asks.Own resource head) bytes it asked) was asks in
    (resource, head, asked.head_room, own, subst (λ (it : ClientState). IsAnsweredInSpare resource head it after) becomes answered)

pub asks_file : (password : Option Password) (bytes : List ℕ) (client one asked after : ClientState) → one ≡ moved client
    → HasAsked Asks.File bytes one asked → HasLast FULL.now asked after → AsksElse password bytes client after
asks_file password bytes client one asked after was asks last =
    let (other, becomes) = subst (λ (it : ClientState). HasAsked Asks.File bytes it asked) was asks in
    (inl other, (asked.head_room, subst (λ (it : ClientState). HasLast FULL.now it after) becomes last))

pub asks_stream : (password : Option Password) (bytes : List ℕ) (client one asked after : ClientState) → one ≡ moved client
    → HasAsked Asks.Source bytes one asked → password ≡ None → HasLast FULL.now asked after → AsksElse password bytes client after
asks_stream password bytes client one asked after was asks unset last =
    let (source, becomes) = subst (λ (it : ClientState). HasAsked Asks.Source bytes it asked) was asks in
    (inr (source, unset), (asked.head_room, subst (λ (it : ClientState). HasLast FULL.now it after) becomes last))
