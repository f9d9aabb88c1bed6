-- A source whose head hasn't come whole.
use Rattle.std.proofs.Common.{◌≡◌, ◌⊎◌, ℕ, List, subst, inl, inr}
use Rattle.httparse.specs.Grammar.{RequestHead}
use Rattle.serve_sources.specs.Asking.{HasHead}
use Rattle.serve_sources.specs.Offer.{Decision, IsOffer, IsUnread, Says, refuse, take_body, take_nothing}
use Rattle.serve_sources.specs.declared.offer.Offer.{Offer}
use Rattle.serve_sources.specs.declared.offer.Offer.TheVariants as Offered
use Rattle.serve_sources.specs.declared.refused.Refused.{Refused}

more_refused : (why : Refused) → Offered.More ≡ Offered.Refused why → ⊥
more_refused why e = cc

more_nothing : (used : ℕ) → Offered.More ≡ Offered.Nothing used → ⊥
more_nothing used e = cc

-- a head says more than that
says_more : (used : ℕ) (decision : Decision) → IsOffer used decision Offered.More → ⊥
says_more used (refuse why) e = more_refused why e
says_more used take_nothing e = more_nothing used e
says_more used (take_body framing reply) e = e

pub is_unread : (password : List ℕ) (head : List ℕ) (offer : Offer) → offer ≡ Offered.More
    → ((request : RequestHead) × HasHead head request × Says password request offer) ⊎ IsUnread head offer → IsUnread head Offered.More
is_unread password head offer more (inl (request, has, says)) = absurd (says_more _ _ (subst (Says password request) more says))
is_unread password head offer more (inr unread) = subst (IsUnread head) more unread
