-- What is refused whatever else a head says.
use Rattle.std.proofs.Common.{◌≡◌, ℕ, ◌<◌, Bool, true, false, cond, not, ◌&&◌, ◌==◌, nat_lt, min, count_by, List, ◌⊎◌, Option, Some, None, length, map, codes, inl, inr, arith, refl, ap, ◌∙◌, subst}
use Rattle.std.proofs.lemmas.Bool.{lt-ltb}
use Rattle.std.specs.Str.{bytes_eq}
use Rattle.httparse.specs.Grammar.{RequestHead, print_request}
use Rattle.httparse.specs.Spans.{name_and_value}
use Rattle.http1.specs.Fields.{Header, is_framing_field, known_fields}
use Rattle.http1.specs.declared.framing.Framing.{Framing}
use Rattle.serve_sources.specs.declared.offer.Offer.{Offer}
use Rattle.serve_sources.specs.declared.offer.Offer.TheVariants as Offered
use Rattle.serve_sources.specs.declared.refused.Refused.TheVariants.{BadRequest, Unauthorized}
use Rattle.serve_sources.specs.declared.reply.Reply.{Reply}
use Rattle.serve_sources.specs.Credentials.{authorizes}
use Rattle.serve_sources.specs.Fields.{only}
use Rattle.serve_sources.specs.Framing.{framing_by, framing_of, has_host}
use Rattle.serve_sources.specs.Offer.{IsOffer, Says, by_framing, decision_by}

no_body : (framing : Option Framing) (reply : Reply) (used : ℕ) (offer : Offer) → IsOffer used (by_framing framing false reply) offer → (offer ≡ Offered.Refused BadRequest) ⊎ (offer ≡ Offered.Refused Unauthorized)
no_body None reply used offer is = inl is
no_body (Some framing) reply used offer is = inr is

-- without the password nothing is taken
pub none_without_password : (password : List ℕ) (head : RequestHead) (offer : Offer) → authorizes (only (codes "authorization") (map name_and_value head.fields)) password ≡ false → Says password head offer → (offer ≡ Offered.Refused BadRequest) ⊎ (offer ≡ Offered.Refused Unauthorized)
none_without_password password head offer wrong says =
    no_body _ _ (length (print_request head)) offer
    (subst (λ authorized. IsOffer (length (print_request head)) (decision_by (bytes_eq head.method (codes "SOURCE")) (head.minor == 1) (known_fields (map name_and_value head.fields)) authorized) offer) wrong says)

neither : (b : Bool) (x : Option Framing) → cond (b && not true) x None ≡ None
neither true x = refl
neither false x = refl

-- two fields that frame the body are refused
pub none_with_two_framings : (http11 : Bool) (fields : List Header) → 1 < count_by is_framing_field fields → framing_of http11 (known_fields fields) ≡ None
unfolding known_fields
none_with_two_framings http11 fields two =
    let known = known_fields fields in
    let many : nat_lt 1 (min (count_by is_framing_field fields) 2) ≡ true = lt-ltb _ _ (omega (arith, two)) in
    ap (λ b. cond (has_host http11 known.hosts && not b) (framing_by http11 known.transfer_encoding known.other_coding known.content_length) None) many
    ∙ neither (has_host http11 known.hosts) (framing_by http11 known.transfer_encoding known.other_coding known.content_length)
