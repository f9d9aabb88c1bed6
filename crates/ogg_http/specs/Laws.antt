-- What the answers of `httparse` say of a head.
use Rattle.std.proofs.Common.{◌≡◌, ℕ, ◌<◌, ◌≤◌, List, [], length, take, min, map, ◌⊎◌, inl, inr, Ok, ◌≢◌, arith, refl, ap, ◌∙◌, subst}
use Rattle.std.proofs.lemmas.List.{take_min, take_all, length-take, length-map}
use Rattle.httparse.specs.Grammar.{Field}
use Rattle.httparse.specs.Outcome.{OnPartial, IfComplete, IsCompleteAnd}
use Rattle.httparse.specs.Spans.{AreFieldsAt, header_bytes, name_and_value}
use Rattle.httparse.specs.declared.Error.{Error}
use Rattle.httparse.specs.declared.Error.TheVariants.{HeaderName, HeaderValue, NewLine, Status as StatusError, Token, TooManyHeaders, Version}
use Rattle.httparse.specs.declared.Status.{Status}
use Rattle.httparse.specs.declared.Status.TheVariants.{Complete, Partial}
use Rattle.httparse.specs.declared.spans.HeaderSpan.{HeaderSpan}
use Rattle.ogg_http.specs.Head.{head_bytes, most_bytes, most_fields}

-- the bytes in which a head is looked for
pub front_is : (n : ℕ) (bytes : List ℕ) → n ≡ min (length bytes) 8192 → take n bytes ≡ head_bytes bytes
front_is n bytes e = ap (λ k. take k bytes) (omega (arith, e)) ∙ take_min 8192 bytes

-- under the limit these are all
pub front_is_all : (n : ℕ) (bytes : List ℕ) → n ≡ min (length bytes) 8192 → length bytes < most_bytes → take n bytes ≡ bytes
front_is_all n bytes e short = front_is n bytes e ∙ take_all 8192 bytes (omega (arith, short))

-- what is ensured of an answer holds of the variant that it is
pub on_partial : {A : Type 0} (s : Status A) (P : Type 0) → s ≡ Partial → OnPartial {E = Error} (Ok s) P → P
on_partial s P e h = subst (λ t. OnPartial {E = Error} (Ok t) P) e h

pub if_complete : {A : Type 0} (s : Status A) (a : A) (P : A → Type 0) → s ≡ Complete a → IfComplete {E = Error} (Ok s) P → P a
if_complete s a P e h = subst (λ t. IfComplete {E = Error} (Ok t) P) e h

pub is_complete_and : {A : Type 0} (s : Status A) (a : A) (P : A → Type 0) → s ≡ Complete a → IsCompleteAnd {E = Error} (Ok s) P → P a
is_complete_and s a P e h = subst (λ t. IsCompleteAnd {E = Error} (Ok t) P) e h

-- an error is about the room or about the bytes
pub by_error : {A B : Type 0} (e : Error) → (e ≢ TooManyHeaders → A) → (e ≡ TooManyHeaders → B) → A ⊎ B
by_error HeaderName f g = inl (f (λ e. cc))
by_error HeaderValue f g = inl (f (λ e. cc))
by_error NewLine f g = inl (f (λ e. cc))
by_error StatusError f g = inl (f (λ e. cc))
by_error Token f g = inl (f (λ e. cc))
by_error TooManyHeaders f g = inr (g refl)
by_error Version f g = inl (f (λ e. cc))

-- there are no more fields than spans
pub few_fields : (bytes : List ℕ) (spans : List HeaderSpan) (n : ℕ) (fields : List Field) → AreFieldsAt bytes spans n fields → length spans ≤ most_fields → length fields ≤ most_fields
few_fields bytes spans n fields covers few =
    let same : length (map (header_bytes bytes) (take n spans)) ≡ length (map name_and_value fields) = ap length covers in
    omega (arith, same, few, length-map (take n spans) (header_bytes bytes), length-map fields name_and_value, length-take n spans)
