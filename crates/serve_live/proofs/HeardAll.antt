-- A listener that has heard all that is committed.
use Rattle.std.proofs.Common.{◌≡◌, ℕ, ◌≤◌, ◌&&◌, Bool, true, false, List, [], ◌∷◌, ◌++◌, length, drop, refl, sym, ◌∙◌, ap, arith, length-append, inl, inr}
use Rattle.std.specs.Prelude.{◌==◌, nat_le}
use Rattle.std.proofs.lemmas.Bool.Decides.{eqb_tells, leb_tells}
use Rattle.ogg_page.specs.Page.{Page, page_bytes, bytes_of_pages}
use Rattle.ogg_page.specs.PageLaws.{length-page_bytes}
use Rattle.serve_live.specs.Names.{name_in}
use Rattle.serve_live.specs.Heard.{named_after}
use Rattle.serve_live.specs.Listening.{ArePagesLeft, IsLeft, IsWithin, ListenerState, has_heard_all, part_at}
use Rattle.serve_live.specs.declared.names.StreamName.{StreamName}

false_true : false ≡ true → ⊥
false_true e = cc

both : (a b : Bool) → (a && b) ≡ true → (a ≡ true) × (b ≡ true)
both true b e = (refl, e)
both false b e = absurd (false_true e)

le_of : (a b : ℕ) → nat_le a b ≡ true → a ≤ b
le_of a b e = elim (leb_tells a b) [
  | inl is ↦ is.1
  | inr isnt ↦ absurd (false_true (sym isnt.0 ∙ e))
]

eq_of : (a b : ℕ) → (a == b) ≡ true → a ≡ b
eq_of a b e = elim (eqb_tells a b) [
  | inl is ↦ is.1
  | inr isnt ↦ absurd (false_true (sym isnt.0 ∙ e))
]

empty : (bytes : List ℕ) → length bytes ≤ 0 → bytes ≡ []
empty [] none = refl
empty (byte ∷ bytes) none = absurd (omega (arith, none))

no_pages : (committed : List ℕ) (names : List StreamName) (place skip : ℕ) (rest : List ℕ) → length committed ≤ place → ArePagesLeft committed names place skip rest
    → rest ≡ []
no_pages committed names place skip rest end left = from left.pages left.split left.inside left.rest_is
  where
    from : (pages : List Page) → committed ≡ left.front ++ bytes_of_pages pages → IsWithin skip pages
        → rest ≡ drop skip (bytes_of_pages (named_after (name_in names) pages)) → rest ≡ []
    from [] split inside is = is ∙ ap (λ (n : ℕ). drop {A = ℕ} n []) inside
    from (page ∷ pages) split inside is =
        absurd (omega (
          arith,
          ap length split,
          length-append left.front (bytes_of_pages (page ∷ pages)),
          length-append (page_bytes page) (bytes_of_pages pages),
          length-page_bytes page,
          left.place_is,
          end,
        ))

-- nothing is left of what is committed
pub nothing_left : (committed rest : List ℕ) (listener : ListenerState) → has_heard_all (length committed) listener ≡ true → IsLeft committed listener rest → rest ≡ []
nothing_left committed rest listener is left =
    let (begun, others) = both (listener.begin_left == 0) (nat_le (length listener.text) 0 && nat_le (length committed) listener.place) is in
    let (told, heard) = both (nat_le (length listener.text) 0) (nat_le (length committed) listener.place) others in
    let pages = no_pages committed listener.names listener.place listener.skip left.pages (le_of (length committed) listener.place heard) left.pages_left in
    left.joined
    ∙ ap (λ (n : ℕ). part_at listener.begin_place n committed ++ (listener.text ++ left.pages)) (eq_of listener.begin_left 0 begun)
    ∙ ap (λ (text : List ℕ). text ++ left.pages) (empty listener.text (le_of (length listener.text) 0 told))
    ∙ pages
