-- The packets of a stream's pages after the packets of those before them. These are laws, to be cited.
use Rattle.std.proofs.Common.{◌≡◌, ℕ, List, [], ◌∷◌, ◌++◌, length, drop, refl, sym, ◌∙◌, ap, append_assoc}
use Rattle.std.specs.List.{AllByRecursion, flat_map, concat}
use Rattle.std.proofs.lemmas.List.{append-nil}
use Rattle.std.proofs.lemmas.List.Concat.{flat_map-append}
use Rattle.ogg_page.specs.Page.{Page}
use Rattle.ogg_page.specs.Lacing.{lace}
use Rattle.ogg_page.specs.LogicalStream.{HoldsPackets, joined_lacing, joined_bodies}
use Rattle.ogg_page.specs.StreamLaws.{same_lacing, some_values}
use Rattle.ogg_page.specs.Laws.Prefixes.{same_fronts}

-- if these values and bytes follow those of packets, they are those of the packets that follow
record AreRest (ps qs : List (List ℕ)) (lacing bodies : List ℕ) : Type 0 where
  pub lacing_is : lacing ≡ flat_map lace (drop (length ps) qs)
  pub bodies_are : bodies ≡ concat (drop (length ps) qs)

rest_of : (ps qs : List (List ℕ)) (lacing bodies : List ℕ) → flat_map lace ps ++ lacing ≡ flat_map lace qs → concat ps ++ bodies ≡ concat qs → AreRest ps qs lacing bodies
rest_of [] qs lacing bodies e f = record { lacing_is = e; bodies_are = f }
rest_of (p ∷ ps) [] lacing bodies e f =
    absurd (some_values p (flat_map lace ps ++ lacing) (sym (sym (append_assoc (lace p) (flat_map lace ps) lacing) ∙ e)))
rest_of (p ∷ ps) (q ∷ qs) lacing bodies e f =
    let values : (length p ≡ length q) × (flat_map lace ps ++ lacing ≡ flat_map lace qs) =
    same_lacing p q (flat_map lace ps ++ lacing) (flat_map lace qs) (sym (append_assoc (lace p) (flat_map lace ps) lacing) ∙ e) in
    let bytes : (p ≡ q) × (concat ps ++ bodies ≡ concat qs) =
    same_fronts p q (concat ps ++ bodies) (concat qs) values.0 (sym (append_assoc p (concat ps) bodies) ∙ f) in
    let rest : AreRest ps qs lacing bodies = rest_of ps qs lacing bodies values.1 bytes.1 in
    record { lacing_is = rest.lacing_is; bodies_are = rest.bodies_are }

-- pages after pages hold the packets that follow
pub held_rest : (xs ys : List Page) (ps qs : List (List ℕ)) → HoldsPackets xs ps 0 [] → HoldsPackets (xs ++ ys) qs 0 [] → HoldsPackets ys (drop (length ps) qs) 0 []
held_rest xs ys ps qs a b =
    let la : joined_lacing xs ≡ flat_map lace ps = a.lacing ∙ append-nil (flat_map lace ps) in
    let lb : joined_lacing xs ++ joined_lacing ys ≡ flat_map lace qs =
    sym (flat_map-append (λ (p : Page). p.lacing) xs ys) ∙ b.lacing ∙ append-nil (flat_map lace qs) in
    let ba : joined_bodies xs ≡ concat ps = a.bodies ∙ append-nil (concat ps) in
    let bb : joined_bodies xs ++ joined_bodies ys ≡ concat qs =
    sym (flat_map-append (λ (p : Page). p.body) xs ys) ∙ b.bodies ∙ append-nil (concat qs) in
    let rest : AreRest ps qs (joined_lacing ys) (joined_bodies ys) =
    rest_of ps qs (joined_lacing ys) (joined_bodies ys) (ap (λ l. l ++ joined_lacing ys) (sym la) ∙ lb) (ap (λ l. l ++ joined_bodies ys) (sym ba) ∙ bb) in
    record {
      lacing = rest.lacing_is ∙ sym (append-nil (flat_map lace (drop (length ps) qs)));
      bodies = rest.bodies_are ∙ sym (append-nil (concat (drop (length ps) qs)));
      rest_size = refl;
    }

-- pages with no lacing values and no body hold no packet
abbrev pub HoldsNothing : Page → Type 0
HoldsNothing page = (page.lacing ≡ []) × (page.body ≡ [])

no_values : (pages : List Page) → AllByRecursion HoldsNothing pages → joined_lacing pages ≡ []
no_values [] h = refl
no_values (page ∷ pages) h = ap (λ l. l ++ joined_lacing pages) h.0.0 ∙ no_values pages h.1

no_bytes : (pages : List Page) → AllByRecursion HoldsNothing pages → joined_bodies pages ≡ []
no_bytes [] h = refl
no_bytes (page ∷ pages) h = ap (λ l. l ++ joined_bodies pages) h.0.1 ∙ no_bytes pages h.1

pub none_held : (pages : List Page) → AllByRecursion HoldsNothing pages → HoldsPackets pages [] 0 []
none_held pages h = record { lacing = no_values pages h; bodies = no_bytes pages h; rest_size = refl }
