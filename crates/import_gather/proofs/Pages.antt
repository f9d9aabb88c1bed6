-- What the pages of a link hold, with another page.
use Rattle.std.proofs.Common.{◌≡◌, ℕ, Bool, true, false, List, [], ◌∷◌, ◌++◌, length, replicate, refl, sym, ◌∙◌, ap, subst, arith, append_assoc, append-nil}
use Rattle.std.specs.Prelude.{nat_eq, ◌||◌}
use Rattle.std.specs.List.{flat_map, concat, list_any}
use Rattle.std.proofs.lemmas.List.Concat.{flat_map-append}
use Rattle.std.proofs.lemmas.Bool.{eqb-false, eq-eqb}
use Rattle.ogg_page.specs.Page.{Page}
use Rattle.ogg_page.specs.Lacing.{lace, ends_open}
use Rattle.ogg_page.specs.LogicalStream.{HoldsPackets, joined_lacing, joined_bodies, is_last}
use Rattle.ogg_page.specs.StreamLaws.{concat-append}
use Rattle.link_chain.specs.Links.{pages_with, has_ended}
use Rattle.link_chain.specs.Recording.{Stream, HoldsStream}
use Rattle.link_chain.specs.Laws.Grow.{with_own, with_other}
use Rattle.import_gather.specs.Kept.{KeptStream}
use Rattle.import_gather.specs.Cutting.{CutsInto, EndIn}
use Rattle.import_gather.specs.Giving.{bare}
use Rattle.import_gather.specs.Gathered.{KeepsUp}
use Rattle.import_gather.proofs.Issued.{grown, grows, grows_own, grows_other}
use Rattle.std.proofs.Math.Bool.{or-false}
use Rattle.link_chain.specs.Laws.LeftWhole.{no_segment}

-- the packets that end in the page are the next ones
pub held_more : (before : List Page) (page : Page) (packets : List (List ℕ)) (segments : ℕ) (rest : List ℕ) (more : List (List ℕ)) (left : List ℕ) → HoldsPackets before packets segments rest →
    CutsInto segments rest page.lacing page.body more left → (later : ℕ) × HoldsPackets (before ++ page ∷ []) (packets ++ more) later left
held_more before page packets segments rest more left h c = (
  c.later,
  record {
    lacing = flat_map-append (λ (p : Page). p.lacing) before (page ∷ []) ∙ ap (λ l. joined_lacing before ++ l) (append-nil page.lacing)
        ∙ ap (λ l. l ++ page.lacing) h.lacing ∙ append_assoc (flat_map lace packets) (replicate segments 255) page.lacing
        ∙ ap (λ l. flat_map lace packets ++ l) c.lacing ∙ sym (append_assoc (flat_map lace packets) (flat_map lace more) (replicate c.later 255))
        ∙ ap (λ l. l ++ replicate c.later 255) (sym (flat_map-append lace packets more));
    bodies = flat_map-append (λ (p : Page). p.body) before (page ∷ []) ∙ ap (λ l. joined_bodies before ++ l) (append-nil page.body)
        ∙ ap (λ l. l ++ page.body) h.bodies ∙ append_assoc (concat packets) rest page.body
        ∙ ap (λ l. concat packets ++ l) c.bodies ∙ sym (append_assoc (concat packets) (concat more) left)
        ∙ ap (λ l. l ++ left) (sym (concat-append packets more));
    rest_size = c.left_size;
  },
)

not_same : (m n : ℕ) → nat_eq m n ≡ false → n ≡ m → ⊥
not_same m n e f = eqb-false m n e (sym f)

-- another stream has not changed
pub keeps_other : (pages : List Page) (page : Page) (kept : KeptStream) (stream : Stream) → nat_eq kept.serial page.serial ≡ false → KeepsUp pages kept stream → KeepsUp (pages ++ page ∷ []) kept stream
keeps_other pages page kept stream other k =
    let same : pages_with kept.serial (pages ++ page ∷ []) ≡ pages_with kept.serial pages = with_other page.serial kept.serial pages (page ∷ []) (refl, tt) (not_same kept.serial page.serial other) in
    record {
      serial = k.serial;
      segments = k.segments;
      packets = subst (λ (l : List Page). HoldsPackets l stream.packets k.segments kept.rest) (sym same) k.packets;
      ended = k.ended ∙ ap (list_any is_last) (sym same);
      marked = k.marked;
    }

ended_own : (pages : List Page) (page : Page) (serial : ℕ) → serial ≡ page.serial → has_ended (pages ++ page ∷ []) serial ≡ (has_ended pages serial || is_last page)
ended_own pages page serial own =
    ap (list_any is_last) (with_own serial pages (page ∷ []) (sym own, tt)) ∙ any_push (pages_with serial pages)
  where
    or_more : (a b c : Bool) → (a || (b || c)) ≡ ((a || b) || c)
    or_more true b c = refl
    or_more false b c = refl

    any_push : (l : List Page) → list_any is_last (l ++ page ∷ []) ≡ (list_any is_last l || is_last page)
    any_push [] = or-false (is_last page)
    any_push (p ∷ l) = ap (λ b. is_last p || b) (any_push l) ∙ or_more (is_last p) (list_any is_last l) (is_last page)

-- the page's stream has the packets that end in it
keeps_own : (pages : List Page) (page : Page) (old new : KeptStream) (stream : Stream) (more : List (List ℕ)) → old.serial ≡ page.serial → new.serial ≡ old.serial →
    EndIn old.rest page more new.rest → new.ended ≡ (old.ended || is_last page) → KeepsUp pages old stream → KeepsUp (pages ++ page ∷ []) new (grown more (is_last page) stream)
keeps_own pages page old new stream more own same cut ended k =
    let with_page : pages_with new.serial (pages ++ page ∷ []) ≡ pages_with old.serial pages ++ page ∷ [] =
    ap (λ s. pages_with s (pages ++ page ∷ [])) same ∙ with_own old.serial pages (page ∷ []) (sym own, tt) in
    let held = held_more (pages_with old.serial pages) page stream.packets k.segments old.rest more new.rest k.packets (cut k.segments k.packets.rest_size) in
    record {
      serial = k.serial ∙ sym same;
      segments = held.0;
      packets = subst (λ (l : List Page). HoldsPackets l (stream.packets ++ more) held.0 new.rest) (sym with_page) held.1;
      ended = ap (λ b. b || is_last page) k.ended ∙ sym (ended_own pages page old.serial own) ∙ ap (has_ended (pages ++ page ∷ [])) (sym same);
      marked = ended ∙ ap (λ b. b || is_last page) k.marked;
    }

pub keeps_grown : (pages : List Page) (page : Page) (old new : KeptStream) (stream : Stream) (more : List (List ℕ)) → old.serial ≡ page.serial → new.serial ≡ old.serial →
    EndIn old.rest page more new.rest → new.ended ≡ (old.ended || is_last page) → KeepsUp pages old stream → KeepsUp (pages ++ page ∷ []) new (grows page more (is_last page) stream)
keeps_grown pages page old new stream more own same cut ended k =
    subst (KeepsUp (pages ++ page ∷ []) new) (sym (grows_own page more (is_last page) stream (eq-eqb stream.serial page.serial (k.serial ∙ own))))
    (keeps_own pages page old new stream more own same cut ended k)

pub keeps_beside : (pages : List Page) (page : Page) (kept : KeptStream) (stream : Stream) (more : List (List ℕ)) → nat_eq kept.serial page.serial ≡ false →
    KeepsUp pages kept stream → KeepsUp (pages ++ page ∷ []) kept (grows page more (is_last page) stream)
keeps_beside pages page kept stream more other k =
    subst (KeepsUp (pages ++ page ∷ []) kept) (sym (grows_other page more (is_last page) stream (ap (λ s. nat_eq s page.serial) k.serial ∙ other)))
    (keeps_other pages page kept stream other k)

pub keeps_bare : (pages : List Page) (kept : KeptStream) (stream : Stream) → KeepsUp pages kept stream → KeepsUp pages (bare kept) stream
keeps_bare pages kept stream k = record { serial = k.serial; segments = k.segments; packets = k.packets; ended = k.ended; marked = k.marked }

-- ---- a stream whose last packet is whole
pub keeps_whole : (pages : List Page) (kept : KeptStream) (stream : Stream) → ends_open (joined_lacing (pages_with kept.serial pages)) ≡ false → KeepsUp pages kept stream → HoldsStream pages kept.serial stream
keeps_whole pages kept stream closed k =
    let none : k.segments ≡ 0 = no_segment stream.packets k.segments (ap ends_open (sym k.packets.lacing) ∙ closed) in
    let nothing : kept.rest ≡ [] = empty kept.rest (omega (arith, k.packets.rest_size, none)) in
    record {
      serial_is = k.serial;
      packets = record {
        lacing = k.packets.lacing ∙ ap (λ n. flat_map lace stream.packets ++ replicate n 255) none;
        bodies = k.packets.bodies ∙ ap (λ l. concat stream.packets ++ l) nothing;
        rest_size = refl;
      };
      ended = k.ended;
    }
  where
    empty : (xs : List ℕ) → length xs ≡ 0 → xs ≡ []
    empty [] e = refl
    empty (x ∷ xs) e = absurd (omega (arith, e))
