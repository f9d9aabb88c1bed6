-- Lacing values are cut off one after the other.
use Rattle.std.proofs.Common.{◌≡◌, ℕ, suc, ◌+◌, ◌*◌, ◌<◌, ◌≤◌, List, [], ◌∷◌, ◌++◌, length, drop, replicate, refl, sym, ◌∙◌, ap, arith, append_assoc, append-nil, length-append, sum, get_or}
use Rattle.std.specs.List.{flat_map, concat}
use Rattle.std.proofs.lemmas.List.Concat.{flat_map-append}
use Rattle.std.proofs.lemmas.List.Sums.{sum_by-drop_more}
use Rattle.std.proofs.Math.ListN.{drop_of_length-le}
use Rattle.ogg_page.specs.Lacing.{lace}
use Rattle.ogg_page.specs.StreamLaws.{concat-append}
use Rattle.import_gather.specs.Cutting.{CutsInto}
use Rattle.link_chain.specs.Laws.LeftWhole.{lace_is, one_more_full}

-- the values so far, with the bytes that are left of the body
pub record CutSoFar (segments : ℕ) (rest values body : List ℕ) (packets : List (List ℕ)) (unfinished left : List ℕ) : Type 0 where
  pub later : ℕ
  pub lacing : replicate segments 255 ++ values ≡ flat_map lace packets ++ replicate later 255
  pub bodies : rest ++ body ≡ concat packets ++ (unfinished ++ left)
  pub left_size : length unfinished ≡ 255 * later

more_values : (segments later value : ℕ) (values : List ℕ) (packets : List (List ℕ)) → replicate segments 255 ++ values ≡ flat_map lace packets ++ replicate later 255 →
    replicate segments 255 ++ (values ++ value ∷ []) ≡ flat_map lace packets ++ (replicate later 255 ++ value ∷ [])
more_values segments later value values packets e =
    sym (append_assoc (replicate segments 255) values (value ∷ [])) ∙ ap (λ l. l ++ value ∷ []) e
    ∙ append_assoc (flat_map lace packets) (replicate later 255) (value ∷ [])

-- another whole segment
pub cut_full : (segments : ℕ) (rest values body : List ℕ) (packets : List (List ℕ)) (unfinished left piece others : List ℕ) (value : ℕ) → value ≡ 255 → length piece ≡ value → left ≡ piece ++ others →
    CutSoFar segments rest values body packets unfinished left → CutSoFar segments rest (values ++ value ∷ []) body packets (unfinished ++ piece) others
cut_full segments rest values body packets unfinished left piece others value full size split c = record {
  later = suc c.later;
  lacing = more_values segments c.later value values packets c.lacing
      ∙ ap (λ v. flat_map lace packets ++ (replicate c.later 255 ++ v ∷ [])) full
      ∙ ap (λ l. flat_map lace packets ++ l) (one_more_full c.later [] ∙ append-nil (replicate (suc c.later) 255));
  bodies = c.bodies ∙ ap (λ l. concat packets ++ (unfinished ++ l)) split ∙ ap (λ l. concat packets ++ l) (sym (append_assoc unfinished piece others));
  left_size = length-append unfinished piece ∙ omega (arith, c.left_size, full, size);
}

-- a packet ends
pub cut_end : (segments : ℕ) (rest values body : List ℕ) (packets : List (List ℕ)) (unfinished left piece others : List ℕ) (value : ℕ) → value < 255 → length piece ≡ value → left ≡ piece ++ others →
    CutSoFar segments rest values body packets unfinished left → CutSoFar segments rest (values ++ value ∷ []) body (packets ++ (unfinished ++ piece) ∷ []) [] others
cut_end segments rest values body packets unfinished left piece others value small size split c =
    let packet : List ℕ = unfinished ++ piece in
    let long : length packet ≡ 255 * c.later + value = length-append unfinished piece ∙ omega (arith, c.left_size, size) in
    record {
      later = 0;
      lacing = more_values segments c.later value values packets c.lacing
          ∙ ap (λ l. flat_map lace packets ++ l) (sym (lace_is packet c.later value small long) ∙ sym (append-nil (lace packet)))
          ∙ sym (flat_map-append lace packets (packet ∷ []))
          ∙ sym (append-nil (flat_map lace (packets ++ packet ∷ [])));
      bodies = c.bodies ∙ ap (λ l. concat packets ++ (unfinished ++ l)) split ∙ ap (λ l. concat packets ++ l) (sym (append_assoc unfinished piece others))
          ∙ sym (append_assoc (concat packets) packet others)
          ∙ ap (λ l. l ++ others) (ap (λ l. concat packets ++ l) (sym (append-nil packet)) ∙ sym (concat-append packets (packet ∷ [])));
      left_size = refl;
    }

pub cut_all : (segments : ℕ) (rest values body : List ℕ) (packets : List (List ℕ)) (unfinished left : List ℕ) → left ≡ [] → CutSoFar segments rest values body packets unfinished left →
    CutsInto segments rest values body packets unfinished
cut_all segments rest values body packets unfinished left none c = record {
  later = c.later;
  lacing = c.lacing;
  bodies = c.bodies ∙ ap (λ l. concat packets ++ (unfinished ++ l)) none ∙ ap (λ l. concat packets ++ l) (append-nil unfinished);
  left_size = c.left_size;
}

-- ---- the step of the loop
pub cut_same : (segments : ℕ) (rest body values also : List ℕ) (packets other : List (List ℕ)) (unfinished open' left last : List ℕ) → also ≡ values → other ≡ packets → open' ≡ unfinished → last ≡ left →
    CutSoFar segments rest values body packets unfinished left → CutSoFar segments rest also body other open' last
cut_same segments rest body values also packets other unfinished open' left last ev ep eu el c = record {
  later = c.later;
  lacing = ap (λ z. replicate segments 255 ++ z) ev ∙ c.lacing ∙ ap (λ z. flat_map lace z ++ replicate c.later 255) (sym ep);
  bodies = c.bodies ∙ ap (λ z. concat z ++ (unfinished ++ left)) (sym ep) ∙ ap (λ z. concat other ++ (z ++ left)) (sym eu) ∙ ap (λ z. concat other ++ (open' ++ z)) (sym el);
  left_size = ap length eu ∙ c.left_size;
}

pub whole_on : (lacing left piece others : List ℕ) (i value : ℕ) → i < length lacing → value ≡ get_or lacing i 0 → sum (drop i lacing) ≡ length left → length piece ≡ value → left ≡ piece ++ others →
    sum (drop (i + 1) lacing) ≡ length others
whole_on lacing left piece others i value inside is whole size split =
    omega (arith, sum_by-drop_more (λ (x : ℕ). x) lacing i 0 inside, ap length split, length-append piece others, size, is, whole)

pub nothing_left : (lacing left : List ℕ) (i : ℕ) → length lacing ≤ i → sum (drop i lacing) ≡ length left → left ≡ []
nothing_left lacing left i past whole =
    empty left (sym whole ∙ ap sum (drop_of_length-le lacing past))
  where
    empty : (xs : List ℕ) → length xs ≡ 0 → xs ≡ []
    empty [] e = refl
    empty (x ∷ xs) e = absurd (omega (arith, e))
