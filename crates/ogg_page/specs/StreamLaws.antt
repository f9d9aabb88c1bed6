-- What holds of the pages of a logical stream and their lacing values (RFC 3533, sections 5 and 6). These are laws,
-- to be cited.
use Rattle.std.proofs.Common.{◌≡◌, ◌≢◌, ℕ, zero, suc, ◌<◌, ◌+◌, ◌-◌, ◌/◌, ◌%◌, Bool, true, false, List, [], ◌∷◌, ◌++◌, length, replicate, refl, sym, ◌∙◌, ap, subst, arith, append_assoc, length-append}
use Rattle.std.specs.Prelude.{nat_eq, slice_index, ◌||◌}
use Rattle.std.specs.List.{flat_map, concat, list_any}
use Rattle.std.proofs.lemmas.List.{append-nil, get_or-append-add}
use Rattle.std.proofs.lemmas.List.Concat.{flat_map-append}
use Rattle.std.proofs.lemmas.List.Folds.{list_any-append}
use Rattle.std.proofs.lemmas.List.Sums.{fold_push}
use Rattle.std.proofs.lemmas.Bool.{ne_eqb, false≢true}
use Rattle.ogg_page.specs.Page.{Page}
use Rattle.ogg_page.specs.Lacing.{lace, lacing_of, ends_open}
use Rattle.ogg_page.specs.Laws.Prefixes.{same_fronts}
use Rattle.ogg_page.specs.LogicalStream.{HoldsPackets, FitsBehind, EachBehind, joined_lacing, joined_bodies, number_behind, is_last}

pub false_is_not_true : (b : Bool) {A : Type 0} → b ≡ false → b ≡ true → A
false_is_not_true b e f = cc

-- ---- pages after pages
pub behind_both : (R : List Page → Page → Type 0) (before xs ys : List Page) →
    EachBehind R before xs → EachBehind R (before ++ xs) ys → EachBehind R before (xs ++ ys)
behind_both R before [] ys a b = rw append-nil at b
behind_both R before (x ∷ xs) ys a b =
    (a.0, behind_both R (before ++ x ∷ []) xs ys a.1 (subst (λ (l : List Page). EachBehind R l ys) (sym (append_assoc before (x ∷ []) xs)) b))

pub behind_front : (R : List Page → Page → Type 0) (before xs ys : List Page) → EachBehind R before (xs ++ ys) → EachBehind R before xs
behind_front R before [] ys h = tt
behind_front R before (x ∷ xs) ys h = (h.0, behind_front R (before ++ x ∷ []) xs ys h.1)

pub behind_back : (R : List Page → Page → Type 0) (before xs ys : List Page) → EachBehind R before (xs ++ ys) → EachBehind R (before ++ xs) ys
behind_back R before [] ys h = subst (λ (l : List Page). EachBehind R l ys) (sym (append-nil before)) h
behind_back R before (x ∷ xs) ys h =
    subst (λ (l : List Page). EachBehind R l ys) (append_assoc before (x ∷ []) xs) (behind_back R (before ++ x ∷ []) xs ys h.1)

-- the number after a page is one more than the page's
pub number_push : (before : List Page) (page : Page) → number_behind (before ++ page ∷ []) ≡ page.sequence + 1
number_push before page = fold_push (λ (found : ℕ) (p : Page). p.sequence + 1) 0 before page

-- ---- unfinished packets
pub ends_open-at : (xs : List ℕ) (y : ℕ) (ys : List ℕ) → ends_open (xs ++ y ∷ ys) ≡ ends_open (y ∷ ys)
ends_open-at xs y ys =
    let at : length (xs ++ y ∷ ys) - 1 ≡ length xs + length ys = omega (arith, length-append xs (y ∷ ys)) in
    let same : length ys ≡ length (y ∷ ys) - 1 = omega arith in
    ap (λ v. nat_eq v 255)
    (ap (λ n. slice_index (xs ++ y ∷ ys) n) at ∙ get_or-append-add xs (y ∷ ys) (length ys) 0 ∙ ap (λ n. slice_index (y ∷ ys) n) same)

pub ends_open-append : (xs ys : List ℕ) → ends_open xs ≡ false → ends_open (xs ++ ys) ≡ ends_open ys
ends_open-append xs [] e = ap ends_open (append-nil xs) ∙ e
ends_open-append xs (y ∷ ys) e = ends_open-at xs y ys

pub ends_open-lace : (packet : List ℕ) → ends_open (lace packet) ≡ false
unfolding lacing_of
ends_open-lace packet =
    ends_open-at (replicate (length packet / 255) 255) (length packet % 255) []
    ∙ ne_eqb (length packet % 255) 255 (λ e. omega arith)

pub ends_open-laces : (packets : List (List ℕ)) → ends_open (flat_map lace packets) ≡ false
ends_open-laces [] = refl
ends_open-laces (packet ∷ packets) = ends_open-append (lace packet) (flat_map lace packets) (ends_open-lace packet) ∙ ends_open-laces packets

pub finished : (pages : List Page) (packets : List (List ℕ)) → HoldsPackets pages packets 0 [] → ends_open (joined_lacing pages) ≡ false
finished pages packets h = ap ends_open (h.lacing ∙ append-nil (flat_map lace packets)) ∙ ends_open-laces packets

pub concat-append : (xs ys : List (List ℕ)) → concat (xs ++ ys) ≡ concat xs ++ concat ys
concat-append [] ys = refl
concat-append (x ∷ xs) ys = ap (λ l. x ++ l) (concat-append xs ys) ∙ sym (append_assoc x (concat xs) (concat ys))

-- ---- packets of joined pages
pub held_both : (xs ys : List Page) (ps qs : List (List ℕ)) → HoldsPackets xs ps 0 [] → HoldsPackets ys qs 0 [] → HoldsPackets (xs ++ ys) (ps ++ qs) 0 []
held_both xs ys ps qs a b =
    let la : joined_lacing xs ≡ flat_map lace ps = a.lacing ∙ append-nil (flat_map lace ps) in
    let lb : joined_lacing ys ≡ flat_map lace qs = b.lacing ∙ append-nil (flat_map lace qs) in
    let ba : joined_bodies xs ≡ concat ps = a.bodies ∙ append-nil (concat ps) in
    let bb : joined_bodies ys ≡ concat qs = b.bodies ∙ append-nil (concat qs) in
    record {
      lacing = flat_map-append (λ (p : Page). p.lacing) xs ys ∙ ap (λ l. l ++ joined_lacing ys) la ∙ ap (λ l. flat_map lace ps ++ l) lb
          ∙ sym (flat_map-append lace ps qs) ∙ sym (append-nil (flat_map lace (ps ++ qs)));
      bodies = flat_map-append (λ (p : Page). p.body) xs ys ∙ ap (λ l. l ++ joined_bodies ys) ba ∙ ap (λ l. concat ps ++ l) bb
          ∙ sym (concat-append ps qs) ∙ sym (append-nil (concat (ps ++ qs)));
      rest_size = refl;
    }

-- ---- the pages of a stream hold one list of packets
same_values : (a b u v : ℕ) (x y : List ℕ) → u < 255 → v < 255 → replicate a 255 ++ u ∷ x ≡ replicate b 255 ++ v ∷ y → (a ≡ b) × (u ≡ v) × (x ≡ y)
same_values zero zero u v x y hu hv e = (refl, cc, cc)
same_values zero (suc b) u v x y hu hv e =
    let head : u ≡ 255 = cc in
    absurd (omega (arith, hu, head))
same_values (suc a) zero u v x y hu hv e =
    let head : v ≡ 255 = cc in
    absurd (omega (arith, hv, head))
same_values (suc a) (suc b) u v x y hu hv e =
    let tail : replicate a 255 ++ u ∷ x ≡ replicate b 255 ++ v ∷ y = cc in
    let rest = same_values a b u v x y hu hv tail in
    (ap suc rest.0, rest.1, rest.2)

-- of two equal lists of lacing values, the first packets have one length, and the same values follow
pub same_lacing : (p q x y : List ℕ) → lace p ++ x ≡ lace q ++ y → (length p ≡ length q) × (x ≡ y)
unfolding lacing_of
same_lacing p q x y e =
    let m : ℕ = length p in
    let n : ℕ = length q in
    let same = same_values (m / 255) (n / 255) (m % 255) (n % 255) x y (omega arith) (omega arith)
    (sym (append_assoc (replicate (m / 255) 255) (m % 255 ∷ []) x) ∙ e ∙ append_assoc (replicate (n / 255) 255) (n % 255 ∷ []) y) in
    (omega (arith, same.0, same.1), same.2)

pub some_values : (p x : List ℕ) → [] ≢ lace p ++ x
unfolding lacing_of
some_values p x e =
    absurd (omega (arith, ap length e, length-append (replicate (length p / 255) 255 ++ length p % 255 ∷ []) x, length-append (replicate (length p / 255) 255) (length p % 255 ∷ [])))

same_packets : (ps qs : List (List ℕ)) → flat_map lace ps ≡ flat_map lace qs → concat ps ≡ concat qs → ps ≡ qs
same_packets [] [] e f = refl
same_packets [] (q ∷ qs) e f = absurd (some_values q (flat_map lace qs) e)
same_packets (p ∷ ps) [] e f = absurd (some_values p (flat_map lace ps) (sym e))
same_packets (p ∷ ps) (q ∷ qs) e f =
    let values : (length p ≡ length q) × (flat_map lace ps ≡ flat_map lace qs) = same_lacing p q (flat_map lace ps) (flat_map lace qs) e in
    let bytes : (p ≡ q) × (concat ps ≡ concat qs) = same_fronts p q (concat ps) (concat qs) values.0 f in
    ap (λ packet. packet ∷ ps) bytes.0 ∙ ap (λ l. q ∷ l) (same_packets ps qs values.1 bytes.1)

pub held_once : (pages : List Page) (ps qs : List (List ℕ)) → HoldsPackets pages ps 0 [] → HoldsPackets pages qs 0 [] → ps ≡ qs
held_once pages ps qs a b =
    same_packets ps qs (sym (append-nil (flat_map lace ps)) ∙ sym a.lacing ∙ b.lacing ∙ append-nil (flat_map lace qs))
    (sym (append-nil (concat ps)) ∙ sym a.bodies ∙ b.bodies ∙ append-nil (concat qs))

-- ---- a stream that has ended leaves no packet unfinished
pub last_closes : (before pages : List Page) → EachBehind FitsBehind before pages → list_any is_last before ≡ false → list_any is_last (before ++ pages) ≡ true →
    ends_open (joined_lacing (before ++ pages)) ≡ false
last_closes before [] fit none ended = absurd (false≢true (sym none ∙ sym (ap (list_any is_last) (append-nil before)) ∙ ended))
last_closes before (page ∷ []) fit none ended =
    fit.0.last_packet (sym (sym ended ∙ list_any-append is_last before (page ∷ []) ∙ ap (λ b. b || (is_last page || false)) none ∙ or_nothing (is_last page)))
  where
    or_nothing : (b : Bool) → (b || false) ≡ b
    or_nothing true = refl
    or_nothing false = refl
last_closes before (page ∷ next ∷ pages) fit none ended =
    let all : (before ++ page ∷ []) ++ (next ∷ pages) ≡ before ++ page ∷ next ∷ pages = append_assoc before (page ∷ []) (next ∷ pages) in
    subst (λ (l : List Page). ends_open (joined_lacing l) ≡ false) all
    (last_closes (before ++ page ∷ []) (next ∷ pages) fit.1 fit.1.0.last (ap (list_any is_last) all ∙ ended))
