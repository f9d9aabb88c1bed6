-- Pages of a link, and others that differ from them only in what they hold.
use Rattle.std.proofs.Common.{◌≡◌, ◌≢◌, ℕ, ◌+◌, ◌^◌, Bool, true, false, cond, List, [], ◌∷◌, ◌++◌, length, map, refl, sym, ◌∙◌, ap, subst, arith}
use Rattle.std.specs.Prelude.{nat_eq, nat_lt, ◌||◌, ◌&&◌, IsTrue}
use Rattle.std.specs.List.{AllByRecursion, AllZip, IsDistinct, filter, fold, list_all, list_any}
use Rattle.ogg_page.specs.Page.{Page}
use Rattle.ogg_page.specs.LogicalStream.{EachBehind, FlagsFit, is_first, is_last, number_behind}
use Rattle.link_chain.specs.ChainState.{last_position}
use Rattle.link_chain.specs.Links.{IsLink, all_ended, has_ended, has_stream, pages_with, serials_of}

pub record Alike (page other : Page) : Type 0 where
  pub serial : other.serial ≡ page.serial
  pub sequence : other.sequence ≡ page.sequence
  pub position : other.position ≡ page.position
  pub first : is_first other ≡ is_first page
  pub last : is_last other ≡ is_last page

abbrev pub AreAlike : List Page → List Page → Type 0
AreAlike pages others = AllZip Alike pages others

pub itself : (page : Page) → Alike page page
itself page = record { serial = refl; sequence = refl; position = refl; first = refl; last = refl }

-- ---- the lists
pub length_alike : (xs ys : List Page) → AreAlike xs ys → length ys ≡ length xs
length_alike [] [] z = refl
length_alike [] (q ∷ qs) z = absurd z
length_alike (p ∷ ps) [] z = absurd z
length_alike (p ∷ ps) (q ∷ qs) z = omega (arith, length_alike ps qs z.1)

pub some_alike : (xs ys : List Page) → AreAlike xs ys → ys ≢ [] → xs ≢ []
some_alike [] [] z some e = some e
some_alike [] (q ∷ qs) z some e = absurd z
some_alike (p ∷ ps) ys z some e = cc

pub none_alike : (xs ys : List Page) → AreAlike xs ys → xs ≡ [] → ys ≡ []
none_alike [] [] z e = refl
none_alike [] (q ∷ qs) z e = absurd z
none_alike (p ∷ ps) ys z e = cc

pub nothing_alike : (xs ys : List Page) → AreAlike xs ys → ys ≡ [] → xs ≡ []
nothing_alike [] ys z e = refl
nothing_alike (p ∷ ps) [] z e = absurd z
nothing_alike (p ∷ ps) (q ∷ qs) z e = cc

pub push_alike : (xs ys : List Page) (p q : Page) → AreAlike xs ys → Alike p q → AreAlike (xs ++ p ∷ []) (ys ++ q ∷ [])
push_alike [] [] p q z a = (a, tt)
push_alike [] (y ∷ ys) p q z a = absurd z
push_alike (x ∷ xs) [] p q z a = absurd z
push_alike (x ∷ xs) (y ∷ ys) p q z a = (z.0, push_alike xs ys p q z.1 a)

pub record SplitAlike (front back others : List Page) : Type 0 where
  pub first : List Page
  pub rest : List Page
  pub split : others ≡ first ++ rest
  pub fronts : AreAlike front first
  pub backs : AreAlike back rest

pub split_alike : (front back ys : List Page) → AreAlike (front ++ back) ys → SplitAlike front back ys
split_alike [] back ys z = record { first = []; rest = ys; split = refl; fronts = tt; backs = z }
split_alike (p ∷ front) back [] z = absurd z
split_alike (p ∷ front) back (q ∷ qs) z =
    let s : SplitAlike front back qs = split_alike front back qs z.1 in
    record { first = q ∷ s.first; rest = s.rest; split = ap (λ l. q ∷ l) s.split; fronts = (z.0, s.fronts); backs = s.backs }

pub each_alike : (P Q : Page → Type 0) → ((p q : Page) → Alike p q → P p → Q q) → (xs ys : List Page) → AreAlike xs ys → AllByRecursion P xs → AllByRecursion Q ys
each_alike P Q f [] [] z all = tt
each_alike P Q f [] (q ∷ qs) z all = absurd z
each_alike P Q f (p ∷ ps) [] z all = absurd z
each_alike P Q f (p ∷ ps) (q ∷ qs) z all = (f p q z.0 all.0, each_alike P Q f ps qs z.1 all.1)

pub any_alike : (test : Page → Bool) → ((p q : Page) → Alike p q → test q ≡ test p) → (xs ys : List Page) → AreAlike xs ys → list_any test ys ≡ list_any test xs
any_alike test f [] [] z = refl
any_alike test f [] (q ∷ qs) z = absurd z
any_alike test f (p ∷ ps) [] z = absurd z
any_alike test f (p ∷ ps) (q ∷ qs) z = ap (λ b. b || list_any test qs) (f p q z.0) ∙ ap (λ b. test p || b) (any_alike test f ps qs z.1)

-- ---- the streams
serials_step : (q : Page) (qs : List Page) → serials_of (q ∷ qs) ≡ cond (is_first q) (q.serial ∷ serials_of qs) (serials_of qs)
serials_step q qs = by_case (is_first q)
  where
    by_case : (b : Bool) → map (λ (p : Page). p.serial) (cond b (q ∷ filter is_first qs) (filter is_first qs)) ≡ cond b (q.serial ∷ serials_of qs) (serials_of qs)
    by_case true = refl
    by_case false = refl

pub serials_alike : (xs ys : List Page) → AreAlike xs ys → serials_of ys ≡ serials_of xs
serials_alike [] [] z = refl
serials_alike [] (q ∷ qs) z = absurd z
serials_alike (p ∷ ps) [] z = absurd z
serials_alike (p ∷ ps) (q ∷ qs) z =
    serials_step q qs ∙ ap (λ b. cond b (q.serial ∷ serials_of qs) (serials_of qs)) z.0.first
    ∙ ap (λ n. cond (is_first p) (n ∷ serials_of qs) (serials_of qs)) z.0.serial
    ∙ ap (λ l. cond (is_first p) (p.serial ∷ l) l) (serials_alike ps qs z.1)
    ∙ sym (serials_step p ps)

with_step : (p q : Page) (ps qs : List Page) (a b : Bool) → b ≡ a → Alike p q → AreAlike ps qs → AreAlike (cond a (p ∷ ps) ps) (cond b (q ∷ qs) qs)
with_step p q ps qs true true e here rest = (here, rest)
with_step p q ps qs false false e here rest = rest
with_step p q ps qs true false e here rest = cc
with_step p q ps qs false true e here rest = cc

pub with_alike : (serial : ℕ) (xs ys : List Page) → AreAlike xs ys → AreAlike (pages_with serial xs) (pages_with serial ys)
with_alike serial [] [] z = tt
with_alike serial [] (q ∷ qs) z = absurd z
with_alike serial (p ∷ ps) [] z = absurd z
with_alike serial (p ∷ ps) (q ∷ qs) z =
    with_step p q (pages_with serial ps) (pages_with serial qs) (nat_eq p.serial serial) (nat_eq q.serial serial) (ap (λ n. nat_eq n serial) z.0.serial) z.0 (with_alike serial ps qs z.1)

pub ended_alike : (xs ys : List Page) (serial : ℕ) → AreAlike xs ys → has_ended ys serial ≡ has_ended xs serial
ended_alike xs ys serial z = any_alike is_last (λ p q a. a.last) (pages_with serial xs) (pages_with serial ys) (with_alike serial xs ys z)

all_by : (e f : ℕ → Bool) → ((s : ℕ) → f s ≡ e s) → (xs ys : List Page) → AreAlike xs ys → list_all (λ (p : Page). f p.serial) ys ≡ list_all (λ (p : Page). e p.serial) xs
all_by e f same [] [] z = refl
all_by e f same [] (q ∷ qs) z = absurd z
all_by e f same (p ∷ ps) [] z = absurd z
all_by e f same (p ∷ ps) (q ∷ qs) z =
    ap (λ b. b && list_all (λ (p : Page). f p.serial) qs) (same q.serial ∙ ap e z.0.serial) ∙ ap (λ b. e p.serial && b) (all_by e f same ps qs z.1)

pub all_ended_alike : (xs ys : List Page) → AreAlike xs ys → all_ended ys ≡ all_ended xs
all_ended_alike xs ys z = all_by (has_ended xs) (has_ended ys) (λ s. ended_alike xs ys s z) xs ys z

-- ---- the state of a stream
number_from : (n : ℕ) (xs ys : List Page) → AreAlike xs ys → fold (λ (found : ℕ) (p : Page). p.sequence + 1) n ys ≡ fold (λ (found : ℕ) (p : Page). p.sequence + 1) n xs
number_from n [] [] z = refl
number_from n [] (q ∷ qs) z = absurd z
number_from n (p ∷ ps) [] z = absurd z
number_from n (p ∷ ps) (q ∷ qs) z =
    ap (λ m. fold (λ (found : ℕ) (p : Page). p.sequence + 1) (m + 1) qs) z.0.sequence ∙ number_from (p.sequence + 1) ps qs z.1

pub number_alike : (xs ys : List Page) → AreAlike xs ys → number_behind ys ≡ number_behind xs
number_alike xs ys z = number_from 0 xs ys z

abbrev reached : ℕ → Page → ℕ
reached found page = cond (nat_lt page.position (2 ^ 63)) page.position found

position_from : (n : ℕ) (xs ys : List Page) → AreAlike xs ys → fold reached n ys ≡ fold reached n xs
position_from n [] [] z = refl
position_from n [] (q ∷ qs) z = absurd z
position_from n (p ∷ ps) [] z = absurd z
position_from n (p ∷ ps) (q ∷ qs) z =
    ap (λ m. fold reached (cond (nat_lt m (2 ^ 63)) m n) qs) z.0.position ∙ position_from (reached n p) ps qs z.1

pub position_alike : (xs ys : List Page) → AreAlike xs ys → last_position ys ≡ last_position xs
position_alike xs ys z = position_from 0 xs ys z

-- ---- a link
one_alike : (bs cs xs ys : List Page) → AreAlike bs cs → AreAlike xs ys → EachBehind (λ before page. before ≢ [] → all_ended before ≡ false) bs xs →
    EachBehind (λ before page. before ≢ [] → all_ended before ≡ false) cs ys
one_alike bs cs [] [] b z e = tt
one_alike bs cs [] (q ∷ qs) b z e = absurd z
one_alike bs cs (p ∷ ps) [] b z e = absurd z
one_alike bs cs (p ∷ ps) (q ∷ qs) b z e = (
  λ some. all_ended_alike bs cs b ∙ e.0 (some_alike bs cs b some),
  one_alike (bs ++ p ∷ []) (cs ++ q ∷ []) ps qs (push_alike bs cs p q b z.0) z.1 e.1,
)

-- with the same flags and numbers pages are a link, if those of each stream fit
pub link_alike : (xs ys : List Page) → AreAlike xs ys → IsLink xs → ((serial : ℕ) → FlagsFit (pages_with serial ys)) → IsLink ys
link_alike xs ys z l fit =
    let s : SplitAlike l.first_pages l.others ys = split_alike l.first_pages l.others ys (subst (λ (p : List Page). AreAlike p ys) l.split z) in
    let streams : serials_of ys ≡ serials_of xs = serials_alike xs ys z in
    let few : length s.first ≡ length l.first_pages = length_alike l.first_pages s.first s.fronts in
    record {
      first_pages = s.first;
      others = s.rest;
      split = s.split;
      marked = each_alike (λ page. IsTrue (is_first page)) (λ page. IsTrue (is_first page)) (λ p q a h. subst (λ (b : Bool). IsTrue b) (sym a.first) h) l.first_pages s.first s.fronts l.marked;
      some = omega (arith, few, l.some);
      few = omega (arith, few, l.few);
      distinct = subst (λ (n : List ℕ). IsDistinct nat_eq n) (sym streams) l.distinct;
      unmarked = each_alike (λ page. is_first page ≡ false) (λ page. is_first page ≡ false) (λ p q a h. a.first ∙ h) l.others s.rest s.backs l.unmarked;
      known = each_alike (λ page. has_stream xs page.serial ≡ true) (λ page. has_stream ys page.serial ≡ true)
          (λ p q a h. ap (λ n. list_any (nat_eq q.serial) n) streams ∙ ap (has_stream xs) a.serial ∙ h)
          l.others s.rest s.backs l.known;
      streams = fit;
      one = one_alike [] [] xs ys tt z l.one;
    }
