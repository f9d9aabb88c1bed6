-- Elements that stay, and streams changed one by one.
use Rattle.std.proofs.Common.{◌≡◌, ℕ, Bool, true, false, List, [], ◌∷◌, ◌++◌, map, refl, ◌∙◌, ap}
use Rattle.std.specs.Prelude.{nat_eq}
use Rattle.std.specs.List.{AllByRecursion, AllZip, IsDistinct, list_any}
use Rattle.std.proofs.lemmas.Bool.{or_parts}
use Rattle.chain_rules.specs.Recording.{Stream}
use Rattle.ogg_command.specs.declared.command.NewStream.{NewStream}
use Rattle.import_changes.specs.declared.options.Skeletons.{Skeletons}
use Rattle.import_changes.specs.Naming.{AreNamed}
use Rattle.import_changes.specs.Renumbered.{serials}
use Rattle.import_changes.specs.declared.options.Skeletons.TheVariants.{Kept, LeftOut, Made}
use Rattle.import_changes.specs.Links.{HasReason, IsBefore, IsBegunOf, IsLeftOut, IsSkeletonFront, those}
use Rattle.import_changes.specs.Changed.{IsNoName, stream_under}
use Rattle.import_changes.proofs.Renumbers.{GoesWith}

pub those_map : {A B : Type 0} (f : A → B) (stays : List Bool) (xs : List A) → those stays (map f xs) ≡ map f (those stays xs)
those_map f [] xs = refl
those_map f (stay ∷ stays) [] = refl
those_map f (true ∷ stays) (x ∷ xs) = ap (λ l. f x ∷ l) (those_map f stays xs)
those_map f (false ∷ stays) (x ∷ xs) = those_map f stays xs

pub same_serials : (change : Stream → Stream) → ((stream : Stream) → (change stream).serial ≡ stream.serial) → (link : List Stream)
    → serials (map change link) ≡ serials link
same_serials change same [] = refl
same_serials change same (stream ∷ link) =
    ap (λ n. n ∷ serials (map change link)) (same stream) ∙ ap (λ l. stream.serial ∷ l) (same_serials change same link)

pub left_out_still : (skeletons : Skeletons) (names : List (ℕ × ℕ)) (change now : Stream → Stream) → GoesWith names change now
    → (stays : List Bool) (link : List Stream)
    → AllZip (HasReason skeletons) stays link → AllZip (HasReason skeletons) stays (map change link)
left_out_still skeletons names change now with [] [] all = tt
left_out_still skeletons names change now with [] (stream ∷ link) all = absurd all
left_out_still skeletons names change now with (stay ∷ stays) [] all = absurd all
left_out_still skeletons names change now with (stay ∷ stays) (stream ∷ link) (may, all) = (
  λ e. let left : IsLeftOut skeletons stream = may e in record { asked = left.asked; skeleton = with.fishead stream left.skeleton },
  left_out_still skeletons names change now with stays link all,
)

fronts_still : (names : List (ℕ × ℕ)) (change now : Stream → Stream) → GoesWith names change now → (fronts : List (List (List ℕ)))
    (left : List Stream) → AllZip IsSkeletonFront fronts left → AllZip IsSkeletonFront fronts (map change left)
fronts_still names change now with [] [] all = tt
fronts_still names change now with [] (stream ∷ left) all = absurd all
fronts_still names change now with (front ∷ fronts) [] all = absurd all
fronts_still names change now with (front ∷ fronts) (stream ∷ left) ((f, is), all) =
    ((with.front stream front f, is), fronts_still names change now with fronts left all)

begun_still : (names : List (ℕ × ℕ)) (change now : Stream → Stream) → GoesWith names change now → (begun : List NewStream)
    (stay : List Stream) → AllZip IsBegunOf begun stay → AllZip IsBegunOf begun (map change stay)
begun_still names change now with [] [] all = tt
begun_still names change now with [] (stream ∷ stay) all = absurd all
begun_still names change now with (b ∷ begun) [] all = absurd all
begun_still names change now with (b ∷ begun) (stream ∷ stay) ((same, f), all) =
    ((with.serial stream ∙ same, with.front stream b.headers f), begun_still names change now with begun stay all)

-- what stands before a link's streams stays right when its streams grow
pub before_still : (names : List (ℕ × ℕ)) (change now : Stream → Stream) → GoesWith names change now → (skeletons : Skeletons)
    (left stay : List Stream) (earlier serials : List ℕ) (before : List Stream)
    → IsBefore skeletons left stay earlier serials before → IsBefore skeletons (map change left) (map change stay) earlier serials before
before_still names change now with skeletons left stay earlier serials [] made = tt
before_still names change now with Kept left stay earlier serials (skeleton ∷ more) made = absurd made
before_still names change now with LeftOut left stay earlier serials (skeleton ∷ more) made = absurd made
before_still names change now with (Made from) left stay earlier serials (skeleton ∷ next ∷ more) made = absurd made
before_still names change now with (Made from) left stay earlier serials (skeleton ∷ []) made = record {
  head = made.head;
  streams = made.streams;
  is = made.is;
  of = made.of;
  first = made.first;
  said = made.said;
  fronts = record {
    fronts = made.fronts.fronts;
    each = fronts_still names change now with made.fronts.fronts left made.fronts.each;
    said_is = made.fronts.said_is;
  };
  begun = made.begun;
  are_begun = begun_still names change now with made.begun stay made.are_begun;
  says = made.says;
}

pub under_still : (names : List (ℕ × ℕ)) (change now : Stream → Stream) → GoesWith names change now → (link : List Stream)
    → AreNamed names (serials link)
    → map now (map (stream_under names) link) ≡ map (stream_under names) (map change link)
under_still names change now with [] all = refl
under_still names change now with (stream ∷ link) (key, all) =
    ap (λ s. s ∷ map now (map (stream_under names) link)) (with.under stream key)
    ∙ ap (λ l. stream_under names (change stream) ∷ l) (under_still names change now with link all)

pub apart_still : (names : List (ℕ × ℕ)) (change now : Stream → Stream) → GoesWith names change now → (before : List Stream)
    → AllByRecursion (IsNoName names) (serials before)
    → map now before ≡ before
apart_still names change now with [] all = refl
apart_still names change now with (stream ∷ before) (none, all) =
    ap (λ s. s ∷ map now before) (with.apart stream none) ∙ ap (λ l. stream ∷ l) (apart_still names change now with before all)

pub map_same : {A : Type 0} (xs : List A) → map (λ x. x) xs ≡ xs
map_same [] = refl
map_same (x ∷ xs) = ap (λ l. x ∷ l) (map_same xs)

pub zip_push : {A B : Type 0} (R : A → B → Type 0) (xs : List A) (ys : List B) (x : A) (y : B) → AllZip R xs ys → R x y
    → AllZip R (xs ++ x ∷ []) (ys ++ y ∷ [])
zip_push R [] [] x y all p = (p, tt)
zip_push R [] (b ∷ ys) x y all p = absurd all
zip_push R (a ∷ xs) [] x y all p = absurd all
zip_push R (a ∷ xs) (b ∷ ys) x y (q, all) p = (q, zip_push R xs ys x y all p)

-- ---- of distinct serials those that stay are distinct
those_apart : (serial : ℕ) (stays : List Bool) (link : List Stream) → AllByRecursion (λ y. nat_eq serial y ≡ false) (serials link)
    → AllByRecursion (λ y. nat_eq serial y ≡ false) (serials (those stays link))
those_apart serial [] link all = tt
those_apart serial (stay ∷ stays) [] all = tt
those_apart serial (true ∷ stays) (stream ∷ link) (p, all) = (p, those_apart serial stays link all)
those_apart serial (false ∷ stays) (stream ∷ link) (p, all) = those_apart serial stays link all

pub those_distinct : (stays : List Bool) (link : List Stream) → IsDistinct nat_eq (serials link)
    → IsDistinct nat_eq (serials (those stays link))
unfolding IsDistinct
those_distinct [] link d = tt
those_distinct (stay ∷ stays) [] d = tt
those_distinct (true ∷ stays) (stream ∷ link) (apart, d) = (those_apart stream.serial stays link apart, those_distinct stays link d)
those_distinct (false ∷ stays) (stream ∷ link) (apart, d) = those_distinct stays link d

pub no_serial : (serial : ℕ) (serials : List ℕ) → list_any (nat_eq serial) serials ≡ false
    → AllByRecursion (λ y. nat_eq serial y ≡ false) serials
no_serial serial [] e = tt
no_serial serial (y ∷ serials) e =
    let parts : (nat_eq serial y ≡ false) × (list_any (nat_eq serial) serials ≡ false) = or_parts (nat_eq serial y)
    (list_any (nat_eq serial) serials) e in
    (parts.0, no_serial serial serials parts.1)
