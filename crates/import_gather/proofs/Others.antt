-- The page's stream among others, which have distinct serials.
use Rattle.std.proofs.Common.{◌≡◌, ℕ, Bool, true, false, List, [], ◌∷◌, ◌++◌, map, refl, sym, ◌∙◌, ap}
use Rattle.std.specs.Prelude.{nat_eq, ◌||◌}
use Rattle.std.specs.List.{AllByRecursion, AllZip, IsDistinct, list_any}
use Rattle.std.proofs.lemmas.Bool.{ne_eqb, eqb-false}
use Rattle.import_gather.specs.Kept.{KeptStream}
use Rattle.import_gather.specs.Laws.{serials}

-- none of them has the serial
abbrev pub Others : ℕ → List KeptStream → Type 0
Others serial streams = AllByRecursion (λ (stream : KeptStream). nat_eq stream.serial serial ≡ false) streams

turned : (m n : ℕ) → nat_eq m n ≡ false → nat_eq n m ≡ false
turned m n e = ne_eqb n m (λ f. eqb-false m n e (sym f))

pub others_of : (serial : ℕ) (streams : List KeptStream) → AllByRecursion (λ n. nat_eq serial n ≡ false) (serials streams) → Others serial streams
others_of serial [] h = tt
others_of serial (k ∷ streams) h = (turned serial k.serial h.0, others_of serial streams h.1)

at_stream : (n : ℕ) (front : List KeptStream) (stream : KeptStream) (back : List KeptStream) → AllByRecursion (λ m. nat_eq n m ≡ false) (serials (front ++ stream ∷ back)) → nat_eq n stream.serial ≡ false
at_stream n [] stream back h = h.0
at_stream n (k ∷ front) stream back h = at_stream n front stream back h.1

pub apart : (front : List KeptStream) (stream : KeptStream) (back : List KeptStream) → IsDistinct nat_eq (serials (front ++ stream ∷ back)) → Others stream.serial front × Others stream.serial back
unfolding IsDistinct
apart [] stream back d = (tt, others_of stream.serial back d.0)
apart (k ∷ front) stream back d =
    let rest : Others stream.serial front × Others stream.serial back = apart front stream back d.1 in
    ((at_stream k.serial front stream back d.0, rest.0), rest.1)

-- a stream that isn't there
pub absent_all : (serial : ℕ) (streams : List KeptStream) → list_any (nat_eq serial) (serials streams) ≡ false → Others serial streams
absent_all serial [] e = tt
absent_all serial (k ∷ streams) e =
    let parts : (nat_eq serial k.serial ≡ false) × (list_any (nat_eq serial) (serials streams) ≡ false) = or_no (nat_eq serial k.serial) (list_any (nat_eq serial) (serials streams)) e in
    (turned serial k.serial parts.0, absent_all serial streams parts.1)
  where
    or_no : (a b : Bool) → (a || b) ≡ false → (a ≡ false) × (b ≡ false)
    or_no true b e = cc
    or_no false b e = (refl, e)

-- ---- what is known of each, with one stream changed
module _ (serial : ℕ) (old new : KeptStream) where
  pub map_step : {B : Type 0} (P : KeptStream → Type 0) (f g : KeptStream → B) (front back : List KeptStream) → Others serial front → Others serial back → AllByRecursion P (front ++ old ∷ back) →
      ((k : KeptStream) → nat_eq k.serial serial ≡ false → P k → f k ≡ g k) → (P old → f new ≡ g old) → map f (front ++ new ∷ back) ≡ map g (front ++ old ∷ back)
  map_step P f g [] back hf hb all others own = ap (λ x. x ∷ map f back) (own all.0) ∙ ap (λ l. g old ∷ l) (rest back hb all.1)
    where
      rest : (back : List KeptStream) → Others serial back → AllByRecursion P back → map f back ≡ map g back
      rest [] hb all = refl
      rest (k ∷ back) hb all = ap (λ x. x ∷ map f back) (others k hb.0 all.0) ∙ ap (λ l. g k ∷ l) (rest back hb.1 all.1)
  map_step P f g (k ∷ front) back hf hb all others own =
      ap (λ x. x ∷ map f (front ++ new ∷ back)) (others k hf.0 all.0) ∙ ap (λ l. g k ∷ l) (map_step P f g front back hf.1 hb all.1 others own)

  pub all_step : (P Q : KeptStream → Type 0) (front back : List KeptStream) → AllByRecursion P (front ++ old ∷ back) → ((k : KeptStream) → P k → Q k) → (P old → Q new) → AllByRecursion Q (front ++ new ∷ back)
  all_step P Q [] back all others own = (own all.0, rest back all.1)
    where
      rest : (back : List KeptStream) → AllByRecursion P back → AllByRecursion Q back
      rest [] all = tt
      rest (k ∷ back) all = (others k all.0, rest back all.1)
  all_step P Q (k ∷ front) back all others own = (others k all.0, all_step P Q front back all.1 others own)

  pub zip_step : {B : Type 0} (R S : KeptStream → B → Type 0) (f : B → B) (front back : List KeptStream) (ys : List B) → Others serial front → Others serial back → AllZip R (front ++ old ∷ back) ys →
      ((k : KeptStream) (y : B) → nat_eq k.serial serial ≡ false → R k y → S k (f y)) → ((y : B) → R old y → S new (f y)) → AllZip S (front ++ new ∷ back) (map f ys)
  zip_step R S f [] back [] hf hb z others own = absurd z
  zip_step {B = B} R S f [] back (y ∷ ys) hf hb z others own = (own y z.0, rest back ys hb z.1)
    where
      rest : (back : List KeptStream) (ys : List B) → Others serial back → AllZip R back ys → AllZip S back (map f ys)
      rest [] [] hb z = tt
      rest [] (y ∷ ys) hb z = absurd z
      rest (k ∷ back) [] hb z = absurd z
      rest (k ∷ back) (y ∷ ys) hb z = (others k y hb.0 z.0, rest back ys hb.1 z.1)
  zip_step R S f (k ∷ front) back [] hf hb z others own = absurd z
  zip_step R S f (k ∷ front) back (y ∷ ys) hf hb z others own = (others k y hf.0 z.0, zip_step R S f front back ys hf.1 hb z.1 others own)

-- ---- two lists, element by element
pub zip_push : {A B : Type 0} (R : A → B → Type 0) (xs : List A) (ys : List B) (x : A) (y : B) → AllZip R xs ys → R x y → AllZip R (xs ++ x ∷ []) (ys ++ y ∷ [])
zip_push R [] [] x y z r = (r, tt)
zip_push R [] (b ∷ ys) x y z r = absurd z
zip_push R (a ∷ xs) [] x y z r = absurd z
zip_push R (a ∷ xs) (b ∷ ys) x y z r = (z.0, zip_push R xs ys x y z.1 r)

pub zip_weaker : {A B C : Type 0} (P : A → Type 0) (R : A → B → Type 0) (S : C → B → Type 0) (f : A → C) → ((a : A) (b : B) → P a → R a b → S (f a) b) →
    (xs : List A) (ys : List B) → AllByRecursion P xs → AllZip R xs ys → AllZip S (map f xs) ys
zip_weaker P R S f h [] [] all z = tt
zip_weaker P R S f h [] (b ∷ ys) all z = absurd z
zip_weaker P R S f h (a ∷ xs) [] all z = absurd z
zip_weaker P R S f h (a ∷ xs) (b ∷ ys) all z = (h a b all.0 z.0, zip_weaker P R S f h xs ys all.1 z.1)

pub zip_all : {A B : Type 0} (R : A → B → Type 0) (P : A → Type 0) → ((a : A) (b : B) → R a b → P a) → (xs : List A) (ys : List B) → AllZip R xs ys → AllByRecursion P xs
zip_all R P h [] [] z = tt
zip_all R P h [] (b ∷ ys) z = absurd z
zip_all R P h (a ∷ xs) [] z = absurd z
zip_all R P h (a ∷ xs) (b ∷ ys) z = (h a b z.0, zip_all R P h xs ys z.1)

pub map_each : {B : Type 0} (P : KeptStream → Type 0) (f g : KeptStream → B) (streams : List KeptStream) → AllByRecursion P streams → ((k : KeptStream) → P k → f k ≡ g k) → map f streams ≡ map g streams
map_each P f g [] all h = refl
map_each P f g (k ∷ streams) all h = ap (λ x. x ∷ map f streams) (h k all.0) ∙ ap (λ l. g k ∷ l) (map_each P f g streams all.1 h)
