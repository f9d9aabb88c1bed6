-- What writing parts one after the other does to a vector.
use Rattle.std.proofs.Common.{◌≡◌, ℕ, ◌+◌, ◌<◌, List, ◌++◌, length, take, get_or, sym, ap, ◌∙◌, subst, arith, append_assoc, vec_len}
use Rattle.std.specs.Global.{Vec}
use Rattle.std.specs.List.{flat_map, AllByRecursion}
use Rattle.std.proofs.lemmas.List.Elements.{All-from_recursion}
use Rattle.feed_records.specs.Writing.{Grows}
use Rattle.feed_records.proofs.SizeFacts.{flat_map-more, length-flat_map-more}

-- what holds of each holds of this one
pub has : {X : Type 0} (P : X → Type 0) (xs : List X) (i : ℕ) (x : X) → AllByRecursion P xs → i < length xs → x ≡ get_or xs i x → P x
has P xs i x all l is = subst P (sym is) (All-from_recursion P xs all i x l)

pub grows_more : (a b c : Vec ℕ) (xs ys : List ℕ) (m n : ℕ) → Grows a b xs m → Grows b c ys n → Grows a c (xs ++ ys) (m + n)
grows_more a b c xs ys m n g h =
    record {
      items = h.items ∙ ap (λ l. l ++ ys) g.items ∙ append_assoc a.items xs ys;
      len = omega (arith, h.len, g.len);
      room = omega (arith, h.room, g.room);
    }

-- one item more of a list
pub grows_item : {X : Type 0} (f : X → List ℕ) (xs : List X) (i : ℕ) (x : X) (a b c : Vec ℕ) → i < length xs → x ≡ get_or xs i x
    → Grows a b (flat_map f (take i xs)) (length (flat_map f (take i xs))) → Grows b c (f x) (length (f x))
    → Grows a c (flat_map f (take (i + 1) xs)) (length (flat_map f (take (i + 1) xs)))
grows_item f xs i x a b c l is g h =
    let both = grows_more a b c (flat_map f (take i xs)) (f x) (length (flat_map f (take i xs))) (length (f x)) g h in
    record {
      items = both.items ∙ ap (λ k. a.items ++ k) (sym (flat_map-more f xs i x l is));
      len = both.len ∙ ap (λ n. vec_len a + n) (sym (length-flat_map-more f xs i x l is));
      room = both.room;
    }

-- the same bytes by another name
pub grows_as : (a b : Vec ℕ) (xs ys : List ℕ) (m n : ℕ) → xs ≡ ys → m ≡ n → Grows a b xs m → Grows a b ys n
grows_as a b xs ys m n same count g =
    record { items = g.items ∙ ap (λ l. a.items ++ l) same; len = g.len ∙ ap (λ k. vec_len a + k) count; room = g.room }
