-- Names, one more after the other.
use Rattle.std.proofs.Common.{◌≡◌, ℕ, Bool, true, false, List, [], ◌∷◌, ◌++◌, refl, sym, ◌∙◌, ap, subst, arith, append-nil, zero, suc}
use Rattle.std.proofs.Common.{get_or, length, ◌<◌}
use Rattle.std.specs.Prelude.{nat_eq, ◌||◌, ◌⊎◌, ◌≤◌, Some, None}
use Rattle.std.proofs.Common.{inl, inr}
use Rattle.std.specs.List.{AllByRecursion, IsDistinct, list_any}
use Rattle.std.specs.Map.{keys_of, values_of}
use Rattle.std.proofs.lemmas.Grind.{common_steps}
use Rattle.std.proofs.lemmas.List.{map-append}
use Rattle.std.proofs.lemmas.List.Folds.{list_any-append}
use Rattle.std.proofs.lemmas.Bool.{cases_lt, eq-eqb}
use Rattle.std.proofs.lemmas.Map.Made.{is_some-lookup}
use Rattle.std.specs.Option.{is_some}
use Rattle.import_changes.specs.Naming.{AreNamed, AreNames, AreOnlyOf, IsFreshName, IsKept, Keeps, KeepsAll, Renames, entries_named}
use Rattle.import_changes.specs.Naming.{AreAllTaken, IsFirstFree, IsFreeFrom, IsLow, entry_with, is_had, name_of, serials_of}
use Rattle.std.proofs.lemmas.List.Elements.{filter_map-append}
use Rattle.std.specs.Prelude.{Option}
use Rattle.std.specs.List.{cons_option}
use Rattle.ogg_command.specs.declared.command.Entry.{Entry}
use Rattle.ogg_command.specs.declared.command.NewStream.{NewStream}
use Rattle.link_chain.specs.Laws.TakenLinks.{distinct_push}
use Rattle.std.proofs.Math.Bool.{or-true}

pub any_more : (p : ℕ → Bool) (xs ys : List ℕ) → list_any p xs ≡ true → list_any p (xs ++ ys) ≡ true
any_more p xs ys e = list_any-append p xs ys ∙ ap (λ b. b || list_any p ys) e

pub keyed_more : (serial : ℕ) (names more : List (ℕ × ℕ)) → list_any (nat_eq serial) (keys_of names) ≡ true
    → list_any (nat_eq serial) (keys_of (names ++ more)) ≡ true
keyed_more serial names more e = ap (list_any (nat_eq serial)) (map-append (λ (e : ℕ × ℕ). e.0) names more)
    ∙ any_more (nat_eq serial) (keys_of names) (keys_of more) e

pub kept_more : (given : List ℕ) (names more : List (ℕ × ℕ)) (serials : List ℕ) → AllByRecursion (IsKept given names) serials
    → AllByRecursion (IsKept given (names ++ more)) serials
kept_more given names more [] all = tt
kept_more given names more (serial ∷ serials) (kept, all) = (
  (λ new. keyed_more serial names more
      (kept new)),
  kept_more given names more serials all,
)

pub named_more : (names more : List (ℕ × ℕ)) (serials : List ℕ) → AreNamed names serials → AreNamed (names ++ more) serials
named_more names more [] all = tt
named_more names more (serial ∷ serials) (is, all) = (keyed_more serial names more is, named_more names more serials all)

pub all_joined : {X : Type 0} (P : X → Type 0) (xs ys : List X) → AllByRecursion P xs → AllByRecursion P ys → AllByRecursion P (xs ++ ys)
all_joined P [] ys all more = more
all_joined P (x ∷ xs) ys (p, all) more = (p, all_joined P xs ys all more)

pub all_push : {X : Type 0} (P : X → Type 0) (xs : List X) (x : X) → AllByRecursion P xs → P x → AllByRecursion P (xs ++ x ∷ [])
all_push P xs x all p = all_joined P xs (x ∷ []) all (p, tt)

pub eq_swaps : (x y : ℕ) → nat_eq x y ≡ nat_eq y x
eq_swaps x y = grind (arith, common_steps)

or_left : (a b : Bool) → (a || b) ≡ false → a ≡ false
or_left false b e = refl
or_left true b e = e

pub or_right : (a b : Bool) → (a || b) ≡ false → b ≡ false
or_right false b e = e
or_right true b e = absurd (cc)

pub names_push : (given : List ℕ) (names : List (ℕ × ℕ)) (serial now : ℕ) → AreNames given names
    → list_any (nat_eq serial) (keys_of names) ≡ false → list_any (nat_eq now) given ≡ false
    → (list_any (nat_eq serial) given ≡ false → now ≡ serial) → list_any (nat_eq now) (values_of names) ≡ false
    → AreNames given (names ++ (serial, now) ∷ [])
names_push given names serial now are new free kept none = record {
  once = subst (IsDistinct nat_eq) (sym (map-append (λ (e : ℕ × ℕ). e.0) names ((serial, now) ∷ [])))
      (distinct_push (keys_of names) serial are.once new);
  distinct = subst (IsDistinct nat_eq) (sym (map-append (λ (e : ℕ × ℕ). e.1) names ((serial, now) ∷ [])))
      (distinct_push (values_of names) now are.distinct none);
  each = all_push (IsFreshName given) names (serial, now) are.each (record { free = free; kept = kept });
}

-- ---- one stream's name
pub keyed : (names : List (ℕ × ℕ)) (serial : ℕ) (some : Bool) → is_some (name_of names serial) ≡ some
    → list_any (nat_eq serial) (keys_of names) ≡ some
keyed names serial some e = sym (is_some-lookup (nat_eq serial) names) ∙ e

pub keeps_none : (given : List ℕ) (serial : ℕ) (names : List (ℕ × ℕ)) → IsKept given names serial → Keeps given serial names names
keeps_none given serial names kept = record {
  more = [];
  appended = sym (append-nil names);
  kept = kept;
  are = λ are own. are;
  own = λ own. own;
  only = λ serials is only. only;
}

own_key : (names : List (ℕ × ℕ)) (serial now : ℕ) → list_any (nat_eq serial) (keys_of (names ++ (serial, now) ∷ [])) ≡ true
own_key names serial now =
    ap (list_any (nat_eq serial)) (map-append (λ (e : ℕ × ℕ). e.0) names ((serial, now) ∷ []))
    ∙ list_any-append (nat_eq serial) (keys_of names) (serial ∷ [])
    ∙ ap (λ b. list_any (nat_eq serial) (keys_of names) || (b || false)) (eq-eqb serial serial refl)
    ∙ or-true (list_any (nat_eq serial) (keys_of names))

only_push : (names : List (ℕ × ℕ)) (serial now : ℕ) (serials : List ℕ) → list_any (nat_eq serial) serials ≡ true → AreOnlyOf names serials
    → AreOnlyOf (names ++ (serial, now) ∷ []) serials
only_push names serial now serials is only =
    subst (AllByRecursion (λ key. list_any (nat_eq key) serials ≡ true)) (sym (map-append (λ (e : ℕ × ℕ). e.0) names ((serial, now) ∷ [])))
    (all_push (λ key. list_any (nat_eq key) serials ≡ true) (keys_of names) serial only is)

pub keeps_one : (given : List ℕ) (serial : ℕ) (names : List (ℕ × ℕ)) → list_any (nat_eq serial) given ≡ false
    → list_any (nat_eq serial) (keys_of names) ≡ false →
    Keeps given serial names (names ++ (serial, serial) ∷ [])
keeps_one given serial names free none = record {
  more = (serial, serial) ∷ [];
  appended = refl;
  kept = λ new. own_key names serial serial;
  are = λ are own. names_push given names serial serial are none free (λ e. refl)
      (subst (λ l. list_any (nat_eq serial) l ≡ false) own none);
  own = λ own.
      map-append (λ (e : ℕ × ℕ). e.0) names ((serial, serial) ∷ []) ∙ ap (λ l. l ++ serial ∷ []) own
      ∙ sym (map-append (λ (e : ℕ × ℕ). e.1) names ((serial, serial) ∷ []));
  only = λ serials is only. only_push names serial serial serials is only;
}

pub renames_none : (given : List ℕ) (serial : ℕ) (names : List (ℕ × ℕ)) → list_any (nat_eq serial) (keys_of names) ≡ true
    → Renames given serial names names
renames_none given serial names is = record {
  more = [];
  appended = sym (append-nil names);
  first = tt;
  is_named = is;
  are = λ are kept. are;
  only = λ serials is only. only;
}

pub clash : {A : Type 0} {b : Bool} → b ≡ true → b ≡ false → A
clash t f = absurd (true_false (sym t ∙ f))
  where
    true_false : true ≡ false → ⊥
    true_false e = cc

-- a stream that isn't named has a serial that is taken
kept_given : (b : Bool) (k : Bool) (now serial : ℕ) → (b ≡ false → k ≡ true) → k ≡ false → b ≡ false → now ≡ serial
kept_given b k now serial kept none new = clash (kept new) none

pub renames_one : (given : List ℕ) (serial now : ℕ) (names : List (ℕ × ℕ)) → list_any (nat_eq serial) (keys_of names) ≡ false
    → IsFirstFree 0 given (values_of names) now → Renames given serial names (names ++ (serial, now) ∷ [])
renames_one given serial now names none first = record {
  more = (serial, now) ∷ [];
  appended = refl;
  first = (first, tt);
  is_named = own_key names serial now;
  are = λ are kept.
      names_push given names serial now are none (or_left (list_any (nat_eq now) given) (list_any (nat_eq now) (values_of names)) first.free)
      (kept_given (list_any (nat_eq serial) given) (list_any (nat_eq serial) (keys_of names)) now serial kept none)
      (or_right (list_any (nat_eq now) given) (list_any (nat_eq now) (values_of names)) first.free);
  only = λ serials is only. only_push names serial now serials is only;
}

-- ---- serials below which all are taken
or_more : (a b c : Bool) → (a || b) ≡ true → (a || (b || c)) ≡ true
or_more true b c e = refl
or_more false true c e = refl
or_more false false c e = clash e refl

had_more : (earlier serials more : List ℕ) (n : ℕ) → is_had earlier serials n ≡ true → is_had earlier (serials ++ more) n ≡ true
had_more earlier serials more n e =
    ap (λ b. list_any (nat_eq n) earlier || b) (list_any-append (nat_eq n) serials more)
    ∙ or_more (list_any (nat_eq n) earlier) (list_any (nat_eq n) serials) (list_any (nat_eq n) more) e

pub low_more : (given more : List ℕ) (low : ℕ) → IsLow given [] low → IsLow given more low
low_more given more low is n less = had_more given [] more n (is n less)

-- a serial more is taken, which was the first free one
pub low_named : (given : List ℕ) (names : List (ℕ × ℕ)) (serial now : ℕ) → IsFirstFree 0 given (values_of names) now
    → IsLow given (values_of (names ++ (serial, now) ∷ [])) now
low_named given names serial now first n less =
    ap (λ l. is_had given l n) (map-append (λ (e : ℕ × ℕ). e.1) names ((serial, now) ∷ []))
    ∙ had_more given (values_of names) (now ∷ []) n (first.first n (omega (arith)) less)

-- from a serial on below which all are taken, the first free one is the first of all
pub first_of_low : (given serials : List ℕ) (low free : ℕ) → IsLow given serials low → IsFreeFrom low given serials (Some free)
    → IsFirstFree 0 given serials free
first_of_low given serials low free is (f, above, taken) = record {
  free = f;
  first = λ n zero_less less. by n less (cases_lt n low);
  none = λ less. absurd (omega (arith, less));
  least = λ less. absurd (omega (arith, less));
}
  where
    by : (n : ℕ) → n < free → (n < low) ⊎ (low ≤ n) → is_had given serials n ≡ true
    by n less (inl below) = is n below
    by n less (inr from) = taken n from less

pub all_of_low : (given serials : List ℕ) (low : ℕ) → IsLow given serials low → IsFreeFrom low given serials None
    → AreAllTaken given serials
all_of_low given serials low is taken n less = by (cases_lt n low)
  where
    by : (n < low) ⊎ (low ≤ n) → is_had given serials n ≡ true
    by (inl below) = is n below
    by (inr from) = taken n from less

-- ---- stream after stream
any_own : (serials : List ℕ) (serial : ℕ) → list_any (nat_eq serial) (serials ++ serial ∷ []) ≡ true
any_own serials serial =
    list_any-append (nat_eq serial) serials (serial ∷ []) ∙ ap (λ b. list_any (nat_eq serial) serials || (b || false))
    (eq-eqb serial serial refl)
    ∙ or-true (list_any (nat_eq serial) serials)

pub only_more : (serials more keys : List ℕ) → AllByRecursion (λ key. list_any (nat_eq key) serials ≡ true) keys
    → AllByRecursion (λ key. list_any (nat_eq key) (serials ++ more) ≡ true) keys
only_more serials more [] all = tt
only_more serials more (key ∷ keys) (p, all) = (any_more (nat_eq key) serials more p, only_more serials more keys all)

pub keeps_next : (given : List ℕ) (old new : List (ℕ × ℕ)) (serials : List ℕ) (serial : ℕ) → KeepsAll given old serials
    → Keeps given serial old new → KeepsAll given new (serials ++ serial ∷ [])
keeps_next given old new serials serial all next = record {
  are = next.are all.are all.own;
  own = next.own all.own;
  all = all_push (IsKept given new) serials serial
      (subst (λ l. AllByRecursion (IsKept given l) serials) (sym next.appended) (kept_more given old next.more serials all.all)) next.kept;
  only = next.only (serials ++ serial ∷ []) (any_own serials serial) (only_more serials (serial ∷ []) (keys_of old) all.only);
}

pub kept_next : (given : List ℕ) (old new : List (ℕ × ℕ)) (serials : List ℕ) (serial : ℕ) → AllByRecursion (IsKept given old) serials
    → Renames given serial old new → AllByRecursion (IsKept given new) serials
kept_next given old new serials serial all next = subst (λ l. AllByRecursion (IsKept given l) serials) (sym next.appended)
    (kept_more given old next.more serials all)

pub named_next : (given : List ℕ) (old new : List (ℕ × ℕ)) (serials : List ℕ) (serial : ℕ) → AreNamed old serials
    → Renames given serial old new → AreNamed new (serials ++ serial ∷ [])
named_next given old new serials serial all next =
    all_push (λ serial. list_any (nat_eq serial) (keys_of new) ≡ true) serials serial
    (subst (λ l. AreNamed l serials) (sym next.appended) (named_more old next.more serials all)) next.is_named

pub no_names : (given : List ℕ) → KeepsAll given [] []
unfolding IsDistinct
no_names given = record { are = record { once = tt; distinct = tt; each = tt }; own = refl; all = tt; only = tt }

pub kept_at : (given : List ℕ) (names : List (ℕ × ℕ)) (streams : List NewStream) (i : ℕ) (d : NewStream) → i < length streams
    → AllByRecursion (IsKept given names) (serials_of streams) →
    IsKept given names (get_or streams i d).serial
kept_at given names [] i d less all = absurd (omega (arith, less))
kept_at given names (stream ∷ streams) zero d less (p, all) = p
kept_at given names (stream ∷ streams) (suc i) d less (p, all) = kept_at given names streams i d (omega (arith, less)) all

pub serial_at : (streams : List NewStream) (i : ℕ) (d : NewStream) → i < length streams
    → list_any (nat_eq (get_or streams i d).serial) (serials_of streams) ≡ true
serial_at [] i d less = absurd (omega (arith, less))
serial_at (stream ∷ streams) zero d less = ap (λ b. b || list_any (nat_eq stream.serial) (serials_of streams))
    (eq-eqb stream.serial stream.serial refl)
serial_at (stream ∷ streams) (suc i) d less =
    ap (λ b. nat_eq (get_or streams i d).serial stream.serial || b) (serial_at streams i d (omega (arith, less)))
    ∙ or-true (nat_eq (get_or streams i d).serial stream.serial)

-- ---- packet after packet
pub entries_push : (names : List (ℕ × ℕ)) (entries : List Entry) (entry : Entry) (now : Option ℕ) → name_of names entry.serial ≡ now →
    entries_named names (entries ++ entry ∷ []) ≡ entries_named names entries ++ cons_option (entry_with entry now) []
entries_push names entries entry now e =
    filter_map-append (λ (entry : Entry). entry_with entry (name_of names entry.serial)) entries (entry ∷ [])
    ∙ ap (λ o. entries_named names entries ++ cons_option (entry_with entry o) []) e
