-- Names and streams under them.
use Rattle.std.proofs.Common.{◌≡◌, ℕ, Bool, true, false, cond, List, [], ◌∷◌, ◌++◌, map, refl, sym, ◌∙◌, ap, subst, append_assoc}
use Rattle.std.specs.Prelude.{nat_eq, Option, Some, None, ◌||◌, if◌then◌else◌}
use Rattle.std.specs.Option.{is_some, unwrap_or}
use Rattle.std.specs.List.{AllByRecursion, IsDistinct, list_any}
use Rattle.std.specs.Map.{keys_of, values_of}
use Rattle.std.proofs.lemmas.Bool.{eqb-true, eq-eqb, or_from, or_parts}
use Rattle.std.proofs.lemmas.Map.Made.{is_some-lookup}
use Rattle.chain_rules.specs.Recording.{Stream}
use Rattle.ogg_command.specs.declared.command.Entry.{Entry}
use Rattle.import_changes.specs.Naming.{AreNamed, AreOnlyOf, name_of, named}
use Rattle.import_changes.specs.Renumbered.{serials}
use Rattle.import_changes.specs.Changed.{IsNoName, stream_under}
use Rattle.import_changes.specs.Links.{IsFrontOf}
use Rattle.import_changes.specs.Said.{first_of}
use Rattle.import_changes.specs.Skeletons.{is_fishead}
use Rattle.import_changes.proofs.Names.{eq_swaps, clash}
use Rattle.std.proofs.Math.Bool.{or-true}

-- ---- distinct serials have distinct names
-- a serial's name is one of the names
pub named_now : (names : List (ℕ × ℕ)) (serial now : ℕ) → name_of names serial ≡ Some now → list_any (nat_eq now) (values_of names) ≡ false
    → ⊥
named_now [] serial now e none = absurd (nothing e)
  where
    nothing : None ≡ Some now → ⊥
    nothing e = cc
named_now ((k, v) ∷ names) serial now e none =
    by (λ e. named_now names serial now e (or_parts (nat_eq now v) (list_any (nat_eq now) (values_of names)) none).1) (nat_eq serial k) e
  where
    value : Some v ≡ Some now → now ≡ v
    value f = cc

    by : (name_of names serial ≡ Some now → ⊥) → (b : Bool) → cond b (Some v) (name_of names serial) ≡ Some now → ⊥
    by rest true f = clash (eq-eqb now v (value f)) (or_parts (nat_eq now v) (list_any (nat_eq now) (values_of names)) none).0
    by rest false f = rest f

no_value : (names : List (ℕ × ℕ)) (serial now : ℕ) → AllByRecursion (λ y. nat_eq now y ≡ false) (values_of names)
    → name_of names serial ≡ Some now → ⊥
no_value [] serial now apart e = cc
no_value ((k, v) ∷ names) serial now (head, apart) e = by (no_value names serial now apart) (nat_eq serial k) e
  where
    value : Some v ≡ Some now → now ≡ v
    value f = cc

    by : (name_of names serial ≡ Some now → ⊥) → (b : Bool) → cond b (Some v) (name_of names serial) ≡ Some now → ⊥
    by rest true f = clash (eq-eqb now v (value f)) head
    by rest false f = rest f

pub same_key : (names : List (ℕ × ℕ)) (s t now : ℕ) → IsDistinct nat_eq (values_of names) → name_of names s ≡ Some now
    → name_of names t ≡ Some now → s ≡ t
unfolding IsDistinct
same_key [] s t now d e f = absurd (none e)
  where
    none : None ≡ Some now → ⊥
    none e = cc
same_key ((k, v) ∷ names) s t now (apart, d) e f = by (same_key names s t now d) (nat_eq s k) (nat_eq t k) refl refl e f
  where
    value : Some v ≡ Some now → v ≡ now
    value f = cc

    by : (name_of names s ≡ Some now → name_of names t ≡ Some now → s ≡ t) → (a b : Bool) → nat_eq s k ≡ a → nat_eq t k ≡ b →
        cond a (Some v) (name_of names s) ≡ Some now → cond b (Some v) (name_of names t) ≡ Some now → s ≡ t
    by rest true true p q e f = eqb-true s k p ∙ sym (eqb-true t k q)
    by rest true false p q e f = absurd (no_value names t now (subst (λ n. AllByRecursion (λ y. nat_eq n y ≡ false) (values_of names))
        (value e) apart) f)
    by rest false true p q e f = absurd (no_value names s now (subst (λ n. AllByRecursion (λ y. nat_eq n y ≡ false) (values_of names))
        (value f) apart) e)
    by rest false false p q e f = rest e f

-- a serial that is named, and its name
pub record HasName (names : List (ℕ × ℕ)) (serial : ℕ) : Type 0 where
  pub now : ℕ
  pub is : name_of names serial ≡ Some now
  pub named_is : named names serial ≡ now

pub has_name : (names : List (ℕ × ℕ)) (serial : ℕ) → list_any (nat_eq serial) (keys_of names) ≡ true → HasName names serial
has_name names serial e = by (name_of names serial) refl (is_some-lookup (nat_eq serial) names ∙ e)
  where
    by : (o : Option ℕ) → name_of names serial ≡ o → is_some o ≡ true → HasName names serial
    by None p q = clash q refl
    by (Some now) p q = record { now = now; is = p; named_is = ap (λ o. unwrap_or o serial) p }

-- the names of two serials are equal if the serials are
pub eq_named : (names : List (ℕ × ℕ)) (s t now : ℕ) → IsDistinct nat_eq (values_of names) → list_any (nat_eq s) (keys_of names) ≡ true
    → name_of names t ≡ Some now →
    nat_eq (named names s) now ≡ nat_eq s t
eq_named names s t now d key is =
    let h : HasName names s = has_name names s key in
    ap (λ n. nat_eq n now) h.named_is ∙ by h (nat_eq h.now now) (nat_eq s t) refl refl
  where
    by : (h : HasName names s) (a b : Bool) → nat_eq h.now now ≡ a → nat_eq s t ≡ b → a ≡ b
    by h true true p q = refl
    by h false false p q = refl
    by h true false p q = clash (eq-eqb s t (same_key names s t now d (h.is ∙ ap Some (eqb-true h.now now p)) is)) q
    by h false true p q = clash (eq-eqb h.now now (value (sym h.is ∙ ap (name_of names) (eqb-true s t q) ∙ is))) p
      where
        value : Some h.now ≡ Some now → h.now ≡ now
        value f = cc

pub serials_under : (names : List (ℕ × ℕ)) (link : List Stream) → serials (map (stream_under names) link) ≡ map (named names) (serials link)
serials_under names [] = refl
serials_under names (stream ∷ link) = ap (λ l. named names stream.serial ∷ l) (serials_under names link)

-- a serial that isn't named is that of no stream
other : (names : List (ℕ × ℕ)) (s t : ℕ) → list_any (nat_eq s) (keys_of names) ≡ true → name_of names t ≡ None → nat_eq s t ≡ false
other names s t key none = by (nat_eq s t) refl
  where
    by : (b : Bool) → nat_eq s t ≡ b → b ≡ false
    by false e = refl
    by true e = clash (is_some-lookup (nat_eq s) names ∙ key) (ap (λ n. is_some (name_of names n)) (eqb-true s t e) ∙ ap is_some none)

-- a serial that is no name isn't that of a stream under its name
pub no_name : (names : List (ℕ × ℕ)) (s t now : ℕ) → name_of names t ≡ Some now → IsNoName names s → nat_eq s now ≡ false
no_name names s t now is none = by (nat_eq s now) refl
  where
    by : (b : Bool) → nat_eq s now ≡ b → b ≡ false
    by false e = refl
    by true e = absurd (named_now names t now is (subst (IsNoName names) (eqb-true s now e) none))

-- ---- the names are the serials that streams have now
found_more : (names : List (ℕ × ℕ)) (key value : ℕ) → AllByRecursion (λ y. nat_eq key y ≡ false) (keys_of names) → (rest : List (ℕ × ℕ))
    → AllByRecursion (λ y. nat_eq key y ≡ false) (keys_of rest)
    → AllByRecursion (λ (name : ℕ × ℕ). name_of names name.0 ≡ Some name.1) rest
    → AllByRecursion (λ (name : ℕ × ℕ). name_of ((key, value) ∷ names) name.0 ≡ Some name.1) rest
found_more names key value apart [] others all = tt
found_more names key value apart ((k, v) ∷ rest) (other, others) (is, all) =
    (ap (λ b. cond b (Some value) (name_of names k)) (eq_swaps k key ∙ other) ∙ is, found_more names key value apart rest others all)

each_found : (names : List (ℕ × ℕ)) → IsDistinct nat_eq (keys_of names)
    → AllByRecursion (λ (name : ℕ × ℕ). name_of names name.0 ≡ Some name.1) names
unfolding IsDistinct
each_found [] d = tt
each_found ((k, v) ∷ names) (apart, d) =
    (ap (λ b. cond b (Some v) (name_of names k)) (eq-eqb k k refl), found_more names k v apart names apart (each_found names d))

any_named : (names : List (ℕ × ℕ)) (serial : ℕ) (serials : List ℕ) → list_any (nat_eq serial) serials ≡ true
    → list_any (nat_eq (named names serial)) (map (named names) serials) ≡ true
any_named names serial [] e = e
any_named names serial (y ∷ serials) e = by (any_named names serial serials) (nat_eq serial y) refl e
  where
    by : (list_any (nat_eq serial) serials ≡ true → list_any (nat_eq (named names serial)) (map (named names) serials) ≡ true) → (b : Bool)
        → nat_eq serial y ≡ b
        → (b || list_any (nat_eq serial) serials) ≡ true → (nat_eq (named names serial) (named names y) || list_any
        (nat_eq (named names serial)) (map (named names) serials)) ≡ true
    by rest true p f = ap (λ b. b || list_any (nat_eq (named names serial)) (map (named names) serials))
        (eq-eqb (named names serial) (named names y) (ap (named names) (eqb-true serial y p)))
    by rest false p f = ap (λ b. nat_eq (named names serial) (named names y) || b) (rest f)
        ∙ or-true (nat_eq (named names serial) (named names y))

values_had : (names : List (ℕ × ℕ)) (serials : List ℕ) (n : ℕ) → list_any (nat_eq n) (map (named names) serials) ≡ false
    → (rest : List (ℕ × ℕ))
    → AllByRecursion (λ (name : ℕ × ℕ). name_of names name.0 ≡ Some name.1) rest
    → AllByRecursion (λ key. list_any (nat_eq key) serials ≡ true) (keys_of rest)
    → list_any (nat_eq n) (values_of rest) ≡ false
values_had names serials n none [] found only = refl
values_had names serials n none ((k, v) ∷ rest) (is, found) (among, only) =
    or_from (nat_eq n v) (list_any (nat_eq n) (values_of rest)) (by (nat_eq n v) refl) (values_had names serials n none rest found only)
  where
    by : (b : Bool) → nat_eq n v ≡ b → b ≡ false
    by false e = refl
    by true e =
        clash (subst (λ m. list_any (nat_eq m) (map (named names) serials) ≡ true) (ap (λ o. unwrap_or o k) is ∙ sym (eqb-true n v e))
        (any_named names k serials among)) none

pub not_among : (names : List (ℕ × ℕ)) (serial : ℕ) (serials : List ℕ) → AreNamed names serials → IsNoName names serial
    → list_any (nat_eq serial) (map (named names) serials) ≡ false
not_among names serial [] all none = refl
not_among names serial (y ∷ serials) (key, all) none =
    let h : HasName names y = has_name names y key in
    or_from (nat_eq serial (named names y)) (list_any (nat_eq serial) (map (named names) serials))
    (ap (nat_eq serial) h.named_is ∙ no_name names serial y h.now h.is none) (not_among names serial serials all none)

pub names_are : (names : List (ℕ × ℕ)) (serials : List ℕ) → IsDistinct nat_eq (keys_of names) → AreNamed names serials
    → AreOnlyOf names serials → (n : ℕ)
    → list_any (nat_eq n) (values_of names) ≡ list_any (nat_eq n) (map (named names) serials)
names_are names serials once all only n = by (list_any (nat_eq n) (values_of names))
    (list_any (nat_eq n) (map (named names) serials)) refl refl
  where
    by : (a b : Bool) → list_any (nat_eq n) (values_of names) ≡ a → list_any (nat_eq n) (map (named names) serials) ≡ b → a ≡ b
    by true true p q = refl
    by false false p q = refl
    by true false p q = clash p (values_had names serials n q names (each_found names once) only)
    by false true p q = clash q (not_among names n serials all p)

-- ---- a change of a stream, and the one that goes with it of the stream under its name
pub record GoesWith (names : List (ℕ × ℕ)) (change now : Stream → Stream) : Type 0 where
  pub serial : (stream : Stream) → (change stream).serial ≡ stream.serial
  pub fishead : (stream : Stream) → is_fishead (first_of stream.packets) ≡ true → is_fishead (first_of (change stream).packets) ≡ true
  pub front : (stream : Stream) (front : List (List ℕ)) → IsFrontOf front stream → IsFrontOf front (change stream)
  pub under : (stream : Stream) → list_any (nat_eq stream.serial) (keys_of names) ≡ true
      → now (stream_under names stream) ≡ stream_under names (change stream)
  pub apart : (stream : Stream) → IsNoName names stream.serial → now stream ≡ stream

abbrev pub grown_if : List ℕ → Stream → Bool → Stream
grown_if packet stream b = if b then record stream { packets = stream.packets ++ packet ∷ [] } else stream

abbrev pub grown : Entry → Stream → Stream
grown entry stream = grown_if entry.packet stream (nat_eq stream.serial entry.serial)

abbrev pub ended_if : Stream → Bool → Stream
ended_if stream b = if b then record stream { ended = true } else stream

abbrev pub ended : ℕ → Stream → Stream
ended serial stream = ended_if stream (nat_eq stream.serial serial)

pub grown_serial : (packet : List ℕ) (stream : Stream) (b : Bool) → (grown_if packet stream b).serial ≡ stream.serial
grown_serial packet stream true = refl
grown_serial packet stream false = refl

pub ended_serial : (stream : Stream) (b : Bool) → (ended_if stream b).serial ≡ stream.serial
ended_serial stream true = refl
ended_serial stream false = refl

first_stays : (packets : List (List ℕ)) (packet : List ℕ) → is_fishead (first_of packets) ≡ true
    → is_fishead (first_of (packets ++ packet ∷ [])) ≡ true
first_stays [] packet e = absurd (none e)
  where
    none : is_fishead [] ≡ true → ⊥
    none e = cc
first_stays (first ∷ packets) packet e = e

grown_fishead : (packet : List ℕ) (stream : Stream) (b : Bool) → is_fishead (first_of stream.packets) ≡ true
    → is_fishead (first_of (grown_if packet stream b).packets) ≡ true
grown_fishead packet stream true e = first_stays stream.packets packet e
grown_fishead packet stream false e = e

ended_fishead : (stream : Stream) (b : Bool) → is_fishead (first_of stream.packets) ≡ true
    → is_fishead (first_of (ended_if stream b).packets) ≡ true
ended_fishead stream true e = e
ended_fishead stream false e = e

grown_front : (packet : List ℕ) (stream : Stream) (b : Bool) (front : List (List ℕ)) → IsFrontOf front stream
    → IsFrontOf front (grown_if packet stream b)
grown_front packet stream true front (more, is) =
    (more ++ packet ∷ [], ap (λ l. l ++ packet ∷ []) is ∙ append_assoc front more (packet ∷ []))
grown_front packet stream false front f = f

ended_front : (stream : Stream) (b : Bool) (front : List (List ℕ)) → IsFrontOf front stream → IsFrontOf front (ended_if stream b)
ended_front stream true front f = f
ended_front stream false front f = f

grown_under : (names : List (ℕ × ℕ)) (packet : List ℕ) (stream : Stream) (b : Bool)
    → grown_if packet (stream_under names stream) b ≡ stream_under names (grown_if packet stream b)
grown_under names packet stream true = refl
grown_under names packet stream false = refl

ended_under : (names : List (ℕ × ℕ)) (stream : Stream) (b : Bool)
    → ended_if (stream_under names stream) b ≡ stream_under names (ended_if stream b)
ended_under names stream true = refl
ended_under names stream false = refl

pub packet_named : (names : List (ℕ × ℕ)) (entry : Entry) (now : ℕ) → IsDistinct nat_eq (values_of names)
    → name_of names entry.serial ≡ Some now →
    GoesWith names (grown entry) (grown (record entry { serial = now }))
packet_named names entry now d is = record {
  serial = λ stream. grown_serial entry.packet stream (nat_eq stream.serial entry.serial);
  fishead = λ stream. grown_fishead entry.packet stream (nat_eq stream.serial entry.serial);
  front = λ stream front f. grown_front entry.packet stream (nat_eq stream.serial entry.serial) front f;
  under = λ stream key.
      ap (grown_if entry.packet (stream_under names stream)) (eq_named names stream.serial entry.serial now d key is)
      ∙ grown_under names entry.packet stream (nat_eq stream.serial entry.serial);
  apart = λ stream none. ap (grown_if entry.packet stream) (no_name names stream.serial entry.serial now is none);
}

pub end_named : (names : List (ℕ × ℕ)) (serial now : ℕ) → IsDistinct nat_eq (values_of names) → name_of names serial ≡ Some now
    → GoesWith names (ended serial) (ended now)
end_named names serial now d is = record {
  serial = λ stream. ended_serial stream (nat_eq stream.serial serial);
  fishead = λ stream. ended_fishead stream (nat_eq stream.serial serial);
  front = λ stream front f. ended_front stream (nat_eq stream.serial serial) front f;
  under = λ stream key.
      ap (ended_if (stream_under names stream)) (eq_named names stream.serial serial now d key is)
      ∙ ended_under names stream (nat_eq stream.serial serial);
  apart = λ stream none. ap (ended_if stream) (no_name names stream.serial serial now is none);
}

-- a change of a stream that isn't named goes with none
pub packet_other : (names : List (ℕ × ℕ)) (entry : Entry) → name_of names entry.serial ≡ None
    → GoesWith names (grown entry) (λ stream. stream)
packet_other names entry none = record {
  serial = λ stream. grown_serial entry.packet stream (nat_eq stream.serial entry.serial);
  fishead = λ stream. grown_fishead entry.packet stream (nat_eq stream.serial entry.serial);
  front = λ stream front f. grown_front entry.packet stream (nat_eq stream.serial entry.serial) front f;
  under = λ stream key. ap (λ b. stream_under names (grown_if entry.packet stream b))
      (sym (other names stream.serial entry.serial key none));
  apart = λ stream none. refl;
}

pub end_other : (names : List (ℕ × ℕ)) (serial : ℕ) → name_of names serial ≡ None → GoesWith names (ended serial) (λ stream. stream)
end_other names serial none = record {
  serial = λ stream. ended_serial stream (nat_eq stream.serial serial);
  fishead = λ stream. ended_fishead stream (nat_eq stream.serial serial);
  front = λ stream front f. ended_front stream (nat_eq stream.serial serial) front f;
  under = λ stream key. ap (λ b. stream_under names (ended_if stream b)) (sym (other names stream.serial serial key none));
  apart = λ stream none. refl;
}
