-- Streams that are renumbered share no serial.
use Rattle.std.proofs.Common.{◌≡◌, ℕ, Bool, true, false, List, [], ◌∷◌, ◌++◌, refl, sym, ◌∙◌, ap, subst}
use Rattle.std.specs.Prelude.{nat_eq}
use Rattle.std.specs.List.{AllByRecursion, AllZip, IsDistinct, flat_map, list_any}
use Rattle.std.proofs.lemmas.Bool.{or_parts}
use Rattle.std.proofs.lemmas.List.{map-append}
use Rattle.std.proofs.lemmas.List.Folds.{list_any-append}
use Rattle.chain_rules.specs.Recording.{Stream, Recording, after}
use Rattle.ogg_command.specs.declared.command.Command.{Command}
use Rattle.import_changes.specs.declared.options.ChangeOptions.{ChangeOptions}
use Rattle.import_changes.specs.declared.options.Skeletons.{Skeletons}
use Rattle.import_changes.specs.declared.options.Skeletons.TheVariants.{Kept, LeftOut, Made}
use Rattle.import_changes.specs.Options.{is_none_with}
use Rattle.import_changes.specs.Renumbered.{IsRenumberedStream, avoided, serials}
use Rattle.import_changes.specs.Links.{ChangedFrom, IsBefore, IsChangedLink, the_others, those}
use Rattle.import_changes.specs.Changed.{AreDistinctInLinks, ChangeState, HasChangedBeside, HaveTheirOwn, IsNotOf}
use Rattle.import_changes.proofs.Names.{all_joined, eq_swaps}
use Rattle.import_changes.proofs.Links.{followed_changed}
use Rattle.import_changes.proofs.Steps.{by_of}

-- ---- lists of serials
-- a serial that isn't among the first is none of the parts
not_of_front : (front more serials : List ℕ) → AllByRecursion (IsNotOf (front ++ more)) serials → AllByRecursion (IsNotOf front) serials
not_of_front front more [] all = tt
not_of_front front more (serial ∷ serials) (p, all) = (
  (or_parts (list_any (nat_eq serial) front) (list_any (nat_eq serial) more) (sym (list_any-append (nat_eq serial) front more) ∙ p)).0,
  not_of_front front more serials all,
)

not_of_rest : (front more serials : List ℕ) → AllByRecursion (IsNotOf (front ++ more)) serials → AllByRecursion (IsNotOf more) serials
not_of_rest front more [] all = tt
not_of_rest front more (serial ∷ serials) (p, all) = (
  (or_parts (list_any (nat_eq serial) front) (list_any (nat_eq serial) more) (sym (list_any-append (nat_eq serial) front more) ∙ p)).1,
  not_of_rest front more serials all,
)

apart_from : (serial : ℕ) (serials more : List ℕ) → AllByRecursion (IsNotOf (serial ∷ serials)) more
    → AllByRecursion (λ y. nat_eq serial y ≡ false) more
apart_from serial serials [] all = tt
apart_from serial serials (y ∷ more) (p, all) =
    (eq_swaps serial y ∙ (or_parts (nat_eq y serial) (list_any (nat_eq y) serials) p).0, apart_from serial serials more all)

distinct_joined : (xs ys : List ℕ) → IsDistinct nat_eq xs → IsDistinct nat_eq ys → AllByRecursion (IsNotOf xs) ys
    → IsDistinct nat_eq (xs ++ ys)
unfolding IsDistinct
distinct_joined [] ys first rest none = rest
distinct_joined (x ∷ xs) ys (apart, first) rest none = (
  all_joined (λ y. nat_eq x y ≡ false) xs ys apart (apart_from x xs ys none),
  distinct_joined xs ys first rest (not_of_rest (x ∷ []) xs ys none),
)

-- ---- a link
streams_free : (earlier : List ℕ) (streams now : List Stream) → AllZip (IsRenumberedStream earlier) streams now
    → AllByRecursion (IsNotOf earlier) (serials now)
streams_free earlier [] [] all = tt
streams_free earlier [] (n ∷ now) all = absurd all
streams_free earlier (stream ∷ streams) [] all = absurd all
streams_free earlier (stream ∷ streams) (n ∷ now) (is, all) = (is.free, streams_free earlier streams now all)

before_free : (skeletons : Skeletons) (left stay : List Stream) (earlier serials_now : List ℕ) (before : List Stream)
    → IsBefore skeletons left stay earlier serials_now before → AllByRecursion (IsNotOf earlier) (serials before)
before_free skeletons left stay earlier serials_now [] made = tt
before_free Kept left stay earlier serials_now (skeleton ∷ more) made = absurd made
before_free LeftOut left stay earlier serials_now (skeleton ∷ more) made = absurd made
before_free (Made from) left stay earlier serials_now (skeleton ∷ next ∷ more) made = absurd made
before_free (Made from) left stay earlier serials_now (skeleton ∷ []) made = (
  subst (λ (s : Stream). IsNotOf earlier s.serial) (sym made.is)
      (or_parts (list_any (nat_eq made.head.serial) earlier) (list_any (nat_eq made.head.serial) serials_now) made.first.free).0,
  tt,
)

link_free : (options : ChangeOptions) (earlier : List ℕ) (link now : List Stream) → options.renumber ≡ true
    → IsChangedLink options earlier link now → AllByRecursion (IsNotOf earlier) (serials now)
link_free options earlier link now asked by =
    subst (AllByRecursion (IsNotOf earlier))
    (sym (ap serials by.is ∙ map-append (λ (stream : Stream). stream.serial) by.before by.streams))
    (all_joined (IsNotOf earlier) (serials by.before) (serials by.streams)
    (before_free options.skeletons (the_others by.stays link) (those by.stays link) earlier (serials by.streams) by.before by.made)
    (streams_free earlier (those by.stays link) by.streams
    (subst (λ b. AllZip (IsRenumberedStream (avoided b earlier)) (those by.stays link) by.streams) asked by.renumbered)))

-- ---- link after link
own_from : (options : ChangeOptions) (earlier : List ℕ) (recording now : Recording) → options.renumber ≡ true
    → ChangedFrom options earlier recording now → AreDistinctInLinks recording → HaveTheirOwn earlier now
unfolding IsDistinct
own_from options earlier [] [] asked by distinct = record { distinct = tt; apart = tt }
own_from options earlier [] (n ∷ now) asked by distinct = absurd by
own_from options earlier (link ∷ recording) [] asked by distinct = absurd by
own_from options earlier (link ∷ recording) (n ∷ now) asked (first, by) (d, distinct) =
    let rest : HaveTheirOwn (earlier ++ serials n) now = own_from options (earlier ++ serials n) recording now asked by distinct in
    record {
      distinct = distinct_joined (serials n) (flat_map serials now) (first.distinct d) rest.distinct
          (not_of_rest earlier (serials n) (flat_map serials now) rest.apart);
      apart = all_joined (IsNotOf earlier) (serials n) (flat_map serials now) (link_free options earlier link n asked first)
          (not_of_front earlier (serials n) (flat_map serials now) rest.apart);
    }

renumbers : (skeletons : Skeletons) (renumber : Bool) → renumber ≡ true → is_none_with skeletons renumber ≡ false
renumbers Kept true asked = refl
renumbers Kept false asked = sym asked
renumbers LeftOut renumber asked = refl
renumbers (Made from) renumber asked = refl

pub have_their_own : (taken : List ℕ) (state : ChangeState) (commands given : List Command) → HasChangedBeside taken state commands given
    → state.options.renumber ≡ true → AreDistinctInLinks (after [] commands) → HaveTheirOwn taken (after [] given)
have_their_own taken state commands given h asked distinct =
    own_from state.options taken (after [] commands) (after [] given) asked
    (followed_changed taken state (after [] commands) (after [] given)
    (by_of taken state commands given (renumbers state.options.skeletons state.options.renumber asked) h)) distinct
