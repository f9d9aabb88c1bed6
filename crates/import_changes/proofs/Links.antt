-- The last link under its names, a change of it, and a new one.
use Rattle.std.proofs.Common.{◌≡◌, ℕ, Bool, true, false, cond, List, [], ◌∷◌, ◌++◌, map, refl, sym, ◌∙◌, ap, subst, append-nil}
use Rattle.std.proofs.Common.{append_assoc}
use Rattle.std.specs.Prelude.{nat_eq, not, Some, None, ◌⊎◌}
use Rattle.std.proofs.Common.{inl, inr}
use Rattle.std.specs.List.{AllByRecursion, AllZip, IsDistinct, flat_map, list_any}
use Rattle.std.specs.Map.{keys_of, values_of}
use Rattle.std.proofs.lemmas.Grind.{flat_map-append}
use Rattle.std.proofs.lemmas.Bool.{eqb-true, or_parts}
use Rattle.std.proofs.lemmas.List.{map-append}
use Rattle.chain_rules.specs.Recording.{Stream, Recording, change_last}
use Rattle.import_changes.specs.declared.options.ChangeOptions.{ChangeOptions}
use Rattle.import_changes.specs.declared.options.Skeletons.{Skeletons}
use Rattle.import_changes.specs.declared.options.Skeletons.TheVariants.{Kept, LeftOut, Made}
use Rattle.import_changes.specs.Naming.{AreNamed, AreNames, IsFreshName, name_of, named}
use Rattle.import_changes.specs.Renumbered.{IsRenumberedStream, avoided, serials}
use Rattle.import_changes.specs.Links.{ChangedFrom, IsBefore, IsChangedLink, the_others, those}
use Rattle.import_changes.specs.Changed.{AreNone, ChangeState, IsFollowed, IsUnderNames, IsUpTo, stream_under}
use Rattle.import_changes.proofs.Renumbers.{GoesWith, HasName, eq_named, has_name, serials_under}
use Rattle.import_changes.proofs.Lists.{apart_still, before_still, left_out_still, map_same, no_serial, same_serials, those_distinct}
use Rattle.import_changes.proofs.Lists.{those_map, under_still}
use Rattle.link_chain.specs.Laws.LastLink.{last_changed}

-- ---- the last link changes
staying_serials : (change : Stream → Stream) → ((stream : Stream) → (change stream).serial ≡ stream.serial)
    → (stays : List Bool) (link : List Stream)
    → serials (those stays (map change link)) ≡ serials (those stays link)
staying_serials change same stays link = ap serials (those_map change stays link) ∙ same_serials change same (those stays link)

pub under_step : (state : ChangeState) (earlier : List ℕ) (link link_now : List Stream) (change now : Stream → Stream)
    → GoesWith state.names change now
    → IsUnderNames state earlier link link_now → IsUnderNames state earlier (map change link) (map now link_now)
under_step state earlier link link_now change now with by =
    let names : List (ℕ × ℕ) = state.names in
    let stay : List Stream = those by.stays link in
    let skeletons : Skeletons = state.options.skeletons in
    let had : List ℕ = serials (map (stream_under names) stay) in
    let same : serials (those by.stays (map change link)) ≡ serials stay = staying_serials change with.serial by.stays link in
    record {
      stays = by.stays;
      left_out = left_out_still state.options.skeletons names change now with by.stays link by.left_out;
      names = by.names;
      named = subst (AreNamed names) (sym same) by.named;
      before = by.before;
      made = subst (λ l. IsBefore skeletons (the_others by.stays (map change link)) (those by.stays (map change link)) earlier l by.before)
          (serials_under names stay ∙ ap (map (named names)) (sym same)
          ∙ sym (serials_under names (those by.stays (map change link))))
          (subst (λ l. IsBefore skeletons (the_others by.stays (map change link)) l earlier had by.before)
          (sym (those_map change by.stays link))
          (subst (λ l. IsBefore skeletons l (map change stay) earlier had by.before) (sym (those_map change (map not by.stays) link))
          (before_still names change now with skeletons (the_others by.stays link) stay earlier had by.before by.made)));
      apart = by.apart;
      is = ap (map now) by.is ∙ map-append now by.before (map (stream_under names) stay)
          ∙ ap (λ l. l ++ map now (map (stream_under names) stay)) (apart_still names change now with by.before by.apart)
          ∙ ap (λ l. by.before ++ l) (under_still names change now with stay by.named
          ∙ ap (map (stream_under names)) (sym (those_map change by.stays link)));
    }

pub under_only : (state : ChangeState) (earlier : List ℕ) (link link_now : List Stream) (change : Stream → Stream)
    → GoesWith state.names change (λ stream. stream)
    → IsUnderNames state earlier link link_now → IsUnderNames state earlier (map change link) link_now
under_only state earlier link link_now change with by =
    subst (IsUnderNames state earlier (map change link)) (map_same link_now)
    (under_step state earlier link link_now change (λ stream. stream) with by)

-- ---- the link is changed as asked
fresh : (given : List ℕ) (names : List (ℕ × ℕ)) (serial now : ℕ) → AllByRecursion (IsFreshName given) names
    → name_of names serial ≡ Some now → IsFreshName given (serial, now)
fresh given [] serial now all e = absurd (none e)
  where
    none : None ≡ Some now → ⊥
    none e = cc
fresh given ((k, v) ∷ names) serial now (p, all) e = by (fresh given names serial now all) (nat_eq serial k) refl e
  where
    value : Some v ≡ Some now → v ≡ now
    value f = cc

    by : (name_of names serial ≡ Some now → IsFreshName given (serial, now)) → (b : Bool) → nat_eq serial k ≡ b
        → cond b (Some v) (name_of names serial) ≡ Some now → IsFreshName given (serial, now)
    by rest true q f = subst (λ n. IsFreshName given (n, now)) (sym (eqb-true serial k q))
        (subst (λ n. IsFreshName given (k, n)) (value f) p)
    by rest false q f = rest f

pub new_streams : (given : List ℕ) (names : List (ℕ × ℕ)) (link : List Stream) → AreNames given names → AreNamed names (serials link)
    → AllZip (IsRenumberedStream given) link (map (stream_under names) link)
new_streams given names [] are all = tt
new_streams given names (stream ∷ link) are (key, all) =
    let h : HasName names stream.serial = has_name names stream.serial key in
    let f : IsFreshName given (stream.serial, h.now) = fresh given names stream.serial h.now are.each h.is in (
      record {
        packets = refl;
        ended = refl;
        free = ap (λ n. list_any (nat_eq n) given) h.named_is ∙ f.free;
        kept = λ new. h.named_is ∙ f.kept new;
      },
      new_streams given names link are all,
    )

names_apart : (names : List (ℕ × ℕ)) (serial : ℕ) (others : List ℕ) → IsDistinct nat_eq (values_of names)
    → list_any (nat_eq serial) (keys_of names) ≡ true → AreNamed names others
    → AllByRecursion (λ y. nat_eq serial y ≡ false) others → AllByRecursion (λ y. nat_eq (named names serial) y ≡ false)
    (map (named names) others)
names_apart names serial [] d key all apart = tt
names_apart names serial (y ∷ others) d key (other, all) (p, apart) =
    let h : HasName names y = has_name names y other in (
      ap (nat_eq (named names serial)) h.named_is ∙ eq_named names serial y h.now d key h.is
          ∙ p,
      names_apart names serial others d key all apart,
    )

pub names_distinct : (names : List (ℕ × ℕ)) (serials : List ℕ) → IsDistinct nat_eq (values_of names) → AreNamed names serials
    → IsDistinct nat_eq serials → IsDistinct nat_eq (map (named names) serials)
unfolding IsDistinct
names_distinct names [] d all distinct = tt
names_distinct names (serial ∷ serials) d (key, all) (apart, distinct) =
    (names_apart names serial serials d key all apart, names_distinct names serials d all distinct)

-- the serials of a link that has a Skeleton before its streams
distinct_before : (skeletons : Skeletons) (left stay : List Stream) (earlier : List ℕ) (streams before : List Stream)
    → IsBefore skeletons left stay earlier (serials streams) before
    → IsDistinct nat_eq (serials streams) → IsDistinct nat_eq (serials (before ++ streams))
unfolding IsDistinct
distinct_before skeletons left stay earlier streams [] made d = d
distinct_before Kept left stay earlier streams (skeleton ∷ more) made d = absurd made
distinct_before LeftOut left stay earlier streams (skeleton ∷ more) made d = absurd made
distinct_before (Made from) left stay earlier streams (skeleton ∷ next ∷ more) made d = absurd made
distinct_before (Made from) left stay earlier streams (skeleton ∷ []) made d = (
  subst (λ (s : Stream). AllByRecursion (λ y. nat_eq s.serial y ≡ false) (serials streams)) (sym made.is)
      (no_serial made.head.serial (serials streams) (or_parts (list_any (nat_eq made.head.serial) earlier)
      (list_any (nat_eq made.head.serial) (serials streams)) made.first.free).1),
  d,
)

pub link_changed : (state : ChangeState) (earlier : List ℕ) (link now : List Stream) → IsUnderNames state earlier link now
    → IsChangedLink state.options earlier link now
link_changed state earlier link now by =
    let names : List (ℕ × ℕ) = state.names in
    let stay : List Stream = those by.stays link in
    let streams : List Stream = map (stream_under names) stay in
    record {
      stays = by.stays;
      left_out = by.left_out;
      streams = streams;
      renumbered = new_streams (avoided state.options.renumber earlier) names stay by.names by.named;
      before = by.before;
      made = by.made;
      is = by.is;
      distinct = λ d.
          subst (λ l. IsDistinct nat_eq (serials l)) (sym by.is)
          (distinct_before state.options.skeletons (the_others by.stays link) stay earlier streams by.before by.made
          (subst (IsDistinct nat_eq) (sym (serials_under names stay)) (names_distinct names (serials stay) by.names.distinct by.named
          (those_distinct by.stays link d))));
    }

from_push : (options : ChangeOptions) (earlier : List ℕ) (recording now : Recording) (link more : List Stream)
    → ChangedFrom options earlier recording now
    → IsChangedLink options (earlier ++ flat_map serials now) link more
    → ChangedFrom options earlier (recording ++ link ∷ []) (now ++ more ∷ [])
from_push options earlier [] [] link more r p = (subst (λ e. IsChangedLink options e link more) (append-nil earlier) p, tt)
from_push options earlier [] (m ∷ now) link more r p = absurd r
from_push options earlier (l ∷ recording) [] link more r p = absurd r
from_push options earlier (l ∷ recording) (m ∷ now) link more (q, r) p = (
  q,
  from_push options (earlier ++ serials m) recording now link more r
      (subst (λ e. IsChangedLink options e link more) (sym (append_assoc earlier (serials m) (flat_map serials now))) p),
)

pub up_to_changed : (taken : List ℕ) (state : ChangeState) (recording now : Recording) → IsUpTo taken state recording now
    → ChangedFrom state.options taken recording now
up_to_changed taken state recording now by =
    subst (λ r. ChangedFrom state.options taken r now) (sym by.recording_is)
    (subst (ChangedFrom state.options taken (by.links ++ by.link ∷ [])) (sym by.now_is)
    (from_push state.options taken by.links by.links_now by.link by.link_now by.changed
    (link_changed state (taken ++ flat_map serials by.links_now) by.link by.link_now by.last)))

none_changed : (taken : List ℕ) (options : ChangeOptions) (recording now : Recording) → AreNone recording now → ChangedFrom options taken recording now
none_changed taken options recording now (a, b) = subst (λ r. ChangedFrom options taken r now) (sym a) (subst (ChangedFrom options taken []) (sym b) tt)

pub followed_changed : (taken : List ℕ) (state : ChangeState) (recording now : Recording) → IsFollowed taken state recording now
    → ChangedFrom state.options taken recording now
followed_changed taken state recording now by = pick by.up_to
  where
    pick : AreNone recording now ⊎ IsUpTo taken state recording now → ChangedFrom state.options taken recording now
    pick (inl none) = none_changed taken state.options recording now none
    pick (inr up) = up_to_changed taken state recording now up

-- ---- a change of the last link
-- a change that changes nothing
pub same_last : (recording : Recording) → change_last (λ link. link) recording ≡ recording
same_last [] = refl
same_last (l ∷ []) = refl
same_last (l ∷ k ∷ recording) = ap (λ r. l ∷ r) (same_last (k ∷ recording))

all_serials : (change : List Stream → List Stream) → ((link : List Stream) → serials (change link) ≡ serials link) → (recording : Recording)
    → flat_map serials (change_last change recording) ≡ flat_map serials recording
all_serials change same [] = refl
all_serials change same (l ∷ []) = ap (λ s. s ++ []) (same l)
all_serials change same (l ∷ k ∷ recording) = ap (λ s. serials l ++ s) (all_serials change same (k ∷ recording))

pub change_step : (taken : List ℕ) (state : ChangeState) (change now_change : List Stream → List Stream) (recording now : Recording)
    → ((link : List Stream) → serials (now_change link) ≡ serials link)
    → ((earlier : List ℕ) (link link_now : List Stream) → IsUnderNames state earlier link link_now
    → IsUnderNames state earlier (change link) (now_change link_now))
    → IsFollowed taken state recording now → IsFollowed taken state (change_last change recording) (change_last now_change now)
change_step taken state change now_change recording now same step by = record {
  up_to = pick by.up_to;
  given = by.given ∙ ap (λ l. taken ++ l) (sym (all_serials now_change same now));
}
  where
    pick : AreNone recording now ⊎ IsUpTo taken state recording now
        → AreNone (change_last change recording) (change_last now_change now) ⊎ IsUpTo taken state (change_last change recording)
        (change_last now_change now)
    pick (inl (a, b)) = inl (ap (change_last change) a, ap (change_last now_change) b)
    pick (inr up) = inr (record {
      links = up.links;
      links_now = up.links_now;
      changed = up.changed;
      link = change up.link;
      link_now = now_change up.link_now;
      last = step (taken ++ flat_map serials up.links_now) up.link up.link_now up.last;
      recording_is = ap (change_last change) up.recording_is ∙ last_changed change up.links up.link;
      now_is = ap (change_last now_change) up.now_is ∙ last_changed now_change up.links_now up.link_now;
    })

-- ---- a new link
pub begin_step : (taken : List ℕ) (old new : ChangeState) (recording now : Recording) (link link_now : List Stream) → IsFollowed taken old recording now
    → new.options ≡ old.options
    → IsUnderNames new (taken ++ flat_map serials now) link link_now → new.given ≡ old.given ++ serials link_now
    → IsFollowed taken new (recording ++ link ∷ []) (now ++ link_now ∷ [])
begin_step taken old new recording now link link_now by same last given = record {
  up_to = inr (record {
    links = recording;
    links_now = now;
    changed = subst (λ o. ChangedFrom o taken recording now) (sym same) (followed_changed taken old recording now by);
    link = link;
    link_now = link_now;
    last = last;
    recording_is = refl;
    now_is = refl;
  });
  given = given ∙ ap (λ l. l ++ serials link_now) by.given ∙ append_assoc taken (flat_map serials now) (serials link_now)
      ∙ ap (λ l. taken ++ l) (ap (λ l. flat_map serials now ++ l) (sym (append-nil (serials link_now)))
      ∙ sym (flat_map-append serials now (link_now ∷ [])));
}
