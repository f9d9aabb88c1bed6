-- The streams of a new link: those that stay, under their names, perhaps with a Skeleton before them.
use Rattle.std.proofs.Common.{◌≡◌, ℕ, suc, Bool, true, false, List, [], ◌∷◌, ◌++◌, map, refl, sym, ◌∙◌, ap, subst, length, inl, inr}
use Rattle.std.proofs.Common.{append-nil}
use Rattle.std.specs.Prelude.{nat_le, not, ◌||◌, ◌&&◌, if◌then◌else◌, Option, Some, None, ◌⊎◌}
use Rattle.std.specs.List.{AllByRecursion, AllZip, filter, flat_map, list_all}
use Rattle.chain_rules.specs.Recording.{begun}
use Rattle.ogg_command.specs.declared.command.NewStream.{NewStream}
use Rattle.link_chain.specs.Limits.{most_streams}
use Rattle.import_changes.specs.declared.options.Skeletons.{Skeletons}
use Rattle.import_changes.specs.declared.options.Skeletons.TheVariants.{Kept, LeftOut, Made}
use Rattle.skeleton3.specs.Fisbone.{Fisbone}
use Rattle.import_changes.specs.Naming.{named, serials_of, stream_named}
use Rattle.import_changes.specs.Renumbered.{serials}
use Rattle.import_changes.specs.Links.{AreFronts, HasReason, IsBegunOf, IsSkeletonFront, the_others, those}
use Rattle.import_changes.specs.Changed.{stream_under}
use Rattle.import_changes.specs.Said.{IsDescribedBy, described_as, first_of}
use Rattle.import_changes.specs.Steps.{IsDescribedUnder}
use Rattle.import_changes.specs.Skeletons.{AreOthers, headers_in, headers_of, is_fishead, is_other, is_skeleton, leaves_out, left_out}
use Rattle.import_changes.specs.Skeletons.{made_for, said_in, staying}
use Rattle.std.proofs.lemmas.Bool.{not-false}
use Rattle.import_changes.proofs.Names.{clash}

-- ---- which streams stay
abbrev pub all_stay : Skeletons → List NewStream → Bool
all_stay skeletons streams = not (leaves_out skeletons) || list_all is_skeleton streams

abbrev pub stays_if : Bool → List NewStream → List Bool
stays_if all streams = if all then map (λ stream. true) streams else map is_other streams

-- whether each of the streams stays
abbrev pub stays_of : Skeletons → List NewStream → List Bool
stays_of skeletons streams = stays_if (all_stay skeletons streams) streams

begun_all : (streams : List NewStream) → those (map (λ stream. true) streams) (map begun streams) ≡ map begun streams
begun_all [] = refl
begun_all (stream ∷ streams) = ap (λ l. begun stream ∷ l) (begun_all streams)

begun_others : (streams : List NewStream) → those (map is_other streams) (map begun streams) ≡ map begun (filter is_other streams)
begun_others [] = refl
begun_others (stream ∷ streams) = by (begun_others streams) (is_other stream)
  where
    by : those (map is_other streams) (map begun streams) ≡ map begun (filter is_other streams) → (b : Bool)
        → those (b ∷ map is_other streams) (begun stream ∷ map begun streams) ≡ map begun
        (if b then stream ∷ filter is_other streams else filter is_other streams)
    by rest true = ap (λ l. begun stream ∷ l) rest
    by rest false = rest

pub begun_staying : (skeletons : Skeletons) (streams : List NewStream)
    → those (stays_of skeletons streams) (map begun streams) ≡ map begun (staying skeletons streams)
begun_staying skeletons streams = by (all_stay skeletons streams)
  where
    by : (b : Bool) → those (stays_if b streams) (map begun streams) ≡ map begun (if b then streams else filter is_other streams)
    by true = begun_all streams
    by false = begun_others streams

none_left : (skeletons : Skeletons) (streams : List NewStream)
    → AllZip (HasReason skeletons) (map (λ stream. true) streams) (map begun streams)
none_left skeletons [] = tt
none_left skeletons (stream ∷ streams) = ((λ e. clash refl e), none_left skeletons streams)

others_left : (skeletons : Skeletons) (streams : List NewStream) → leaves_out skeletons ≡ true
    → AllZip (HasReason skeletons) (map is_other streams) (map begun streams)
others_left skeletons [] asked = tt
others_left skeletons (stream ∷ streams) asked = (
  (λ e. record {
    asked = asked;
    skeleton = not-false
        (is_skeleton stream) e;
  }),
  others_left skeletons streams asked,
)

left_asked : (a b : Bool) → (not a || b) ≡ false → a ≡ true
left_asked true b e = refl
left_asked false b e = absurd (clash refl e)

pub left_of : (skeletons : Skeletons) (streams : List NewStream)
    → AllZip (HasReason skeletons) (stays_of skeletons streams) (map begun streams)
left_of skeletons streams = by (all_stay skeletons streams) refl
  where
    by : (b : Bool) → all_stay skeletons streams ≡ b → AllZip (HasReason skeletons) (stays_if b streams) (map begun streams)
    by true e = none_left skeletons streams
    by false e = others_left skeletons streams (left_asked (leaves_out skeletons) (list_all is_skeleton streams) e)

-- ---- under their names
pub begun_named : (names : List (ℕ × ℕ)) (streams : List NewStream)
    → map begun (map (stream_named names) streams) ≡ map (stream_under names) (map begun streams)
begun_named names [] = refl
begun_named names (stream ∷ streams) = ap (λ l. stream_under names (begun stream) ∷ l) (begun_named names streams)

pub begun_serials : (streams : List NewStream) → serials (map begun streams) ≡ serials_of streams
begun_serials [] = refl
begun_serials (stream ∷ streams) = ap (λ l. stream.serial ∷ l) (begun_serials streams)

pub headers_named : (names : List (ℕ × ℕ)) (streams : List NewStream) → headers_of (map (stream_named names) streams) ≡ headers_of streams
headers_named names [] = refl
headers_named names (stream ∷ streams) = ap (λ l. stream.headers ∷ l) (headers_named names streams)

-- ---- described
pub described_under : (names : List (ℕ × ℕ)) (said : List (List ℕ)) (stream now : NewStream) → IsDescribedBy said stream now
    → now.serial ≡ stream.serial → IsDescribedUnder names said stream (stream_named names now)
described_under names said stream now by same = record {
  described = record {
    found = by.found;
    finds = by.finds;
    is = ap (λ (s : NewStream). record s { serial = named names now.serial }) by.is;
  };
  named = ap (named names) same;
}

as_headers : (found : Option (List ℕ × Fisbone)) (stream : NewStream) → (described_as found stream).headers ≡ stream.headers
as_headers None stream = refl
as_headers (Some (packet, fisbone)) stream = refl

pub headers_described : (names : List (ℕ × ℕ)) (said : List (List ℕ)) (streams now : List NewStream)
    → AllZip (IsDescribedUnder names said) streams now → headers_of now ≡ headers_of streams
headers_described names said [] [] all = refl
headers_described names said [] (n ∷ now) all = absurd all
headers_described names said (stream ∷ streams) [] all = absurd all
headers_described names said (stream ∷ streams) (n ∷ now) (by, all) =
    ap (λ h. h ∷ headers_of now) (ap (λ (s : NewStream). s.headers) by.described.is ∙ as_headers by.described.found stream)
    ∙ ap (λ l. stream.headers ∷ l) (headers_described names said streams now all)

pub described_serials : (names : List (ℕ × ℕ)) (said : List (List ℕ)) (streams now : List NewStream)
    → AllZip (IsDescribedUnder names said) streams now → serials_of now ≡ serials_of (map (stream_named names) streams)
described_serials names said [] [] all = refl
described_serials names said [] (n ∷ now) all = absurd all
described_serials names said (stream ∷ streams) [] all = absurd all
described_serials names said (stream ∷ streams) (n ∷ now) (by, all) =
    ap (λ k. k ∷ serials_of now) by.named ∙ ap (λ l. named names stream.serial ∷ l) (described_serials names said streams now all)

-- streams with these serials and headers are begun alike
pub begun_alike : (streams now : List NewStream) → serials_of now ≡ serials_of streams → headers_of now ≡ headers_of streams
    → map begun now ≡ map begun streams
begun_alike [] [] same headers = refl
begun_alike [] (n ∷ now) same headers = cc
begun_alike (stream ∷ streams) [] same headers = cc
begun_alike (stream ∷ streams) (n ∷ now) same headers =
    ap (λ k. record { serial = k; packets = n.headers; ended = false } ∷ map begun now) (front same)
    ∙ ap (λ h. record { serial = stream.serial; packets = h; ended = false } ∷ map begun now) (front headers)
    ∙ ap (λ l. begun stream ∷ l) (begun_alike streams now (rest same) (rest headers))
  where
    front : {X : Type 0} {x y : X} {xs ys : List X} → x ∷ xs ≡ y ∷ ys → x ≡ y
    front e = cc

    rest : {X : Type 0} {x y : X} {xs ys : List X} → x ∷ xs ≡ y ∷ ys → xs ≡ ys
    rest e = cc

pub described_only : (names : List (ℕ × ℕ)) (said : List (List ℕ)) (streams now : List NewStream)
    → AllZip (IsDescribedUnder names said) streams now → AllZip (IsDescribedBy said) streams now
described_only names said [] [] all = tt
described_only names said [] (n ∷ now) all = absurd all
described_only names said (stream ∷ streams) [] all = absurd all
described_only names said (stream ∷ streams) (n ∷ now) (by, all) = (by.described, described_only names said streams now all)

-- ---- what is said of the streams that are begun
skeletons_named : (names : List (ℕ × ℕ)) (streams : List NewStream)
    → list_all is_skeleton (map (stream_named names) streams) ≡ list_all is_skeleton streams
skeletons_named names [] = refl
skeletons_named names (stream ∷ streams) = ap (λ b. is_skeleton stream && b) (skeletons_named names streams)

-- whether a stream is a Skeleton depends on its headers
abbrev pub begins_skeleton : List (List ℕ) → Bool
begins_skeleton headers = is_fishead (first_of headers)

all_by_headers : (streams : List NewStream) → list_all is_skeleton streams ≡ list_all begins_skeleton (headers_of streams)
all_by_headers [] = refl
all_by_headers (stream ∷ streams) = ap (λ b. is_skeleton stream && b) (all_by_headers streams)

all_alike : (streams now : List NewStream) → headers_of now ≡ headers_of streams → list_all is_skeleton now ≡ list_all is_skeleton streams
all_alike streams now same = all_by_headers now ∙ ap (list_all begins_skeleton) same ∙ sym (all_by_headers streams)

length_by_headers : (streams : List NewStream) → length streams ≡ length (headers_of streams)
length_by_headers [] = refl
length_by_headers (stream ∷ streams) = ap suc (length_by_headers streams)

pub made_alike : (skeletons : Skeletons) (streams now : List NewStream) → headers_of now ≡ headers_of streams
    → made_for skeletons now ≡ made_for skeletons streams
made_alike Kept streams now same = refl
made_alike LeftOut streams now same = refl
made_alike (Made from) streams now same =
    ap (λ b. if b || nat_le most_streams (length now) then None else Some from) (all_alike streams now same)
    ∙ ap (λ n. if list_all is_skeleton streams || nat_le most_streams n then None else Some from)
    (length_by_headers now ∙ ap length same ∙ sym (length_by_headers streams))

-- no Skeleton is among the streams, or nothing but Skeletons
abbrev pub AreApart : List NewStream → Type 0
AreApart streams = (list_all is_skeleton streams ≡ true) ⊎ AllByRecursion (λ stream. is_skeleton stream ≡ false) streams

others_named : (names : List (ℕ × ℕ)) (streams : List NewStream)
    → AllByRecursion (λ stream. is_skeleton stream ≡ false) (map (stream_named names) (filter is_other streams))
others_named names [] = tt
others_named names (stream ∷ streams) = by (others_named names streams) (is_skeleton stream) refl
  where
    by : AllByRecursion (λ stream. is_skeleton stream ≡ false) (map (stream_named names) (filter is_other streams)) → (b : Bool)
        → is_skeleton stream ≡ b →
        AllByRecursion (λ stream. is_skeleton stream ≡ false) (map (stream_named names)
        (if not b then stream ∷ filter is_other streams else filter is_other streams))
    by rest true e = rest
    by rest false e = (e, rest)

pub named_apart : (names : List (ℕ × ℕ)) (skeletons : Skeletons) (streams : List NewStream)
    → AreOthers skeletons (map (stream_named names) (staying skeletons streams))
named_apart names skeletons streams asked = by (leaves_out skeletons) asked (list_all is_skeleton streams) refl
  where
    by : (a : Bool) → a ≡ true → (b : Bool) → list_all is_skeleton streams ≡ b
        → AreApart (map (stream_named names) (if not a || b then streams else filter is_other streams))
    by false asked b e = clash asked refl
    by true asked true e = inl (skeletons_named names streams ∙ e)
    by true asked false e = inr (others_named names streams)

none_by_headers : (streams : List NewStream) → AllByRecursion (λ stream. is_skeleton stream ≡ false) streams
    → AllByRecursion (λ headers. begins_skeleton headers ≡ false) (headers_of streams)
none_by_headers [] all = tt
none_by_headers (stream ∷ streams) (p, all) = (p, none_by_headers streams all)

headers_by_none : (streams : List NewStream) → AllByRecursion (λ headers. begins_skeleton headers ≡ false) (headers_of streams)
    → AllByRecursion (λ stream. is_skeleton stream ≡ false) streams
headers_by_none [] all = tt
headers_by_none (stream ∷ streams) (p, all) = (p, headers_by_none streams all)

pub apart_alike : (skeletons : Skeletons) (streams now : List NewStream) → headers_of now ≡ headers_of streams
    → AreOthers skeletons streams → AreOthers skeletons now
apart_alike skeletons streams now same apart asked = by (apart asked)
  where
    by : AreApart streams → AreApart now
    by (inl all) = inl (all_alike streams now same ∙ all)
    by (inr all) = inr (headers_by_none now
        (subst (AllByRecursion (λ headers. begins_skeleton headers ≡ false)) (sym same) (none_by_headers streams all)))

-- ---- the packets of the Skeletons that are left out
none_others : (streams : List NewStream) → the_others (map (λ stream. true) streams) (map begun streams) ≡ []
none_others [] = refl
none_others (stream ∷ streams) = none_others streams

skeletons_others : (streams : List NewStream)
    → the_others (map is_other streams) (map begun streams) ≡ map begun (filter is_skeleton streams)
skeletons_others [] = refl
skeletons_others (stream ∷ streams) = by (skeletons_others streams) (is_skeleton stream)
  where
    by : the_others (map is_other streams) (map begun streams) ≡ map begun (filter is_skeleton streams) → (b : Bool)
        → those (not (not b) ∷ map not (map is_other streams)) (begun stream ∷ map begun streams) ≡ map begun
        (if b then stream ∷ filter is_skeleton streams else filter is_skeleton streams)
    by rest true = ap (λ l. begun stream ∷ l) rest
    by rest false = rest

pub begun_left : (skeletons : Skeletons) (streams : List NewStream)
    → the_others (stays_of skeletons streams) (map begun streams) ≡ map begun (left_out skeletons streams)
begun_left skeletons streams = by (all_stay skeletons streams)
  where
    by : (b : Bool) → the_others (stays_if b streams) (map begun streams) ≡ map begun (if b then [] else filter is_skeleton streams)
    by true = none_others streams
    by false = skeletons_others streams

whole : (headers : List (List ℕ)) → headers ≡ headers ++ []
whole headers = sym (append-nil headers)

pub are_begun : (streams : List NewStream) → AllZip IsBegunOf streams (map begun streams)
are_begun [] = tt
are_begun (stream ∷ streams) = ((refl, ([], whole stream.headers)), are_begun streams)

skeleton_fronts : (streams : List NewStream)
    → AllZip IsSkeletonFront (headers_of (filter is_skeleton streams)) (map begun (filter is_skeleton streams))
skeleton_fronts [] = tt
skeleton_fronts (stream ∷ streams) = by (skeleton_fronts streams) (is_skeleton stream) refl
  where
    by : AllZip IsSkeletonFront (headers_of (filter is_skeleton streams)) (map begun (filter is_skeleton streams)) → (b : Bool)
        → is_skeleton stream ≡ b
        → AllZip IsSkeletonFront (headers_of (if b then stream ∷ filter is_skeleton streams else filter is_skeleton streams))
        (map begun (if b then stream ∷ filter is_skeleton streams else filter is_skeleton streams))
    by rest true e = ((([], whole stream.headers), e), rest)
    by rest false e = rest

left_fronts : (skeletons : Skeletons) (streams : List NewStream)
    → AllZip IsSkeletonFront (headers_of (left_out skeletons streams)) (map begun (left_out skeletons streams))
left_fronts skeletons streams = by (all_stay skeletons streams)
  where
    by : (b : Bool) → AllZip IsSkeletonFront (headers_of (if b then [] else filter is_skeleton streams))
        (map begun (if b then [] else filter is_skeleton streams))
    by true = tt
    by false = skeleton_fronts streams

joined_headers : (streams : List NewStream) → headers_in streams ≡ flat_map (λ front. front) (headers_of streams)
joined_headers [] = refl
joined_headers (stream ∷ streams) = ap (λ l. stream.headers ++ l) (joined_headers streams)

pub fronts_of : (skeletons : Skeletons) (streams : List NewStream)
    → AreFronts (map begun (left_out skeletons streams)) (said_in skeletons streams)
fronts_of skeletons streams = record {
  fronts = headers_of (left_out skeletons streams);
  each = left_fronts skeletons streams;
  said_is = joined_headers (left_out skeletons streams);
}
