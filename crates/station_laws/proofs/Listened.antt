-- A listener hears what is committed, over any calls of a station.
use Rattle.std.proofs.Common.{◌≡◌, ◌⊎◌, ◌≤◌, ◌&&◌, ℕ, zero, suc, Bool, true, false, Some, List, [], ◌∷◌, ◌++◌, length, take, drop, if◌then◌else◌, refl, sym, ◌∙◌, ap, subst, inl, inr, append-nil, append_assoc, take-append-drop}
use Rattle.std.specs.Prelude.{nat_eq}
use Rattle.std.proofs.lemmas.Bool.{cond-true}
use Rattle.std.proofs.lemmas.List.{take-append-le}
use Rattle.disk_model.specs.declared.disk.Disk.{Ghosts as DiskModel}
use Rattle.serve_clients.specs.Client.{ClientState, HasWritten, ended_if, given as given_to, is_hearing}
use Rattle.serve_clients.specs.declared.client.Stage.{Stage}
use Rattle.serve_clients.specs.declared.client.Stage.TheVariants.{Asking, Offering, Waiting, Feeding, Reading, Sending, Hearing, Ending, Closing, Cut}
use Rattle.serve_hub.specs.Parts.{HubParts}
use Rattle.serve_hub.specs.Showing.{Shows}
use Rattle.serve_live.specs.Hearing.{IsHearing}
use Rattle.serve_live.specs.Listening.{ListenerState}
use Rattle.serve_live.specs.Live.{IsLive, Moment}
use Rattle.serve_machine.specs.Hub.{HubState}
use Rattle.serve_machine.specs.Sound.{Extends}
use Rattle.slab.specs.Slab.{get}
use Rattle.station_hub.specs.Places.{PlacesState}
use Rattle.station_laws.specs.Calling.{After, AreCalls, Call, Next, left_by}
use Rattle.station.specs.Passing.{IsLike, Stays, is_source}
use Rattle.station_laws.specs.Written.{AreApart, AreTold, IsTold, given_after, written, written_by}
use Rattle.station.specs.declared.station.Station.{Station}
use Rattle.station_laws.proofs.Seen.{Again, Answered, Awaited, Connected, Declined, Gave, GaveBy, Heard, Ignored, Kept, Nothing, Offered, Parted, Pulled, Read, Seen, Shut, Told, WasCut, own_key}
use Rattle.station_laws.proofs.Owing.{OwnLaws, WaitsFor, closed_not, no_unsent, none_given, nothing_given, some_unsent}
use Rattle.station_laws.proofs.Sights.{sees}

-- ---- how far it has come
abbrev pub is_over : Stage → Bool
is_over Ending = true
is_over Closing = true
is_over Cut = true
is_over stage = false

abbrev pub is_asking : Stage → Bool
is_asking Asking = true
is_asking stage = false

abbrev pub is_reading : Stage → Bool
is_reading Reading = true
is_reading stage = false

abbrev pub is_sending : Stage → Bool
is_sending Sending = true
is_sending stage = false

true_false : false ≡ true → ⊥
true_false e = cc

-- it goes on hearing, and all that it has heard is given or waits; or it has come to its end
abbrev pub Stands : ClientState → ListenerState → List ℕ → Type 0
Stands client listener rest =
    ((client.stage ≡ Hearing) × (rest ≡ []) × (client.listener ≡ Some listener)) ⊎ (is_over client.stage ≡ true)

-- what it has heard since the moment follows the front, and the first of that was written
pub record HearsOn (front : List ℕ) (moment : Moment) (machine : HubState) (client : ClientState) (given done : List ℕ) : Type 0 where
  pub listener : ListenerState
  pub so_far : List ℕ
  pub hearing : IsHearing moment machine.committed listener so_far
  pub left : List ℕ
  pub rest : List ℕ
  pub waits : WaitsFor client.unsent given left
  pub all : front ++ so_far ≡ done ++ (left ++ rest)
  pub stands : Stands client listener rest

over_not : (f : Stage → Bool) (stage : Stage) → f Ending ≡ false → f Closing ≡ false → f Cut ≡ false → is_over stage ≡ true → f stage ≡ true → ⊥
over_not f Ending ends closes cuts over e = true_false (sym ends ∙ e)
over_not f Closing ends closes cuts over e = true_false (sym closes ∙ e)
over_not f Cut ends closes cuts over e = true_false (sym cuts ∙ e)
over_not f Asking ends closes cuts over e = true_false over
over_not f Offering ends closes cuts over e = true_false over
over_not f Waiting ends closes cuts over e = true_false over
over_not f Feeding ends closes cuts over e = true_false over
over_not f Reading ends closes cuts over e = true_false over
over_not f Sending ends closes cuts over e = true_false over
over_not f Hearing ends closes cuts over e = true_false over

not_here : (f : Stage → Bool) (client : ClientState) (listener : ListenerState) (rest : List ℕ) → f Hearing ≡ false → f Ending ≡ false → f Closing ≡ false
    → f Cut ≡ false → Stands client listener rest → f client.stage ≡ true → ⊥
not_here f client listener rest hears ends closes cuts (inl (is, none, has)) e = true_false (sym hears ∙ sym (ap f is) ∙ e)
not_here f client listener rest hears ends closes cuts (inr over) e = over_not f client.stage ends closes cuts over e

stands_like : (old new : ClientState) (listener : ListenerState) (rest : List ℕ) → IsLike old new → Stands old listener rest → Stands new listener rest
stands_like old new listener rest same (inl (is, none, has)) = inl (same.0 ∙ is, none, same.4 ∙ has)
stands_like old new listener rest same (inr over) = inr (ap is_over same.0 ∙ over)

-- what was given only tells since when the peer may take bytes, or that it has heard all
given_parts : (count now : ℕ) (ending : Bool) (client : ClientState)
    → ((given_to count ending now client).unsent ≡ client.unsent) × (IsLike client (given_to count ending now client) ⊎ ((given_to count ending now client).stage ≡ Ending))
given_parts zero now ending client = ended (is_hearing client.stage && ending)
  where
    ended : (b : Bool) → ((ended_if b (record client { idle = true })).unsent ≡ client.unsent)
        × (IsLike client (ended_if b (record client { idle = true })) ⊎ ((ended_if b (record client { idle = true })).stage ≡ Ending))
    ended true = (refl, inr refl)
    ended false = (refl, inl (refl, refl, refl, refl, refl))
given_parts (suc count) now ending client = either client.idle
  where
    either : (b : Bool) → ((if b then record client { idle = false; since = now } else client).unsent ≡ client.unsent)
        × (IsLike client (if b then record client { idle = false; since = now } else client) ⊎ ((if b then record client { idle = false; since = now } else client).stage ≡ Ending))
    either true = (refl, inl (refl, refl, refl, refl, refl))
    either false = (refl, inl (refl, refl, refl, refl, refl))

stands_given : (count now : ℕ) (ending : Bool) (mid : ClientState) (listener : ListenerState) (rest : List ℕ) → Stands mid listener rest
    → Stands (given_to count ending now mid) listener rest
stands_given count now ending mid listener rest stands = elim ((given_parts count now ending mid).1) [
  | inl same ↦ stands_like mid (given_to count ending now mid) listener rest same stands
  | inr ends ↦ inr (ap is_over ends)
]

-- ---- bytes that were written
-- of what waited, the first bytes were written, and the others wait; without memory for them the connection was cut
wrote : (bytes given left unsent : List ℕ) (count : ℕ) (old mid : ClientState) → old.unsent ≡ unsent → bytes ≡ given → count ≤ length given
    → WaitsFor unsent given left → HasWritten bytes count old mid
    → (kept : List ℕ) × (lost : List ℕ) × (left ≡ take count bytes ++ (kept ++ lost)) × WaitsFor mid.unsent [] kept
    × (((lost ≡ []) × (mid.stage ≡ old.stage) × (mid.listener ≡ old.listener)) ⊎ (mid.stage ≡ Cut))
wrote bytes given left unsent count old mid is same within waits (inl (some, again)) =
    let (more, unsent_is, left_is) = some_unsent unsent given left (λ none. some (is ∙ none)) waits in
    let kept = drop count unsent in
    let first : take count unsent ≡ take count bytes =
    ap (take count) unsent_is ∙ take-append-le count given more within ∙ ap (take count) (sym same) in
    let now : mid.unsent ≡ kept = ap (λ (one : ClientState). one.unsent) again ∙ ap (drop count) is in (
      kept,
      [],
      left_is ∙ sym (take-append-drop count unsent) ∙ ap (λ (l : List ℕ). l ++ kept) first ∙ ap (λ (l : List ℕ). take count bytes ++ l) (sym (append-nil kept)),
      subst (λ (l : List ℕ). WaitsFor l [] kept) (sym now) (nothing_given kept),
      inl (refl, ap (λ (one : ClientState). one.stage) again, ap (λ (one : ClientState). one.listener) again),
    )
wrote bytes given left unsent count old mid is same within waits (inr (none, inl anew)) =
    let kept = drop count bytes in
    let now : mid.unsent ≡ kept = ap (λ (one : ClientState). one.unsent) anew in (
      kept,
      [],
      no_unsent unsent given left (sym is ∙ none) waits ∙ sym same ∙ sym (take-append-drop count bytes) ∙ ap (λ (l : List ℕ). take count bytes ++ l) (sym (append-nil kept)),
      subst (λ (l : List ℕ). WaitsFor l [] kept) (sym now) (nothing_given kept),
      inl (refl, ap (λ (one : ClientState). one.stage) anew, ap (λ (one : ClientState). one.listener) anew),
    )
wrote bytes given left unsent count old mid is same within waits (inr (none, inr (lacks, short))) =
    let kept = drop count bytes in (
      [],
      kept,
      no_unsent unsent given left (sym is ∙ none) waits ∙ sym same ∙ sym (take-append-drop count bytes),
      inr (ap (λ (one : ClientState). one.unsent) short ∙ none, refl),
      inr (ap (λ (one : ClientState). one.stage) short),
    )

-- ---- a call
-- the committed bytes have grown
abbrev pub Grown : HubState → HubState → Type 0
Grown before after =
    (moment : Moment) (listener : ListenerState) (given : List ℕ) → IsHearing moment before.committed listener given → IsHearing moment after.committed listener given

-- it was given nothing, and is told of nothing
goes_on : (front : List ℕ) (moment : Moment) (before after : HubState) (old new : ClientState) (given other done written : List ℕ)
    → (hears : HearsOn front moment before old given done) → Grown before after → new.unsent ≡ old.unsent → other ≡ given → written ≡ []
    → Stands new hears.listener hears.rest → HearsOn front moment after new other (done ++ written)
goes_on front moment before after old new given other done written hears grown unsent same none stands = record {
  listener = hears.listener;
  so_far = hears.so_far;
  hearing = grown moment hears.listener hears.so_far hears.hearing;
  left = hears.left;
  rest = hears.rest;
  waits = subst (λ (l : List ℕ). WaitsFor l other hears.left) (sym unsent) (subst (λ (l : List ℕ). WaitsFor old.unsent l hears.left) (sym same) hears.waits);
  all = hears.all ∙ ap (λ (l : List ℕ). l ++ (hears.left ++ hears.rest)) (sym (append-nil done) ∙ ap (λ (l : List ℕ). done ++ l) (sym none));
  stands = stands;
}

given_next : (key size now count : ℕ) (given buffer : List ℕ) (call : Call) → call ≡ Next key size now count buffer → given_after key given call ≡ take count buffer
given_next key size now count given buffer call is =
    ap (given_after key given) is ∙ cond-true (nat_eq key key) (take count buffer) given (own_key key)

none_before : (key size now count : ℕ) (given buffer : List ℕ) (call : Call) → call ≡ Next key size now count buffer → IsTold key given call → given ≡ []
none_before key size now count given buffer call is told = (subst (IsTold key given) is told) refl

gave : (front : List ℕ) (moment : Moment) (before after : HubState) (old mid : ClientState) (size now count : ℕ) (ending : Bool) (buffer done : List ℕ)
    → GaveBy before after old size count buffer mid → HearsOn front moment before old [] done
    → HearsOn front moment after (given_to count ending now mid) (take count buffer) done
gave front moment before after old mid size now count ending buffer done (Again some same again stays) hears =
    let parts = given_parts count now ending mid in
    let left_is = none_given old.unsent hears.left hears.waits in
    let unsent : (given_to count ending now mid).unsent ≡ old.unsent = parts.0 ∙ ap (λ (one : ClientState). one.unsent) same in
    subst (λ (machine : HubState). HearsOn front moment machine (given_to count ending now mid) (take count buffer) done) (sym stays)
    (record {
      listener = hears.listener;
      so_far = hears.so_far;
      hearing = hears.hearing;
      left = hears.left;
      rest = hears.rest;
      waits = inl (drop size old.unsent, unsent ∙ sym (take-append-drop size old.unsent) ∙ ap (λ (l : List ℕ). l ++ drop size old.unsent) (sym again), left_is ∙ sym unsent);
      all = hears.all;
      stands = stands_given count now ending mid hears.listener hears.rest
          (subst (λ (one : ClientState). Stands one hears.listener hears.rest) (sym same) hears.stands);
    })
gave front moment before after old mid size now count ending buffer done (Pulled id answer none sends of step pulled) hears =
    absurd (not_here is_sending old hears.listener hears.rest refl refl refl refl hears.stands (ap is_sending sends))
gave front moment before after old mid size now count ending buffer done (Nothing none nothing same stays) hears =
    let parts = given_parts count now ending mid in
    let unsent : (given_to count ending now mid).unsent ≡ old.unsent = parts.0 ∙ ap (λ (one : ClientState). one.unsent) same in
    subst (λ (machine : HubState). HearsOn front moment machine (given_to count ending now mid) (take count buffer) done) (sym stays)
    (record {
      listener = hears.listener;
      so_far = hears.so_far;
      hearing = hears.hearing;
      left = hears.left;
      rest = hears.rest;
      waits = subst (λ (l : List ℕ). WaitsFor l (take count buffer) hears.left) (sym unsent)
          (subst (λ (l : List ℕ). WaitsFor old.unsent l hears.left) (sym (ap (λ (n : ℕ). take n buffer) nothing)) hears.waits);
      all = hears.all;
      stands = stands_given count now ending mid hears.listener hears.rest
          (subst (λ (one : ClientState). Stands one hears.listener hears.rest) (sym same) hears.stands);
    })
gave front moment before after old mid size now count ending buffer done (Heard none is stays session stage more) hears = by hears.stands
  where
    left_is : hears.left ≡ []
    left_is = none_given old.unsent hears.left hears.waits ∙ none

    by : Stands old hears.listener hears.rest → HearsOn front moment after (given_to count ending now mid) (take count buffer) done
    by (inr over) = absurd (over_not is_hearing old.stage refl refl refl over (ap is_hearing is))
    by (inl (stands, nothing, has)) = elim (more moment hears.so_far hears.listener has hears.hearing) [
      | inl (listener, next, becomes) ↦
          let given = take count buffer in
          let unsent : (given_to count ending now mid).unsent ≡ [] =
          (given_parts count now ending mid).0 ∙ ap (λ (one : ClientState). one.unsent) becomes ∙ none in
          subst (λ (machine : HubState). HearsOn front moment machine (given_to count ending now mid) given done) (sym stays)
          (record {
            listener = listener;
            so_far = hears.so_far ++ given;
            hearing = next.hearing;
            left = given;
            rest = [];
            waits = inr (unsent, refl);
            all = sym (append_assoc front hears.so_far given) ∙ ap (λ (l : List ℕ). l ++ given) hears.all
                ∙ ap (λ (l : List ℕ). (done ++ (l ++ hears.rest)) ++ given) left_is ∙ ap (λ (l : List ℕ). (done ++ l) ++ given) nothing
                ∙ ap (λ (l : List ℕ). l ++ given) (append-nil done) ∙ ap (λ (l : List ℕ). done ++ l) (sym (append-nil given));
            stands = stands_given count now ending mid listener [] (inl (ap (λ (one : ClientState). one.stage) becomes ∙ stands, refl, ap (λ (one : ClientState). one.listener) becomes));
          })
      | inr (none_given_now, cuts) ↦
          let unsent : (given_to count ending now mid).unsent ≡ [] =
          (given_parts count now ending mid).0 ∙ ap (λ (one : ClientState). one.unsent) cuts ∙ none in
          subst (λ (machine : HubState). HearsOn front moment machine (given_to count ending now mid) (take count buffer) done) (sym stays)
          (record {
            listener = hears.listener;
            so_far = hears.so_far;
            hearing = hears.hearing;
            left = [];
            rest = hears.left ++ hears.rest;
            waits = inr (unsent, sym (ap (λ (n : ℕ). take n buffer) none_given_now));
            all = hears.all;
            stands = stands_given count now ending mid hears.listener (hears.left ++ hears.rest) (inr (ap (λ (one : ClientState). is_over one.stage) cuts));
          })
    ]

told_of : (front : List ℕ) (moment : Moment) (before after : HubState) (old mid new : ClientState) (bytes given other done written : List ℕ) (count : ℕ)
    → (hears : HearsOn front moment before old given done) → Grown before after → bytes ≡ given → count ≤ length given → HasWritten bytes count old mid → Stays mid new
    → other ≡ [] → written ≡ take count bytes → HearsOn front moment after new other (done ++ written)
told_of front moment before after old mid new bytes given other done written count hears grown same within was stays nothing written_is =
    let (kept, lost, left_is, waits, stands) = wrote bytes given hears.left old.unsent count old mid refl same within hears.waits was in record {
      listener = hears.listener;
      so_far = hears.so_far;
      hearing = grown moment hears.listener hears.so_far hears.hearing;
      left = kept;
      rest = lost ++ hears.rest;
      waits = subst (λ (l : List ℕ). WaitsFor new.unsent l kept) (sym nothing) (subst (λ (l : List ℕ). WaitsFor l [] kept) (sym (unsent stays)) waits);
      all = hears.all ∙ ap (λ (l : List ℕ). done ++ (l ++ hears.rest)) left_is ∙ ap (λ (l : List ℕ). done ++ l) (append_assoc (take count bytes) (kept ++ lost) hears.rest)
          ∙ sym (append_assoc done (take count bytes) ((kept ++ lost) ++ hears.rest)) ∙ ap (λ (l : List ℕ). (done ++ l) ++ ((kept ++ lost) ++ hears.rest)) (sym written_is)
          ∙ ap (λ (l : List ℕ). (done ++ written) ++ l) (append_assoc kept lost hears.rest);
      stands = after_that stays stands hears.stands;
    }
  where
    unsent : Stays mid new → new.unsent ≡ mid.unsent
    unsent (inl is) = is.3
    unsent (inr is) = is.3

    after_that : {lost : List ℕ} → Stays mid new → ((lost ≡ []) × (mid.stage ≡ old.stage) × (mid.listener ≡ old.listener)) ⊎ (mid.stage ≡ Cut)
        → Stands old hears.listener hears.rest → Stands new hears.listener (lost ++ hears.rest)
    after_that (inr is) how stands = inr (ap is_over is.0)
    after_that (inl is) (inr cuts) stands = inr (ap is_over (is.0 ∙ cuts))
    after_that (inl is) (inl (none, stage, listener)) (inr over) = inr (ap is_over (is.0 ∙ stage) ∙ over)
    after_that (inl is) (inl (none, stage, listener)) (inl (hearing, nothing_left, has)) =
        inl (is.0 ∙ stage ∙ hearing, ap (λ (l : List ℕ). l ++ hears.rest) none ∙ nothing_left, is.4 ∙ listener ∙ has)

heard_seen : (front : List ℕ) (moment : Moment) (key : ℕ) (call : Call) (places : PlacesState) (before after : HubState) (old new : ClientState) (given done : List ℕ)
    → Seen key call places before after old new → Grown before after → IsTold key given call → HearsOn front moment before old given done
    → HearsOn front moment after new (given_after key given call) (done ++ written_by key call)
heard_seen front moment key call places before after old new given done (Kept same phases aside) grown told hears =
    goes_on front moment before after old new given (given_after key given call) done (written_by key call) hears grown same.3 (aside.given given) aside.written
    (stands_like old new hears.listener hears.rest same hears.stands)
heard_seen front moment key call places before after old new given done (WasCut cuts session unsent written kept) grown told hears =
    goes_on front moment before after old new given (given_after key given call) done (written_by key call) hears grown unsent (kept given) written (inr (ap is_over cuts))
heard_seen front moment key call places before after old new given done (Ignored why same phases written kept) grown told hears =
    goes_on front moment before after old new given (given_after key given call) done (written_by key call) hears grown same.3 (kept given) written
    (stands_like old new hears.listener hears.rest same hears.stands)
heard_seen front moment key call places before after old new given done (Parted source session needs) grown told hears =
    absurd (not_here is_source old hears.listener hears.rest refl refl refl refl hears.stands source)
heard_seen front moment key call places before after old new given done (Offered bytes now is asks source session needs) grown told hears =
    absurd (not_here is_asking old hears.listener hears.rest refl refl refl refl hears.stands (ap is_asking asks))
heard_seen front moment key call places before after old new given done (Answered bytes now resource head is asks own answered joins same) grown told hears =
    absurd (not_here is_asking old hears.listener hears.rest refl refl refl refl hears.stands (ap is_asking asks))
heard_seen front moment key call places before after old new given done (Declined bytes now is asks last) grown told hears =
    absurd (not_here is_asking old hears.listener hears.rest refl refl refl refl hears.stands (ap is_asking asks))
heard_seen front moment key call places before after old new given done (Shut shuts same phases aside) grown told hears =
    goes_on front moment before after old new given (given_after key given call) done (written_by key call) hears grown same.3 (aside.given given) aside.written (inr (ap is_over same.0))
heard_seen front moment key call places before after old new given done (Awaited bytes now is asks becomes) grown told hears =
    absurd (not_here is_asking old hears.listener hears.rest refl refl refl refl hears.stands (ap is_asking asks))
heard_seen front moment key call places before after old new given done (Connected bytes now id progress between is asks connects receives becomes) grown told hears =
    absurd (not_here is_asking old hears.listener hears.rest refl refl refl refl hears.stands (ap is_asking asks))
heard_seen front moment key call places before after old new given done (Read bytes now id progress is reads of receives becomes) grown told hears =
    absurd (not_here is_reading old hears.listener hears.rest refl refl refl refl hears.stands (ap is_reading reads))
heard_seen front moment key call places before after old new given done (Gave size now count buffer mid ending is by becomes) grown told hears =
    let none = none_before key size now count given buffer call is told in
    let start = subst (λ (l : List ℕ). HearsOn front moment before old l done) none hears in
    let given_now = gave front moment before after old mid size now count ending buffer done by start in
    subst (λ (l : List ℕ). HearsOn front moment after new (given_after key given call) l) (sym (append-nil done) ∙ ap (λ (l : List ℕ). done ++ l) (sym (ap (written_by key) is)))
    (subst (λ (l : List ℕ). HearsOn front moment after new l done) (sym (given_next key size now count given buffer call is))
    (subst (λ (one : ClientState). HearsOn front moment after one (take count buffer) done) (sym becomes) given_now))
heard_seen front moment key call places before after old new given done (Told bytes count mid tells written stays phases) grown told hears =
    let (same, within) = tells.told given told in
    told_of front moment before after old mid new bytes given (given_after key given call) done (written_by key call) count hears grown same within written stays
    (tells.given given) tells.written

-- ---- over all calls
module _ {D : Type 0} (model : DiskModel D) (laws : OwnLaws)
    (lasts : (old new : HubParts D) (before after : HubState) (moment : Moment) (listener : ListenerState) (given : List ℕ) → Shows model old before → Shows model new after
    → Extends before.committed after.committed → IsHearing moment before.committed listener given → IsHearing moment after.committed listener given) where
  -- what was written is the front of what is heard of the bytes that are committed in the end
  abbrev pub HeardSo : List ℕ → Moment → Station D → List ℕ → Type 0
  HeardSo front moment station done =
      (machine : HubState) × (whole : List ℕ) × (left : List ℕ) × Shows model station.live.hub machine × IsLive moment machine.committed whole × (front ++ whole ≡ done ++ left)

  pub hears_all : (front : List ℕ) (moment : Moment) (key : ℕ) (calls : List (After D)) (old : Station D) (machine : HubState) (client : ClientState) (given done : List ℕ)
      → AreCalls model old calls → AreTold key given calls → Shows model old.live.hub machine → AreApart machine old.clients.slots
      → get old.clients.slots key ≡ Some client → HearsOn front moment machine client given done → HeardSo front moment (left_by old calls) (done ++ written key calls)
  hears_all front moment key [] old machine client given done are told shown apart found hears =
      let later = hears.hearing.rest in (
        machine,
        hears.so_far ++ later,
        (hears.left ++ hears.rest) ++ later,
        shown,
        hears.hearing.live,
        sym (append_assoc front hears.so_far later) ∙ ap (λ (l : List ℕ). l ++ later) hears.all ∙ append_assoc done (hears.left ++ hears.rest) later
            ∙ ap (λ (l : List ℕ). l ++ ((hears.left ++ hears.rest) ++ later)) (sym (append-nil done)),
      )
  hears_all front moment key (one ∷ later) old machine client given done are told shown apart found hears =
      let sight = sees model laws.any key one.call old one.after machine are.0 shown apart in
      elim (sight.seen client found) [
        | inl closed ↦ absurd (closed_not key given one.call closed told.0)
        | inr (after, stands, seen) ↦
            let grown : Grown machine sight.machine =
            λ at listener bytes hearing. lasts old.live.hub one.after.live.hub machine sight.machine at listener bytes shown sight.shown sight.grows hearing in
            let next = heard_seen front moment key one.call old.live.places machine sight.machine client after given done seen grown told.0 hears in
            subst (HeardSo front moment (left_by one.after later)) (append_assoc done (written_by key one.call) (written key later))
            (hears_all front moment key later one.after sight.machine after (given_after key given one.call) (done ++ written_by key one.call) are.1 told.1 sight.shown sight.apart stands next)
      ]
