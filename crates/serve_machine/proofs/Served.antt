-- What a session gets over a whole run.
use Rattle.std.proofs.Common.{◌≡◌, ℕ, zero, suc, ◌<◌, Bool, true, false, ◌||◌, Option, Some, None, MatchOption, List, [], ◌∷◌, ◌++◌, take, drop, refl, sym, ◌∙◌, ap, subst, arith, inl, inr, take-append-drop, take-add}
use Rattle.std.proofs.lemmas.Bool.{cond-true, cond-false, or_cases, cases_lt, both_ways}
use Rattle.serve_machine.specs.declared.answers.Progress.TheVariants.{More, Ready}
use Rattle.serve_responses.specs.Response.{IsResponse}
use Rattle.serve_machine.specs.Hub.{HubState, Phase, Reading, Sending, phase_of, is_nothing}
use Rattle.serve_machine.specs.Run.{Step, AreSteps, IsUnused, OwnCall, Received, Pulled, own_call, own_calls, head_after, room_in, room_after_head, given_by, pulled, says_done, was_done, completes, committed_at_head, GetsResponse, GetsNothing, IsServed}
use Rattle.serve_machine.proofs.Seen.{IsSilent, Seen, Passes, Begins, Ends, Reads, Finishes, Ignores, Waits, Sends, seen}
use Rattle.serve_machine.proofs.Numbers.{numbers_rise}
use Rattle.serve_machine.proofs.Match.{not_both, match_map}

-- ---- one more step in front
own_after : (id : ℕ) (step : Step) (steps : List Step) (calls : List OwnCall) → own_call id step.event ≡ calls → own_calls id (step ∷ steps) ≡ calls ++ own_calls id steps
own_after id step steps calls e = ap (λ l. l ++ own_calls id steps) e

pulled_after : (id : ℕ) (step : Step) (steps : List Step) (bytes : List ℕ) → given_by id step.event ≡ bytes → pulled id (step ∷ steps) ≡ bytes ++ pulled id steps
pulled_after id step steps bytes e = ap (λ l. l ++ pulled id steps) e

done_after : (id : ℕ) (step : Step) (steps : List Step) (b : Bool) → says_done id step.event ≡ b → was_done id (step ∷ steps) ≡ (b || was_done id steps)
done_after id step steps b e = ap (λ c. c || was_done id steps) e

moment_after : (id : ℕ) (step : Step) (steps : List Step) → completes id step.event ≡ false → committed_at_head id (step ∷ steps) ≡ committed_at_head id steps
moment_after id step steps e = cond-false (completes id step.event) (Some step.after.committed) (committed_at_head id steps) e

-- ---- a session that is gone
pub record IsOver (id : ℕ) (steps : List Step) : Type 0 where
  pub own : own_calls id steps ≡ []
  pub nothing : pulled id steps ≡ []
  pub not_done : was_done id steps ≡ false
  pub moment : committed_at_head id steps ≡ None

over_after : (id : ℕ) (step : Step) (steps : List Step) → IsSilent id step.event → IsOver id steps → IsOver id (step ∷ steps)
over_after id step steps silent over = record {
  own = own_after id step steps [] silent.own ∙ over.own;
  nothing = pulled_after id step steps [] silent.given ∙ over.nothing;
  not_done = done_after id step steps false silent.not_done ∙ over.not_done;
  moment = moment_after id step steps silent.not_complete ∙ over.moment;
}

over_by : (id : ℕ) (old : HubState) (step : Step) (steps : List Step) → Seen id step.event old step.after → phase_of old id ≡ None → id < old.next_id
    → (phase_of step.after id ≡ None → IsOver id steps) → IsOver id (step ∷ steps)
over_by id old step steps (Passes silent same) none below later = over_after id step steps silent (later (same ∙ none))
over_by id old step steps (Begins silent number next begun) none below later = absurd (omega (arith, number, below))
over_by id old step steps (Ends silent was gone) none below later = over_after id step steps silent (later gone)
over_by id old step steps (Reads received bytes was own given not_done not_complete now) none below later = absurd (not_both (phase_of old id) (Reading received) was none)
over_by id old step steps (Finishes received bytes response was own given not_done complete is_response now) none below later = absurd (not_both (phase_of old id) (Reading received) was none)
over_by id old step steps (Ignores rest bytes was own given not_done now) none below later = absurd (not_both (phase_of old id) (Sending rest) was none)
over_by id old step steps (Waits received size was own given not_done not_complete now) none below later = absurd (not_both (phase_of old id) (Reading received) was none)
over_by id old step steps (Sends rest size was own given done not_complete now) none below later = absurd (not_both (phase_of old id) (Sending rest) was none)

pub over : (id : ℕ) (old : HubState) (steps : List Step) → AreSteps old steps → phase_of old id ≡ None → id < old.next_id → IsOver id steps
over id old [] are none below = record { own = refl; nothing = refl; not_done = refl; moment = refl }
over id old (step ∷ steps) are none below =
    over_by id old step steps (seen id old step.after step.event are.0) none below
    (λ gone. over id step.after steps are.1 gone (omega (arith, below, numbers_rise old step.after step.event are.0)))

-- ---- a session that sends
pub record GetsRest (id : ℕ) (steps : List Step) (rest : List ℕ) : Type 0 where
  pub filled : pulled id steps ≡ take (room_in (own_calls id steps)) rest
  pub all : was_done id steps ≡ true → pulled id steps ≡ rest

bytes_in : Option Phase → List ℕ
bytes_in None = []
bytes_in (Some (Reading received)) = received
bytes_in (Some (Sending rest)) = rest

same_rest : (o : Option Phase) (x y : List ℕ) → o ≡ Some (Sending x) → o ≡ Some (Sending y) → x ≡ y
unfolding bytes_in
same_rest o x y a b = ap bytes_in (sym a ∙ b)

same_received : (o : Option Phase) (x y : List ℕ) → o ≡ Some (Reading x) → o ≡ Some (Reading y) → x ≡ y
unfolding bytes_in
same_received o x y a b = ap bytes_in (sym a ∙ b)

two_phases : (o : Option Phase) (x y : List ℕ) → o ≡ Some (Reading x) → o ≡ Some (Sending y) → ⊥
two_phases o x y a b = let e : Some (Reading x) ≡ Some (Sending y) = sym a ∙ b in cc

nothing_is : (bytes : List ℕ) → is_nothing bytes ≡ true → bytes ≡ []
nothing_is [] e = refl
nothing_is (byte ∷ bytes) e = cc

take_nothing : (n : ℕ) (l : List ℕ) → l ≡ [] → take n l ≡ l
take_nothing zero [] e = refl
take_nothing (suc n) [] e = refl
take_nothing n (x ∷ l) e = cc

rest_over : (id : ℕ) (step : Step) (steps : List Step) (rest : List ℕ) → IsSilent id step.event → GetsRest id steps rest → GetsRest id (step ∷ steps) rest
rest_over id step steps rest silent gets = record {
  filled = pulled_after id step steps [] silent.given ∙ gets.filled ∙ ap (λ calls. take (room_in calls) rest) (sym (own_after id step steps [] silent.own));
  all = λ done. pulled_after id step steps [] silent.given ∙ gets.all (sym (done_after id step steps false silent.not_done) ∙ done);
}

rest_ends : (id : ℕ) (steps : List Step) (rest : List ℕ) → IsOver id steps → GetsRest id steps rest
rest_ends id steps rest over = record {
  filled = over.nothing ∙ ap (λ calls. take (room_in calls) rest) (sym over.own);
  all = λ done. absurd (both_ways (was_done id steps) over.not_done done);
}

rest_by : (id : ℕ) (old : HubState) (step : Step) (steps : List Step) (rest : List ℕ) → Seen id step.event old step.after → phase_of old id ≡ Some (Sending rest) → id < old.next_id
    → (phase_of step.after id ≡ None → IsOver id steps)
    → ((left : List ℕ) → phase_of step.after id ≡ Some (Sending left) → GetsRest id steps left) → GetsRest id (step ∷ steps) rest
rest_by id old step steps rest (Passes silent same) is below over later = rest_over id step steps rest silent (later rest (same ∙ is))
rest_by id old step steps rest (Begins silent number next begun) is below over later = absurd (omega (arith, number, below))
rest_by id old step steps rest (Ends silent was gone) is below over later = rest_over id step steps rest silent (rest_ends id steps rest (over gone))
rest_by id old step steps rest (Reads received bytes was own given not_done not_complete now) is below over later = absurd (two_phases (phase_of old id) received rest was is)
rest_by id old step steps rest (Finishes received bytes response was own given not_done complete is_response now) is below over later = absurd (two_phases (phase_of old id) received rest was is)
rest_by id old step steps rest (Waits received size was own given not_done not_complete now) is below over later = absurd (two_phases (phase_of old id) received rest was is)
rest_by id old step steps rest (Ignores left bytes was own given not_done now) is below over later =
    let gets = later rest (now ∙ ap (λ (l : List ℕ). Some (Sending l)) (same_rest (phase_of old id) left rest was is)) in
    record {
      filled = pulled_after id step steps [] given ∙ gets.filled ∙ ap (λ calls. take (room_in calls) rest) (sym (own_after id step steps (Received bytes Ready ∷ []) own));
      all = λ done. pulled_after id step steps [] given ∙ gets.all (sym (done_after id step steps false not_done) ∙ done);
    }
rest_by id old step steps rest (Sends left size was own given done not_complete now) is below over later =
    let gets = later (drop size left) now in
    subst (λ (l : List ℕ). GetsRest id (step ∷ steps) l) (same_rest (phase_of old id) left rest was is)
    (record {
      filled = pulled_after id step steps (take size left) given ∙ ap (λ l. take size left ++ l) gets.filled
          ∙ sym (take-add size (room_in (own_calls id steps)) left)
          ∙ ap (λ calls. take (room_in calls) left) (sym (own_after id step steps (Pulled size ∷ []) own));
      all = λ said. pulled_after id step steps (take size left) given
          ∙ elim (or_cases (is_nothing (drop size left)) (was_done id steps) (sym (done_after id step steps (is_nothing (drop size left)) done) ∙ said)) [
            | inl empty ↦
                ap (λ l. take size left ++ l) (gets.filled ∙ take_nothing (room_in (own_calls id steps)) (drop size left) (nothing_is (drop size left) empty))
                ∙ take-append-drop size left
            | inr more ↦ ap (λ l. take size left ++ l) (gets.all more) ∙ take-append-drop size left
          ];
    })

pub rest : (id : ℕ) (old : HubState) (steps : List Step) (left : List ℕ) → AreSteps old steps → phase_of old id ≡ Some (Sending left) → id < old.next_id → GetsRest id steps left
rest id old [] left are is below = record { filled = refl; all = λ done. absurd (both_ways false refl done) }
rest id old (step ∷ steps) left are is below =
    let next : id < step.after.next_id = omega (arith, below, numbers_rise old step.after step.event are.0) in
    rest_by id old step steps left (seen id old step.after step.event are.0) is below
    (λ gone. over id step.after steps are.1 gone next)
    (λ more sending. rest id step.after steps more are.1 sending next)

-- ---- a session whose head is coming
abbrev IsServedBehind : List ℕ → ℕ → List Step → Type 0
IsServedBehind received id steps = MatchOption (head_after received (own_calls id steps)) (GetsNothing id steps) (GetsResponse id steps)

served_over : (id : ℕ) (step : Step) (steps : List Step) (received more : List ℕ) → given_by id step.event ≡ [] → says_done id step.event ≡ false → completes id step.event ≡ false
    → head_after received (own_calls id (step ∷ steps)) ≡ head_after more (own_calls id steps)
    → room_after_head (own_calls id (step ∷ steps)) ≡ room_after_head (own_calls id steps)
    → IsServedBehind more id steps → IsServedBehind received id (step ∷ steps)
served_over id step steps received more given not_done not_complete head room served =
    match_map (head_after more (own_calls id steps)) (head_after received (own_calls id (step ∷ steps)))
    (GetsNothing id steps) (GetsNothing id (step ∷ steps)) (GetsResponse id steps) (GetsResponse id (step ∷ steps)) head
    (λ nothing. record {
      moment = moment_after id step steps not_complete ∙ nothing.moment;
      nothing = pulled_after id step steps [] given ∙ nothing.nothing;
      not_done = done_after id step steps false not_done ∙ nothing.not_done;
    })
    (λ head gets. record {
      committed = gets.committed;
      moment = moment_after id step steps not_complete ∙ gets.moment;
      response = gets.response;
      is_response = gets.is_response;
      filled = pulled_after id step steps [] given ∙ gets.filled ∙ ap (λ n. take n gets.response) (sym room);
      prefix = gets.prefix ∙ ap (λ l. l ++ drop (room_after_head (own_calls id steps)) gets.response) (sym (pulled_after id step steps [] given))
          ∙ ap (λ n. pulled id (step ∷ steps) ++ drop n gets.response) (sym room);
      all = λ done. pulled_after id step steps [] given ∙ gets.all (sym (done_after id step steps false not_done) ∙ done);
    })
    served

served_silent : (id : ℕ) (step : Step) (steps : List Step) (received : List ℕ) → IsSilent id step.event → IsServedBehind received id steps → IsServedBehind received id (step ∷ steps)
served_silent id step steps received silent served =
    let own = own_after id step steps [] silent.own in
    served_over id step steps received received silent.given silent.not_done silent.not_complete (ap (head_after received) own) (ap room_after_head own) served

served_ends : (id : ℕ) (steps : List Step) (received : List ℕ) → IsOver id steps → IsServedBehind received id steps
served_ends id steps received over =
    subst (λ calls. MatchOption (head_after received calls) (GetsNothing id steps) (GetsResponse id steps)) (sym over.own)
    (record { moment = over.moment; nothing = over.nothing; not_done = over.not_done })

served_by : (id : ℕ) (old : HubState) (step : Step) (steps : List Step) (received : List ℕ) → Seen id step.event old step.after → phase_of old id ≡ Some (Reading received) → id < old.next_id
    → (phase_of step.after id ≡ None → IsOver id steps)
    → ((left : List ℕ) → phase_of step.after id ≡ Some (Sending left) → GetsRest id steps left)
    → ((more : List ℕ) → phase_of step.after id ≡ Some (Reading more) → IsServedBehind more id steps)
    → IsServedBehind received id (step ∷ steps)
served_by id old step steps received (Passes silent same) is below over sends later = served_silent id step steps received silent (later received (same ∙ is))
served_by id old step steps received (Begins silent number next begun) is below over sends later = absurd (omega (arith, number, below))
served_by id old step steps received (Ends silent was gone) is below over sends later = served_silent id step steps received silent (served_ends id steps received (over gone))
served_by id old step steps received (Reads before bytes was own given not_done not_complete now) is below over sends later =
    let same = same_received (phase_of old id) before received was is in
    let calls = own_after id step steps (Received bytes More ∷ []) own in
    served_over id step steps received (before ++ bytes) given not_done not_complete
    (ap (head_after received) calls ∙ ap (λ l. head_after (l ++ bytes) (own_calls id steps)) (sym same)) (ap room_after_head calls) (later (before ++ bytes) now)
served_by id old step steps received (Waits before size was own given not_done not_complete now) is below over sends later =
    let same = same_received (phase_of old id) before received was is in
    let calls = own_after id step steps (Pulled size ∷ []) own in
    served_over id step steps received before given not_done not_complete
    (ap (head_after received) calls ∙ ap (λ l. head_after l (own_calls id steps)) (sym same)) (ap room_after_head calls) (later before now)
served_by id old step steps received (Finishes before bytes response was own given not_done complete is_response now) is below over sends later =
    let same = same_received (phase_of old id) before received was is in
    let calls = own_after id step steps (Received bytes Ready ∷ []) own in
    let gets = sends response now in
    let filled : pulled id (step ∷ steps) ≡ take (room_after_head (own_calls id (step ∷ steps))) response =
    pulled_after id step steps [] given ∙ gets.filled ∙ ap (λ cs. take (room_after_head cs) response) (sym calls) in
    let whole : GetsResponse id (step ∷ steps) (received ++ bytes) =
    record {
      committed = step.after.committed;
      moment = cond-true (completes id step.event) (Some step.after.committed) (committed_at_head id steps) complete;
      response = response;
      is_response = subst (λ l. IsResponse step.after.committed (l ++ bytes) response) same is_response;
      filled = filled;
      prefix = sym (take-append-drop (room_after_head (own_calls id (step ∷ steps))) response)
          ∙ ap (λ l. l ++ drop (room_after_head (own_calls id (step ∷ steps))) response) (sym filled);
      all = λ done. pulled_after id step steps [] given ∙ gets.all (sym (done_after id step steps false not_done) ∙ done);
    } in
    subst (λ cs. MatchOption (head_after received cs) (GetsNothing id (step ∷ steps)) (GetsResponse id (step ∷ steps))) (sym calls) whole
served_by id old step steps received (Ignores left bytes was own given not_done now) is below over sends later = absurd (two_phases (phase_of old id) received left is was)
served_by id old step steps received (Sends left size was own given done not_complete now) is below over sends later = absurd (two_phases (phase_of old id) received left is was)

served_reading : (id : ℕ) (old : HubState) (steps : List Step) (received : List ℕ) → AreSteps old steps → phase_of old id ≡ Some (Reading received) → id < old.next_id → IsServedBehind received id steps
served_reading id old [] received are is below = record { moment = refl; nothing = refl; not_done = refl }
served_reading id old (step ∷ steps) received are is below =
    let next : id < step.after.next_id = omega (arith, below, numbers_rise old step.after step.event are.0) in
    served_by id old step steps received (seen id old step.after step.event are.0) is below
    (λ gone. over id step.after steps are.1 gone next)
    (λ left sending. rest id step.after steps left are.1 sending next)
    (λ more reading. served_reading id step.after steps more are.1 reading next)

-- ---- a session that hasn't come yet
unused_by : (id : ℕ) (old : HubState) (step : Step) (steps : List Step) → Seen id step.event old step.after → IsUnused old id
    → (phase_of step.after id ≡ None → IsServed id steps)
    → (phase_of step.after id ≡ Some (Reading []) → id < step.after.next_id → IsServed id steps) → IsServed id (step ∷ steps)
unused_by id old step steps (Passes silent same) unused waits begins = served_silent id step steps [] silent (waits (same ∙ unused.1))
unused_by id old step steps (Begins silent number next begun) unused waits begins =
    served_silent id step steps [] silent (begins (begun unused.1) (omega (arith, number, next)))
unused_by id old step steps (Ends silent was gone) unused waits begins = served_silent id step steps [] silent (waits gone)
unused_by id old step steps (Reads received bytes was own given not_done not_complete now) unused waits begins = absurd (not_both (phase_of old id) (Reading received) was unused.1)
unused_by id old step steps (Finishes received bytes response was own given not_done complete is_response now) unused waits begins = absurd (not_both (phase_of old id) (Reading received) was unused.1)
unused_by id old step steps (Ignores left bytes was own given not_done now) unused waits begins = absurd (not_both (phase_of old id) (Sending left) was unused.1)
unused_by id old step steps (Waits received size was own given not_done not_complete now) unused waits begins = absurd (not_both (phase_of old id) (Reading received) was unused.1)
unused_by id old step steps (Sends left size was own given done not_complete now) unused waits begins = absurd (not_both (phase_of old id) (Sending left) was unused.1)

pub served : (start : HubState) (steps : List Step) (id : ℕ) → IsUnused start id → AreSteps start steps → IsServed id steps
served start [] id unused are = record { moment = refl; nothing = refl; not_done = refl }
served start (step ∷ steps) id unused are =
    unused_by id start step steps (seen id start step.after step.event are.0) unused
    (λ none. elim (cases_lt id step.after.next_id) [
      | inl below ↦ served_ends id steps [] (over id step.after steps are.1 none below)
      | inr unused ↦ served step.after steps id (unused, none) are.1
    ])
    (λ reading below. served_reading id step.after steps [] are.1 reading below)
