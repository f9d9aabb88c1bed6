-- Sessions in a list, and those of the machine.
use Rattle.std.proofs.Common.{◌≡◌, ℕ, zero, suc, ◌+◌, ◌<◌, Bool, not, Option, None, Some, List, [], ◌∷◌, ◌++◌, length, get_or, set, take, append_assoc, refl, sym, ◌∙◌, ap, subst, arith, inl, inr}
use Rattle.std.specs.Prelude.{IfSome, nat_eq, slice_get}
use Rattle.std.specs.List.{filter}
use Rattle.std.specs.Option.{option_map}
use Rattle.std.proofs.lemmas.Bool.{cases_Bool, cond-true, cond-false}
use Rattle.std.proofs.lemmas.List.{take_at}
use Rattle.std.proofs.Math.ListN.{length-set}
use Rattle.link_index.specs.Adding.{IndexState}
use Rattle.serve_sending.specs.Sending.{IsLeft, SendingState}
use Rattle.serve_machine.specs.Hub.{Session, Phase, Reading, Sending, without_in}
use Rattle.serve_sessions.specs.Indexing.{IsOfFront}
use Rattle.serve_sessions.specs.Laws.Found.{none_more, none_not, some_same}
use Rattle.serve_sessions.specs.Sessions.{AreSessions, IsPhase, IsSession, place_in}
use Rattle.serve_sessions.specs.declared.session.Session.{Session as SessionParts}
use Rattle.serve_sessions.specs.declared.session.Stage.{Stage}
use Rattle.serve_sessions.specs.declared.session.Stage.TheVariants.{Head, Response}

abbrev pub is_other : ℕ → SessionParts → Bool
is_other id parts = not (nat_eq parts.id id)

-- one more session
pub one_more : (committed : List ℕ) (parts : List SessionParts) (machine : List Session) (s : SessionParts) (m : Session) → AreSessions committed parts machine → IsSession committed s m
    → AreSessions committed (parts ++ s ∷ []) (machine ++ m ∷ [])
one_more committed [] [] s m are is = (is, tt)
one_more committed [] (n ∷ machine) s m are is = absurd are
one_more committed (t ∷ parts) [] s m are is = absurd are
one_more committed (t ∷ parts) (n ∷ machine) s m are is = (are.0, one_more committed parts machine s m are.1 is)

-- all sessions except those with one number
pub others : (committed : List ℕ) (id : ℕ) (parts : List SessionParts) (machine : List Session) → AreSessions committed parts machine
    → AreSessions committed (filter (is_other id) parts) (without_in id machine)
others committed id [] [] are = tt
others committed id [] (m ∷ machine) are = absurd are
others committed id (s ∷ parts) [] are = absurd are
others committed id (s ∷ parts) (m ∷ machine) are =
    let same : is_other id s ≡ not (nat_eq m.id id) = ap (λ (n : ℕ). not (nat_eq n id)) are.0.0 in
    elim (cases_Bool (is_other id s)) [
      | inl e ↦
          subst (λ (l : List SessionParts). AreSessions committed l (without_in id (m ∷ machine))) (sym (cond-true (is_other id s) (s ∷ filter (is_other id) parts) (filter (is_other id) parts) e))
          (subst (λ (l : List Session). AreSessions committed (s ∷ filter (is_other id) parts) l)
          (sym (cond-true (not (nat_eq m.id id)) (m ∷ without_in id machine) (without_in id machine) (sym same ∙ e))) (are.0, others committed id parts machine are.1))
      | inr e ↦
          subst (λ (l : List SessionParts). AreSessions committed l (without_in id (m ∷ machine))) (sym (cond-false (is_other id s) (s ∷ filter (is_other id) parts) (filter (is_other id) parts) e))
          (subst (λ (l : List Session). AreSessions committed (filter (is_other id) parts) l)
          (sym (cond-false (not (nat_eq m.id id)) (m ∷ without_in id machine) (without_in id machine) (sym same ∙ e))) (others committed id parts machine are.1))
    ]

-- the committed bytes have grown
stays_one : (committed more : List ℕ) → ((rest : List ℕ) (sending : SendingState) → IsLeft committed sending rest → IsLeft (committed ++ more) sending rest)
    → (stage : Stage) (phase : Phase) → IsPhase committed stage phase → IsPhase (committed ++ more) stage phase
stays_one committed more law (Head received) (Reading bytes) is = is
stays_one committed more law (Head received) (Sending rest) is = is
stays_one committed more law (Response sending) (Reading bytes) is = is
stays_one committed more law (Response sending) (Sending rest) is = law rest sending is

all_stay : (committed more : List ℕ) → ((rest : List ℕ) (sending : SendingState) → IsLeft committed sending rest → IsLeft (committed ++ more) sending rest)
    → (parts : List SessionParts) (machine : List Session) → AreSessions committed parts machine → AreSessions (committed ++ more) parts machine
all_stay committed more law [] [] are = tt
all_stay committed more law [] (m ∷ machine) are = are
all_stay committed more law (s ∷ parts) [] are = are
all_stay committed more law (s ∷ parts) (m ∷ machine) are = ((are.0.0, stays_one committed more law s.stage m.phase are.0.1), all_stay committed more law parts machine are.1)

pub place_inside : (id place : ℕ) (parts : List SessionParts) → place_in id parts ≡ Some place → place < length parts
place_inside id place [] e = absurd (none_not place e)
place_inside id place (s ∷ parts) e =
    elim (cases_Bool (nat_eq s.id id)) [
      | inl own ↦
          let at : 0 ≡ place = some_same 0 place (sym (cond-true (nat_eq s.id id) (Some 0) (option_map (λ (k : ℕ). k + 1) (place_in id parts)) own) ∙ e) in
          omega (arith, at)
      | inr other ↦
          let (j, is, k) = none_more (place_in id parts) place (sym (cond-false (nat_eq s.id id) (Some 0) (option_map (λ (k : ℕ). k + 1) (place_in id parts)) other) ∙ e) in
          let inside = place_inside id j parts is in
          omega (arith, inside, k)
    ]

pub all_inside : (id : ℕ) (parts : List SessionParts) (r : Option ℕ) → r ≡ place_in id parts → IfSome r (λ place. place < length parts)
all_inside id parts None e = tt
all_inside id parts (Some place) e = place_inside id place parts (sym e)

-- what is written through a slice of a vector
pub written_back : (n place : ℕ) (parts seen : List SessionParts) (new : SessionParts) (rest : List SessionParts) → seen ≡ parts → n ≡ length parts
    → take n (set seen place new ++ rest) ≡ set parts place new
written_back n place parts seen new rest same long =
    take_at (set seen place new) rest n (let k = length-set seen place new in omega (arith, k, long, ap length same)) ∙ ap (λ (l : List SessionParts). set l place new) same

-- the sessions and the index, over committed bytes that have grown
pub kept_on : (committed more after : List ℕ) → after ≡ committed ++ more → (index : IndexState) (parts : List SessionParts) (machine now : List Session) → now ≡ machine
    → ((rest : List ℕ) (sending : SendingState) → IsLeft committed sending rest → IsLeft (committed ++ more) sending rest)
    → IsOfFront committed index → AreSessions committed parts machine → IsOfFront after index × AreSessions after parts now
kept_on committed more after e index parts machine now same law front are = (
  record { front = front.front; rest = front.rest ++ more; split = e ∙ ap (λ (l : List ℕ). l ++ more) front.split ∙ append_assoc front.front front.rest more; added = front.added },
  subst (λ (l : List Session). AreSessions after parts l) (sym same)
      (subst (λ (l : List ℕ). AreSessions l parts machine) (sym e) (all_stay committed more law parts machine are)),
)

-- a session inside is the one that is read there
pub got_at : (parts : List SessionParts) (place : ℕ) (d : SessionParts) → place < length parts → slice_get parts place ≡ Some (get_or parts place d)
got_at [] place d inside = absurd (omega (arith, inside))
got_at (s ∷ parts) zero d inside = refl
got_at (s ∷ parts) (suc place) d inside = got_at parts place d (omega (arith, inside))
