-- Two sessions that do the same get the same.
use Rattle.std.proofs.Common.{◌≡◌, ℕ, Option, Some, None, MatchOption, List, [], take, sym, ◌∙◌, ap, subst}
use Rattle.serve_responses.specs.Response.{IsResponse}
use Rattle.serve_machine.specs.Hub.{HubState}
use Rattle.serve_machine.specs.Run.{Step, AreSteps, IsUnused, own_calls, head_in, room_after_head, pulled, committed_at_head, GetsResponse, GetsNothing}
use Rattle.serve_machine.proofs.Served.{served}

value_in : Option (List ℕ) → List ℕ
value_in None = []
value_in (Some bytes) = bytes

same_value : (a b : List ℕ) → Some a ≡ Some b → a ≡ b
unfolding value_in
same_value a b e = ap value_in e

module _ (one_response : (committed received x y : List ℕ) → IsResponse committed received x → IsResponse committed received y → x ≡ y) where
  same_by_head : (steps others : List Step) (id other : ℕ) (head : Option (List ℕ))
      → MatchOption head (GetsNothing id steps) (GetsResponse id steps) → MatchOption head (GetsNothing other others) (GetsResponse other others)
      → own_calls id steps ≡ own_calls other others → committed_at_head id steps ≡ committed_at_head other others → pulled id steps ≡ pulled other others
  same_by_head steps others id other None a b calls moment = a.nothing ∙ sym b.nothing
  same_by_head steps others id other (Some received) a b calls moment =
      let committed : a.committed ≡ b.committed = same_value a.committed b.committed (sym a.moment ∙ moment ∙ b.moment) in
      let response : a.response ≡ b.response =
      one_response b.committed received a.response b.response (subst (λ l. IsResponse l received a.response) committed a.is_response) b.is_response in
      a.filled ∙ ap (λ cs. take (room_after_head cs) a.response) calls ∙ ap (take (room_after_head (own_calls other others))) response ∙ sym b.filled

  pub alone : (start other_start : HubState) (steps other_steps : List Step) (id other : ℕ)
      → IsUnused start id → AreSteps start steps → IsUnused other_start other → AreSteps other_start other_steps
      → own_calls id steps ≡ own_calls other other_steps → committed_at_head id steps ≡ committed_at_head other other_steps → pulled id steps ≡ pulled other other_steps
  alone start other_start steps other_steps id other unused are other_unused other_are calls moment =
      same_by_head steps other_steps id other (head_in (own_calls id steps))
      (served start steps id unused are)
      (subst (λ cs. MatchOption (head_in cs) (GetsNothing other other_steps) (GetsResponse other other_steps)) (sym calls) (served other_start other_steps other other_unused other_are))
      calls moment
