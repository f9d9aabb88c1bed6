-- The chain that goes on by a plan.
use Rattle.std.proofs.Common.{◌≡◌, ℕ, ◌+◌, ◌<◌, ◌^◌, ◌++◌, List, [], ◌∷◌, length, refl, sym, ◌∙◌, ap, subst, arith, Option, Some, None, Result, Ok, Err}
use Rattle.std.specs.Prelude.{IsOk, IfOk}
use Rattle.std.specs.List.{fold}
use Rattle.std.proofs.lemmas.List.{length-map}
use Rattle.ogg_page.specs.Page.{Page}
use Rattle.ogg_command.specs.declared.command.Command.{Command}
use Rattle.ogg_command.specs.declared.command.Command.TheVariants.{Begin as BeginOf, Put as PutOf, End as EndOf}
use Rattle.ogg_command.specs.declared.command.Put.{Put}
use Rattle.ogg_command.specs.declared.command.Entry.{Entry}
use Rattle.ogg_command.specs.declared.command.NewStream.{NewStream}
use Rattle.ogg_command.specs.declared.command.SkeletonHead.{SkeletonHead}
use Rattle.ogg_command.specs.declared.refusal.Refusal.{Refusal}
use Rattle.link_chain.specs.declared.stream_state.StreamState.{StreamState}
use Rattle.link_chain.specs.ChainState.{ChainState, chain_state_of}
use Rattle.link_chain.specs.Followed.{with_link, moved_on}
use Rattle.link_chain.specs.Places.{HaveOwnSerials}
use Rattle.link_chain.specs.Progress.{next_in, change_at, advanced, ended_by}
use Rattle.link_chain.specs.Laws.OwnSerials.{own_stay}
use Rattle.link_chain.specs.Laws.StateBehind.{chain_of}
use Rattle.chain_rules.specs.Begun.{new_state, states_of, skeleton_serial, has_more_pages}
use Rattle.chain_rules.specs.Decision.{decision, size_of}
use Rattle.chain_rules.specs.Encoding.{pages_of_command, links_after, pages_behind, run_serial, run_position, runs_of, with_run}
use Rattle.chain_rules.specs.Limits.{longest_file}
use Rattle.chain_rules.specs.Plan.{PlanState, IsPlanOf, streams_after, chain_by}
use Rattle.chain_rules.proofs.BeginHeld.{can_begin}
use Rattle.chain_rules.proofs.BeginState.{begin_state}
use Rattle.chain_rules.proofs.EndState.{end_state}
use Rattle.chain_rules.proofs.Kept.{size_is_own, size_fits}
use Rattle.chain_rules.proofs.Longer.{HasTime}
use Rattle.chain_rules.proofs.OwnSerials.{own_begun, own_runs, states_serials}
use Rattle.chain_rules.proofs.PutState.{put_state}

pub is_kept : (chain : ChainState) (command : Command) (plan : PlanState) → IsPlanOf chain command plan → IsOk (decision chain command)
is_kept chain command plan is = subst (λ (r : Result ℕ Refusal). IsOk r) (sym is.decided) refl

-- ---- the streams
pub own_after : (chain : ChainState) (command : Command) → IsOk (decision chain command) → HaveOwnSerials chain.streams → HaveOwnSerials (streams_after chain command)
own_after chain (BeginOf begin) ok own = own_begun begin.skeleton begin.streams (can_begin chain begin ok).distinct
own_after chain (PutOf put) ok own = own_runs chain.streams (runs_of put.entries) own
own_after chain (EndOf serial) ok own = own_stay serial (ended_by (next_in chain.streams serial + 1)) chain.streams (λ s. refl) own

-- ---- a command is planned
pub is_planned : (chain : ChainState) (command : Command) (plan : PlanState) (size : ℕ) → HaveOwnSerials chain.streams → decision chain command ≡ Ok size → plan.size ≡ size →
    plan.streams ≡ streams_after chain command → IsPlanOf chain command plan
is_planned chain command plan size own decided same after = record {
  decided = decided ∙ ap Ok (sym same);
  after = after;
  own = subst HaveOwnSerials (sym after) (own_after chain command (subst (λ (r : Result ℕ Refusal). IsOk r) (sym decided) refl) own);
}

pub put_is_planned : (answer : Result ℕ Refusal) (chain : ChainState) (put : Put) (plan : PlanState) → HaveOwnSerials chain.streams → answer ≡ decision chain (PutOf put) →
    IfOk answer (λ size. plan.size ≡ size) → IfOk answer (λ _. plan.streams ≡ fold with_run chain.streams (runs_of put.entries)) → IfOk answer (λ _. IsPlanOf chain (PutOf put) plan)
put_is_planned (Ok size) chain put plan own decided same after = is_planned chain (PutOf put) plan size own (sym decided) same after
put_is_planned (Err refusal) chain put plan own decided same after = tt

-- ---- how many streams
pub as_many : (streams : List StreamState) (runs : List (List Entry)) → length (fold with_run streams runs) ≡ length streams
as_many streams [] = refl
as_many streams (run ∷ runs) =
    as_many (with_run streams run) runs
    ∙ length-map streams (change_at (run_serial run) (advanced (next_in streams (run_serial run) + length (pages_behind streams run)) (run_position run)))

pub begun_count : (skeleton : Option SkeletonHead) (streams : List NewStream) → length (states_of skeleton streams) ≡ length streams + length (skeleton_serial skeleton)
begun_count None streams = omega (arith, length-map streams new_state)
begun_count (Some head) streams = omega (arith, length-map streams new_state)

-- ---- the chain can go on
pub plan_fits : (chain : ChainState) (command : Command) (plan : PlanState) → IsPlanOf chain command plan → chain.length_of + plan.size < longest_file
plan_fits chain command plan is =
    subst (λ (r : Result ℕ Refusal). IfOk r (λ size. chain.length_of + size < longest_file)) is.decided (size_fits chain command)

-- with these streams, after pages of this size
pub record CanGoOn (chain : ChainState) (streams : List StreamState) (size : ℕ) : Type 0 where
  pub count : length streams ≡ length chain.streams
  pub own : HaveOwnSerials streams
  pub long : chain.length_of + size < 2 ^ 63

can_go_on : (chain : ChainState) (command : Command) (plan : PlanState) (streams : List StreamState) (size : ℕ) → IsPlanOf chain command plan →
    length (streams_after chain command) ≡ length chain.streams → streams ≡ plan.streams → size ≡ plan.size → CanGoOn chain streams size
can_go_on chain command plan streams size is many s e = record {
  count = ap length (s ∙ is.after) ∙ many;
  own = subst HaveOwnSerials (sym s) is.own;
  long = omega (arith, e, plan_fits chain command plan is);
}

pub put_goes_on : (chain : ChainState) (put : Put) (command : Command) (plan : PlanState) (streams : List StreamState) (size : ℕ) → command ≡ PutOf put →
    IsPlanOf chain command plan → streams ≡ plan.streams → size ≡ plan.size → CanGoOn chain streams size
put_goes_on chain put command plan streams size so is =
    can_go_on chain (PutOf put) plan streams size (subst (λ (c : Command). IsPlanOf chain c plan) so is) (as_many chain.streams (runs_of put.entries))

pub end_goes_on : (chain : ChainState) (serial : ℕ) (command : Command) (plan : PlanState) (streams : List StreamState) (size : ℕ) → command ≡ EndOf serial →
    IsPlanOf chain command plan → streams ≡ plan.streams → size ≡ plan.size → CanGoOn chain streams size
end_goes_on chain serial command plan streams size so is =
    can_go_on chain (EndOf serial) plan streams size (subst (λ (c : Command). IsPlanOf chain c plan) so is)
    (length-map chain.streams (change_at serial (ended_by (next_in chain.streams serial + 1))))

-- ---- the chain after it
pub planned_state : (links : List (List Page)) (command : Command) (plan : PlanState) → HasTime command → IsPlanOf (chain_state_of links) command plan →
    chain_by (chain_state_of links) command plan ≡ chain_state_of (links_after links command)
unfolding pages_of_command
planned_state links (BeginOf begin) plan text is =
    let chain : ChainState = chain_state_of links in
    ap (λ (l : List StreamState). with_link chain l (has_more_pages begin.skeleton begin.streams) plan.size) is.after
    ∙ ap (λ n. with_link chain (states_of begin.skeleton begin.streams) (has_more_pages begin.skeleton begin.streams) n) (size_is_own chain (BeginOf begin) plan.size is.decided)
    ∙ ap (λ (l : List ℕ). chain_of (states_of begin.skeleton begin.streams) (has_more_pages begin.skeleton begin.streams) (chain.serials ++ l) (chain.links + 1) (chain.length_of + size_of chain (BeginOf begin)))
    (states_serials begin.skeleton begin.streams)
    ∙ sym (begin_state links begin plan.size text is.decided)
planned_state links (PutOf put) plan text is =
    let chain : ChainState = chain_state_of links in
    ap (λ (l : List StreamState). moved_on chain l plan.size) is.after
    ∙ ap (λ n. moved_on chain (streams_after chain (PutOf put)) n) (size_is_own chain (PutOf put) plan.size is.decided)
    ∙ sym (put_state links put plan.size is.decided)
planned_state links (EndOf serial) plan text is =
    let chain : ChainState = chain_state_of links in
    ap (λ (l : List StreamState). moved_on chain l plan.size) is.after
    ∙ ap (λ n. moved_on chain (streams_after chain (EndOf serial)) n) (size_is_own chain (EndOf serial) plan.size is.decided)
    ∙ sym (end_state links serial plan.size is.decided)

-- the same of a chain that is that of the links, of the streams and the size as they were read from the plan
pub goes_by : (links : List (List Page)) (old : ChainState) (same command : Command) (streams : List StreamState) (size : ℕ) (plan : PlanState) → HasTime command →
    IsPlanOf old same plan → same ≡ command → streams ≡ plan.streams → size ≡ plan.size → old ≡ chain_state_of links →
    chain_by old command (record { streams = streams; size = size }) ≡ chain_state_of (links_after links same)
goes_by links old same command streams size plan text is so s e before =
    ap (λ (l : List StreamState). chain_by old command (record { streams = l; size = size })) s
    ∙ ap (λ n. chain_by old command (record { streams = plan.streams; size = n })) e
    ∙ ap (λ (c : ChainState). chain_by c command plan) before
    ∙ planned_state links command plan text (subst (λ (c : ChainState). IsPlanOf c command plan) before (subst (λ (c : Command). IsPlanOf old c plan) so is))
    ∙ ap (links_state links) (sym so)
  where
    links_state : List (List Page) → Command → ChainState
    links_state links command = chain_state_of (links_after links command)
