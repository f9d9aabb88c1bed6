-- What has been taken of pages that have passed.
use Rattle.std.proofs.Common.{◌≡◌, ◌⊎◌, inl, inr, ⊎_elim, ℕ, ◌+◌, None, Some, Option, List, [], length, sym, ◌∙◌, ap, subst, arith}
use Rattle.std.specs.Borrow.{MutBor}
use Rattle.std.specs.List.{AllByRecursion}
use Rattle.ogg_page.specs.Page.{Page, IsPage, bytes_of_pages}
use Rattle.ogg_page.specs.declared.visiting.Visit.TheVariants.{GoesOn, Ends}
use Rattle.gate_file.specs.Visiting.{AreShown}
use Rattle.link_chain.specs.ChainState.{ChainState, chain_state_of}
use Rattle.link_chain.specs.Links.{AreLinks}
use Rattle.link_chain.specs.LinkLaws.{in_turn}
use Rattle.link_chain.specs.Room.{ChainWithRoom}
use Rattle.link_chain.specs.Taker.{HandsPage, chaining}
use Rattle.link_chain.specs.TakerLaws.{are_handed}
use Rattle.link_chain.specs.Taking.{fault_of_page}
use Rattle.link_chain.specs.declared.chain_fault.ChainFault.{ChainFault}
use Rattle.link_chain.specs.declared.chain_fault.ChainFault.TheVariants.{Memory}
use Rattle.file_recorder.specs.Recovery.{Links}
use Rattle.file_recorder.specs.Taking.{IsBrokenAt}

-- all pages are taken, or there is a first one that isn't
pub record HaveWalked (bytes : List ℕ) (chain : ChainState) (broken : Option (ℕ × ChainFault)) : Type 0 where
  pub taken : broken ≡ None → (links : Links) × AreLinks bytes links × (chain ≡ chain_state_of links)
  pub stopped : (offset : ℕ) (fault : ChainFault) → broken ≡ Some (offset, fault) → IsBrokenAt bytes offset fault ⊎ (fault ≡ Memory)

same_place : (p q : ℕ × ChainFault) → Some p ≡ Some q → p ≡ q
same_place p q e = cc

not_none : (place : ℕ × ChainFault) → Some place ≡ None → ⊥
not_none place e = cc

-- what the visitor that hands the pages to a chain leaves of it, through the same reference
pub have_walked : {V : Type 0} (chain : V → MutBor ChainWithRoom) (broken : V → Option (ℕ × ChainFault)) (old new : V) (pages : List Page) → AllByRecursion IsPage pages
    → (chain old).now.chain ≡ chain_state_of [] → broken old ≡ None → AreShown (HandsPage chaining chain broken) old 0 pages new
    → ((chain new).ghost_name ≡ (chain old).ghost_name) × HaveWalked (bytes_of_pages pages) (chain new).now.chain (broken new)
have_walked chain broken old new pages are is none (GoesOn, seen) =
    let handed = are_handed chaining chain broken old new 0 pages seen in
    let (links, taken, is_after) = handed.all.links [] is in (
      handed.same,
      record {
        taken = λ _. (links, (in_turn pages links are).0 taken, is_after);
        stopped = λ offset fault e. absurd (not_none (offset, fault) (sym e ∙ handed.broken_same ∙ none));
      },
    )
have_walked chain broken old new pages are is none (Ends, (front, page, back, mid, split, seen, one)) =
    let handed = are_handed chaining chain broken old mid 0 front seen in
    let (links, taken, is_after) = handed.all.links [] is in
    let (fault, at, left) = one.handed in
    let place : ℕ = 0 + length (bytes_of_pages front) in (
      one.same ∙ handed.same,
      record {
        taken = λ e. absurd (not_none (place, fault) (sym at ∙ e));
        stopped = λ o f e.
            let here : (o, f) ≡ (place, fault) = same_place (o, f) (place, fault) (sym e ∙ at) in
            subst (λ (p : ℕ × ChainFault). IsBrokenAt (bytes_of_pages pages) p.0 p.1 ⊎ (p.1 ≡ Memory)) (sym here)
            (⊎_elim
            (λ (short, refused). ⊎_elim
            (λ told. inl (record {
              pages = front;
              page = page;
              rest = back;
              links = links;
              are_pages = subst (λ (l : List Page). AllByRecursion IsPage l) split are;
              joined = ap bytes_of_pages split;
              place = omega arith;
              taken = taken;
              told = ap (λ (c : ChainState). fault_of_page c page) (sym is_after) ∙ told;
            }))
            (λ (memory, follows, lacks). inr memory)
            refused.why)
            (λ (long, memory, same). inr memory)
            left);
      },
    )
