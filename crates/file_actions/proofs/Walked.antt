-- What has been indexed of pages that have passed.
use Rattle.std.proofs.Common.{◌≡◌, ◌≢◌, ◌⊎◌, inl, inr, ⊎_elim, ℕ, ◌+◌, None, Some, Option, List, [], length, refl, sym, ◌∙◌, ap, subst, arith}
use Rattle.std.specs.Borrow.{MutBor}
use Rattle.std.specs.List.{AllByRecursion}
use Rattle.gate_file.specs.Visiting.{AreShown}
use Rattle.link_chain.specs.ChainState.{ChainState, chain_state_of}
use Rattle.link_chain.specs.LinkLaws.{in_turn}
use Rattle.link_chain.specs.Taker.{HandsPage}
use Rattle.link_chain.specs.TakerLaws.{are_handed}
use Rattle.link_chain.specs.Taking.{fault_of_page}
use Rattle.link_chain.specs.declared.chain_fault.ChainFault.{ChainFault}
use Rattle.link_chain.specs.declared.chain_fault.ChainFault.TheVariants.{Sequence, Continued, BosPlace, BosShape, SerialTwice, NoStream, AfterEos, BosWhileOpen, TooMany, EosUnfinished, Memory}
use Rattle.link_index.specs.Adding.{IndexState, IsIndexOf, fault_at}
use Rattle.link_index.specs.Indexing.{indexing}
use Rattle.link_index.specs.declared.fault.IndexFault.TheVariants.{Chain, Memory as NoMemory}
use Rattle.ogg_page.specs.Page.{Page, IsPage, bytes_of_pages}
use Rattle.ogg_page.specs.declared.visiting.Visit.TheVariants.{GoesOn, Ends}
use Rattle.file_actions.specs.Indexed.{IsBrokenAt, IsIndexed}

-- all pages are indexed, or there is a first one that isn't
pub record HaveWalked (bytes : List ℕ) (index : IndexState) (broken : Option (ℕ × ChainFault)) : Type 0 where
  pub taken : broken ≡ None → IsIndexed bytes index
  pub stopped : (offset : ℕ) (fault : ChainFault) → broken ≡ Some (offset, fault) → IsBrokenAt bytes offset fault ⊎ (fault ≡ Memory)

same_place : (p q : ℕ × ChainFault) → Some p ≡ Some q → p ≡ q
same_place p q e = cc

not_none : (place : ℕ × ChainFault) → Some place ≡ None → ⊥
not_none place e = cc

-- what the visitor that hands the pages to an index leaves of it, through the same reference
pub have_walked : {V : Type 0} (index : V → MutBor IndexState) (broken : V → Option (ℕ × ChainFault)) (old new : V) (pages : List Page) → AllByRecursion IsPage pages
    → IsIndexOf [] (index old).now → broken old ≡ None → AreShown (HandsPage indexing index broken) old 0 pages new
    → ((index new).ghost_name ≡ (index old).ghost_name) × HaveWalked (bytes_of_pages pages) (index new).now (broken new)
have_walked index broken old new pages are is none (GoesOn, seen) =
    let handed = are_handed indexing index broken old new 0 pages seen in
    let (links, taken, is_after) = handed.all.links [] is in (
      handed.same,
      record {
        taken = λ _. record { links = links; are_links = (in_turn pages links are).0 taken; is_index = is_after };
        stopped = λ offset fault e. absurd (not_none (offset, fault) (sym e ∙ handed.broken_same ∙ none));
      },
    )
have_walked index broken old new pages are is none (Ends, (front, page, back, mid, split, seen, one)) =
    let handed = are_handed indexing index broken old mid 0 front seen in
    let (links, taken, is_after) = handed.all.links [] is in
    let (fault, at, left) = one.handed in
    let place : ℕ = 0 + length (bytes_of_pages front) in (
      one.same ∙ handed.same,
      record {
        taken = λ e. absurd (not_none (place, fault) (sym at ∙ e));
        stopped = λ o f e.
            let here : (o, f) ≡ (place, fault) = same_place (o, f) (place, fault) (sym e ∙ at) in
            subst (λ (p : ℕ × ChainFault). IsBrokenAt (bytes_of_pages pages) p.0 p.1 ⊎ (p.1 ≡ Memory)) (sym here)
            (⊎_elim
            (λ (short, refused). ⊎_elim
            (λ told. inl (record {
              pages = front;
              page = page;
              rest = back;
              links = links;
              are_pages = subst (λ (l : List Page). AllByRecursion IsPage l) split are;
              joined = ap bytes_of_pages split;
              place = omega arith;
              taken = taken;
              told = ap (λ (c : ChainState). fault_of_page c page) (sym is_after.chain_is) ∙ told;
            }))
            (λ (memory, follows, lacks). inr memory)
            refused.why)
            (λ (long, memory, same). inr memory)
            left);
      },
    )

-- ---- what is told of a page that isn't indexed
-- want of memory, or the fault itself
fault_told : (fault : ChainFault) → (fault ≡ Memory) ⊎ ((offset : ℕ) → fault_at offset fault ≡ Chain offset fault)
fault_told Sequence = inr (λ offset. refl)
fault_told Continued = inr (λ offset. refl)
fault_told BosPlace = inr (λ offset. refl)
fault_told BosShape = inr (λ offset. refl)
fault_told SerialTwice = inr (λ offset. refl)
fault_told NoStream = inr (λ offset. refl)
fault_told AfterEos = inr (λ offset. refl)
fault_told BosWhileOpen = inr (λ offset. refl)
fault_told TooMany = inr (λ offset. refl)
fault_told EosUnfinished = inr (λ offset. refl)
fault_told Memory = inl refl

at_place : (at offset : ℕ) (why fault : ChainFault) → Chain at why ≡ Chain offset fault → (at ≡ offset) × (why ≡ fault)
at_place at offset why fault e = (cc, cc)

no_memory : (at offset : ℕ) (why fault : ChainFault) → why ≡ Memory → fault_at at why ≡ Chain offset fault → ⊥
no_memory at offset why fault is e = let told : NoMemory ≡ Chain offset fault = sym (ap (fault_at at) is) ∙ e in cc

pub told_chain : (at offset : ℕ) (why fault : ChainFault) → fault_at at why ≡ Chain offset fault → (at ≡ offset) × (why ≡ fault) × (fault ≢ Memory)
told_chain at offset why fault e =
    ⊎_elim
    (λ memory. absurd (no_memory at offset why fault memory e))
    (λ is. let (place, same) = at_place at offset why fault (sym (is at) ∙ e) in (place, same, λ memory. no_memory at offset why fault (same ∙ memory) e))
    (fault_told why)
