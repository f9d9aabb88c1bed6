use Rattle.std.proofs.Common.{◌≡◌, ⊎_elim, ℕ, List, [], take, sym, ◌∙◌, ap, subst, rules}
use Rattle.fault_lines.specs.declared.fault.Fault.{Fault}
use Rattle.fault_lines.specs.declared.fault.Fault.TheVariants.{Index}
use Rattle.gate_file.specs.Gate.{EndsAt}
use Rattle.link_chain.specs.Links.{AreLinks}
use Rattle.link_index.specs.Adding.{IsIndexOf}
use Rattle.link_index.specs.declared.fault.IndexFault.{IndexFault}
use Rattle.ogg_page.specs.Page.{bytes_of_pages}
use Rattle.file_actions.specs.Indexed.{IsBrokenAt}
use Rattle.file_actions.proofs.Walked.{have_walked, told_chain}
use Rattle.file_actions.proofs.indexing.find_index.Goals as goal

same_index : (a b : IndexFault) → ◌≡◌ {A = Fault} (Index a) (Index b) → a ≡ b
same_index a b e = cc

pub returns-in-None-clause-indexed : goal.returns-in-None-clause-indexed
returns-in-None-clause-indexed g c = λ honest.
    let seen = c.in-Ok-find_with.ensures.seen honest in
    let (reference, walked) = have_walked (λ t. t.taken) (λ t. t.broken) c.of-taker.result c.find_with.new.visitor seen.pages seen.are_pages
    (subst (IsIndexOf []) (sym (ap (λ t. t.now) c.of-taker.ensures.taken)) c.new-index.ensures) c.of-taker.ensures.broken seen.shown in
    let indexed = walked.taken (sym c.broken.ensures ∙ c.in-None.is) in
    record {
      links = indexed.links;
      are_links = subst (λ (l : List ℕ). AreLinks l indexed.links) (sym seen.joined) indexed.are_links;
      is_index = let is_index = indexed.is_index in search rules;
    }

pub returns-in-Some-clause-broken : goal.returns-in-Some-clause-broken
returns-in-Some-clause-broken g c = λ offset fault told honest.
    let found = c.in-Ok-find_with.found.0 in
    let here = c.in-Ok-find_with.ensures.opens.frame.honest.0 honest in
    let same = c.in-Ok-find_with.ensures.same honest in
    let seen = c.in-Ok-find_with.ensures.seen honest in
    let (reference, walked) = have_walked (λ t. t.taken) (λ t. t.broken) c.of-taker.result c.find_with.new.visitor seen.pages seen.are_pages
    (subst (IsIndexOf []) (sym (ap (λ t. t.now) c.of-taker.ensures.taken)) c.new-index.ensures) c.of-taker.ensures.broken seen.shown in
    let bytes : List ℕ = bytes_of_pages seen.pages in
    let (place, why, not_memory) = told_chain c.in-Some.offset offset c.in-Some.fault fault (sym c.fault_at.ensures ∙ same_index c.fault_at.result _ told) in
    ⊎_elim
    (λ broken.
    let at : IsBrokenAt (take found.end (g.D.Disk.state found.disk).contents) offset fault =
    subst (λ (l : List ℕ). IsBrokenAt l offset fault) (sym seen.joined)
    (subst (IsBrokenAt bytes offset) why (subst (λ n. IsBrokenAt bytes n c.in-Some.fault) place broken)) in (
      found.end,
      subst (λ (l : List ℕ). EndsAt l found.end) same (c.end-end.ensures.ends here).ends,
      subst (λ (l : List ℕ). IsBrokenAt (take found.end l) offset fault) same at,
    ))
    (λ memory. absurd (not_memory (sym why ∙ memory)))
    (walked.stopped c.in-Some.offset c.in-Some.fault (sym c.broken.ensures ∙ c.in-Some.is))
