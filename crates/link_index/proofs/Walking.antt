-- Pages that are added one by one while bytes are walked through.
use Rattle.std.proofs.Common.{◌≡◌, ◌≢◌, ℕ, List, [], ◌∷◌, ◌++◌, refl, sym, ◌∙◌, ap, subst, append_assoc, Option, Some, None, Result, Err, IsOk}
use Rattle.std.proofs.Common.{cond}
use Rattle.std.specs.Prelude.{⊤, Bool, true, false}
use Rattle.std.proofs.lemmas.Bool.{cond_both}
use Rattle.std.specs.List.{AllByRecursion}
use Rattle.std.proofs.lemmas.List.{append-nil}
use Rattle.ogg_page.specs.Page.{Page, IsPage, page_bytes, bytes_of_pages}
use Rattle.ogg_page.specs.PageLaws.{pages_both, bytes_both}
use Rattle.ogg_page.specs.LogicalStream.{is_first}
use Rattle.link_chain.specs.ChainState.{ChainState, is_open}
use Rattle.link_chain.specs.Laws.Walked.{taken_more}
use Rattle.link_chain.specs.Rules.{Rule, first_broken}
use Rattle.link_chain.specs.Taking.{AreTaken, links_with, fault_of_page, rules_for_page, opening_rules, joining_rules, later_rules}
use Rattle.link_chain.specs.declared.chain_fault.ChainFault.TheVariants.{Sequence, Continued, BosPlace, BosShape, SerialTwice, NoStream, AfterEos, BosWhileOpen, TooMany, EosUnfinished, Memory as NoMemory}
use Rattle.link_chain.specs.declared.chain_fault.ChainFault.{ChainFault}
use Rattle.link_index.specs.declared.fault.IndexFault.{IndexFault}
use Rattle.link_index.specs.declared.fault.IndexFault.TheVariants.{Chain as ChainOf}
use Rattle.link_index.specs.Adding.{IndexState, IsIndexOf, IsLeft, AddsPages, fault_at}

-- the bytes begin with these pages, which were added in turn, and then the rest is left
pub record AddsSome (links : List (List Page)) (bytes : List ℕ) (index : IndexState) (rest : List ℕ) : Type 0 where
  pub pages : List Page
  pub after : List (List Page)
  pub are_pages : AllByRecursion IsPage pages
  pub spelled : bytes ≡ bytes_of_pages pages ++ rest
  pub taken : AreTaken links pages after
  pub is_index : IsIndexOf after index

pub adds_more : (links : List (List Page)) (bytes rest more : List ℕ) (index next : IndexState) (page : Page) → AddsSome links bytes index rest
    → IsPage page → rest ≡ page_bytes page ++ more → fault_of_page index.chain.chain page ≡ None
    → ((after : List (List Page)) → IsIndexOf after index → IsIndexOf (links_with after page) next) → AddsSome links bytes next more
adds_more links bytes rest more index next page so_far is split none moves = record {
  pages = so_far.pages ++ page ∷ [];
  after = links_with so_far.after page;
  are_pages = pages_both so_far.pages (page ∷ []) so_far.are_pages (is, tt);
  spelled = so_far.spelled ∙ ap (λ (l : List ℕ). bytes_of_pages so_far.pages ++ l) split
      ∙ sym (append_assoc (bytes_of_pages so_far.pages) (page_bytes page) more)
      ∙ ap (λ (l : List ℕ). (bytes_of_pages so_far.pages ++ l) ++ more) (sym (append-nil (page_bytes page)))
      ∙ ap (λ (l : List ℕ). l ++ more) (sym (bytes_both so_far.pages (page ∷ [])));
  taken = taken_more links so_far.pages page so_far.after so_far.taken (ap (λ (c : ChainState). fault_of_page c page) (sym so_far.is_index.chain_is) ∙ none);
  is_index = moves so_far.after so_far.is_index;
}

pub stops : (links : List (List Page)) (bytes rest : List ℕ) (index : IndexState) (result : Result ⊤ IndexFault) → (so_far : AddsSome links bytes index rest)
    → IsLeft index.chain.chain rest result → AddsPages links bytes index result
stops links bytes rest index result so_far left = record {
  pages = so_far.pages;
  rest = rest;
  after = so_far.after;
  are_pages = so_far.are_pages;
  spelled = so_far.spelled;
  taken = so_far.taken;
  is_index = so_far.is_index;
  left = subst (λ (c : ChainState). IsLeft c rest result) so_far.is_index.chain_is left;
}

-- the index is as it was, except for its room
pub same_index : (links : List (List Page)) (bytes rest : List ℕ) (index next : IndexState) → (next.chain.chain ≡ index.chain.chain) × (next.entries ≡ index.entries)
    → AddsSome links bytes index rest → AddsSome links bytes next rest
same_index links bytes rest index next same so_far = record {
  pages = so_far.pages;
  after = so_far.after;
  are_pages = so_far.are_pages;
  spelled = so_far.spelled;
  taken = so_far.taken;
  is_index = record { chain_is = same.0 ∙ so_far.is_index.chain_is; entries_are = same.1 ∙ so_far.is_index.entries_are };
}

-- ---- why a page isn't added
-- no rule says that memory was refused
abbrev Says : List (Rule ChainFault) → Type 0
Says rules = AllByRecursion (λ rule. rule.1 ≢ NoMemory) rules

never_said : (rules : List (Rule ChainFault)) → Says rules → first_broken rules ≢ Some NoMemory
never_said [] says e = cc
never_said (rule ∷ rules) says e = one rule.0 rule.1 (first_broken rules) says.0 (never_said rules says.1) e
  where
    one : (b : Bool) (f : ChainFault) (later : Option ChainFault) → f ≢ NoMemory → later ≢ Some NoMemory → cond b (Some f) later ≢ Some NoMemory
    one true f later ne h e = ne (inside f e)
      where
        inside : (f : ChainFault) → Some f ≡ Some NoMemory → f ≡ NoMemory
        inside f e = cc
    one false f later ne h e = h e

said : (chain : ChainState) (page : Page) → Says (rules_for_page chain page)
said chain page =
    cond_both (is_first page) (cond (is_open chain) (joining_rules chain page) (opening_rules chain page)) (later_rules chain page) Says
    (λ _. cond_both (is_open chain) (joining_rules chain page) (opening_rules chain page) Says
    (λ _. (λ e. cc, (λ e. cc, (λ e. cc, (λ e. cc, tt)))))
    (λ _. (λ e. cc, (λ e. cc, tt))))
    (λ _. (λ e. cc, (λ e. cc, (λ e. cc, (λ e. cc, (λ e. cc, (λ e. cc, tt)))))))

no_memory : (chain : ChainState) (page : Page) → fault_of_page chain page ≢ Some NoMemory
unfolding fault_of_page
no_memory chain page e = never_said (rules_for_page chain page) (said chain page) e

-- the fault of an index tells that of the chain, unless memory was refused
told : (offset : ℕ) (fault : ChainFault) → fault ≢ NoMemory → fault_at offset fault ≡ ChainOf offset fault
told offset Sequence ne = refl
told offset Continued ne = refl
told offset BosPlace ne = refl
told offset BosShape ne = refl
told offset SerialTwice ne = refl
told offset NoStream ne = refl
told offset AfterEos ne = refl
told offset BosWhileOpen ne = refl
told offset TooMany ne = refl
told offset EosUnfinished ne = refl
told offset NoMemory ne = absurd (ne refl)

-- why nothing more is added of what is left
pub left_at : (chain : ChainState) (rest more : List ℕ) (page : Page) (offset : ℕ) → offset ≡ chain.length_of → IsPage page → rest ≡ page_bytes page ++ more
    → (result : Result ⊤ ChainFault) (fault : ChainFault) → result ≡ Err fault → ((f : ChainFault) → fault_of_page chain page ≡ Some f → result ≡ Err f)
    → (fault_of_page chain page ≡ None → result ≡ Err NoMemory) → (is_first page ≡ false → fault_of_page chain page ≡ None → IsOk result)
    → IsLeft chain rest (Err (fault_at offset fault))
left_at chain rest more page offset at is split result fault was broken memory later = by (fault_of_page chain page) refl
  where
    same : (f g : ChainFault) → result ≡ Err f → result ≡ Err g → f ≡ g
    same f g a b = cc

    first : (b : Bool) → (b ≡ false → IsOk result) → b ≡ true
    first true h = refl
    first false h = let taken : false ≡ true = subst (λ (r : Result ⊤ ChainFault). IsOk r) was (h refl) in absurd (cc taken)

    some : (f g : ChainFault) → fault_of_page chain page ≡ Some f → f ≡ g → fault_of_page chain page ≡ Some g
    some f g e s = e ∙ ap Some s

    by : (o : Option ChainFault) → fault_of_page chain page ≡ o → IsLeft chain rest (Err (fault_at offset fault))
    by None e = subst (λ (f : ChainFault). IsLeft chain rest (Err (fault_at offset f))) (same NoMemory fault (memory e) was)
        (page, more, is, split, e, first (is_first page) (λ b. later b e))
    by (Some f) e =
        let there : fault_of_page chain page ≡ Some fault = some f fault e (same f fault (broken f e) was) in
        subst (λ (f : IndexFault). IsLeft chain rest (Err f)) (sym (told offset fault (λ is. no_memory chain page (there ∙ ap Some is)))) (at, page, more, is, split, there)
