-- An index that goes on: what a walk over a window's pages makes of it.
use Rattle.std.proofs.Common.{◌≡◌, inl, inr, ⊎_elim, ℕ, ◌-◌, ◌≤◌, ◌<◌, ◌^◌, ◌+◌, Result, Ok, Err, Option, Some, None, List, [], ◌++◌, length, take, drop, refl, sym, ◌∙◌, ap, subst, arith, append_assoc, length-drop, length-append, take_all}
use Rattle.std.specs.Prelude.{⊤, OnOk}
use Rattle.std.specs.Borrow.{MutBor}
use Rattle.std.proofs.lemmas.List.{append-nil, drop_at}
use Rattle.ogg_page.specs.Page.{Page, page_size, bytes_of_pages}
use Rattle.ogg_page.specs.Visiting.{HasWalked, IsLast}
use Rattle.ogg_page.specs.Window.{LentAt, WindowState, NextLent, left_of, window}
use Rattle.ogg_page.specs.declared.fault.PageFault.{PageFault}
use Rattle.ogg_page.specs.declared.fault.WindowFault.{WindowFault}
use Rattle.ogg_page.specs.declared.fault.WindowFault.TheVariants.{Source as SourceOf, Page as PageAt}
use Rattle.ogg_page.specs.declared.visiting.Visit.{Visit}
use Rattle.ogg_page.specs.declared.visiting.Visit.TheVariants.{GoesOn, Ends}
use Rattle.link_chain.specs.ChainState.{ChainState}
use Rattle.link_chain.specs.Links.{AreLinks}
use Rattle.link_chain.specs.declared.chain_fault.ChainFault.{ChainFault}
use Rattle.link_chain.specs.declared.chain_fault.ChainFault.TheVariants.{Memory as NoRoomFor}
use Rattle.link_chain.specs.Taker.{HandsPage, IsLeft as IsLeftOut}
use Rattle.link_chain.specs.TakerLaws.{AreAllTaken, AreHanded, are_handed}
use Rattle.link_index.specs.Adding.{AddsPages, IndexState, IsIndexOf, IsLeft}
use Rattle.link_index.specs.Indexing.{indexing}
use Rattle.link_index.specs.IndexingLaws.{adds_on, same_added}
use Rattle.link_index.specs.declared.fault.IndexFault.{IndexFault}
use Rattle.link_index.specs.declared.fault.IndexFault.TheVariants.{Page as PageOf, Chain as ChainOf, Memory as NoRoom}
use Rattle.serve_sessions.specs.Indexing.{IsOfFront, LacksRoom, fault_unadded, result_of}
use Rattle.serve_machine.specs.declared.fault.HubFault.{HubFault}
use Rattle.serve_machine.specs.declared.fault.HubFault.TheVariants.{Source, Memory}

-- what was added to the index is its pages
pages_are : (front : List ℕ) (index : IndexState) (a : AddsPages [] front index (Ok tt)) → front ≡ bytes_of_pages a.pages
pages_are front index a = a.spelled ∙ ap (λ (l : List ℕ). bytes_of_pages a.pages ++ l) a.left ∙ append-nil (bytes_of_pages a.pages)

-- ---- faults
no_page : (offset : ℕ) (fault : PageFault) → ◌≡◌ {A = IndexFault} (PageOf offset fault) NoRoom → ⊥
no_page offset fault e = cc

no_chain : (offset : ℕ) (fault : ChainFault) → ◌≡◌ {A = IndexFault} (ChainOf offset fault) NoRoom → ⊥
no_chain offset fault e = cc

follows_not : (fault : ChainFault) → Some fault ≡ None → ⊥
follows_not fault e = cc

-- a page that wasn't added leaves the index as it was, except for its room
stays : (old new : IndexState) (page : Page) (fault : ChainFault) → IsLeftOut indexing old page fault new → (new.chain.chain ≡ old.chain.chain) × (new.entries ≡ old.entries)
stays old new page fault (inl (short, refused)) = (refused.chain, refused.entries)
stays old new page fault (inr (long, memory, same)) = (ap (λ (i : IndexState). i.chain.chain) same, ap (λ (i : IndexState). i.entries) same)

-- want of memory is no fault of the source
no_source : (kept : Option (ℕ × ChainFault)) (offset : ℕ) (fault : ChainFault) → kept ≡ Some (offset, fault) → fault ≡ NoRoomFor
    → ◌≡◌ {A = Result (Unit {0}) HubFault} (Err (fault_unadded kept)) (Err Source) → ⊥
no_source kept offset fault is memory e =
    let told : ◌≡◌ {A = Result (Unit {0}) HubFault} (Err Memory) (Err Source) =
    sym (ap (λ (k : Option (ℕ × ChainFault)). let r : Result ⊤ HubFault = Err (fault_unadded k) in r) (is ∙ ap (λ (f : ChainFault). Some (offset, f)) memory)) ∙ e in
    cc

-- the laws of the index: bytes that were added as a whole are links, and links are added, unless memory is refused
abbrev Added : Type 0
Added = (bytes : List ℕ) (index : IndexState) → AddsPages [] bytes index (Ok tt)
    → (links : List (List Page)) × AreLinks bytes links × IsIndexOf links index × (index.chain.chain.length_of ≡ length bytes)

abbrev Each : Type 0
Each = (bytes : List ℕ) (links : List (List Page)) (index : IndexState) (fault : IndexFault) → AreLinks bytes links → AddsPages [] bytes index (Err fault) → fault ≡ NoRoom

module _ (law : Added) (bytes : List ℕ) (index : IndexState) (f : IsOfFront bytes index)
  where
    -- the index ends at the end of the front
    ends : index.chain.chain.length_of ≡ length f.front
    ends = (law f.front index f.added).3

    pub ends_inside : index.chain.chain.length_of ≤ length bytes
    ends_inside = let n = ap length f.split ∙ length-append f.front f.rest in omega (arith, n, ends)

    -- what a window has from there on
    in_window : (at to : ℕ) → at ≡ index.chain.chain.length_of → to ≡ length bytes → take (to - at) (drop at bytes) ≡ f.rest
    in_window at to here end =
        take_all (to - at) (drop at bytes) (let n = length-drop at bytes in omega (arith, n, end))
        ∙ ap (drop at) f.split ∙ drop_at f.front f.rest at (sym ends ∙ sym here)

    -- nothing is left
    is_whole : f.rest ≡ [] → (links : List (List Page)) × AreLinks bytes links × IsIndexOf links index
    is_whole none =
        let same : f.front ≡ bytes = sym (append-nil f.front) ∙ ap (λ (l : List ℕ). f.front ++ l) (sym none) ∙ sym f.split in
        let (links, are, is, long) = law f.front index f.added in
        (links, subst (λ (l : List ℕ). AreLinks l links) same are, is)

-- what is left of links isn't added only for want of memory
only_memory : (bytes : List ℕ) (index : IndexState) (f : IsOfFront bytes index) → Each
    → (links : List (List Page)) → AreLinks bytes links → (fault : IndexFault) → IsLeft index.chain.chain f.rest (Err fault) → fault ≡ NoRoom
only_memory bytes index f each links are fault left =
    let a = f.added in
    each bytes links index fault are (record {
      pages = a.pages;
      rest = f.rest;
      after = a.after;
      are_pages = a.are_pages;
      spelled = f.split ∙ ap (λ (l : List ℕ). l ++ f.rest) (pages_are f.front index a);
      taken = a.taken;
      is_index = a.is_index;
      left = subst (λ (c : ChainState). IsLeft c f.rest (Err fault)) a.is_index.chain_is left;
    })

-- ---- a walk of the visitor that adds the pages to the index
-- from where the window was set
pub walked_from : {S V : Type 0} {bytes : S → List ℕ} {honest : S → Type 0} {size failures : S → ℕ} {only_reads : S → S → Type 0} {sees : V → LentAt → Visit → V → Type 0}
    {old new : WindowState S} {there source : S} {from to : ℕ} {before after : V} {result : Result Visit WindowFault} → HasWalked bytes honest size failures only_reads sees old before result new after
    → old ≡ window there from to → there ≡ source → HasWalked bytes honest size failures only_reads sees (window source from to) before result new after
walked_from {S} {V} {bytes} {honest} {size} {failures} {only_reads} {sees} {old} {new} {there} {source} {from} {to} {before} {after} {result} w set is =
    subst (λ (o : WindowState S). HasWalked bytes honest size failures only_reads sees o before result new after) (set ∙ ap (λ (s : S). window s from to) is) w

module _ {S V : Type 0} {bytes : S → List ℕ} {honest : S → Type 0} {size failures : S → ℕ} {only_reads : S → S → Type 0}
    {index : V → MutBor IndexState} {kept : V → Option (ℕ × ChainFault)} {source : S} {from to : ℕ} {new : WindowState S} {before after : V} {result : Result Visit WindowFault} {given : MutBor IndexState}
    (w : HasWalked bytes honest size failures only_reads (HandsPage indexing index kept) (window source from to) before result new after)
    (lent : index before ≡ given) (here : from ≡ given.now.chain.chain.length_of)
  where
    abbrev Last : Result Visit WindowFault → Type 0
    Last r = IsLast bytes honest size failures only_reads (HandsPage indexing index kept) w.now w.mid r new after

    abbrev found : IndexState
    found = (index w.mid).now

    handed : AreHanded indexing index kept before w.pages w.mid
    handed = are_handed indexing index kept before w.mid from w.pages w.seen

    place : w.now.at ≡ found.chain.chain.length_of
    place = omega (arith, w.passed.place, here, handed.all.grows, ap (λ (b : MutBor IndexState). b.now.chain.chain.length_of) lent)

    pub same_reference : (index after).ghost_name ≡ given.ghost_name
    same_reference = by result w.last ∙ handed.same ∙ ap (λ (b : MutBor IndexState). b.ghost_name) lent
      where
        by : (r : Result Visit WindowFault) → Last r → (index after).ghost_name ≡ (index w.mid).ghost_name
        by (Ok GoesOn) last = ap (λ (v : V). (index v).ghost_name) last.1
        by (Ok Ends) (at, moved, lent, one) = one.same
        by (Err fault) last = ap (λ (v : V). (index v).ghost_name) last.1

    -- `Memory` comes only from the index
    pub lacks_room : to < 2 ^ 63 → result_of result (kept after) ≡ Err Memory → (page : Page) × (before : IndexState) × LacksRoom page before (index after).now
    lacks_room short = by result w.last
      where
        left_out : (page : Page) (fault : ChainFault) → found.chain.chain.length_of + page_size page < 2 ^ 63 → IsLeftOut indexing found page fault (index after).now
            → LacksRoom page found (index after).now
        left_out page fault fits (inl (_, r)) = record {
          lacks = λ none room links streams. ⊎_elim (λ told. follows_not fault (sym told ∙ none)) (λ (memory, follows, lacks). lacks.room room links streams) r.why;
          chain = r.chain;
          entries = r.entries;
        }
        left_out page fault fits (inr (long, memory, same)) = absurd (long fits)

        by : (r : Result Visit WindowFault) → Last r → result_of r (kept after) ≡ Err Memory → (page : Page) × (before : IndexState) × LacksRoom page before (index after).now
        by (Ok GoesOn) last e = absurd (cc e)
        by (Err fault) last e = absurd (cc e)
        by (Ok Ends) (at, moved, lent, one) e =
            let passes = moved.passes at refl in
            let (fault, is, left) = one.handed in
            (at.1, found, left_out at.1 fault (omega (arith, passes.behind, passes.inside, moved.to, w.passed.to, short, place)) left)

    -- what is known if the source is honest, and the index is that of pages at the front
    pub record IsWorth (r : Result Visit WindowFault) : Type 0 where
      pub front : IsOfFront (bytes source) (index after).now
      pub whole : OnOk (result_of r (kept after)) ((links : List (List Page)) × AreLinks (bytes source) links × IsIndexOf links (index after).now)
      pub cause : result_of r (kept after) ≡ Err Source → (links : List (List Page)) → AreLinks (bytes source) links → r ≡ Err SourceOf

    module _ (sure : honest source) (f : IsOfFront (bytes source) given.now) (end : to ≡ length (bytes source)) (law : Added) (each : Each) where
      abbrev on : IsOfFront (bytes source) found
      on = record {
        front = f.front ++ bytes_of_pages w.pages;
        rest = (left_of bytes w.now).bytes;
        split = f.split ∙ ap (λ (l : List ℕ). f.front ++ l) (sym (in_window law (bytes source) given.now f from to here end) ∙ w.passed.joined sure refl)
            ∙ sym (append_assoc f.front (bytes_of_pages w.pages) (left_of bytes w.now).bytes);
        added = adds_on [] f.front w.pages given.now found f.added w.passed.are_pages (subst (λ (b : MutBor IndexState). AreAllTaken indexing b.now w.pages found) lent handed.all);
      }

      abbrev Next : Result (Option LentAt) WindowFault → Type 0
      Next r = NextLent (left_of bytes w.now) r (left_of bytes new)

      -- a page stands there, and it is added, unless the source fails or memory is refused
      stands : (links : List (List Page)) → AreLinks (bytes source) links → (fault : WindowFault) → Next (Err fault) → fault ≡ SourceOf
      stands links are SourceOf next = refl
      stands links are (PageAt offset fault) next = absurd (no_page offset fault (only_memory (bytes source) found on each links are (PageOf offset fault) (next.0 ∙ place, next.1, next.2)))

      adds : (links : List (List Page)) → AreLinks (bytes source) links → (at : LentAt) (fault : ChainFault) → Next (Ok (Some at)) → IsLeftOut indexing found at.1 fault (index after).now
          → kept after ≡ Some (at.0, fault) → ◌≡◌ {A = Result (Unit {0}) HubFault} (Err (fault_unadded (kept after))) (Err Source) → ⊥
      adds links are at fault next (inl (_, r)) is e =
          ⊎_elim
          (λ told. no_chain at.0 fault (only_memory (bytes source) found on each links are (ChainOf at.0 fault) (next.0 ∙ place, at.1, (left_of bytes new).bytes, next.1, next.2, told)))
          (λ (memory, follows, lacks). no_source (kept after) at.0 fault is memory e)
          r.why
      adds links are at fault next (inr (long, memory, same)) is e = no_source (kept after) at.0 fault is memory e

      pub is_worth : IsWorth result
      is_worth = by result w.last
        where
          by : (r : Result Visit WindowFault) → Last r → IsWorth r
          by (Ok GoesOn) last = record {
            front = subst (λ (v : V). IsOfFront (bytes source) (index v).now) (sym last.1) on;
            whole = subst (λ (v : V). (links : List (List Page)) × AreLinks (bytes source) links × IsIndexOf links (index v).now) (sym last.1)
                (is_whole law (bytes source) found on (last.0.lent (w.passed.source.honest_same.0 sure) (w.passed.fresh refl)).0);
            cause = λ e. absurd (cc e);
          }
          by (Ok Ends) (at, moved, lent, one) =
              let (fault, is, left) = one.handed in
              let same = stays found (index after).now at.1 fault left in
              record {
                front = record { front = on.front; rest = on.rest; split = on.split; added = same_added [] on.front found (index after).now on.added same.0 same.1 };
                whole = tt;
                cause = λ e links are. absurd (adds links are at fault (moved.lent (w.passed.source.honest_same.0 sure) (w.passed.fresh refl)) left is e);
              }
          by (Err fault) last = record {
            front = subst (λ (v : V). IsOfFront (bytes source) (index v).now) (sym last.1) on;
            whole = tt;
            cause = λ e links are. ap (λ (f : WindowFault). let r : Result Visit WindowFault = Err f in r)
                (stands links are fault (last.0.lent (w.passed.source.honest_same.0 sure) (w.passed.fresh refl)));
          }
