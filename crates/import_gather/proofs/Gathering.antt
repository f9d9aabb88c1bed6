-- The promise, from page to page.
use Rattle.std.proofs.Common.{◌≡◌, ◌≢◌, ℕ, Bool, true, false, List, [], ◌∷◌, ◌++◌, refl, sym, ◌∙◌, ap, subst, arith, append-nil, inl, inr, None}
use Rattle.std.specs.Prelude.{nat_eq, not, ◌||◌}
use Rattle.std.specs.List.{list_any}
use Rattle.std.proofs.lemmas.Bool.{cases_Bool, false≢true, not-false}
use Rattle.std.proofs.lemmas.List.Folds.{list_any-append}
use Rattle.ogg_page.specs.Page.{Page, IsPage, page_bytes}
use Rattle.ogg_page.specs.LogicalStream.{is_first}
use Rattle.link_chain.specs.Links.{AreLinks, with_pages, has_stream}
use Rattle.link_chain.specs.ChainState.{ChainState, chain_state_of, last_link, is_open}
use Rattle.link_chain.specs.Taking.{fault_of_page, links_with, later_rules, joining_rules, opening_rules, is_whole_packet}
use Rattle.link_chain.specs.LinkLaws.{one_recording}
use Rattle.link_chain.specs.Laws.Rules.{NoneBroken}
use Rattle.link_chain.specs.Laws.PageRules.{later_kept, joining_kept, opening_kept}
use Rattle.link_chain.specs.Laws.PageState.{begins_here, goes_on_open, goes_on_later, not_zero, absent, no_pages}
use Rattle.link_chain.specs.Laws.LastLink.{known_stream, last_is_link, open_some}
use Rattle.link_chain.specs.Laws.StateBehind.{last_with, data_with, last_is}
use Rattle.link_chain.specs.Laws.TakenLinks.{page_is_taken}
use Rattle.chain_rules.specs.Recording.{Recording, HoldsLinks, after}
use Rattle.ogg_command.specs.declared.command.Command.{Command}
use Rattle.import_gather.specs.Kept.{KeptLink, has_kept, no_link, waits}
use Rattle.import_gather.specs.Giving.{Follows, TakesOn, begun_if, begin_if, with_first}
use Rattle.import_gather.specs.Gathered.{Gathered, HoldsSoFar, HasGathered, CanGoOn, before_last}
use Rattle.import_gather.specs.Laws.{has_from}
use Rattle.import_gather.proofs.Others.{absent_all}
use Rattle.import_gather.proofs.Steps.{before_with, before_new}
use Rattle.import_gather.proofs.Onward.{state, holds_alike, as_state, follows_on, joins_on, no_pages_yet, gives_on}
use Rattle.import_gather.proofs.Whole.{closed_where_ended, closed_where_held, whole_held}

module _ (links : List (List Page)) (g : Gathered) (given : List Command) (page : Page) (new : KeptLink) (chain' : ChainState) (more : List Command)
    (is : IsPage page) (fits : fault_of_page g.chain page ≡ None) (h : HasGathered links g given) (c : chain' ≡ chain_state_of (links_with links page)) where
  abbrev Next : Type 0
  Next = HasGathered (links_with links page) (state chain' new) (given ++ more) × CanGoOn (state chain' new)

  so_far : HoldsSoFar (before_last links) (last_link links) (state g.chain g.link) given
  so_far = as_state (before_last links) (last_link links) g given h.so_far

  fits' : fault_of_page (chain_state_of links) page ≡ None
  fits' = ap (λ (s : ChainState). fault_of_page s page) (sym h.chain) ∙ fits

  taken : (front : List (List Page)) (pages : List Page) → before_last (links_with links page) ≡ front → last_link (links_with links page) ≡ pages →
      HoldsSoFar front pages (state chain' new) (given ++ more) → HasGathered (links_with links page) (state chain' new) (given ++ more)
  taken front pages before last part = record {
    bytes = h.bytes ++ page_bytes page;
    are = page_is_taken h.bytes links page is h.are fits';
    chain = c;
    so_far = subst (λ (f : List (List Page)). HoldsSoFar f (last_link (links_with links page)) (state chain' new) (given ++ more)) (sym before)
        (subst (λ (l : List Page). HoldsSoFar front l (state chain' new) (given ++ more)) (sym last) part);
  }

  data_is : (pages : List Page) → last_link (links_with links page) ≡ pages → chain'.has_data ≡ list_any (λ (p : Page). not (is_first p)) pages
  data_is pages last = ap (λ (s : ChainState). s.has_data) c ∙ ap (list_any (λ (p : Page). not (is_first p))) last

  -- a page that isn't its stream's first
  pub take_later : is_first page ≡ false → (has_kept page.serial g.link.streams ≡ true → Follows page g.link new more) → Next
  take_later later f =
      let kept : NoneBroken (later_rules (chain_state_of links) page) = later_kept (chain_state_of links) page later fits' in
      let some : links ≢ [] = not_zero links kept.0 in
      let known : has_stream (last_link links) page.serial ≡ true = (known_stream links page.serial kept.1.0).0 in
      let has : has_kept page.serial g.link.streams ≡ true = has_from page.serial g.link.streams (ap (list_any (nat_eq page.serial)) h.so_far.order ∙ known) in
      let same : links_with links page ≡ with_pages links (page ∷ []) = goes_on_later links page later in
      let last : last_link (links_with links page) ≡ last_link links ++ page ∷ [] = ap last_link same ∙ last_with links (page ∷ []) some in
      let before : before_last (links_with links page) ≡ before_last links = ap before_last same ∙ before_with links (page ∷ []) in (
        taken (before_last links) (last_link links ++ page ∷ []) before last
            (follows_on (before_last links) (last_link links) page g.link new given more g.chain chain' later (last_is_link links h.are.each some).distinct so_far (f has)),
        λ _. data_is (last_link links ++ page ∷ []) last ∙ data_with (last_link links) (page ∷ []) (omega arith) (later, tt),
      )

  -- the first page of one more stream
  pub take_joining : is_first page ≡ true → is_open g.chain ≡ true → CanGoOn g → (new ≡ with_first page g.link) × (more ≡ []) → Next
  take_joining first open' goes_on made =
      let opened : is_open (chain_state_of links) ≡ true = ap is_open (sym h.chain) ∙ open' in
      let kept : NoneBroken (joining_rules (chain_state_of links) page) = joining_kept (chain_state_of links) page first opened fits' in
      let bare_is : list_any (λ (p : Page). not (is_first p)) (last_link links) ≡ false = kept.0 in
      let fresh : has_stream (last_link links) page.serial ≡ false = absent links page.serial kept.1.0 in
      let begun : g.link.begun ≡ false = not_so g.link.begun (λ b. false≢true (sym (ap (λ (s : ChainState). s.has_data) h.chain ∙ bare_is) ∙ goes_on b)) in
      let same : links_with links page ≡ with_pages links (page ∷ []) = goes_on_open links page opened in
      let last : last_link (links_with links page) ≡ last_link links ++ page ∷ [] = ap last_link same ∙ last_with links (page ∷ []) (open_some links opened) in
      let before : before_last (links_with links page) ≡ before_last links = ap before_last same ∙ before_with links (page ∷ []) in
      let no_data : chain'.has_data ≡ false =
      data_is (last_link links ++ page ∷ []) last ∙ list_any-append (λ (p : Page). not (is_first p)) (last_link links) (page ∷ [])
      ∙ ap (λ b. b || (not (is_first page) || false)) bare_is ∙ ap (λ b. not b || false) first in (
        taken (before_last links) (last_link links ++ page ∷ []) before last
            (subst (λ (l : KeptLink). HoldsSoFar (before_last links) (last_link links ++ page ∷ []) (state chain' l) (given ++ more)) (sym made.0)
            (subst (λ (m : List Command). HoldsSoFar (before_last links) (last_link links ++ page ∷ []) (state chain' (with_first page g.link)) (given ++ m)) (sym made.1)
            (joins_on (before_last links) (last_link links) page g.link given g.chain chain' is first (not-false (is_whole_packet page) kept.1.1.0)
            (no_pages (last_link links) page.serial bare_is fresh)
            (absent_all page.serial g.link.streams (ap (list_any (nat_eq page.serial)) h.so_far.order ∙ fresh))
            begun no_data so_far))),
        λ b. absurd (false≢true (sym begun ∙ sym (ap (λ (l : KeptLink). l.begun) made.0) ∙ b)),
      )
    where
      not_so : (b : Bool) → (b ≡ true → ⊥) → b ≡ false
      not_so true f = absurd (f refl)
      not_so false f = refl

  -- the first page of a link
  pub take_opening : is_first page ≡ true → is_open g.chain ≡ false → (new ≡ with_first page no_link) × (more ≡ begin_if (waits g.link) g.link) → Next
  take_opening first closed made =
      let shut : is_open (chain_state_of links) ≡ false = ap is_open (sym h.chain) ∙ closed in
      let kept : NoneBroken (opening_rules (chain_state_of links) page) = opening_kept (chain_state_of links) page first shut fits' in
      let same : links_with links page ≡ links ++ (page ∷ []) ∷ [] = begins_here links page first shut in
      let last : last_link (links_with links page) ≡ page ∷ [] = ap last_link same ∙ last_is links (page ∷ []) in
      let before : before_last (links_with links page) ≡ links = ap before_last same ∙ before_new links (page ∷ []) in
      let no_data : chain'.has_data ≡ false = data_is (page ∷ []) last ∙ ap (λ b. not b || false) first in
      let commands : List Command = given ++ begin_if (waits g.link) g.link in
      let whole : HoldsLinks links (after [] commands) =
      whole_held h.bytes links (begun_if (waits g.link) g.link) g.chain commands h.are (gives_on (before_last links) (last_link links) g.link given g.chain so_far)
      (none_waits g.link) (closed_where_ended h.bytes links h.are shut) in
      let part : HoldsSoFar links (page ∷ []) (state chain' (with_first page no_link)) (commands ++ []) =
      joins_on links [] page no_link commands chain' chain' is first (not-false (is_whole_packet page) kept.0) refl tt refl no_data
      (no_pages_yet links (after [] commands) commands chain' no_data whole refl) in (
        taken links (page ∷ []) before last
            (subst (λ (l : KeptLink). HoldsSoFar links (page ∷ []) (state chain' l) (given ++ more)) (sym made.0)
            (subst (λ (m : List Command). HoldsSoFar links (page ∷ []) (state chain' (with_first page no_link)) m) (append-nil commands ∙ ap (λ m. given ++ m) (sym made.1)) part)),
        λ b. absurd (false≢true (sym (ap (λ (l : KeptLink). l.begun) made.0) ∙ b)),
      )
    where
      none_waits : (link : KeptLink) → waits (begun_if (waits link) link) ≡ false
      none_waits link =
          elim (cases_Bool (waits link)) [
            | inl now ↦ ap (λ b. waits (begun_if b link)) now
            | inr wait ↦ ap (λ b. waits (begun_if b link)) wait ∙ wait
          ]

-- any page
pub takes : (links : List (List Page)) (g : Gathered) (given : List Command) (page : Page) (new : KeptLink) (chain' : ChainState) (more : List Command) → IsPage page →
    fault_of_page g.chain page ≡ None → HasGathered links g given → CanGoOn g → TakesOn page (is_open g.chain) g.link new more → chain' ≡ chain_state_of (links_with links page) →
    HasGathered (links_with links page) (state chain' new) (given ++ more) × CanGoOn (state chain' new)
takes links g given page new chain' more is fits h goes_on t c =
    elim (cases_Bool (is_first page)) [
      | inl first ↦
          elim (cases_Bool (is_open g.chain)) [
            | inl open' ↦ take_joining links g given page new chain' more is fits h c first open' goes_on (t.joins first open')
            | inr closed ↦ take_opening links g given page new chain' more is fits h c first closed (t.opens first closed)
          ]
      | inr later ↦ take_later links g given page new chain' more is fits h c later (t.follows later)
    ]

-- What is gathered doesn't depend on whether a growth was refused.
pub gathered_alike : (links : List (List Page)) (g new : Gathered) (given : List Command) → new.chain ≡ g.chain → new.link ≡ g.link → HasGathered links g given →
    HasGathered links new given
gathered_alike links g new given c l h = record {
  bytes = h.bytes;
  are = h.are;
  chain = c ∙ h.chain;
  so_far = holds_alike (before_last links) (last_link links) g new given c l h.so_far;
}

-- before any page
pub nothing_taken : (g : Gathered) → g.chain ≡ chain_state_of [] → g.link ≡ no_link → HasGathered [] g []
nothing_taken g c e = record {
  bytes = [];
  are = record { spelled = refl; pages = tt; few = omega arith; each = tt; ended = tt };
  chain = c;
  so_far = holds_alike [] [] (state g.chain no_link) g [] refl e (no_pages_yet [] [] [] g.chain (ap (λ (s : ChainState). s.has_data) c) tt refl);
}

-- the end of the input
pub ends : (links : List (List Page)) (g : Gathered) (given : List Command) → HasGathered links g given →
    HasGathered links (state g.chain (begun_if (waits g.link) g.link)) (given ++ begin_if (waits g.link) g.link)
ends links g given h = record {
  bytes = h.bytes;
  are = h.are;
  chain = h.chain;
  so_far = gives_on (before_last links) (last_link links) g.link given g.chain (as_state (before_last links) (last_link links) g given h.so_far);
}

pub no_more_waits : (link : KeptLink) → waits (begun_if (waits link) link) ≡ false
no_more_waits link =
    elim (cases_Bool (waits link)) [
      | inl now ↦ ap (λ b. waits (begun_if b link)) now
      | inr wait ↦ ap (λ b. waits (begun_if b link)) wait ∙ wait
    ]

-- all commands are given
pub all_given : (bytes : List ℕ) (links : List (List Page)) (g : Gathered) (given : List Command) (recording : Recording) → AreLinks bytes links → HasGathered links g given →
    waits g.link ≡ false → HoldsLinks links recording → after [] given ≡ recording
all_given bytes links g given recording are h w holds =
    one_recording links (after [] given) recording (whole_held h.bytes links g.link g.chain given h.are (as_state (before_last links) (last_link links) g given h.so_far) w (closed_where_held links recording holds)) holds
