-- The links are begun without a Skeleton.
use Rattle.std.proofs.Common.{◌≡◌, ℕ, Bool, true, false, List, [], ◌∷◌, ◌++◌, map, refl, sym, ◌∙◌, ap, subst, inl, inr, None, if◌then◌else◌}
use Rattle.std.specs.Prelude.{nat_eq}
use Rattle.std.specs.List.{AllByRecursion, list_any}
use Rattle.std.proofs.lemmas.Bool.{cases_Bool}
use Rattle.ogg_page.specs.Page.{Page}
use Rattle.ogg_page.specs.Laws.PageBytes.{all_both}
use Rattle.ogg_page.specs.LogicalStream.{is_first, is_last}
use Rattle.link_chain.specs.Links.{has_stream}
use Rattle.link_chain.specs.ChainState.{ChainState, chain_state_of, last_link, is_open}
use Rattle.link_chain.specs.Taking.{fault_of_page, later_rules}
use Rattle.link_chain.specs.Laws.Rules.{NoneBroken}
use Rattle.link_chain.specs.Laws.PageRules.{later_kept}
use Rattle.link_chain.specs.Laws.LastLink.{known_stream}
use Rattle.ogg_command.specs.declared.command.Command.{Command}
use Rattle.ogg_command.specs.declared.command.Command.TheVariants.{End as EndOf}
use Rattle.ogg_command.specs.declared.command.Entry.{Entry}
use Rattle.import_commands.specs.Commands.{entry_of, put_of, end_of}
use Rattle.import_gather.specs.Kept.{KeptLink, has_kept, waits}
use Rattle.import_gather.specs.Giving.{Follows, IsPlain, TakesOn, begin_if, begins_now, begun_if, page_end}
use Rattle.import_gather.specs.Gathered.{Gathered, HasGathered}
use Rattle.import_gather.specs.Laws.{has_from}

plain_ends : (ends : List ℕ) → AllByRecursion IsPlain (map (λ serial. EndOf serial) ends)
plain_ends [] = tt
plain_ends (serial ∷ ends) = (tt, plain_ends ends)

pub plain_begin : (begins : Bool) (link : KeptLink) → AllByRecursion IsPlain (begin_if begins link)
plain_begin false link = tt
plain_begin true link = (refl, plain_ends link.ends)

plain_put : (entries : List Entry) → AllByRecursion IsPlain (put_of entries)
plain_put [] = tt
plain_put (entry ∷ entries) = (tt, tt)

plain_if : (b : Bool) (commands : List Command) → AllByRecursion IsPlain commands → AllByRecursion IsPlain (if b then commands else [])
plain_if true commands all = all
plain_if false commands all = tt

plain_page_end : (page : Page) (link : KeptLink) → AllByRecursion IsPlain (page_end page link)
plain_page_end page link = plain_if link.begun (end_of page) (plain_if (is_last page) (EndOf page.serial ∷ []) (tt, tt))

plain_follows : (page : Page) (old new : KeptLink) (more : List Command) → Follows page old new more → AllByRecursion IsPlain more
plain_follows page old new more f =
    let link : KeptLink = record old { streams = f.streams } in
    let begins : Bool = begins_now link f.later in
    subst (AllByRecursion IsPlain) (sym f.passed.commands)
    (all_both IsPlain (begin_if begins link) (put_of (map (entry_of page) f.later) ++ page_end page (begun_if begins link)) (plain_begin begins link)
    (all_both IsPlain (put_of (map (entry_of page) f.later)) (page_end page (begun_if begins link)) (plain_put (map (entry_of page) f.later))
    (plain_page_end page (begun_if begins link))))

pub plain_page : (links : List (List Page)) (g : Gathered) (given : List Command) (page : Page) (new : KeptLink) (more : List Command) →
    fault_of_page g.chain page ≡ None → HasGathered links g given → TakesOn page (is_open g.chain) g.link new more → AllByRecursion IsPlain more
plain_page links g given page new more fits h t =
    elim (cases_Bool (is_first page)) [
      | inl first ↦
          elim (cases_Bool (is_open g.chain)) [
            | inl open' ↦ subst (AllByRecursion IsPlain) (sym (t.joins first open').1) tt
            | inr closed ↦ subst (AllByRecursion IsPlain) (sym (t.opens first closed).1) (plain_begin (waits g.link) g.link)
          ]
      | inr later ↦ plain_follows page g.link new more (t.follows later (has later))
    ]
  where
    has : is_first page ≡ false → has_kept page.serial g.link.streams ≡ true
    has later =
        let fits' : fault_of_page (chain_state_of links) page ≡ None = ap (λ (s : ChainState). fault_of_page s page) (sym h.chain) ∙ fits in
        let kept : NoneBroken (later_rules (chain_state_of links) page) = later_kept (chain_state_of links) page later fits' in
        let known : has_stream (last_link links) page.serial ≡ true = (known_stream links page.serial kept.1.0).0 in
        has_from page.serial g.link.streams (ap (list_any (nat_eq page.serial)) h.so_far.order ∙ known)
