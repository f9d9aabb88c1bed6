-- What a walk leaves of what its visitor hands the pages to. These are laws, to be cited.
use Rattle.std.proofs.Common.{◌≡◌, ℕ, ◌+◌, Option, List, [], ◌∷◌, length, refl, ◌∙◌, ap, subst, sym, arith, length-append}
use Rattle.std.specs.Borrow.{MutBor}
use Rattle.ogg_page.specs.Page.{Page, page_bytes, page_size, bytes_of_pages}
use Rattle.ogg_page.specs.PageLaws.{length-page_bytes}
use Rattle.ogg_page.specs.Visiting.{AreSeen}
use Rattle.link_chain.specs.Taker.{HandsPage}
use Rattle.link_chain.specs.Taking.{AreTaken, IsTaken, links_with}
use Rattle.link_chain.specs.declared.chain_fault.ChainFault.{ChainFault}
use Rattle.link_chain.specs.declared.in_turn.TakesInTurn.{Ghosts as Takes}

-- The pages were taken, one after the other, and may follow in turn.
pub record AreAllTaken {T : Type 0} (takes : Takes T) (old : T) (pages : List Page) (new : T) : Type 0 where
  pub links : (links : List (List Page)) → takes.is_of links old → (after : List (List Page)) × AreTaken links pages after × takes.is_of after new
  pub grows : takes.size new ≡ takes.size old + length (bytes_of_pages pages)

-- what the visitor leaves of the pages after which it went on
pub record AreHanded {V T : Type 0} (takes : Takes T) (taken : V → MutBor T) (broken : V → Option (ℕ × ChainFault)) (old : V) (pages : List Page) (new : V) : Type 0 where
  pub same : (taken new).ghost_name ≡ (taken old).ghost_name
  pub broken_same : broken new ≡ broken old
  pub all : AreAllTaken takes (taken old).now pages (taken new).now

one_more : {T : Type 0} (takes : Takes T) (old mid new : T) (page : Page) (pages : List Page) → IsTaken takes.is_of takes.size old page mid → AreAllTaken takes mid pages new
    → AreAllTaken takes old (page ∷ pages) new
one_more takes old mid new page pages one more = record {
  links = λ links is. let (after, taken, is_after) = more.links (links_with links page) (one.links links is) in (after, (one.follows links is, taken), is_after);
  grows = omega (arith, more.grows, one.grows, length-page_bytes page, length-append (page_bytes page) (bytes_of_pages pages));
}

pub are_handed : {V T : Type 0} (takes : Takes T) (taken : V → MutBor T) (broken : V → Option (ℕ × ChainFault)) (old new : V) (offset : ℕ) (pages : List Page)
    → AreSeen (HandsPage takes taken broken) old offset pages new → AreHanded takes taken broken old pages new
are_handed {V} takes taken broken old new offset [] seen = record {
  same = ap (λ (v : V). (taken v).ghost_name) seen;
  broken_same = ap broken seen;
  all = record {
    links = λ links is. (links, refl, subst (λ (v : V). takes.is_of links (taken v).now) (sym seen) is);
    grows = omega (arith, ap (λ (v : V). takes.size (taken v).now) seen);
  };
}
are_handed takes taken broken old new offset (page ∷ pages) (mid, one, seen) =
    let more = are_handed takes taken broken mid new (offset + page_size page) pages seen in
    record {
      same = more.same ∙ one.same;
      broken_same = more.broken_same ∙ one.handed.2;
      all = one_more takes (taken old).now (taken mid).now (taken new).now page pages one.handed.1 more.all;
    }
