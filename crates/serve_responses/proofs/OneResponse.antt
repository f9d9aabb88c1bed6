-- There is at most one response. httparse (the kit) says that a head is read in one way; its page on calling it names
-- this lemma.
use Rattle.std.proofs.Common.{◌≡◌, ℕ, Option, Some, None, List, refl, sym, ◌∙◌, ap}
use Rattle.httparse.proofs.GrammarLemmas.{request_unique}
use Rattle.ogg_page.specs.Page.{Page}
use Rattle.link_chain.specs.Links.{AreLinks}
use Rattle.ogg_http.specs.Head.{head_bytes}
use Rattle.serve_responses.specs.Response.{Asked, Asks, asked_of, response, IsResponse}

-- what was received asks one thing at most
asks_one : (received : List ℕ) (a b : Option Asked) → Asks received a → Asks received b → a ≡ b
asks_one received None None x y = refl
asks_one received None (Some b) x y = absurd (x.none y.0 y.1)
asks_one received (Some a) None x y = absurd (y.none x.0 x.1)
asks_one received (Some a) (Some b) x y =
    ap (λ (o : Asked). Some o)
    (x.2 ∙ ap asked_of (request_unique (head_bytes received) x.0 y.0 x.1.rest y.1.rest x.1.reads y.1.reads).0 ∙ sym y.2)

pub one_response : ((bytes : List ℕ) (links others : List (List Page)) → AreLinks bytes links → AreLinks bytes others → links ≡ others)
    → (committed received x y : List ℕ) → IsResponse committed received x → IsResponse committed received y → x ≡ y
one_response one_chain committed received x y a b =
    a.whole
    ∙ ap (λ links. response links a.asked) (one_chain committed a.links b.links a.are_links b.are_links)
    ∙ ap (response b.links) (asks_one received a.asked b.asked a.asks b.asks)
    ∙ sym b.whole
