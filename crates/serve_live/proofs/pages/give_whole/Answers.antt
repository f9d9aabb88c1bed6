use Rattle.std.proofs.Common.{◌≡◌, ◌+◌, ◌-◌, ◌<◌, ◌≤◌, ℕ, List, ◌++◌, Some, length, take, drop, min, sym, ◌∙◌, ap, arith, length-append, refl}
use Rattle.ogg_page.specs.Head.{head_size}
use Rattle.ogg_page.specs.Laws.HeadBytes.{head_fits}
use Rattle.ogg_page.specs.Page.{page_bytes, page_size}
use Rattle.ogg_page.specs.PageLaws.{length-page_bytes}
use Rattle.page_heads.specs.Fronts.{facts_of}
use Rattle.page_heads.specs.Laws.{part_of_page}
use Rattle.serve_live.specs.Names.{name_in}
use Rattle.serve_live.specs.Heads.{next_heard}
use Rattle.serve_live.specs.Pulling.{names_kept}
use Rattle.serve_live.proofs.Ahead.{goes_on, put_in_place, same_part}
use Rattle.serve_live.proofs.NextPage.{heard_size, is_after, next_of, stands}
use Rattle.serve_live.proofs.pages.give_whole.Goals as goal

one_is : {X : Type 0} (x y : X) → Some x ≡ Some y → x ≡ y
one_is x y e = cc

pub returns-clause-gives : goal.returns-clause-gives
returns-clause-gives c committed more rest start inside b =
    let left = c.args.left in
    let given = c.args.given in
    let end = c.args.end in
    let names = c.args.names.now in
    let buffer = c.args.buffer.now in
    let kept = names_kept names left in
    let some : left.place < length committed = omega (arith, inside, c.requires.room) in
    let h = next_of committed kept left.place left.skip (drop given rest) b.pulled.left_is some in
    let s = stands committed (committed ++ more) more kept left.place left.skip (drop given rest) h refl in
    let bytes = committed ++ more in
    let facts = c.in_ok-facts.facts in
    let whole = end - given in
    let inside_all : left.place + whole ≤ length bytes = omega (arith, inside, length-append committed more) in
    let room_all : given + whole ≤ length buffer = omega (arith, c.requires.room) in
    let long : 282 ≤ whole = omega (arith, c.requires.room) in
    let count : 282 ≡ min (length bytes - left.place) 282 = grind (arith, inside_all, long) in
    let fits : head_size h.page ≤ 282 = head_fits bytes h.page left.place 282 s count in
    let front : take (given + 282 - given) (drop given buffer) ≡ take 282 (drop left.place bytes) =
    ap (λ n. take n (drop given buffer)) (let e : given + 282 - given ≡ 282 = omega arith in e)
    ∙ ap (λ n. take 282 (drop n buffer)) (let e : given ≡ given + 0 = omega arith in e)
    ∙ same_part bytes buffer left.place given whole 0 282 b.read long room_all inside_all
    ∙ ap (λ n. take 282 (drop n bytes)) (let e : left.place + 0 ≡ left.place = omega arith in e) in
    let told : c.facts_of.result ≡ Some (facts_of h.page) = c.facts_of.ensures.told (drop left.place bytes) h.page 282 s fits front in
    let facts_is : facts ≡ facts_of h.page = one_is _ _ (sym c.in_ok-facts.was ∙ told) in
    let size : ℕ = facts.size in
    let size_is : size ≡ page_size h.page = ap (λ f. f.size) facts_is in
    let least : 26 ≤ size = omega (arith, size_is) in
    let ends : given + size ≤ end = omega (arith, c.if-facts-end.false, c.requires.room) in
    let parts = c.split_at_mut-page.ensures in
    let stood : take size (drop given buffer) ≡ take size (page_bytes h.page) =
    ap (λ n. take size (drop n buffer)) (let e : given ≡ given + 0 = omega arith in e)
    ∙ same_part bytes buffer left.place given whole 0 size b.read (omega (arith, ends)) room_all inside_all
    ∙ part_of_page bytes h.page left.place 0 size s (omega (arith, length-page_bytes h.page, size_is)) in
    let own : List ℕ = page_bytes (next_heard (name_in kept) h.page) in
    let page : List ℕ = c.put_heard.new.bytes in
    let first : take size page ≡ take size own =
    c.put_heard.ensures.heard h.page size h.is_page facts_is least (ap (take size) parts.back ∙ stood)
    ∙ ap (λ l. take size (page_bytes (next_heard (name_in l) h.page))) c.kept_names.ensures in
    let put : c.split_at_mut-page.result.0.now ++ page ≡ take given buffer ++ (own ++ drop (given + size) buffer) =
    put_in_place given size buffer own page (c.split_at_mut-page.result.0.now ++ page) least (heard_size (name_in kept) h.page ∙ sym size_is) first
    (c.put_heard.ensures.behind ∙ ap (drop 26) parts.back) (ap (λ l. l ++ page) parts.front) in
    let after = c.left_after-after.ensures in
    goes_on committed more rest names start left c.left_after-after.result facts.begins given size end buffer (c.split_at_mut-page.result.0.now ++ page)
    b h (ap (λ f. f.begins) facts_is) size_is c.requires.skip ends c.requires.room.1 inside put
    (is_after left c.left_after-after.result facts.begins size size after.within after.behind)
