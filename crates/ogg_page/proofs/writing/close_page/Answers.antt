use Rattle.std.proofs.Common.{◌≡◌, ℕ, ◌+◌, List, [], ◌∷◌, ◌++◌, length, drop, refl, sym, ◌∙◌, ap, append_assoc, length-append}
use Rattle.std.specs.Prelude.{codes}
use Rattle.std.proofs.lemmas.List.{drop_at}
use Rattle.byteorder.specs.Endian.{little_bytes}
use Rattle.page_checksum.specs.Checksum.{checksum_of}
use Rattle.ogg_page.specs.Page.{Page, fixed_part, page_bytes, bytes_with}
use Rattle.ogg_page.proofs.writing.close_page.Goals as goal

-- what stands before the checksum, and what follows it
before : Page → List ℕ
before p = codes "OggS" ++ 0 ∷ p.flags ∷ [] ++ little_bytes 8 p.position ++ little_bytes 4 p.serial ++ little_bytes 4 p.sequence

behind : Page → List ℕ
behind p = length p.lacing ∷ (p.lacing ++ p.body)

-- the bytes in three parts
parts : (front : List ℕ) (checksum : ℕ) (p : Page) → front ++ bytes_with checksum p ≡ (front ++ before p) ++ (little_bytes 4 checksum ++ behind p)
unfolding fixed_part before behind
parts front checksum p = sym (append_assoc front (before p) (little_bytes 4 checksum ++ behind p))

before_size : (front : List ℕ) (p : Page) → length (front ++ before p) ≡ length front + 22
unfolding before
before_size front p = length-append front (before p)

pub returns-clause-items : goal.returns-clause-items
unfolding page_bytes
returns-clause-items c = λ front page start is.
    let page_there : c.split_at.result.1.now ≡ bytes_with 0 page =
    c.split_at.ensures.back ∙ ap (drop c.args.start) (c.as_slice.ensures.value ∙ is) ∙ drop_at front (bytes_with 0 page) c.args.start start in
    let sum : c.checksum-sum.result ≡ checksum_of (bytes_with 0 page) = c.checksum-sum.ensures ∙ ap checksum_of page_there in
    c.put_number.ensures.items (front ++ before page) (little_bytes 4 0) (behind page) (before_size front page ∙ ap (λ n. n + 22) start) refl
    (is ∙ parts front 0 page)
    ∙ sym (parts front c.checksum-sum.result page)
    ∙ ap (λ n. front ++ bytes_with n page) sum
