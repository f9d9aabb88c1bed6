-- Pages that are appended to a vector.
use Rattle.std.proofs.Common.{◌≡◌, ℕ, List, ◌++◌, length, ◌∙◌, ap, arith, append_assoc, length-append}
use Rattle.ogg_page.specs.Page.{Page, bytes_with, fixed_part, page_of, page_size}
use Rattle.ogg_page.specs.declared.head.PageHead.{PageHead}

-- a body that goes on
pub goes_on : (before : List ℕ) (head : PageHead) (lacing body bytes : List ℕ) →
    (before ++ bytes_with 0 (page_of head lacing body)) ++ bytes ≡ before ++ bytes_with 0 (page_of head lacing (body ++ bytes))
unfolding fixed_part
goes_on before head lacing body bytes =
    let front : List ℕ = fixed_part 0 (page_of head lacing body) in
    append_assoc before (front ++ lacing ++ body) bytes
    ∙ ap (λ l. before ++ l) (append_assoc front (lacing ++ body) bytes ∙ ap (λ l. front ++ l) (append_assoc lacing body bytes))

pub length-bytes_with : (page : Page) → length (bytes_with 0 page) ≡ page_size page
unfolding fixed_part
length-bytes_with page = omega (arith, length-append page.lacing page.body)
