use Rattle.std.proofs.Common.{◌≡◌, ℕ, ◌+◌, List, [], ◌∷◌, ◌++◌, length, take, drop, refl, sym, ◌∙◌, ap, arith}
use Rattle.std.specs.Prelude.{codes}
use Rattle.std.proofs.lemmas.List.{take-append-drop, length-take-le, length-drop, take_at, drop-drop}
use Rattle.byteorder.specs.Endian.{little_bytes}
use Rattle.page_checksum.specs.Checksum.{checksum_of}
use Rattle.ogg_page.specs.Page.{Page, fixed_part, page_bytes, bytes_with}
use Rattle.ogg_page.specs.PageInWork.{page_in}
use Rattle.ogg_page.specs.Laws.Prefixes.{parts}
use Rattle.ogg_page.specs.Laws.ReadAgain.{length_bytes_with, length-page_bytes}
use Rattle.ogg_page.proofs.InRoom.{in_parts, length-lacing_in, length-body_in}
use Rattle.ogg_page.proofs.placing.close_room.Goals as goal

-- what stands before the checksum
before : Page → List ℕ
before p = codes "OggS" ++ 0 ∷ p.flags ∷ [] ++ little_bytes 8 p.position ++ little_bytes 4 p.serial ++ little_bytes 4 p.sequence

-- the head in three parts
head_parts : (checksum : ℕ) (p : Page) (x : List ℕ) → fixed_part checksum p ++ x ≡ before p ++ (little_bytes 4 checksum ++ (length p.lacing ∷ x))
unfolding fixed_part before
head_parts checksum p x = refl

before_size : (p : Page) → length (before p) ≡ 22
unfolding before
before_size p = refl

fixed_size : (checksum : ℕ) (p : Page) → length (fixed_part checksum p) ≡ 27
unfolding fixed_part
fixed_size checksum p = refl

pub returns : goal.returns
unfolding page_bytes
returns c =
    let room : List ℕ = c.args.room.now in
    let values : ℕ = c.args.values in
    let size : ℕ = c.args.size in
    let end : ℕ = 27 + values + size in
    let page : Page = page_in c.args.head.now values size room in
    let tail : List ℕ = page.lacing ++ (page.body ++ drop end room) in
    let ll : length page.lacing ≡ values = length-lacing_in values room (omega (arith, c.requires.room)) in
    let lb : length page.body ≡ size = length-body_in values size room (omega (arith, c.requires.room)) in
    let lf : length (take 27 room) ≡ 27 = length-take-le 27 room (omega (arith, c.requires.room)) in
    let blank : c.blank_fixed_part.result ≡ fixed_part 0 page = c.blank_fixed_part.ensures page.lacing page.body ll in
    let first : c.put_at.new.room ≡ fixed_part 0 page ++ tail =
    c.put_at.ensures [] (take 27 room) tail refl (lf ∙ sym (fixed_size 0 page) ∙ ap length (sym blank)) (in_parts values size room)
    ∙ ap (λ l. l ++ tail) blank in
    let summed : c.split_at.result.0.now ≡ bytes_with 0 page =
    c.split_at.ensures.front ∙ ap (take end) (first ∙ sym (parts 0 page (drop end room)))
    ∙ take_at (bytes_with 0 page) (drop end room) end (length_bytes_with 0 page ∙ omega (arith, ll, lb)) in
    let sum : c.checksum-sum.result ≡ checksum_of (bytes_with 0 page) = c.checksum-sum.ensures ∙ ap checksum_of summed in
    let four : c.to_le_bytes.result ≡ little_bytes 4 c.checksum-sum.result = c.to_le_bytes.ensures in
    let second : c.put_at-2.new.room ≡ page_bytes page ++ drop end room =
    c.put_at-2.ensures (before page) (little_bytes 4 0) (length page.lacing ∷ tail) (before_size page) (ap length (sym four)) (first ∙ head_parts 0 page tail)
    ∙ ap (λ l. before page ++ (l ++ (length page.lacing ∷ tail))) four
    ∙ sym (head_parts c.checksum-sum.result page tail)
    ∙ sym (parts c.checksum-sum.result page (drop end room))
    ∙ ap (λ n. bytes_with n page ++ drop end room) sum in
    let one : length (take 1 (drop end room)) ≡ 1 = length-take-le 1 (drop end room) (omega (arith, c.requires.room, length-drop end room)) in
    let size_is : length (page_bytes page) ≡ end = length-page_bytes page ∙ omega (arith, ll, lb) in
    c.put_at-3.ensures (page_bytes page) (take 1 (drop end room)) (drop 1 (drop end room)) size_is one
    (second ∙ ap (λ l. page_bytes page ++ l) (sym (take-append-drop 1 (drop end room))))
    ∙ ap (λ l. page_bytes page ++ 0 ∷ l) (drop-drop 1 end room ∙ ap (λ n. drop n room) (omega arith))
