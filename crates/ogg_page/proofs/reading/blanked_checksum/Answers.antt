use Rattle.std.proofs.Common.{◌∙◌, ◌≡◌, ap, take, ◌++◌, ◌∷◌, [], ℕ, List}
use Rattle.std.proofs.lemmas.List.{take_rest, take-append-drop}
use Rattle.page_checksum.specs.Checksum.{checksum_of}
use Rattle.ogg_page.specs.Reading.{blanked}
use Rattle.ogg_page.proofs.reading.blanked_checksum.Goals as goal

pub returns-in-Some : goal.returns-in-Some
returns-in-Some c =
    let some = c.in-Some in
    let whole : List ℕ = c.args.whole.now in
    let split : some.front.now ++ some.rest.now ≡ whole =
    ap (λ l. l ++ some.rest.now) some.ensures.cases.0 ∙ ap (λ l. take 32 whole ++ l) some.ensures.cases.1 ∙ take-append-drop 32 whole in
    c.checksum_on.ensures (blanked some.front.now) c.checksum_of_front.ensures.sum
    ∙ ap checksum_of (c.checksum_of_front.ensures.front some.rest.now ∙ ap blanked split)

pub returns-in-None : goal.returns-in-None
returns-in-None c =
    let front : List ℕ = take 22 c.args.whole.now ++ 0 ∷ 0 ∷ 0 ∷ 0 ∷ [] in
    c.checksum_on-in-None-2.ensures front (c.checksum_on-in-None.ensures (take 22 c.args.whole.now) c.checksum.ensures)
    ∙ ap (λ l. checksum_of (front ++ l)) (take_rest c.args.whole.now 26)
