use Rattle.std.proofs.Common.{◌≡◌, ℕ, Bool, true, List, ◌++◌, sym, ◌∙◌, ap, subst, arith}
use Rattle.std.specs.Prelude.{OnOk}
use Rattle.ogg_page.specs.Page.{Page, IsPage}
use Rattle.ogg_page.specs.PageLaws.{page_fits}
use Rattle.link_chain.specs.Taking.{fault_of_page}
use Rattle.ogg_command.specs.declared.command.Command.{Command}
use Rattle.import_gather.specs.Gathered.{Gathered, GathersPage}
use Rattle.import_mend.specs.Gives.{GathersLeft}
use Rattle.import_gather.specs.Kept.{is_too_long}
use Rattle.import_mend.specs.Mended.{is_joined, mended}
use Rattle.import_mend.specs.Steps.{broken_off}
use Rattle.import_mend.proofs.Fits.{mended_fits, mended_is_short, broken_length}
use Rattle.import_mend.proofs.Kept.{mended_is_page}
use Rattle.import_mend.proofs.Taken.{TakenLater, taken_later, unchanged}
use Rattle.import_mend.proofs.taking.follow.Goals as goal

pub take-requires-clause-fits : goal.take-requires-clause-fits
take-requires-clause-fits c =
    let g : Gathered = c.args.gatherer.now in
    let page : Page = c.args.page.now in
    let joined : is_joined c.args.lost c.args.stream (is_too_long g.link page) page ≡ true =
    ap (λ b. is_joined c.args.lost c.args.stream b page) (sym c.is_too_long.ensures) ∙ sym c.is_joined-joined.ensures ∙ c.if-joined.true in
    let taken : TakenLater g.chain c.args.lost page c.args.stream = taken_later g.chain c.args.lost page c.args.stream c.requires.later c.requires.known c.requires.way in
    ap (fault_of_page g.chain) (sym (unchanged c.args.lost c.args.stream (is_too_long g.link page) page joined c.if-lost-eq0.true (c.is_left_whole.ensures c.if-is_left_whole.true)))
    ∙ mended_fits c.args.lost c.args.stream page g true (sym joined) c.requires.later taken.links c.requires.known taken.unended

pub take-requires-clause-small : goal.take-requires-clause-small
take-requires-clause-small c =
    let page : Page = c.args.page.now in
    let taken = taken_later c.args.gatherer.now.chain c.args.lost page c.args.stream c.requires.later c.requires.known c.requires.way in
    omega (arith, taken.small, page_fits page c.whole-bytes.ensures.is_page)

pub take_mended-requires-clause-fits : goal.take_mended-requires-clause-fits
take_mended-requires-clause-fits c =
    let g : Gathered = c.args.gatherer.now in
    let page : Page = c.args.page.now in
    let joined : Bool = c.is_joined-joined.result in
    let is : joined ≡ is_joined c.args.lost c.args.stream (is_too_long g.link page) page =
    c.is_joined-joined.ensures ∙ ap (λ b. is_joined c.args.lost c.args.stream b page) c.is_too_long.ensures in
    let taken : TakenLater g.chain c.args.lost page c.args.stream = taken_later g.chain c.args.lost page c.args.stream c.requires.later c.requires.known c.requires.way in
    let off : c.break_off.new.gatherer ≡ broken_off joined page.serial g = c.break_off.ensures ∙ ap (λ s. broken_off joined s g) c.serial.ensures in
    ap (λ (h : Gathered). fault_of_page h.chain (mended joined c.args.stream.next_sequence page)) off
    ∙ mended_fits c.args.lost c.args.stream page g joined is c.requires.later taken.links c.requires.known taken.unended

pub take_mended-requires-clause-short : goal.take_mended-requires-clause-short
take_mended-requires-clause-short c =
    let g : Gathered = c.args.gatherer.now in
    let page : Page = c.args.page.now in
    let joined : Bool = c.is_joined-joined.result in
    let is : joined ≡ is_joined c.args.lost c.args.stream (is_too_long g.link page) page =
    c.is_joined-joined.ensures ∙ ap (λ b. is_joined c.args.lost c.args.stream b page) c.is_too_long.ensures in
    let taken : TakenLater g.chain c.args.lost page c.args.stream = taken_later g.chain c.args.lost page c.args.stream c.requires.later c.requires.known c.requires.way in
    let off : c.break_off.new.gatherer ≡ broken_off joined page.serial g = c.break_off.ensures ∙ ap (λ s. broken_off joined s g) c.serial.ensures in
    ap (λ (h : Gathered). is_too_long h.link (mended joined c.args.stream.next_sequence page)) off
    ∙ mended_is_short c.args.lost c.args.stream page g joined is c.requires.later c.whole-bytes.ensures.is_page taken.number

pub take_mended-requires-clause-small : goal.take_mended-requires-clause-small
take_mended-requires-clause-small c =
    let g : Gathered = c.args.gatherer.now in
    let page : Page = c.args.page.now in
    let joined : Bool = c.is_joined-joined.result in
    let taken : TakenLater g.chain c.args.lost page c.args.stream = taken_later g.chain c.args.lost page c.args.stream c.requires.later c.requires.known c.requires.way in
    let off : c.break_off.new.gatherer ≡ broken_off joined page.serial g = c.break_off.ensures ∙ ap (λ s. broken_off joined s g) c.serial.ensures in
    let left : IsPage (mended joined c.args.stream.next_sequence page) = mended_is_page joined c.args.stream.next_sequence page taken.number c.whole-bytes.ensures.is_page in
    omega (
      arith,
      taken.small,
      ap (λ (h : Gathered). h.chain.length_of) off,
      broken_length joined page.serial g,
      page_fits (mended joined c.args.stream.next_sequence page) left,
    )

pub returns-then-is_left_whole-clause-gives : goal.returns-then-is_left_whole-clause-gives
returns-then-is_left_whole-clause-gives c =
    let g : Gathered = c.args.gatherer.now in
    let page : Page = c.args.page.now in
    let n : ℕ = c.args.stream.next_sequence in
    let joined : is_joined c.args.lost c.args.stream (is_too_long g.link page) page ≡ true =
    ap (λ b. is_joined c.args.lost c.args.stream b page) (sym c.is_too_long.ensures) ∙ sym c.is_joined-joined.ensures ∙ c.if-joined.true in
    let same : mended true n page ≡ page = unchanged c.args.lost c.args.stream (is_too_long g.link page) page joined c.if-lost-eq0.true (c.is_left_whole.ensures c.if-is_left_whole.true) in
    subst (λ (b : Bool). OnOk c.take.result ((more : List Command) × (c.take.new.commands.items ≡ c.args.commands.now.items ++ more) × GathersLeft b n page g c.take.new.gatherer more)) (sym joined)
    (subst (λ (p : Page). OnOk c.take.result ((more : List Command) × (c.take.new.commands.items ≡ c.args.commands.now.items ++ more) × GathersPage p g c.take.new.gatherer more)) (sym same) c.take.ensures.gives)
