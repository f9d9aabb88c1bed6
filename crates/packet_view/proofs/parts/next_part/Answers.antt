use Rattle.std.proofs.Common.{◌≡◌, ◌≢◌, ◌<◌, ◌∙◌, ap, sym, length, rules, tests, arith, length-append, true, false}
use Rattle.std.specs.Prelude.{nat_eq}
use Rattle.std.proofs.lemmas.Bool.{eq-eqb}
use Rattle.ogg_page.specs.Page.{page_bytes}
use Rattle.ogg_page.specs.Laws.ReadAgain.{length-page_bytes}
use Rattle.packet_view.specs.Packet.{ArePages, slices_in}
use Rattle.packet_view.proofs.Fronts.{other}
use Rattle.packet_view.proofs.Walks.{none_left, some_left}
use Rattle.packet_view.proofs.Slices.{first_is_known, rest_is_known, slices-other, slices-its, one_slice, no_slice, slices-nothing}
use Rattle.packet_view.proofs.parts.next_part.Goals as goal

pub split_known_page-page-requires : goal.split_known_page-page-requires
split_known_page-page-requires c =
    let some : length c.loop-rest.rest.now ≢ 0 = search (rules, tests) in
    first_is_known c.loop-rest.rest.now c.loop-rest.invariant.pages some

pub returns-then-not-is_empty : goal.returns-then-not-is_empty
returns-then-not-is_empty c =
    let page = c.split_known_page-page.result.0 in
    let more = c.split_known_page-page.result.1.now in
    let split = c.split_known_page-page.ensures in
    let are : ArePages more = rest_is_known c.loop-rest.rest.now more page c.loop-rest.invariant.pages split.0 split.1 in
    let its : nat_eq page.serial c.args.serial ≡ true = eq-eqb page.serial c.args.serial (sym c.serial.ensures ∙ c.if-serial.true) in
    let some : length c.front_of-part.result.now ≢ 0 = search (rules, tests) in (
      c.loop-rest.invariant.same
          ∙ slices-its c.args.serial c.loop-rest.rest.now more c.front_of-part.result.now page split.0 are split.1 its c.front_of-part.ensures
          ∙ one_slice c.front_of-part.result.now (slices_in c.args.serial more) (some_left c.front_of-part.result.now some),
      are,
    )

pub loop-rest-smaller-else-not-is_empty : goal.loop-rest-smaller-else-not-is_empty
loop-rest-smaller-else-not-is_empty c =
    let page = c.split_known_page-page.result.0 in
    let more = c.split_known_page-page.result.1.now in
    let less : length more < length c.loop-rest.rest.now = omega (arith, ap length c.split_known_page-page.ensures.1, length-append (page_bytes page) more, length-page_bytes page) in
    less

pub loop-rest-preserved-else-not-is_empty : goal.loop-rest-preserved-else-not-is_empty
loop-rest-preserved-else-not-is_empty c =
    let page = c.split_known_page-page.result.0 in
    let more = c.split_known_page-page.result.1.now in
    let split = c.split_known_page-page.ensures in
    let are : ArePages more = rest_is_known c.loop-rest.rest.now more page c.loop-rest.invariant.pages split.0 split.1 in
    let its : nat_eq page.serial c.args.serial ≡ true = eq-eqb page.serial c.args.serial (sym c.serial.ensures ∙ c.if-serial.true) in
    let none : length c.front_of-part.result.now ≡ 0 = search (rules, tests) in
    record {
      pages = are;
      same = c.loop-rest.invariant.same
          ∙ slices-its c.args.serial c.loop-rest.rest.now more c.front_of-part.result.now page split.0 are split.1 its c.front_of-part.ensures
          ∙ no_slice c.front_of-part.result.now (slices_in c.args.serial more) (none_left c.front_of-part.result.now none);
    }

pub loop-rest-smaller : goal.loop-rest-smaller
loop-rest-smaller c =
    let page = c.split_known_page-page.result.0 in
    let more = c.split_known_page-page.result.1.now in
    let less : length more < length c.loop-rest.rest.now = omega (arith, ap length c.split_known_page-page.ensures.1, length-append (page_bytes page) more, length-page_bytes page) in
    less

pub loop-rest-preserved : goal.loop-rest-preserved
loop-rest-preserved c =
    let page = c.split_known_page-page.result.0 in
    let more = c.split_known_page-page.result.1.now in
    let split = c.split_known_page-page.ensures in
    let are : ArePages more = rest_is_known c.loop-rest.rest.now more page c.loop-rest.invariant.pages split.0 split.1 in
    let another : nat_eq page.serial c.args.serial ≡ false = other page.serial c.args.serial (λ e. c.if-serial.false (c.serial.ensures ∙ e)) in
    record {
      pages = are;
      same = c.loop-rest.invariant.same ∙ slices-other c.args.serial c.loop-rest.rest.now more page split.0 are split.1 another;
    }

pub returns : goal.returns
returns c =
    let none : length c.loop-rest.rest.now ≡ 0 = search (rules, tests) in
    c.loop-rest.invariant.same ∙ ap (slices_in c.args.serial) (none_left c.loop-rest.rest.now none) ∙ slices-nothing c.args.serial
