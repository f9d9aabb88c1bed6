use Rattle.std.proofs.Common.{◌≡◌, ◌≢◌, ◌+◌, ◌-◌, ◌∙◌, ap, sym, refl, arith, tests, rules, length, true, false, Some, None}
use Rattle.std.proofs.lemmas.Bool.{eq-eqb}
use Rattle.std.specs.Prelude.{nat_eq}
use Rattle.ogg_page.specs.Page.{page_size}
use Rattle.ogg_page.specs.Pages.{found_in}
use Rattle.packet_view.specs.Packets.{packets_from, misplaced}
use Rattle.packet_view.proofs.Fronts.{other}
use Rattle.packet_view.proofs.Walks.{from-nothing, from-fault, from-other, from-its-page, placed, skips-none, skips_push, reaches, none_left, some_left}
use Rattle.packet_view.proofs.walking.next_page.Goals as goal

pub loop-rest-init : goal.loop-rest-init
loop-rest-init c = record {
  inside = c.requires;
  same = λ parts. refl;
  skips = skips-none c.args.serial c.args.start c.args.source.now;
}

pub returns-in-Err-clause-leads : goal.returns-in-Err-clause-leads
returns-in-Err-clause-leads c = λ parts is.
    let some : length c.loop-rest.rest.now ≢ 0 = search (rules, tests) in
    c.loop-rest.invariant.same parts
    ∙ from-fault c.args.serial c.args.behind parts c.loop-rest.offset c.loop-rest.rest.now c.in-Err.fault (some_left c.loop-rest.rest.now some) c.in-Err.ensures.split

pub returns-in-Some-clause-leads : goal.returns-in-Some-clause-leads
returns-in-Some-clause-leads c = λ parts is.
    let page = c.in-Ok.found.0 in
    let its : nat_eq page.serial c.args.serial ≡ true = eq-eqb page.serial c.args.serial (sym c.serial.ensures ∙ c.if-serial.true) in
    c.loop-rest.invariant.same parts
    ∙ ap (λ l. packets_from c.args.serial c.args.behind parts (found_in c.loop-rest.offset l)) c.in-Ok.ensures.split.1
    ∙ from-its-page c.args.serial c.args.behind parts c.loop-rest.offset page c.in-Ok.found.1.now (Some c.in-Some.fault) c.in-Ok.ensures.split.0 its
    (ap (λ b. misplaced c.args.behind b c.loop-rest.offset page) is ∙ sym c.misplaced.ensures ∙ c.in-Some.is)

pub returns-in-None-clause-leads : goal.returns-in-None-clause-leads
returns-in-None-clause-leads c = λ parts is.
    let page = c.in-Ok.found.0 in
    let its : nat_eq page.serial c.args.serial ≡ true = eq-eqb page.serial c.args.serial (sym c.serial.ensures ∙ c.if-serial.true) in
    c.loop-rest.invariant.same parts
    ∙ ap (λ l. packets_from c.args.serial c.args.behind parts (found_in c.loop-rest.offset l)) c.in-Ok.ensures.split.1
    ∙ from-its-page c.args.serial c.args.behind parts c.loop-rest.offset page c.in-Ok.found.1.now None c.in-Ok.ensures.split.0 its
    (ap (λ b. misplaced c.args.behind b c.loop-rest.offset page) is ∙ sym c.misplaced.ensures ∙ c.in-None.is)
    ∙ placed c.args.serial parts page c.loop-rest.offset c.in-Ok.found.1.now (c.loop-rest.offset + (length c.loop-rest.rest.now - length c.in-Ok.found.1.now)) c.enter.result c.enter.ensures
    (omega (arith, c.in-Ok.ensures.size))

pub returns-in-None-clause-reaches : goal.returns-in-None-clause-reaches
returns-in-None-clause-reaches c =
    let page = c.in-Ok.found.0 in
    let its : nat_eq page.serial c.args.serial ≡ true = eq-eqb page.serial c.args.serial (sym c.serial.ensures ∙ c.if-serial.true) in
    reaches c.args.serial c.args.start c.args.source.now c.loop-rest.offset (c.loop-rest.offset + (length c.loop-rest.rest.now - length c.in-Ok.found.1.now))
    c.loop-rest.rest.now c.in-Ok.found.1.now page c.enter.result c.loop-rest.invariant.skips c.in-Ok.ensures.split.0 c.in-Ok.ensures.split.1 its (omega (arith, c.in-Ok.ensures.size)) c.enter.ensures

pub loop-rest-preserved : goal.loop-rest-preserved
loop-rest-preserved c =
    let page = c.in-Ok.found.0 in
    let another : nat_eq page.serial c.args.serial ≡ false = other page.serial c.args.serial (λ e. c.if-serial.false (c.serial.ensures ∙ e)) in
    let size : c.loop-rest.offset + page_size page ≡ c.loop-rest.offset + (length c.loop-rest.rest.now - length c.in-Ok.found.1.now) = omega (arith, c.in-Ok.ensures.size) in
    record {
      inside = omega (arith, c.loop-rest.invariant.inside, c.in-Ok.ensures.size);
      same = λ parts.
          c.loop-rest.invariant.same parts
          ∙ ap (λ l. packets_from c.args.serial c.args.behind parts (found_in c.loop-rest.offset l)) c.in-Ok.ensures.split.1
          ∙ from-other c.args.serial c.args.behind parts c.loop-rest.offset page c.in-Ok.found.1.now c.in-Ok.ensures.split.0 another
          ∙ ap (λ n. packets_from c.args.serial c.args.behind parts (found_in n c.in-Ok.found.1.now)) size;
      skips = skips_push c.args.serial c.args.start c.args.source.now c.loop-rest.offset (c.loop-rest.offset + (length c.loop-rest.rest.now - length c.in-Ok.found.1.now))
          c.loop-rest.rest.now c.in-Ok.found.1.now page c.loop-rest.invariant.skips c.in-Ok.ensures.split.0 c.in-Ok.ensures.split.1 another (sym size);
    }

pub returns-clause-leads : goal.returns-clause-leads
returns-clause-leads c = λ parts is.
    let none : length c.loop-rest.rest.now ≡ 0 = search (rules, tests) in
    c.loop-rest.invariant.same parts
    ∙ ap (λ l. packets_from c.args.serial c.args.behind parts (found_in c.loop-rest.offset l)) (none_left c.loop-rest.rest.now none)
    ∙ from-nothing c.args.serial c.args.behind parts c.loop-rest.offset
