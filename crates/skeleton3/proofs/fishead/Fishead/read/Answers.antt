use Rattle.std.proofs.Common.{rules, ◌≡◌, ◌++◌, ◌∙◌, Ok, sym, ap, arith, length}
use Rattle.ogg_page.specs.Numbers.{fraction_bytes}
use Rattle.skeleton3.specs.Fishead.{fishead_name, fishead_with, fishead_fault}
use Rattle.skeleton3.specs.declared.fishead.Fishead.{Fishead}
use Rattle.skeleton3.proofs.Names.{named}
use Rattle.skeleton3.proofs.FisheadFacts.{no_fault, held_has_no_fault, other_version, same_fishead, of_parts}
use Rattle.skeleton3.proofs.fishead.Fishead.read.Goals as goal
use Rattle.skeleton3.proofs.fishead.Fishead.read.Goals.{After-text_of}

-- what was read
value : After-text_of → Fishead
value c = record { presentation = c.take_fraction.result.0; base = c.take_fraction-2.result.0; utc = c.text_of.result }

pub returns-then-packet-ne-SIZE-clause-fault : goal.returns-then-packet-ne-SIZE-clause-fault
returns-then-packet-ne-SIZE-clause-fault c = search rules

pub returns-then-packet-ne-SIZE-clause-each : goal.returns-then-packet-ne-SIZE-clause-each
returns-then-packet-ne-SIZE-clause-each c fishead is holds =
    absurd (cc (returns-then-packet-ne-SIZE-clause-fault c, held_has_no_fault _ fishead is holds))

pub returns-then-ne-clause-fault : goal.returns-then-ne-clause-fault
returns-then-ne-clause-fault c = search rules

pub returns-then-ne-clause-each : goal.returns-then-ne-clause-each
returns-then-ne-clause-each c fishead is holds =
    absurd (cc (returns-then-ne-clause-fault c, held_has_no_fault _ fishead is holds))

pub returns-then-major-ne-MAJOR-clause-fault : goal.returns-then-major-ne-MAJOR-clause-fault
returns-then-major-ne-MAJOR-clause-fault c =
    let major = c.take_u16-major in
    let packet = named c.args.packet.now _ _ fishead_name c.split_at.result.1.now c.split_at.ensures.by_index.0 c.if-ne.ensures c.as_slice.ensures ∙ ap (λ rest. fishead_name ++ rest) major.ensures.value in
    sym (ap fishead_fault packet ∙ other_version major.result.0 major.result.1.now major.ensures.fits c.if-major-ne-MAJOR.true (omega arith))

pub returns-then-major-ne-MAJOR-clause-each : goal.returns-then-major-ne-MAJOR-clause-each
returns-then-major-ne-MAJOR-clause-each c fishead is holds =
    absurd (cc (returns-then-major-ne-MAJOR-clause-fault c, held_has_no_fault _ fishead is holds))

spelled : (c : After-text_of) → c.args.packet.now ≡ fishead_with c.take_u16-minor.result.0 (value c)
unfolding value
spelled c =
    of_parts c.args.packet.now c.split_at.result.1.now c.take_u16-major.result.1.now c.take_u16-minor.result.1.now c.take_fraction.result.1.now
    c.take_u16-major.result.0 c.take_u16-minor.result.0 (value c)
    (named c.args.packet.now _ _ fishead_name c.split_at.result.1.now c.split_at.ensures.by_index.0 c.if-ne.ensures c.as_slice.ensures)
    c.take_u16-major.ensures.value c.if-major-ne-MAJOR.false c.take_u16-minor.ensures.value c.take_fraction.ensures.value
    (c.take_fraction-2.ensures.value ∙ ap (λ utc. fraction_bytes c.take_fraction-2.result.0 ++ utc) (sym c.text_of.ensures))

pub returns-clause-ok : goal.returns-clause-ok
unfolding value
returns-clause-ok c = (c.take_u16-minor.result.0, c.take_u16-minor.ensures.fits, spelled c)

pub returns-clause-fault : goal.returns-clause-fault
unfolding value
returns-clause-fault c = sym (ap fishead_fault (spelled c) ∙ no_fault c.take_u16-minor.result.0 (value c) (ap length c.text_of.ensures ∙ omega arith))

pub returns-clause-each : goal.returns-clause-each
unfolding value
returns-clause-each c fishead is holds =
    ap Ok (same_fishead c.take_u16-minor.result.0 holds.0 (value c) fishead c.take_fraction.ensures.fits c.take_fraction-2.ensures.fits is.presentation is.base
    (sym (spelled c) ∙ holds.2))
