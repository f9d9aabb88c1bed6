use Rattle.std.proofs.Common.{rules, ◌≡◌, ◌++◌, ◌∙◌, List, [], ℕ, cond, not, Some, None, to_z, of_z, sym, ap, subst}
use Rattle.std.proofs.lemmas.Int.{to_z-of_z}
use Rattle.std.specs.Int.{w64}
use Rattle.std.specs.Option.{is_some}
use Rattle.std.specs.Prelude.{FitsSigned}
use Rattle.ogg_page.specs.Numbers.{i64_bytes}
use Rattle.skeleton3.specs.Fisbone.{Fisbone, fisbone_name, fixed_part, fisbone_fault}
use Rattle.skeleton3.specs.declared.fault.SkeletonFault.TheVariants.{Fields}
use Rattle.skeleton3.proofs.Names.{named}
use Rattle.skeleton3.proofs.FisboneFacts.{FitsFields, fault_behind, fits_fields, held_has_no_fault, of_parts, same_fisbone, written_holds}
use Rattle.skeleton3.proofs.fisbone.Fisbone.read.Goals as goal
use Rattle.skeleton3.proofs.fisbone.Fisbone.read.Goals.{After-media_in}

-- what was read, with this media type
abbrev value : After-media_in → List ℕ → Fisbone
value c media =
    record {
      serial = c.take_u32-serial.result.0;
      headers = c.take_u32-headers.result.0;
      rate = c.take_fraction.result.0;
      base_granule = to_z w64 (of_z w64 c.take_i64-base_granule.result.0);
      preroll = c.take_u32-preroll.result.0;
      shift = c.take_u8-shift.result.0;
      media = media;
    }

spelled : (c : After-media_in) (media : List ℕ) → c.args.packet.now ≡ fixed_part c.take_u32-offset.result.0 c.split_at-2.result.0.now (value c media) ++ c.split_at-2.result.1.now
spelled c media =
    let base = c.take_i64-base_granule in
    of_parts c.args.packet.now c.split_at.result.1.now c.take_u32-offset.result.1.now c.take_u32-serial.result.1.now c.take_u32-headers.result.1.now
    c.take_fraction.result.1.now base.result.1.now c.take_u32-preroll.result.1.now c.take_u8-shift.result.1.now c.split_at-2.result.0.now c.split_at-2.result.1.now
    c.take_u32-offset.result.0 (value c media)
    (named c.args.packet.now _ _ fisbone_name c.split_at.result.1.now c.split_at.ensures.by_index.0 c.if-ne.ensures c.as_slice.ensures)
    c.take_u32-offset.ensures.value c.take_u32-serial.ensures.value c.take_u32-headers.ensures.value c.take_fraction.ensures.value
    (base.ensures.value ∙ ap (λ z. i64_bytes z ++ base.result.1.now) (sym (to_z-of_z w64 base.result.0 base.ensures.fits)))
    c.take_u32-preroll.ensures.value c.take_u8-shift.ensures.value c.split_at-2.ensures.by_index.0

fits : (c : After-media_in) (media : List ℕ) → FitsFields (value c media)
fits c media =
    let base = c.take_i64-base_granule in
    record {
      serial = c.take_u32-serial.ensures.fits;
      headers = c.take_u32-headers.ensures.fits;
      rate = c.take_fraction.ensures.fits;
      base_granule = subst (FitsSigned w64) (sym (to_z-of_z w64 base.result.0 base.ensures.fits)) base.ensures.fits;
      preroll = c.take_u32-preroll.ensures.fits;
    }

pub returns-then-packet-lt-FIXED-clause-fault : goal.returns-then-packet-lt-FIXED-clause-fault
returns-then-packet-lt-FIXED-clause-fault c = search rules

pub returns-then-packet-lt-FIXED-clause-each : goal.returns-then-packet-lt-FIXED-clause-each
returns-then-packet-lt-FIXED-clause-each c fisbone is holds = absurd (cc (returns-then-packet-lt-FIXED-clause-fault c, held_has_no_fault _ fisbone holds))

pub returns-then-packet-lt-FIXED-clause-written : goal.returns-then-packet-lt-FIXED-clause-written
returns-then-packet-lt-FIXED-clause-written c fisbone is media same = returns-then-packet-lt-FIXED-clause-each c fisbone is (written_holds _ fisbone media same)

pub returns-then-ne-clause-fault : goal.returns-then-ne-clause-fault
returns-then-ne-clause-fault c = search rules

pub returns-then-ne-clause-each : goal.returns-then-ne-clause-each
returns-then-ne-clause-each c fisbone is holds = absurd (cc (returns-then-ne-clause-fault c, held_has_no_fault _ fisbone holds))

pub returns-then-ne-clause-written : goal.returns-then-ne-clause-written
returns-then-ne-clause-written c fisbone is media same = returns-then-ne-clause-each c fisbone is (written_holds _ fisbone media same)

pub returns-in_default-clause-fault : goal.returns-in_default-clause-fault
returns-in_default-clause-fault c =
    let at = (goal.at.returns-in_default-clause-fault c).After-media_in in
    sym
    (ap fisbone_fault (spelled at [])
    ∙ fault_behind c.take_u32-offset.result.0 c.split_at-2.result.0.now c.split_at-2.result.1.now (value at []) c.split_at-2.ensures.front_len
    ∙ ap (λ media. cond (not (is_some media)) (Some Fields) None) (sym c.in_default.ensures))

pub returns-in_default-clause-each : goal.returns-in_default-clause-each
returns-in_default-clause-each c fisbone is holds = absurd (cc (returns-in_default-clause-fault c, held_has_no_fault _ fisbone holds))

pub returns-in_default-clause-written : goal.returns-in_default-clause-written
returns-in_default-clause-written c fisbone is media same = returns-in_default-clause-each c fisbone is (written_holds _ fisbone media same)

pub returns-clause-ok : goal.returns-clause-ok
returns-clause-ok c =
    record {
      offset = c.take_u32-offset.result.0;
      padding = c.split_at-2.result.0.now;
      message = c.split_at-2.result.1.now;
      small = c.take_u32-offset.ensures.fits;
      three = c.split_at-2.ensures.front_len;
      spelled = spelled (goal.at.returns-clause-ok c).After-media_in c.in-Some.media.now;
      media = sym c.in-Some.ensures;
    }

pub returns-clause-fault : goal.returns-clause-fault
returns-clause-fault c = sym (held_has_no_fault _ _ (returns-clause-ok c))

pub returns-clause-each : goal.returns-clause-each
returns-clause-each c fisbone is holds =
    same_fisbone _ _ fisbone (fits (goal.at.returns-clause-each c).After-media_in c.in-Some.media.now) (fits_fields fisbone is) (returns-clause-ok c) holds

pub returns-clause-written : goal.returns-clause-written
returns-clause-written c fisbone is media same = returns-clause-each c fisbone is (written_holds _ fisbone media same)
