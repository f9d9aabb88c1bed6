use Rattle.std.proofs.Common.{◌==◌, inl, inr, ap, sym, ◌∙◌}
use Rattle.std.specs.List.{list_any}
use Rattle.jiff.specs.Words.{plain_zone}
use Rattle.archive_clock.proofs.Shown.{shown_if}
use Rattle.archive_clock.proofs.asked.read_local.Goals as goal

pub returns-then-contains : goal.returns-then-contains
returns-then-contains c =
    inl (ap (list_any (λ byte. byte == 91)) (sym c.as_bytes.ensures.value) ∙ sym c.contains.ensures.value ∙ c.if-contains.true)

pub returns-in-Err : goal.returns-in-Err
returns-in-Err c = inr (inl (c.in-Err.field-0, sym c.in-Err.ensures.value))

pub returns-in-Err-to_timestamp : goal.returns-in-Err-to_timestamp
returns-in-Err-to_timestamp c =
    inr (inr (c.in-Ok.datetime, sym c.in-Ok.ensures.value, λ is. let never = c.in-Err-to_timestamp.ensures.succeeds.1 is in cc))

pub returns-in-Ok-to_timestamp : goal.returns-in-Ok-to_timestamp
returns-in-Ok-to_timestamp c =
    shown_if (plain_zone c.args.zone.now) c.args.text.now c.in-Ok.datetime c.in-Ok-to_timestamp.instant.nanosecond c.millisecond_of.result
    (sym c.in-Ok.ensures.value) c.in-Ok-to_timestamp.ensures.value c.millisecond_of.ensures
