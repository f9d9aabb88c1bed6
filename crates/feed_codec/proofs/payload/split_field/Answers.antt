use Rattle.feed_codec.proofs.PayloadFacts.{value_cut}
use Rattle.feed_codec.proofs.payload.split_field.Goals as goal

pub returns-in_err-value : goal.returns-in_err-value
returns-in_err-value c =
    rw c.from_residual-in_err-value.ensures
    (value_cut c.args.bytes.now c.in_ok-name.rest.now c.in_ok-name.name.now c.in_ok-name.ensures.0 c.in_ok-name.ensures.1 c.in_err-value.ensures)
