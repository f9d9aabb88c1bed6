use Rattle.std.proofs.Common.{◌≡◌, ◌++◌, List, [], ℕ, refl, sym, ap, ◌∙◌, append-nil, arith}
use Rattle.ogg_page.specs.Numbers.{u32_bytes}
use Rattle.feed_codec.proofs.Lists.{nothing}
use Rattle.feed_codec.proofs.PayloadFacts.{end_behind}
use Rattle.feed_codec.proofs.building.serial_of.Goals as goal

pub take_u32-serial-requires : goal.take_u32-serial-requires
take_u32-serial-requires c = let size = end_behind c.args._version c.args.payload.now c.requires in omega (arith, size)

pub returns : goal.returns
returns c =
    let size = end_behind c.args._version c.args.payload.now c.requires in
    let serial : List ℕ = u32_bytes c.take_u32-serial.result.0 in
    let none : c.take_u32-serial.result.1.now ≡ [] = nothing c.take_u32-serial.result.1.now (omega (arith, size, c.take_u32-serial.ensures.rest)) in
    record { held = (c.take_u32-serial.ensures.fits, tt); kind_is = refl; payload_is = sym (c.take_u32-serial.ensures.value ∙ ap (λ l. serial ++ l) none ∙ append-nil serial) }
