use Rattle.std.proofs.Common.{[], append-nil, sym, ◌∙◌, ap, refl, Err, arith}
use Rattle.std.proofs.KnownBytes.{Consumes-nil}
use Rattle.import_pages.specs.Room.{held_of}
use Rattle.import_pages.proofs.Definite.{short_is_small}
use Rattle.import_pages.proofs.InRoom.{held_size, is_fault}
use Rattle.import_pages.proofs.finding.find.Goals as goal

pub read_on-requires-clause-part : goal.read_on-requires-clause-part
read_on-requires-clause-part g c =
    let held = held_of c.args.room.now c.args.held.now in
    let short = c.in-Err.ensures.found ∙ ap Err (c.if-is_short.ensures.short refl) in
    omega (arith, held_size c.args.room.now c.args.held.now c.requires, short_is_small held c.in-Err.ensures.bytes short)

pub returns-in-Err-2-clause-found : goal.returns-in-Err-2-clause-found
returns-in-Err-2-clause-found g c =
    let held = held_of c.args.room.now c.args.held.now in
    record {
      taken = [];
      consumed = Consumes-nil _;
      all = sym (append-nil held);
      shows = is_fault held _ c.in-Err.fault c.in-Err.ensures.found (c.if-is_short.ensures.other refl);
    }
