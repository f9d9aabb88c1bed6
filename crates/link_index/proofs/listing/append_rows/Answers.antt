use Rattle.std.proofs.Common.{[], refl, sym, arith}
use Rattle.std.proofs.lemmas.List.{append-nil}
use Rattle.link_index.proofs.Packing.{packed_inside}
use Rattle.link_index.proofs.listing.append_rows.Goals as goal

pub loop-row-init : goal.loop-row-init
loop-row-init c = record {
  items = refl;
  kept = ([], sym (append-nil c.args.out.now.items));
  counted = refl;
  capacity = omega arith;
  inside = packed_inside c.args.rows.now 0 _ c.requires;
  number = omega arith;
}
