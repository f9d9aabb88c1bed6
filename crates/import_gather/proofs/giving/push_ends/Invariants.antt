use Rattle.std.proofs.Common.{◌≡◌, ◌++◌, map, take}
use Rattle.ogg_command.specs.declared.command.Command.TheVariants.{End}
use Rattle.import_gather.proofs.giving.push_ends.Given as goal

-- the ends so far are appended, and no growth was refused
abbrev pub invariant-loop-serial : goal.invariant-loop-serial
invariant-loop-serial l = record {
  ends : l.commands.items ≡ l.fn.commands.items ++ map (λ serial. End serial) (take l.serial-index l.ends);
  noted : l.grower ≡ l.fn.grower;
}
