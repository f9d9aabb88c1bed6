use Rattle.std.proofs.Common.{◌≡◌, [], ◌∷◌, ◌++◌, rules}
use Rattle.disk_model.specs.declared.memory.Call.TheVariants.{Write}
use Rattle.disk_model.proofs.memory.write.Goals as goal

pub returns-clause-recorded : goal.returns-clause-recorded
returns-clause-recorded c =
    let same : c.in_ok-copy.copy.items ≡ c.args.bytes.now = search rules in
    let more : c.push_reserved-2.new.self.items ≡ c.args.calls.now.items ++ Write c.args.at c.in_ok-copy.copy ∷ [] = search rules in
    (c.in_ok-copy.copy, same, more)
