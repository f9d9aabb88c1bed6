use Rattle.std.proofs.Common.{◌≡◌, true, false, arith, ◌<◌, length, nat_eq, ℕ, List, [], ◌∷◌, ◌++◌, take, sym, ◌∙◌, ap, subst}
use Rattle.std.specs.List.{list_any}
use Rattle.std.proofs.lemmas.List.{map_more}
use Rattle.ogg_command.specs.declared.command.NewStream.{NewStream}
use Rattle.import_changes.specs.Naming.{AreNamed, IsKept, serials_of}
use Rattle.std.specs.Map.{keys_of}
use Rattle.import_changes.proofs.Lacks.{fewer_named}
use Rattle.import_changes.proofs.Names.{kept_at, kept_next, named_next, serial_at}
use Rattle.import_changes.proofs.naming.rename_all.Goals as goal

pub loop-stream-preserved : goal.loop-stream-preserved
loop-stream-preserved c =
    let streams : List NewStream = c.args.streams.now in
    let i : ℕ = c.loop-stream.stream-index in
    let given : List ℕ = c.args.given.now.listed in
    let old : List (ℕ × ℕ) = c.loop-stream.names.items in
    let new : List (ℕ × ℕ) = c.rename.new.names.items in
    let serial : ℕ = c.stream-item.result.serial in
    record {
      names = c.in-Ok.ensures.names.are c.loop-stream.invariant.names
          (subst (λ (s : NewStream). IsKept given old s.serial) (sym c.stream-item.is)
          (kept_at given old streams i c.stream-item.result c.loop-stream-test.true c.loop-stream.invariant.kept));
      kept = kept_next given old new (serials_of streams) serial c.loop-stream.invariant.kept c.in-Ok.ensures.names;
      only = c.in-Ok.ensures.names.only (serials_of streams)
          (subst (λ (s : NewStream). list_any (nat_eq s.serial) (serials_of streams) ≡ true) (sym c.stream-item.is)
          (serial_at streams i c.stream-item.result c.loop-stream-test.true))
          c.loop-stream.invariant.only;
      done = subst (AreNamed new)
          (ap (λ (s : NewStream). serials_of (take i streams) ++ s.serial ∷ []) c.stream-item.is
          ∙ sym (map_more (λ (s : NewStream). s.serial) streams i c.stream-item.result c.loop-stream-test.true))
          (named_next given old new (serials_of (take i streams)) serial c.loop-stream.invariant.done c.in-Ok.ensures.names);
      low = c.in-Ok.ensures.low;
      capacity = omega (arith, c.loop-stream.invariant.capacity, c.rename.ensures.capacity);
    }

pub returns-in-Err-clause-unnamed : goal.returns-in-Err-clause-unnamed
returns-in-Err-clause-unnamed c =
    let streams : List NewStream = c.args.streams.now in
    let names : List (ℕ × ℕ) = c.loop-stream.names.items in
    subst (λ (l : List (ℕ × ℕ)). length l < length streams) (sym c.in-Err.ensures.unnamed.0)
    (fewer_named names streams c.loop-stream.stream-index c.stream-item.result c.loop-stream-test.true c.loop-stream.invariant.names.once
    c.loop-stream.invariant.only
    (subst (λ (s : NewStream). list_any (nat_eq s.serial) (keys_of names) ≡ false) c.stream-item.is c.in-Err.ensures.unnamed.1))
