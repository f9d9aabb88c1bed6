use Rattle.std.proofs.Common.{◌≡◌, false, nat_eq, ℕ, List, [], ◌∷◌, ◌++◌, ◌<◌, length, take, sym, ◌∙◌, ap, subst, arith}
use Rattle.std.specs.List.{list_any}
use Rattle.std.specs.Map.{keys_of}
use Rattle.std.proofs.lemmas.List.{map_more}
use Rattle.ogg_command.specs.declared.command.NewStream.{NewStream}
use Rattle.import_changes.specs.Naming.{KeepsAll, serials_of}
use Rattle.import_changes.proofs.Lacks.{fewer_kept}
use Rattle.import_changes.proofs.Names.{keeps_next, no_names}
use Rattle.import_changes.proofs.naming.keep_all.Goals as goal

pub loop-stream-init : goal.loop-stream-init
loop-stream-init c = record {
  kept = subst (λ l. KeepsAll c.args.given.now.listed l []) (sym c.requires) (no_names c.args.given.now.listed);
  capacity = omega arith;
}

pub loop-stream-preserved : goal.loop-stream-preserved
loop-stream-preserved c =
    let streams : List NewStream = c.args.streams.now in
    let i : ℕ = c.loop-stream.stream-index in
    record {
      kept = subst (KeepsAll c.args.given.now.listed c.keep.new.names.items)
          (ap (λ (s : NewStream). serials_of (take i streams) ++ s.serial ∷ []) c.stream-item.is
          ∙ sym (map_more (λ (s : NewStream). s.serial) streams i c.stream-item.result c.loop-stream-test.true))
          (keeps_next c.args.given.now.listed c.loop-stream.names.items c.keep.new.names.items
          (serials_of (take i streams)) c.stream-item.result.serial c.loop-stream.invariant.kept c.in-Ok.ensures.kept);
      capacity = omega (arith, c.loop-stream.invariant.capacity, c.keep.ensures.capacity);
    }

pub returns-in-Err-clause-unnamed : goal.returns-in-Err-clause-unnamed
returns-in-Err-clause-unnamed c =
    let streams : List NewStream = c.args.streams.now in
    let names : List (ℕ × ℕ) = c.loop-stream.names.items in
    subst (λ (l : List (ℕ × ℕ)). length l < length streams) (sym c.in-Err.ensures.unnamed.0)
    (fewer_kept c.args.given.now.listed names streams c.loop-stream.stream-index c.stream-item.result c.loop-stream-test.true
    c.loop-stream.invariant.kept
    (subst (λ (s : NewStream). list_any (nat_eq s.serial) (keys_of names) ≡ false) c.stream-item.is c.in-Err.ensures.unnamed.1))
