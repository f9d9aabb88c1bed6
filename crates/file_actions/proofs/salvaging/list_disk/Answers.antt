use Rattle.std.proofs.Common.{◌≡◌, ◌≤◌, ◌+◌, ◌++◌, ℕ, List, length, drop, sym, ap, subst, arith, rules, length-append, length-drop}
use Rattle.std.proofs.lemmas.List.{length-take}
use Rattle.std.specs.Io.KnownBytes.{Appends}
use Rattle.std.proofs.KnownBytes.{Appends-trans}
use Rattle.file_actions.specs.Salvage.{AreGoodBetween, page_lines}
use Rattle.file_actions.proofs.Salvaged.{between_all, between_both, lines_both}
use Rattle.file_actions.proofs.salvaging.list_disk.Goals as goal

pub loop-at-preserved : goal.loop-at-preserved
loop-at-preserved g c =
    let inv = c.loop-at.invariant in
    let at : ℕ = c.loop-at.at in
    let to : ℕ = at + c.in-Ok-list_piece.searched in
    record {
      inside = omega (arith, c.in-Ok-list_piece.ensures.within, inv.inside);
      room = omega (
        arith,
        inv.room,
        c.in-Ok-list_piece.ensures.room,
        ap length c.as_mut_slice.ensures.value,
        length-take c.loop-at.room.len (c.list_piece.new.room ++ drop (length c.list_piece.new.room) c.loop-at.room.items),
        length-append c.list_piece.new.room (drop (length c.list_piece.new.room) c.loop-at.room.items),
        length-drop (length c.list_piece.new.room) c.loop-at.room.items,
      );
      honest = search rules;
      same = search rules;
      listed = λ honest.
          let bytes : List ℕ = (g.D.Disk.state c.args.disk.now).contents in
          let (front, good, written) = inv.listed honest in
          let here = inv.honest.0 honest in
          let (pages, more, lines) = c.in-Ok-list_piece.ensures.listed here in
          let same : (g.D.Disk.state c.loop-at.disk).contents ≡ bytes = ap (λ s. s.contents) (inv.same honest) in (
            front ++ pages,
            between_both 0 at to bytes front pages good (subst (λ (l : List ℕ). AreGoodBetween at to l pages) same more),
            subst (Appends (g.W.Write.contents c.args.out.now) (g.W.Write.contents c.list_piece.new.out)) (sym (lines_both front pages))
                (Appends-trans (g.W.Write.contents c.args.out.now) (g.W.Write.contents c.loop-at.out) (g.W.Write.contents c.list_piece.new.out) (page_lines front) (page_lines pages)
                written lines),
          );
    }

pub returns : goal.returns
returns g c = record {
  listed = λ honest.
      let inv = c.loop-at.invariant in
      let bytes : List ℕ = (g.D.Disk.state c.args.disk.now).contents in
      let (pages, good, written) = inv.listed honest in
      let size : c.in-Ok.size ≡ length bytes = c.in-Ok.ensures.len honest in
      let after : length bytes ≤ c.loop-at.at = omega (arith, size) in
      (pages, between_all c.loop-at.at bytes pages after good, written);
}
