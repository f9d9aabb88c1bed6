use Rattle.std.proofs.Common.{◌≡◌, ◌∙◌, None, Ok, Err, Option, Result, ap, refl}
use Rattle.archive_record.specs.FilesState.{FilesState}
use Rattle.archive_record.proofs.Reaching.{asked_back, back_free, back_then, back_then_free, comes_then_written, if_some_where, stays_back}
use Rattle.archive_record.proofs.rotation.Rotation.open_newest.Goals as goal

pub loop-init : goal.loop-init
loop-init g c =
    let f = g.F.Folder in
    let law = c.files_lead_on.ensures in
    let old = c.args.self.now.files in
    record {
      rules = refl;
      empty = λ none. refl;
      leads = λ honest a newest disks at hand. asked_back f.names f.moment f.left_since f.file g.D.Disk law old old a newest disks at hand refl (λ m other is. is) (law.nothing a old.folder disks);
      honest = (λ now. now, λ now. now);
    }

pub returns-in-Ok-clause-leads : goal.returns-in-Ok-clause-leads
returns-in-Ok-clause-leads g c = if_some_where _ _ c.in-Ok.newest (λ (file, r) on. λ honest a last disks at hand.
    let f = g.F.Folder in
    let law = c.files_lead_on.ensures in
    let (b, one, between, number, rests, led) = c.loop.invariant.leads honest a last disks at hand in
    comes_then_written f.names f.moment f.left_since f.file g.D.Disk law c.args.self.now.files c.loop.self.files c.open_newest.new.files a b disks between file.number r led (on (c.loop.invariant.honest.0 honest) b one between led.0 rests))
    c.in-Ok.ensures.leads

pub returns-in-Ok-clause-unopened : goal.returns-in-Ok-clause-unopened
returns-in-Ok-clause-unopened g c = λ is honest a last disks at hand.
    let f = g.F.Folder in
    let law = c.files_lead_on.ensures in
    back_then_free f.names f.moment f.left_since f.file g.D.Disk law c.args.self.now.files c.loop.self.files c.open_newest.new.files a disks last.name.number (c.loop.invariant.leads honest a last disks at hand)
    (c.open_newest.ensures.passed (c.in-Ok.is ∙ ap Ok (same_ok c.in-Ok.newest None is)) (c.loop.invariant.honest.0 honest))
  where
    same_ok : {A E : Type 0} (x y : A) → ◌≡◌ {A = Result A E} (Ok x) (Ok y) → x ≡ y
    same_ok x y same = cc

pub returns-in-Err-Twice-clause-unopened : goal.returns-in-Err-Twice-clause-unopened
returns-in-Err-Twice-clause-unopened g c = λ is honest a last disks at hand.
    let f = g.F.Folder in
    let law = c.files_lead_on.ensures in
    let old = c.args.self.now.files in
    let new = c.open_newest.new.files in
    back_free f.names f.moment f.left_since f.file g.D.Disk law old new a disks last.name.number
    (back_then f.names f.moment f.left_since f.file g.D.Disk law old c.loop.self.files new a disks last.name.number (c.loop.invariant.leads honest a last disks at hand)
    (c.in-Err-Twice.ensures.unopened (c.loop.invariant.honest.0 honest)))

pub returns-then-not-make_room-clause-unopened : goal.returns-then-not-make_room-clause-unopened
returns-then-not-make_room-clause-unopened g c = λ is honest a last disks at hand.
    let f = g.F.Folder in
    let law = c.files_lead_on.ensures in
    let old = c.args.self.now.files in
    let mid = c.open_newest.new.files in
    let new = c.make_room.new.self.files in
    let now = c.loop.invariant.honest.0 honest in
    let then = c.open_newest.ensures.honest.0 now in
    back_free f.names f.moment f.left_since f.file g.D.Disk law old new a disks last.name.number
    (back_then f.names f.moment f.left_since f.file g.D.Disk law old mid new a disks last.name.number
    (back_then f.names f.moment f.left_since f.file g.D.Disk law old c.loop.self.files mid a disks last.name.number (c.loop.invariant.leads honest a last disks at hand) (c.in-Err-Damaged.ensures.unopened now))
    (λ b file after there rests. stays_back f.names f.moment f.left_since f.file g.D.Disk law mid new b file after there rests c.make_room.ensures.left (c.make_room.ensures.places then)
    (c.make_room.ensures.leads then b after there.last there.stands.names_are)))

pub returns-clause-unopened : goal.returns-clause-unopened
returns-clause-unopened g c = λ is honest a last disks at hand.
    let f = g.F.Folder in
    let law = c.files_lead_on.ensures in
    back_free f.names f.moment f.left_since f.file g.D.Disk law c.args.self.now.files c.loop.self.files a disks last.name.number (c.loop.invariant.leads honest a last disks at hand)

pub loop-preserved : goal.loop-preserved
loop-preserved g c =
    let f = g.F.Folder in
    let law = c.files_lead_on.ensures in
    let old = c.args.self.now.files in
    let mid = c.open_newest.new.files in
    let new = c.make_room.new.self.files in
    record {
      rules = c.make_room.ensures.rules ∙ c.loop.invariant.rules;
      empty = λ none. absurd (never c.open_newest.result c.in-Err-Damaged.is
          (c.open_newest.ensures.empty (ap (λ (files : FilesState _). files.files) (c.loop.invariant.empty none) ∙ none)).0);
      leads = λ honest a last disks at hand.
          let now = c.loop.invariant.honest.0 honest in
          let then = c.open_newest.ensures.honest.0 now in
          back_then f.names f.moment f.left_since f.file g.D.Disk law old mid new a disks last.name.number
          (back_then f.names f.moment f.left_since f.file g.D.Disk law old c.loop.self.files mid a disks last.name.number (c.loop.invariant.leads honest a last disks at hand) (c.in-Err-Damaged.ensures.unopened now))
          (λ b file after there rests. stays_back f.names f.moment f.left_since f.file g.D.Disk law mid new b file after there rests c.make_room.ensures.left (c.make_room.ensures.places then)
          (c.make_room.ensures.leads then b after there.last there.stands.names_are));
      honest = (
        λ now. c.make_room.ensures.honest.0 (c.open_newest.ensures.honest.0 (c.loop.invariant.honest.0 now)),
        λ now. c.loop.invariant.honest.1 (c.open_newest.ensures.honest.1 (c.make_room.ensures.honest.1 now)),
      );
    }
  where
    never : {A E : Type 0} {fault : E} (result : Result (Option A) E) → result ≡ Err fault → result ≡ Ok None → ⊥
    never result is other = cc
