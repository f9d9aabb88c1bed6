use Rattle.std.proofs.Common.{◌≡◌, ℕ, ◌+◌, ◌-◌, List, ◌++◌, drop, length, refl, sym, ◌∙◌, ap, subst, arith, drop-drop}
use Rattle.serve_live.specs.Listening.{ArePagesLeft, Gives, IsLeft, ListenerState, part_at}
use Rattle.serve_live.specs.Pulling.{GivesBehind, HasMoved, names_from, names_kept}
use Rattle.serve_live.specs.declared.names.StreamName.{StreamName}
use Rattle.serve_live.proofs.Pulled.{pulled_all, some_of_part, some_after_part}
use Rattle.std.specs.List.{list_any}
use Rattle.ogg_page.specs.LogicalStream.{is_first}
use Rattle.serve_live.proofs.Passing.{from_both}
use Rattle.page_heads.specs.Laws.{later_failed}
use Rattle.serve_live.proofs.listener.Listener.pull.Goals as goal

pub returns-in-Ok-pull_behind-clause-gives : goal.returns-in-Ok-pull_behind-clause-gives
returns-in-Ok-pull_behind-clause-gives g c committed more rest sure is end l0 =
    let inside = c.self.inside in
    let sent : ℕ = inside.sent in
    let items : List ℕ = inside.text.items in
    let names : List StreamName = inside.names.items in
    let start = inside.left in
    let after = c.in-Ok-pull_behind.left in
    let begun : ℕ = c.in-Ok.begun in
    let told : ℕ = c.in-Ok-pull_behind.told in
    let heard : ℕ = c.in-Ok-pull_behind.heard in
    let size : ℕ = length c.args.buffer.now in
    let now : List ℕ = c.pull_behind.new.buffer in
    let l = subst (λ (s : ListenerState). IsLeft committed s rest) (sym c.self.view_is) l0 in
    let read = c.in-Ok.ensures.read committed more sure is l.begins in
    let text_is : c.split_at.result.1.now ≡ drop sent items = c.split_at.ensures.back ∙ ap (drop sent) c.as_slice.ensures.value in
    let names_is : c.as_slice-in-Ok.result.now ≡ names = c.as_slice-in-Ok.ensures.value in
    let pages_left : ArePagesLeft committed (names_kept c.as_slice-in-Ok.result.now start) start.place start.skip l.pages =
    subst (λ (k : List StreamName). ArePagesLeft committed (names_kept k start) start.place start.skip l.pages) (sym names_is) l.pages_left in
    let gives0 = c.in-Ok-pull_behind.ensures.gives committed more l.pages (c.pull_part.ensures.source.honest_same.0 sure) (c.pull_part.ensures.source.bytes_same sure ∙ is) end pages_left in
    let same : length c.pull_part.new.buffer ≡ size = c.pull_part.auto.buffer in
    let room0 : length c.split_at_mut-room.result.1.now + begun ≡ length c.pull_part.new.buffer = c.split_at_mut-room.ensures.back_len in
    let room : length c.split_at_mut-room.result.1.now ≡ size - begun = omega (arith, same, room0) in
    let gives1 = subst (λ (k : List StreamName). GivesBehind committed k c.split_at.result.1.now l.pages (length c.split_at_mut-room.result.1.now) now told heard after) names_is gives0 in
    let gives2 = subst (λ (t : List ℕ). GivesBehind committed names t l.pages (length c.split_at_mut-room.result.1.now) now told heard after) text_is gives1 in
    let gives3 = subst (λ n. GivesBehind committed names (drop sent items) l.pages n now told heard after) room gives2 in
    let both = pulled_all committed rest inside.begin_place inside.begin_left (drop sent items) l.pages names after size begun told heard
    c.split_at_mut-room.result.0.now now (c.split_at_mut-room.result.0.now ++ now) l.joined l.begins read.0 (c.split_at_mut-room.ensures.front ∙ read.1) refl gives3 in
    subst (λ (t : List ℕ). Gives committed rest size (c.split_at_mut-room.result.0.now ++ now) (begun + told + heard)
    (record { begin_place = inside.begin_place + begun; begin_left = inside.begin_left - begun; text = t; names = names_kept names after; place = after.place; skip = after.skip }))
    (drop-drop told sent items) both

pub returns-in-Err-pull_behind-clause-cause : goal.returns-in-Err-pull_behind-clause-cause
returns-in-Err-pull_behind-clause-cause g c committed more rest sure is end l0 err =
    let start = c.self.inside.left in
    let l = subst (λ (s : ListenerState). IsLeft committed s rest) (sym c.self.view_is) l0 in
    let pages_left : ArePagesLeft committed (names_kept c.as_slice-in-Ok.result.now start) start.place start.skip l.pages =
    subst (λ (k : List StreamName). ArePagesLeft committed (names_kept k start) start.place start.skip l.pages) (sym c.as_slice-in-Ok.ensures.value) l.pages_left in
    let size : ℕ = length c.args.buffer.now in
    let behind : List ℕ = c.split_at.result.1.now ++ l.pages in
    let f = c.in-Err-pull_behind.ensures.cause committed more l.pages (c.pull_part.ensures.source.honest_same.0 sure) (c.pull_part.ensures.source.bytes_same sure ∙ is) end pages_left err in
    let text_is = c.split_at.ensures.back ∙ ap (drop c.self.inside.sent) c.as_slice.ensures.value in
    let same : length c.pull_part.new.buffer ≡ size = c.pull_part.auto.buffer in
    let room : length c.split_at_mut-room.result.1.now ≡ size - c.in-Ok.begun = omega (arith, same, c.split_at_mut-room.ensures.back_len) in (
      later_failed _ _ _ c.pull_part.ensures.later f.0,
      some_after_part committed rest c.self.inside.begin_place c.self.inside.begin_left behind size c.in-Ok.begun _
          (l.joined ∙ ap (λ t. part_at c.self.inside.begin_place c.self.inside.begin_left committed ++ (t ++ l.pages)) (sym text_is))
          l.begins (c.in-Ok.ensures.read committed more sure is l.begins).0 room f.1,
    )

pub returns-in-Err-clause-cause : goal.returns-in-Err-clause-cause
returns-in-Err-clause-cause g c committed more rest sure is end l0 err =
    let l = subst (λ (s : ListenerState). IsLeft committed s rest) (sym c.self.view_is) l0 in
    let f = c.in-Err.ensures.cause committed more sure is l.begins err in (
      f.0,
      some_of_part committed rest c.self.inside.begin_place c.self.inside.begin_left _ (length c.args.buffer.now) l.joined l.begins f.1,
    )

pub returns-in-Ok-pull_behind-clause-moves : goal.returns-in-Ok-pull_behind-clause-moves
returns-in-Ok-pull_behind-clause-moves g c committed more rest sure is end l0 =
    let inside = c.self.inside in
    let names : List StreamName = inside.names.items in
    let start = inside.left in
    let after = c.in-Ok-pull_behind.left in
    let l = subst (λ (s : ListenerState). IsLeft committed s rest) (sym c.self.view_is) l0 in
    let pages_left : ArePagesLeft committed (names_kept c.as_slice-in-Ok.result.now start) start.place start.skip l.pages =
    subst (λ (k : List StreamName). ArePagesLeft committed (names_kept k start) start.place start.skip l.pages) (sym c.as_slice-in-Ok.ensures.value) l.pages_left in
    let p = c.in-Ok-pull_behind.ensures.passes committed more l.pages (c.pull_part.ensures.source.honest_same.0 sure) (c.pull_part.ensures.source.bytes_same sure ∙ is) end pages_left in
    let text = drop (inside.sent + c.in-Ok-pull_behind.told) inside.text.items in
    subst (λ (s : ListenerState). HasMoved committed s
    (record { begin_place = inside.begin_place + c.in-Ok.begun; begin_left = inside.begin_left - c.in-Ok.begun; text = text; names = names_from names after.anew; place = after.place; skip = after.skip }))
    c.self.view_is
    (record {
      passed = p.passed;
      are_pages = p.are_pages;
      between = p.between;
      place = p.place;
      names = ap (names_from names) p.anew ∙ from_both names start.anew (list_any is_first p.passed);
    })
