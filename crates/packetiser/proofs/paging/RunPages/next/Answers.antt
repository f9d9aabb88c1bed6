use Rattle.std.proofs.Common.{◌≡◌, ℕ, ◌+◌, ◌<◌, List, [], length, map, drop, refl, sym, ◌∙◌, ap, subst, arith, length-drop}
use Rattle.std.proofs.lemmas.List.{length-map, drop-drop}
use Rattle.ogg_page.specs.Page.{Page}
use Rattle.packetiser.specs.Run.{Timed, pages_of_run, pages_for, run_lacing, flagged}
use Rattle.packetiser.specs.Place.{next_page, IsBehind}
use Rattle.packetiser.proofs.Placing.{at_next}
use Rattle.packetiser.proofs.PageByPage.{count_of_pages, drop_map, drop_past, next_at_place}
use Rattle.packetiser.proofs.paging.RunPages.next.Goals as goal

pub returns-then-self : goal.returns-then-self
returns-then-self g c =
    let in_it = c.self.inside in
    let run : List Timed = map g.T.TimedPacket.timed in_it.run.now in
    let pages : List Page = flagged in_it.flags (pages_of_run in_it.serial in_it.first_sequence run) in
    let all : length pages ≡ in_it.count = count_of_pages in_it.serial in_it.first_sequence in_it.flags run ∙ sym c.self.invariant.count_is in
    let none : c.args.self.now ≡ [] = sym c.self.view_is ∙ drop_past in_it.next pages (omega (arith, all, c.if-self.true)) in
    (none, none, refl)

pub invariant_of-self : goal.invariant_of-self
invariant_of-self g c =
    let in_it = c.self.inside in
    let timed = g.T.TimedPacket.timed in
    let run : List Timed = map timed in_it.run.now in
    let e : ℕ = c.make_page-ended.result.0 in
    let done : ℕ = c.make_page-ended.result.1 in
    let is = c.self.invariant in
    let lt : in_it.next < pages_for (length (run_lacing run)) = omega (arith, is.count_is, is.before, c.if-self.false) in
    let rest : map timed c.split_at.result.1.now ≡ drop in_it.ended run =
    ap (map timed) c.split_at.ensures.back ∙ drop_map timed in_it.ended in_it.run.now in
    let behind : IsBehind in_it.done (drop in_it.ended run) done (drop (in_it.ended + e) run) =
    subst (λ l. IsBehind in_it.done (drop in_it.ended run) done l) (drop-drop e in_it.ended run)
    (subst (λ (l : List Timed). IsBehind in_it.done l done (drop e l)) rest c.make_page-ended.ensures.behind) in
    let size : length (map timed c.split_at.result.1.now) ≡ length c.split_at.result.1.now = length-map c.split_at.result.1.now timed in
    record {
      place = at_next run in_it.next in_it.done (drop in_it.ended run) done (drop (in_it.ended + e) run) lt is.place behind;
      within = omega (arith, c.make_page-ended.ensures.few, size, ap length rest, length-drop in_it.ended run, is.within);
      count_is = is.count_is;
      numbers = is.numbers;
      few = is.few;
      before = omega (arith, is.before, c.if-self.false);
    }

-- the page that is made is the first of those that are left
pub make_page-ended-requires-clause-room : goal.make_page-ended-requires-clause-room
make_page-ended-requires-clause-room g c =
    let in_it = c.self.inside in
    let timed = g.T.TimedPacket.timed in
    let run : List Timed = map timed in_it.run.now in
    let is = c.self.invariant in
    let lt : in_it.next < pages_for (length (run_lacing run)) = omega (arith, is.count_is, is.before, c.if-self.false) in
    c.requires _ _ (sym c.self.view_is ∙ next_at_place in_it.serial in_it.first_sequence in_it.flags in_it.next in_it.done run (drop in_it.ended run) is.place lt
    (c.from.result + in_it.next) c.added_flags-flags.result (map timed c.split_at.result.1.now) (ap (λ n. n + in_it.next) c.from.ensures) c.added_flags-flags.ensures.value
    (ap (map timed) c.split_at.ensures.back ∙ drop_map timed in_it.ended in_it.run.now))

pub returns : goal.returns
returns g c =
    let in_it = c.self.inside in
    let timed = g.T.TimedPacket.timed in
    let run : List Timed = map timed in_it.run.now in
    let is = c.self.invariant in
    let lt : in_it.next < pages_for (length (run_lacing run)) = omega (arith, is.count_is, is.before, c.if-self.false) in (
      next_page in_it.serial (c.from.result + in_it.next) c.added_flags-flags.result in_it.done (map timed c.split_at.result.1.now),
      sym c.self.view_is ∙ next_at_place in_it.serial in_it.first_sequence in_it.flags in_it.next in_it.done run (drop in_it.ended run) is.place lt
          (c.from.result + in_it.next) c.added_flags-flags.result (map timed c.split_at.result.1.now) (ap (λ n. n + in_it.next) c.from.ensures) c.added_flags-flags.ensures.value
          (ap (map timed) c.split_at.ensures.back ∙ drop_map timed in_it.ended in_it.run.now),
      c.make_page-ended.ensures.page,
    )
