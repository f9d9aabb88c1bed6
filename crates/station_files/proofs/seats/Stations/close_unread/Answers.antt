use Rattle.std.proofs.Common.{◌≡◌, Some, List, sym, ◌∙◌, subst}
use Rattle.std.specs.Prelude.{slice_get}
use Rattle.station_files.specs.declared.seats.Past.{Past}
use Rattle.station_files.proofs.Placed.{at_front}
use Rattle.station_files.proofs.seats.Stations.close_unread.Goals as goal

pub returns-clause-closed : goal.returns-clause-closed
returns-clause-closed g c = (
  c.unread-count.result,
  c.drop-drain.ensures.items ∙ c.drain.ensures.kept,
  λ at one below found. c.unread-count.ensures.none at one below
      (subst (λ (all : List (Past _)). slice_get all at ≡ Some one) (sym c.as_slice.ensures.value) found),
)

pub returns-clause-next : goal.returns-clause-next
returns-clause-next g c one later is =
    let count = c.unread-count.result in
    c.unread-count.ensures.next one (subst (λ (all : List (Past _)). slice_get all count ≡ Some one) (sym c.as_slice.ensures.value)
    (at_front c.args.self.now.past.items count one later (sym (c.drop-drain.ensures.items ∙ c.drain.ensures.kept) ∙ is)))
