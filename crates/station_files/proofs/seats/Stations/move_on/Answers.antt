use Rattle.std.proofs.Common.{◌≡◌, ℕ, Option, Some, List, refl, sym, ◌∙◌, ap, subst}
use Rattle.std.specs.Prelude.{slice_get}
use Rattle.serve_clients.specs.Client.{ClientState}
use Rattle.station_files.specs.Moving.{EntersAfter, MovesOn}
use Rattle.station_files.specs.Places.{place_of as place_in}
use Rattle.station_files.specs.declared.seats.Next.{Next}
use Rattle.station_files.specs.declared.seats.Past.{Past}
use Rattle.station_files.proofs.Behind.{pushed}
use Rattle.station_files.proofs.seats.Stations.move_on.Goals as goal

one_place : (at other : ℕ) → Some at ≡ Some other → at ≡ other
one_place at other is = cc

pub returns-in_default-leave-clause-moves : goal.returns-in_default-leave-clause-moves
returns-in_default-leave-clause-moves g c at past place found =
    let here = c.in-Some.at in
    let at_is : here ≡ at = one_place here at (sym c.in-Some.is ∙ c.place_of.ensures
    ∙ ap (λ (all : List (Past _)). place_in c.args.seat.station all) c.as_slice.ensures.value ∙ place) in
    let (after, goes, items) = c.leave.ensures.leaves past (subst (λ (k : ℕ). slice_get c.args.self.now.past.items k ≡ Some past) (sym at_is) found) in
    subst (λ (k : ℕ). MovesOn g.D.Disk k c.args.seat past c.args.self.now c.leave.new.self) at_is (record {
      result = c.leave.result;
      after = after;
      between = c.leave.new.self;
      leaves = goes;
      pasts = items;
      rest = c.leave.ensures.rest;
      enters = subst (λ (r : Option (Option ClientState × Next)). EntersAfter here c.args.seat r c.leave.new.self c.leave.new.self) (sym c.in_default-leave.is) refl;
    })

pub returns-clause-moves : goal.returns-clause-moves
returns-clause-moves g c at past place found =
    let here = c.in-Some.at in
    let at_is : here ≡ at = one_place here at (sym c.in-Some.is ∙ c.place_of.ensures
    ∙ ap (λ (all : List (Past _)). place_in c.args.seat.station all) c.as_slice.ensures.value ∙ place) in
    let (after, goes, items) = c.leave.ensures.leaves past (subst (λ (k : ℕ). slice_get c.args.self.now.past.items k ≡ Some past) (sym at_is) found) in
    let entered = c.enter_if-to.new.self in
    subst (λ (k : ℕ). MovesOn g.D.Disk k c.args.seat past c.args.self.now (record entered { moves = c.push.new.self })) at_is (record {
      result = c.leave.result;
      after = after;
      between = c.leave.new.self;
      leaves = goes;
      pasts = items;
      rest = c.leave.ensures.rest;
      enters = subst (λ (r : Option (Option ClientState × Next)). EntersAfter here c.args.seat r c.leave.new.self (record entered { moves = c.push.new.self }))
          (sym c.in-Some-leave.is) (
            c.enter_if-to.result,
            entered,
            c.enter_if-to.ensures,
            refl,
            λ room. pushed c.push.result entered.moves.items c.push.new.self.items (record { from = c.args.seat; to = c.enter_if-to.result })
                (c.push.ensures.succeeds room) c.push.ensures.items,
          );
    })
