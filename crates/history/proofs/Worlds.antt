-- What steps make of a world.
use Rattle.std.specs.Prelude.{◌≡◌, ℕ, ◌+◌, ◌<◌, ◌≤◌, Bool, true, false, List, [], ◌∷◌, ◌++◌, length, refl}
use Rattle.std.proofs.Common.{inl, inr, sym, ◌∙◌, ap, append_assoc, arith}
use Rattle.std.proofs.lemmas.List.{append-nil}
use Rattle.std.specs.List.{AllByRecursion}
use Rattle.std.proofs.lemmas.Grind.{common_steps}
use Rattle.history.specs.World.{World, Call, Opening, Staging, Committing, Flushing, Sealing, Reading, Step, Opened, Held, Kept, Flushed, Refused, Looked, Sealed, GivenBack, Faulted, Stopped, StoppedIn, group_in_doubt, run, happens, acknowledged, acknowledged_since, Session, session, sessions, GroupsUpTo}
use Rattle.history.specs.Commands.{IsPartOf, IsMadeOf}
use Rattle.history.proofs.CommandLists.{part-append, part-self}

pub not_open : {A : Type 0} (b : Bool) → b ≡ false → b ≡ true → A
not_open b is_false is_true = absurd (never b is_false is_true)
  where
    never : (b : Bool) → b ≡ false → b ≡ true → ⊥
    never b is_false is_true = cc

-- what comes after the acknowledged commands
pub record Growth {C D : Type 0} (w : World C) (steps : List (Step C × D)) : Type 0 where
  pub more : List C
  pub is : (run w steps).acknowledged ≡ w.acknowledged ++ more
  pub has : IsPartOf (acknowledged w steps) more
  pub rest : List C
  pub split : more ≡ acknowledged_since w steps ++ rest
  pub made : IsMadeOf (sessions w steps) rest

pub grows : {C D : Type 0} (w : World C) (steps : List (Step C × D)) → Growth w steps
grows w [] = record { more = []; is = sym (append-nil w.acknowledged); has = tt; rest = []; split = refl; made = refl }
grows {C} w ((Opened true, disk) ∷ steps) =
    let on = grows (happens w (Opened true)) steps in
    record {
      more = w.in_doubt ++ on.more;
      is = on.is ∙ append_assoc w.acknowledged w.in_doubt on.more;
      has = part-append [] w.in_doubt _ on.more tt on.has;
      rest = w.in_doubt ++ on.more;
      split = refl;
      made = (on.rest, on.made, inr (ap (λ (l : List C). w.in_doubt ++ l) on.split));
    }
grows {C} w ((Opened false, disk) ∷ steps) =
    let on = grows (happens w (Opened false)) steps in
    record {
      more = on.more;
      is = on.is ∙ append_assoc w.acknowledged [] on.more;
      has = on.has;
      rest = on.more;
      split = refl;
      made = (on.rest, on.made, inl on.split);
    }
grows {C} w ((Kept c, disk) ∷ steps) =
    let on = grows (happens w (Kept c)) steps in
    let group : List C = w.held ++ c ∷ [] in
    record {
      more = group ++ on.more;
      is = on.is ∙ append_assoc w.acknowledged group on.more;
      has = part-append group group _ on.more (part-self group) on.has;
      rest = on.rest;
      split = ap (λ (l : List C). group ++ l) on.split ∙ sym (append_assoc group _ on.rest);
      made = on.made;
    }
grows {C} w ((Flushed, disk) ∷ steps) =
    let on = grows (happens w Flushed) steps in
    record {
      more = w.held ++ on.more;
      is = on.is ∙ append_assoc w.acknowledged w.held on.more;
      has = part-append w.held w.held _ on.more (part-self w.held) on.has;
      rest = on.rest;
      split = ap (λ (l : List C). w.held ++ l) on.split ∙ sym (append_assoc w.held _ on.rest);
      made = on.made;
    }
grows w ((step, disk) ∷ steps) =
    let on = grows (happens w step) steps in
    record { more = on.more; is = on.is; has = on.has; rest = on.rest; split = on.split; made = on.made }

-- groups are no longer than they may be
short_group : {C : Type 0} (most : ℕ) (w : World C) (call : Call C) → length w.held < most → length w.in_doubt ≤ most → length (group_in_doubt w call) ≤ most
short_group most w Opening held in_doubt = in_doubt
short_group most w (Staging c) held in_doubt = in_doubt
short_group most w (Committing c) held in_doubt = grind (arith, common_steps)
short_group most w Flushing held in_doubt = omega (arith, held)
short_group most w Sealing held in_doubt = in_doubt
short_group most w Reading held in_doubt = in_doubt

pub short_groups : {C D : Type 0} (most : ℕ) (w : World C) (steps : List (Step C × D)) → length w.held < most → length w.in_doubt ≤ most → GroupsUpTo most w steps
    → AllByRecursion (λ (s : Session C). length s.in_doubt ≤ most) (sessions w steps ++ session (run w steps).in_doubt [] ∷ [])
short_groups most w [] held in_doubt are = (in_doubt, tt)
short_groups most w ((Opened found, disk) ∷ steps) held in_doubt are = (in_doubt, short_groups most (happens w (Opened found)) steps (omega (arith, held)) (omega arith) are)
short_groups most w ((Held c, disk) ∷ steps) held in_doubt are = short_groups most (happens w (Held c)) steps (one_longer w.held c most are.0) in_doubt are.1
  where
    one_longer : {C : Type 0} (xs : List C) (x : C) (most : ℕ) → length xs + 1 < most → length (xs ++ x ∷ []) < most
    one_longer xs x most below = grind (arith, common_steps)
short_groups most w ((Kept c, disk) ∷ steps) held in_doubt are = short_groups most (happens w (Kept c)) steps (omega (arith, held)) (omega arith) are
short_groups most w ((Flushed, disk) ∷ steps) held in_doubt are = short_groups most (happens w Flushed) steps (omega (arith, held)) (omega arith) are
short_groups most w ((Refused c, disk) ∷ steps) held in_doubt are = short_groups most w steps held in_doubt are
short_groups most w ((Looked, disk) ∷ steps) held in_doubt are = short_groups most w steps held in_doubt are
short_groups most w ((Sealed, disk) ∷ steps) held in_doubt are = short_groups most (happens w Sealed) steps (omega (arith, held)) in_doubt are
short_groups most w ((GivenBack, disk) ∷ steps) held in_doubt are = short_groups most (happens w GivenBack) steps (omega (arith, held)) in_doubt are
short_groups most w ((Stopped, disk) ∷ steps) held in_doubt are = short_groups most (happens w Stopped) steps (omega (arith, held)) in_doubt are
short_groups most w ((Faulted call, disk) ∷ steps) held in_doubt are =
    short_groups most (happens w (Faulted call)) steps (omega (arith, held)) (short_group most w call held in_doubt) are
short_groups most w ((StoppedIn call, disk) ∷ steps) held in_doubt are =
    short_groups most (happens w (StoppedIn call)) steps (omega (arith, held)) (short_group most w call held in_doubt) are
