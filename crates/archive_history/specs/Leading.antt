-- Which account and point calls lead to. Ours.
use Rattle.std.specs.Prelude.{◌≡◌, ℕ, List, [], ◌∷◌, ◌++◌, refl}
use Rattle.std.proofs.Common.{sym, ◌∙◌, subst}
use Rattle.disk_model.specs.declared.disk.Disk.{Ghosts as DiskModel}
use Rattle.archive_folder.specs.declared.names.Name.{Name}
use Rattle.archive_history.specs.Archive.{Archive, names}
use Rattle.archive_history.specs.History.{Point, Event, IsEvent, AreEvents, account_after, point_after}

module _ {F D S C : Type 0} (names_in : F → List Name) (moment : F → ℕ) (left_since : F → ℕ → List ℕ → Type 0) (model : DiskModel D)
    (shows : List ℕ → S → Type 0) (accepts : S → C → Type 0) (next : S → C → S) (first : S) where
  -- There are events that lead from this account and point to the others.
  pub record Leads (a : Archive C) (old : Point F D) (b : Archive C) (new : Point F D) : Type 0 where
    pub events : List (Event C × Archive C × Point F D)
    pub are : AreEvents names_in moment left_since model shows accepts next first a old events
    pub leads : account_after a events ≡ b
    pub ends : point_after old events ≡ new

  -- nothing was done
  pub stays : (a : Archive C) (here : Point F D) → Leads a here a here
  stays a here = record { events = []; are = tt; leads = refl; ends = refl }

  -- one event
  pub by_event : (a b : Archive C) (event : Event C) (old new : Point F D) → IsEvent names_in moment left_since model shows accepts next first a event b old new
      → names_in new.folder ≡ names b → Leads a old b new
  by_event a b event old new is same = record { events = (event, b, new) ∷ []; are = (is, same, tt); leads = refl; ends = refl }

  pub are_both : (a : Archive C) (old : Point F D) (xs ys : List (Event C × Archive C × Point F D)) → AreEvents names_in moment left_since model shows accepts next first a old xs
      → AreEvents names_in moment left_since model shows accepts next first (account_after a xs) (point_after old xs) ys
      → AreEvents names_in moment left_since model shows accepts next first a old (xs ++ ys)
  are_both a old [] ys p q = q
  are_both a old ((event, b, new) ∷ xs) ys p q = (p.0, p.1, are_both b new xs ys p.2 q)

  pub account_both : (a : Archive C) (xs ys : List (Event C × Archive C × Point F D)) → account_after a (xs ++ ys) ≡ account_after (account_after a xs) ys
  account_both a [] ys = refl
  account_both a ((event, b, new) ∷ xs) ys = account_both b xs ys

  pub point_both : (old : Point F D) (xs ys : List (Event C × Archive C × Point F D)) → point_after old (xs ++ ys) ≡ point_after (point_after old xs) ys
  point_both old [] ys = refl
  point_both old ((event, b, new) ∷ xs) ys = point_both new xs ys

  -- some calls, and then others
  pub and_then : (a b c : Archive C) (old mid new : Point F D) → Leads a old b mid → Leads b mid c new → Leads a old c new
  and_then a b c old mid new p q =
      let xs = p.events in
      let ys = q.events in
      let here : AreEvents names_in moment left_since model shows accepts next first (account_after a xs) (point_after old xs) ys =
      subst (λ (x : Archive C). AreEvents names_in moment left_since model shows accepts next first x (point_after old xs) ys) (sym p.leads)
      (subst (λ (x : Point F D). AreEvents names_in moment left_since model shows accepts next first b x ys) (sym p.ends) q.are) in
      record {
        events = xs ++ ys;
        are = are_both a old xs ys p.are here;
        leads = account_both a xs ys ∙ (λ i. account_after (p.leads i) ys) ∙ q.leads;
        ends = point_both old xs ys ∙ (λ i. point_after (p.ends i) ys) ∙ q.ends;
      }
