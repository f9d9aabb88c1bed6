use Rattle.std.proofs.Common.{◌≡◌, ◌∙◌, length, take, drop, List, ℕ, ◌++◌, ap}
use Rattle.std.proofs.lemmas.List.{take_at}
use Rattle.import_pages.specs.Room.{held_of, lent_of}
use Rattle.import_pages.proofs.InRoom.{Stands, finds_from, finds_page, moved, stands, still}
use Rattle.import_pages.proofs.reader.PageReader.advance.Goals as goal

pub invariant_of-self : goal.invariant_of-self
invariant_of-self g c =
    let room : List ℕ = c.find.new.room in
    let found = c.in-Ok-Some.ensures in
    let again : List ℕ = take c.self.inside.room.len (room ++ drop (length room) c.self.inside.room.items) in
    let same : again ≡ room = take_at room (drop (length room) c.self.inside.room.items) c.self.inside.room.len (c.find.auto.room ∙ c.deref_mut.ensures.len) in
    let here : Stands room c.find.new.held c.in-Ok-Some.size = stands room c.find.new.held c.in-Ok-Some.size found.held (finds_page _ _ _ _ _ _ c.in-Ok-Some.field-0-is found.found).shows in
    still room again c.find.new.held c.self.inside.offset c.in-Ok-Some.size same found.held here

pub returns-in-Ok-Some-clause-gives : goal.returns-in-Ok-Some-clause-gives
returns-in-Ok-Some-clause-gives g c = rw (← c.self.view_is) (λ none.
    let room : List ℕ = c.find.new.room in
    let found = c.in-Ok-Some.ensures in
    let again : List ℕ = take c.self.inside.room.len (room ++ drop (length room) c.self.inside.room.items) in
    let same : again ≡ room = take_at room (drop (length room) c.self.inside.room.items) c.self.inside.room.len (c.find.auto.room ∙ c.deref_mut.ensures.len) in
    let found_here = finds_page _ _ _ _ _ _ c.in-Ok-Some.field-0-is found.found in
    moved (held_of c.self.inside.room.items c.self.inside.held) c.self.inside.offset c.saturating_add-self-inside.result c.self.inside.failures
    c.find.new.failures
    (lent_of c.self.inside.room.items c.self.inside.lent) c.self.inside.outcome _ _ room again c.find.new.held c.in-Ok-Some.size none found.counted same found.held
    (finds_from _ _ _ _ _ _ (ap (λ r. held_of r c.self.inside.held) c.deref_mut.ensures.value) found_here) c.saturating_add-self-inside.ensures)
