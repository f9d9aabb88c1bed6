-- Bytes of the room that are passed over.
use Rattle.std.proofs.Common.{◌≡◌, ℕ, ◌+◌, ◌-◌, ◌≤◌, ◌^◌, List, Option, None, take, drop, refl, sym, ◌∙◌, ap, arith}
use Rattle.std.specs.Prelude.{min, Result}
use Rattle.std.proofs.lemmas.List.{drop-drop, drop-take}
use Rattle.ogg_page.specs.Window.{LentAt}
use Rattle.import_pages.specs.Reader.{IsPassed, PassesOver}
use Rattle.import_pages.specs.Room.{IsHeld, held_of}
use Rattle.import_pages.specs.declared.held.Held.{Held}
use Rattle.import_pages.specs.declared.fault.PageReaderFault.{PageReaderFault}
use Rattle.import_pages.proofs.InRoom.{held_size}

later_held : (room : List ℕ) (held : Held) (count : ℕ) → IsHeld room held → count ≤ held.end - held.start →
    held_of room (record held { start = held.start + count }) ≡ drop count (held_of room held)
later_held room held count is fits =
    let size : count + (held.end - (held.start + count)) ≡ held.end - held.start = omega (arith, fits, is.ordered) in
    ap (take (held.end - (held.start + count))) (sym (drop-drop count held.start room))
    ∙ sym (drop-take count (held.end - (held.start + count)) (drop held.start room))
    ∙ ap (λ n. drop count (take n (drop held.start room))) size

pub passed_over : (room : List ℕ) (held : Held) (offset later failures count : ℕ) (lent : Option LentAt) (outcome : Option (Result (Unit {0}) PageReaderFault)) → IsHeld room held
    → IsPassed (held_of room held) count → later ≡ min (offset + count) (2 ^ 64 - 1) →
    PassesOver (record { unread = held_of room held; offset = offset; lent = lent; failures = failures; outcome = outcome }) count
    (record { unread = held_of room (record held { start = held.start + count }); offset = later; lent = None; failures = failures; outcome = None })
passed_over room held offset later failures count lent outcome is passed moved = record {
  passed = passed;
  unread_is = later_held room held count is (omega (arith, passed.inside, held_size room held is));
  offset_is = moved;
  lent_is = refl;
  failures_same = refl;
  goes_on = refl;
}
