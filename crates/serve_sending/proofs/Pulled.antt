-- How far a pull of a stream's rest has come.
use Rattle.std.proofs.Common.{◌≡◌, ℕ, ◌+◌, ◌≤◌, List, ◌++◌, length, take, drop, sym, ◌∙◌, ap, subst, arith, drop-drop, length-drop}
use Rattle.std.proofs.lemmas.List.{length-take-le}
use Rattle.std.proofs.Math.Seq.{take-add}
use Rattle.ogg_page.specs.Page.{Page, page_bytes}
use Rattle.serve_machine.specs.Places.{part_at, IsStreamRest}
use Rattle.serve_sending.specs.Walking.{IsGivenOf, IsPulled}
use Rattle.serve_sending.specs.declared.walking.StreamLeft.{StreamLeft}
use Rattle.page_heads.specs.Laws.{front_two}

-- nothing of a page was given, and it was passed
pub none_given : (committed rest : List ℕ) (serial : ℕ) (left after : StreamLeft) (given n : ℕ) (now : List ℕ) (page : Page)
    → IsPulled committed rest serial left given now → n ≡ 0 → after.count ≡ left.count
    → IsGivenOf page committed (drop given rest) serial left n after → IsPulled committed rest serial after given now
none_given committed rest serial left after given n now page b none count g =
    record {
      taken = b.taken;
      total = omega (arith, b.total, count);
      is_rest = subst (λ k. IsStreamRest committed serial after.place after.skip after.count (drop k (drop given rest))) none g.is_rest;
    }

-- the next bytes of the page were given
pub some_given : (committed rest : List ℕ) (serial : ℕ) (left after : StreamLeft) (given n : ℕ) (before part now : List ℕ) (page : Page)
    → IsPulled committed rest serial left given before → given ≤ length before → n + after.count ≡ left.count
    → now ≡ take given before ++ (part ++ drop (given + n) before) → part ≡ part_at left.skip n (page_bytes page)
    → IsGivenOf page committed (drop given rest) serial left n after → IsPulled committed rest serial after (given + n) now
some_given committed rest serial left after given n before part now page b room count copied is g =
    let own : take n (drop given rest) ≡ part = g.given ∙ sym is in
    let some : n ≤ length (drop given rest) = let len = length-drop given rest in omega (arith, len, b.total, count) in
    let size : length part ≡ n = ap length (sym own) ∙ length-take-le n (drop given rest) some in
    record {
      taken = ap (take (given + n)) copied
          ∙ front_two (take given before) part (drop (given + n) before) given n (length-take-le given before room) size
          ∙ ap (λ l. l ++ part) b.taken ∙ ap (λ l. take given rest ++ l) (sym own) ∙ sym (take-add given n rest);
      total = omega (arith, b.total, count);
      is_rest = subst (IsStreamRest committed serial after.place after.skip after.count) (drop-drop n given rest) g.is_rest;
    }
