-- One step of a window.
use Rattle.std.proofs.Common.{◌≡◌, ◌≢◌, ℕ, ◌+◌, ◌-◌, ◌<◌, ◌≤◌, List, [], ◌++◌, length, take, drop, refl, sym, ◌∙◌, ap, subst, arith, Option, Some, None, Result, Ok, Err}
use Rattle.std.proofs.lemmas.List.{length-take-le, length-drop}
use Rattle.ogg_page.specs.Page.{Page as PageValue, IsPage, page_bytes, page_size}
use Rattle.ogg_page.specs.Reading.{page_at, fields_at, size_at}
use Rattle.ogg_page.specs.declared.held.Held.{Held}
use Rattle.ogg_page.specs.declared.fault.WindowFault.{WindowFault}
use Rattle.ogg_page.specs.declared.fault.WindowFault.TheVariants.{Source, Page}
use Rattle.ogg_page.specs.Window.{LentAt, KeepsSource, HasMoved, HasSourceCause}
use Rattle.ogg_page.specs.Room.{HoldsBytes, IsFoundAt, IsLent}
use Rattle.ogg_page.proofs.Room.{Stands, behind, range_is}

none_some : (fault : WindowFault) → (let none : Option WindowFault = None in none) ≡ Some fault → ⊥
none_some fault e = cc

-- a range that isn't at its end has bytes
pub some_left : (bytes : List ℕ) (at to : ℕ) → at < to → to ≤ length bytes → take (to - at) (drop at bytes) ≢ []
some_left bytes at to below inside e =
    let size : length (take (to - at) (drop at bytes)) ≡ to - at = length-take-le (to - at) (drop at bytes) (omega (arith, inside, length-drop at bytes)) in
    let none : length (take (to - at) (drop at bytes)) ≡ 0 = ap length e in
    omega (arith, size, none, below)

err_ok : (fault : WindowFault) (lent : LentAt) → (let r : Result (Option LentAt) WindowFault = Err fault in r) ≡ Ok (Some lent) → ⊥
err_ok fault lent e = cc

ok_same : (p q : LentAt) → (let r : Result (Option LentAt) WindowFault = Ok (Some q) in r) ≡ Ok (Some p) → p ≡ q
ok_same p q e = cc

-- no page is found
pub failed : {S : Type 0} (bytes : S → List ℕ) (honest : S → Type 0) (size failures : S → ℕ) (only_reads : S → S → Type 0) (old new : S) (at to : ℕ) (was : Option WindowFault) (lent : Option (ℕ × PageValue)) (front : List ℕ) (fault : WindowFault) → was ≡ None →
    (honest old → take (to - at) (drop at (bytes old)) ≢ []) →
    IsFoundAt (honest old) at (take (to - at) (drop at (bytes old))) front (Err fault) → KeepsSource bytes honest size only_reads old new →
    HasSourceCause {T = ℕ} (failures old) (failures new) (Err fault) →
    HasMoved bytes honest size failures only_reads (record { source = old; at = at; to = to; fault = was; lent = lent }) (Err fault) (record { source = new; at = at; to = to; fault = Some fault; lent = None })
failed bytes honest size failures only_reads old new at to was lent front Source free some found keeps cause = record {
  lent = λ sure none. tt;
  passes = λ lent e. absurd (err_ok Source lent e);
  fault = refl;
  stays = λ given e. absurd (none_some given (sym free ∙ e));
  cause = λ none. (cause.0, λ e. cause.1 refl);
  source = keeps;
  to = refl;
}
failed bytes honest size failures only_reads old new at to was lent front (Page offset fault) free some found keeps cause = record {
  lent = λ sure none. (found.0, some sure, found.1 sure);
  passes = λ lent e. absurd (err_ok (Page offset fault) lent e);
  fault = refl;
  stays = λ given e. absurd (none_some given (sym free ∙ e));
  cause = λ none. (cause.0, λ e. cause.1 cc);
  source = keeps;
  to = refl;
}

-- a page is lent
pub moved : {S : Type 0} (bytes : S → List ℕ) (honest : S → Type 0) (size failures : S → ℕ) (only_reads : S → S → Type 0) (old new : S) (at to n : ℕ) (was : Option WindowFault) (lent : Option (ℕ × PageValue)) (room : List ℕ) (held : Held) (page : PageValue) → was ≡ None →
    HoldsBytes (bytes new) (honest new) (size new) room held at to → (here : Stands room held n) → page ≡ here.page → KeepsSource bytes honest size only_reads old new → failures old ≤ failures new →
    HasMoved bytes honest size failures only_reads (record { source = old; at = at; to = to; fault = was; lent = lent }) (Ok (Some (at, page))) (record { source = new; at = at + n; to = to; fault = was; lent = Some (at, page) })
moved bytes honest size failures only_reads old new at to n was lent room held page free holds here same keeps later = record {
  lent = λ sure none. (
    refl,
    subst IsPage (sym same) here.is,
    ap (λ l. take (to - at) (drop at l)) (sym (keeps.bytes_same sure))
        ∙ range_is (bytes new) (honest new) (size new) room held at to n holds (keeps.honest_same.0 sure) here
        ∙ ap (λ p. page_bytes p ++ take (to - (at + n)) (drop (at + n) (bytes new))) (sym same),
    ap (λ k. at + k) here.size ∙ ap (λ p. at + page_size p) (sym same),
  );
  passes = λ given e.
      let is : given ≡ (at, page) = ok_same given (at, page) e in
      record {
        is_page = subst IsPage (sym same ∙ ap (λ (l : LentAt). l.1) (sym is)) here.is;
        offset = ap (λ (l : LentAt). l.0) is;
        behind = ap (λ k. at + k) here.size ∙ ap (λ p. at + page_size p) (sym same) ∙ ap (λ (l : LentAt). at + page_size l.1) (sym is);
        inside = omega (arith, holds.span, here.fits);
      };
  fault = free;
  stays = λ given e. absurd (none_some given (sym free ∙ e));
  cause = λ none. (later, λ e. absurd (ok_err e));
  source = keeps;
  to = refl;
}
  where
    ok_err : (let r : Result (Option (ℕ × PageValue)) WindowFault = Ok (Some (at, page)) in r) ≡ Err Source → ⊥
    ok_err e = cc

-- the room still holds what follows the page, and the page that is lent
pub still : (bytes : List ℕ) (honest : Type 0) (size : ℕ) (room again : List ℕ) (held : Held) (at to n : ℕ) → again ≡ room → HoldsBytes bytes honest size room held at to → (here : Stands room held n) →
    HoldsBytes bytes honest size again (record { start = held.start + n; end = held.end }) (at + n) to × IsLent again (Some (record { offset = at; start = held.start; end = held.start + n }))
still bytes honest size room again held at to n same holds here =
    let exact : n ≡ held.start + n - held.start = omega arith in
    subst (λ (r : List ℕ). HoldsBytes bytes honest size r (record { start = held.start + n; end = held.end }) (at + n) to × IsLent r (Some (record { offset = at; start = held.start; end = held.start + n }))) (sym same) (
      behind bytes honest size room held at to n holds here.fits,
      (
        omega arith,
        omega (arith, here.fits, holds.fits),
        subst (λ k. page_at (take k (drop held.start room)) ≡ Ok (fields_at (take k (drop held.start room)))) exact here.read,
        subst (λ k. k ≡ size_at (take k (drop held.start room))) exact here.whole,
      ),
    )

-- the page that is lent
pub lent_is : (room again : List ℕ) (held : Held) (n : ℕ) → again ≡ room → (here : Stands room held n) → fields_at (take (held.start + n - held.start) (drop held.start again)) ≡ here.page
lent_is room again held n same here =
    let exact : held.start + n - held.start ≡ n = omega arith in
    ap (λ r. fields_at (take (held.start + n - held.start) (drop held.start r))) same
    ∙ ap (λ k. fields_at (take k (drop held.start room))) exact
    ∙ here.fields
