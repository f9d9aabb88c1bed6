-- The room of a window: what is read into it, and a page that is lent out of it.
use Rattle.std.proofs.Common.{◌≡◌, ℕ, ◌+◌, ◌-◌, ◌≤◌, min, Bool, true, false, List, [], ◌++◌, length, take, drop, refl, sym, ◌∙◌, ap, subst, arith, append_assoc, length-append, Ok, Err, sum}
use Rattle.std.specs.Prelude.{nat_lt, slice_index}
use Rattle.std.specs.List.{copy_within}
use Rattle.std.proofs.Math.Seq.{take-add}
use Rattle.std.proofs.lemmas.Bool.{ltb-true, ltb-false}
use Rattle.std.proofs.lemmas.List.{length-take-le, length-drop, take-take, take_at, drop-drop, drop-take, append-nil}
use Rattle.ogg_page.specs.Page.{Page, IsPage, AreBytes, page_bytes, page_size}
use Rattle.ogg_page.specs.Reading.{page_at, fields_at, lacing_at, size_at, IsPageOf}
use Rattle.ogg_page.specs.declared.fault.PageFault.{PageFault}
use Rattle.ogg_page.specs.Laws.ReadAgain.{read_is_page, page_is_read, length-page_bytes, passed, known_sizes}
use Rattle.ogg_page.specs.declared.held.Held.{Held}
use Rattle.ogg_page.specs.Room.{HoldsBytes, BeginsWithPage, held_of}
use Rattle.ogg_page.specs.Laws.Sight.{fault_in_front}

-- what is moved to the front
pub front_is : (room : List ℕ) (start end : ℕ) → start ≤ end → end ≤ length room → take (end - start) (copy_within room start end 0) ≡ take (end - start) (drop start room)
front_is room start end o l =
    take_at (take (end - start) (drop start room)) (drop (0 + (end - start)) room) (end - start)
    (length-take-le (end - start) (drop start room) (omega (arith, o, l, length-drop start room)))

-- what was held, and what is read after it
pub joined : (front buffer rest bytes : List ℕ) (kept more at wanted : ℕ) → kept + more ≡ wanted → length front ≡ kept → length buffer ≡ more →
    front ≡ take kept (drop at bytes) → buffer ≡ take more (drop (at + kept) bytes) → take wanted (front ++ (buffer ++ rest)) ≡ take wanted (drop at bytes)
joined front buffer rest bytes kept more at wanted sum_is lf lb f b =
    ap (take wanted) (sym (append_assoc front buffer rest))
    ∙ take_at (front ++ buffer) rest wanted (omega (arith, length-append front buffer, lf, lb, sum_is))
    ∙ ap (λ l. l ++ buffer) f
    ∙ ap (λ l. take kept (drop at bytes) ++ l) (b ∙ ap (take more) (sym (drop-drop kept at bytes)))
    ∙ sym (take-add kept more (drop at bytes))
    ∙ ap (λ n. take n (drop at bytes)) sum_is

-- a fault in what is held, if that is all there is or as much as the longest page has
pub shown : (held bytes : List ℕ) (n at to : ℕ) (fault : PageFault) → AreBytes held → n ≡ min (to - at) 65307 → held ≡ take n (drop at bytes) →
    page_at held ≡ Err fault → page_at (take (to - at) (drop at bytes)) ≡ Err fault
shown held bytes n at to fault h size is e = by_length (nat_lt (to - at) 65307) refl
  where
    by_length : (shorter : Bool) → nat_lt (to - at) 65307 ≡ shorter → page_at (take (to - at) (drop at bytes)) ≡ Err fault
    by_length true short =
        let all : n ≡ to - at = omega (arith, size, ltb-true (to - at) 65307 short) in
        ap (λ m. page_at (take m (drop at bytes))) (sym all) ∙ ap page_at (sym is) ∙ e
    by_length false long =
        let most : n ≡ 65307 = omega (arith, size, ltb-false (to - at) 65307 long) in
        let rest : List ℕ = take (to - at) (drop at bytes) in
        let front : take n rest ≡ held = take-take n (to - at) (drop at bytes) (omega (arith, most, ltb-false (to - at) 65307 long)) ∙ sym is in
        fault_in_front n rest fault (subst AreBytes (sym front) h) (omega (arith, most)) (ap page_at front ∙ e)

-- what is known of a page in front of what is held
pub record Stands (room : List ℕ) (held : Held) (n : ℕ) : Type 0 where
  pub page : Page
  pub is : IsPage page
  pub size : n ≡ page_size page
  pub fits : held.start + n ≤ held.end
  pub front : take n (drop held.start room) ≡ page_bytes page
  pub fields : fields_at (take n (drop held.start room)) ≡ page
  pub read : page_at (take n (drop held.start room)) ≡ Ok (fields_at (take n (drop held.start room)))
  pub whole : n ≡ size_at (take n (drop held.start room))

-- a page's own bytes are as many as its head and its lacing values say
sized : (bytes : List ℕ) (page : Page) → IsPage page → page_at bytes ≡ Ok page → page_size page ≡ size_at bytes
sized bytes page is read =
    let q : IsPageOf bytes (slice_index bytes 26) (sum (lacing_at bytes)) = known_sizes bytes (Ok page) read refl in
    let same : lacing_at bytes ≡ page.lacing = ap (λ (p : Page). p.lacing) (passed bytes page read).page in
    let values : length (lacing_at bytes) ≡ slice_index bytes 26 = length-take-le (slice_index bytes 26) (drop 27 bytes) (omega (arith, q.whole, length-drop 27 bytes)) in
    omega (arith, values, ap length same, ap sum same, is.whole)

pub stands : (room : List ℕ) (held : Held) (n : ℕ) → held.start ≤ held.end → held.end ≤ length room → BeginsWithPage (held_of room held) n → Stands room held n
stands room held n ordered inside begins =
    let bytes : List ℕ = held_of room held in
    let page : Page = begins.page in
    let m : ℕ = held.end - held.start in
    let rest : List ℕ = drop (sum page.lacing) (drop (length page.lacing) (drop 27 bytes)) in
    let both : IsPage page × (bytes ≡ page_bytes page ++ rest) = read_is_page bytes page begins.small begins.read in
    let long : length bytes ≡ m = length-take-le m (drop held.start room) (omega (arith, ordered, inside, length-drop held.start room)) in
    let fits : n ≤ m = omega (arith, begins.fits, long) in
    let front : take n (drop held.start room) ≡ page_bytes page =
    sym (take-take n m (drop held.start room) fits) ∙ ap (take n) both.1 ∙ take_at (page_bytes page) rest n (length-page_bytes page ∙ sym begins.whole) in
    let read : page_at (take n (drop held.start room)) ≡ Ok page =
    ap page_at (front ∙ sym (append-nil (page_bytes page))) ∙ page_is_read page [] both.0 in
    let fields : fields_at (take n (drop held.start room)) ≡ page = (passed (take n (drop held.start room)) page read).page in
    record {
      page = page;
      is = both.0;
      size = begins.whole;
      fits = omega (arith, fits, ordered);
      front = front;
      fields = fields;
      read = read ∙ ap Ok (sym fields);
      whole = begins.whole ∙ sized (take n (drop held.start room)) page both.0 read;
    }

-- what is held after the page is still the source's
pub behind : (bytes : List ℕ) (honest : Type 0) (size : ℕ) (room : List ℕ) (held : Held) (at to n : ℕ) → HoldsBytes bytes honest size room held at to → held.start + n ≤ held.end →
    HoldsBytes bytes honest size room (record { start = held.start + n; end = held.end }) (at + n) to
behind bytes honest size room held at to n holds fits =
    let m : ℕ = held.end - (held.start + n) in
    let parts : n + m ≡ held.end - held.start = omega (arith, fits) in
    record {
      whole = holds.whole;
      ordered = fits;
      fits = holds.fits;
      inside = holds.inside;
      span = omega (arith, holds.span, fits);
      same = λ sure.
          ap (take m) (sym (drop-drop n held.start room))
          ∙ sym (drop-take n m (drop held.start room))
          ∙ ap (λ k. drop n (take k (drop held.start room))) parts
          ∙ ap (drop n) (holds.same sure)
          ∙ ap (λ k. drop n (take k (drop at bytes))) (sym parts)
          ∙ drop-take n m (drop at bytes)
          ∙ ap (take m) (drop-drop n at bytes);
    }

-- the bytes of the range are the page's, and then what is left
pub range_is : (bytes : List ℕ) (honest : Type 0) (size : ℕ) (room : List ℕ) (held : Held) (at to n : ℕ) → HoldsBytes bytes honest size room held at to → honest → (here : Stands room held n) →
    take (to - at) (drop at bytes) ≡ page_bytes here.page ++ take (to - (at + n)) (drop (at + n) bytes)
range_is bytes honest size room held at to n holds sure here =
    let m : ℕ = to - (at + n) in
    let parts : n + m ≡ to - at = omega (arith, holds.span, here.fits) in
    let front : take n (drop at bytes) ≡ page_bytes here.page =
    sym (take-take n (held.end - held.start) (drop at bytes) (omega (arith, here.fits))) ∙ ap (take n) (sym (holds.same sure))
    ∙ take-take n (held.end - held.start) (drop held.start room) (omega (arith, here.fits)) ∙ here.front in
    ap (λ k. take k (drop at bytes)) (sym parts)
    ∙ take-add n m (drop at bytes)
    ∙ ap (λ l. l ++ take m (drop n (drop at bytes))) front
    ∙ ap (λ l. page_bytes here.page ++ take m l) (drop-drop n at bytes)
