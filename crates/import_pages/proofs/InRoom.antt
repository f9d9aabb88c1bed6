-- The room of a page reader: what is read into it, and a page that is lent out of it.
use Rattle.std.proofs.Common.{◌≡◌, ℕ, ◌+◌, ◌-◌, ◌≤◌, ◌<◌, List, [], Option, append_assoc, length-append, ◌≢◌, ◌^◌, min, Some, None, refl, sum, Result, Err, ◌++◌, length, take, drop, sym, ◌∙◌, ap, subst, arith, Ok}
use Rattle.std.proofs.Math.Seq.{take-add}
use Rattle.std.proofs.lemmas.List.{length-take-le, length-drop, take-take, take_at, drop_at, drop-append-le, drop-drop, drop-take, append-nil}
use Rattle.ogg_page.specs.Page.{Page, IsPage, AreBytes, page_bytes, page_size}
use Rattle.ogg_page.specs.declared.fault.PageFault.{PageFault}
use Rattle.ogg_page.specs.declared.fault.PageFault.TheVariants.{Short}
use Rattle.import_pages.specs.Reader.{HasAdvanced, IsFaultOf}
use Rattle.import_pages.proofs.Definite.{fault_stays, short_is_small}
use Rattle.ogg_page.specs.Reading.{page_at, fields_at}
use Rattle.ogg_page.specs.Laws.ReadAgain.{read_is_page, page_is_read, length-page_bytes, passed}
use Rattle.import_pages.specs.declared.held.Held.{Held}
use Rattle.std.specs.Io.KnownBytes.{Consumes}
use Rattle.std.proofs.KnownBytes.{Consumes-trans}
use Rattle.ogg_page.specs.Window.{LentAt}
use Rattle.import_pages.specs.declared.fault.PageReaderFault.{PageReaderFault}
use Rattle.ogg_page.specs.Room.{BeginsWithPage}
use Rattle.import_pages.specs.Room.{Finds, IsHeld, IsLent, ReadsMore, held_of}

-- what is held, and then what is read after it
pub read_behind_held : (room front read : List ℕ) (start end count : ℕ) → start ≤ end → end ≤ length room → front ≡ take end room →
    take (end + count - start) (drop start (front ++ read)) ≡ take (end - start) (drop start room) ++ take count read
read_behind_held room front read start end count ordered inside is =
    let kept : ℕ = end - start in
    let part : List ℕ = take kept (drop start room) in
    let size : end + count - start ≡ kept + count = omega (arith, ordered) in
    let front_size : length front ≡ end = ap length is ∙ length-take-le end room inside in
    let part_size : length part ≡ kept = length-take-le kept (drop start room) (omega (arith, ordered, inside, length-drop start room)) in
    let parts : start + kept ≡ end = omega (arith, ordered) in
    let same : drop start front ≡ part =
    ap (drop start) is ∙ ap (λ n. drop start (take n room)) (sym parts) ∙ drop-take start kept room in
    let all : drop start (front ++ read) ≡ part ++ read =
    drop-append-le start front read (omega (arith, ordered, front_size)) ∙ ap (λ l. l ++ read) same in
    ap (λ n. take n (drop start (front ++ read))) size
    ∙ ap (take (kept + count)) all
    ∙ take-add kept count (part ++ read)
    ∙ ap (λ l. l ++ take count (drop kept (part ++ read))) (take_at part read kept part_size)
    ∙ ap (λ l. part ++ take count l) (drop_at part read kept part_size)

-- what the reads so far have left: each added a byte, and a page's beginning is held
pub record HasRead (before : List ℕ) (from : Option (List ℕ)) (count : ℕ) (room : List ℕ) (held : Held) (left : Option (List ℕ)) : Type 0 where
  pub is : IsHeld room held
  pub taken : List ℕ
  pub consumed : Consumes from left taken
  pub all : held_of room held ≡ before ++ taken
  pub part : held.end - held.start < 65307
  pub counted : count ≤ held.end - held.start

-- how many bytes are held
pub held_size : (room : List ℕ) (held : Held) → IsHeld room held → length (held_of room held) ≡ held.end - held.start
held_size room held is = length-take-le (held.end - held.start) (drop held.start room) (omega (arith, is.ordered, is.fits, is.whole, length-drop held.start room))

-- one read more
pub record OneMore (before : List ℕ) (from : Option (List ℕ)) (now : List ℕ) (left : Option (List ℕ)) : Type 0 where
  pub taken : List ℕ
  pub consumed : Consumes from left taken
  pub all : now ≡ before ++ taken

pub one_more : (before : List ℕ) (from : Option (List ℕ)) (count n : ℕ) (room : List ℕ) (held : Held) (middle : Option (List ℕ)) (now : List ℕ) (left : Option (List ℕ)) →
    HasRead before from count room held middle → ReadsMore (held_of room held) middle n now left → OneMore before from now left
one_more before from count n room held middle now left was more = record {
  taken = was.taken ++ more.taken;
  consumed = Consumes-trans from middle left was.taken more.taken was.consumed more.consumed;
  all = more.all ∙ ap (λ l. l ++ more.taken) was.all ∙ append_assoc before was.taken more.taken;
}

-- the page's beginning after one read more
pub reads_on : (before : List ℕ) (from : Option (List ℕ)) (count n : ℕ) (room : List ℕ) (held : Held) (middle : Option (List ℕ)) (again : List ℕ) (now : Held) (left : Option (List ℕ)) →
    HasRead before from count room held middle → ReadsMore (held_of room held) middle n (held_of again now) left → n ≢ 0 →
    IsHeld again now → AreBytes (held_of again now) → page_at (held_of again now) ≡ Err Short → HasRead before from (count + 1) again now left
reads_on before from count n room held middle again now left was more some is small short =
    let all = one_more before from count n room held middle (held_of again now) left was more in
    let size : length (held_of again now) ≡ now.end - now.start = held_size again now is in
    let was_size : length (held_of room held) ≡ held.end - held.start = held_size room held was.is in
    record {
      is = is;
      taken = all.taken;
      consumed = all.consumed;
      all = all.all;
      part = omega (arith, size, short_is_small (held_of again now) small short);
      counted = omega (arith, was.counted, size, was_size, ap length more.all, length-append (held_of room held) more.taken, more.counted, some);
    }

nothing_is_short : page_at [] ≡ Err Short
unfolding page_at
nothing_is_short = refl

-- bytes at fault are some
some_at_fault : (bytes : List ℕ) (fault : PageFault) → page_at bytes ≡ Err fault → fault ≢ Short → bytes ≢ []
some_at_fault bytes fault read other none = other (same_fault fault (sym read ∙ ap page_at none ∙ nothing_is_short))
  where
    same_fault : (fault : PageFault) → (let r : Result Page PageFault = Err fault in r) ≡ Err Short → fault ≡ Short
    same_fault fault e = cc

-- what is definitely wrong
pub is_fault : (bytes : List ℕ) (left : Option (List ℕ)) (fault : PageFault) → page_at bytes ≡ Err fault → fault ≢ Short → IsFaultOf bytes left fault
is_fault bytes left fault read other = record {
  some = some_at_fault bytes fault read other;
  read = read;
  short = λ is. absurd (other is);
  definite = λ _ more. fault_stays bytes more fault other read;
}

-- what is known of a page in front of what is held
pub record Stands (room : List ℕ) (held : Held) (n : ℕ) : Type 0 where
  pub page : Page
  pub is : IsPage page
  pub size : n ≡ page_size page
  pub fits : held.start + n ≤ held.end
  pub fields : fields_at (take n (drop held.start room)) ≡ page
  pub read : page_at (take n (drop held.start room)) ≡ Ok (fields_at (take n (drop held.start room)))
  pub joined : held_of room held ≡ page_bytes page ++ held_of room (record { start = held.start + n; end = held.end })

pub stands : (room : List ℕ) (held : Held) (n : ℕ) → IsHeld room held → BeginsWithPage (held_of room held) n → Stands room held n
stands room held n whole begins =
    let bytes : List ℕ = held_of room held in
    let page : Page = begins.page in
    let m : ℕ = held.end - held.start in
    let tail : List ℕ = drop held.start room in
    let rest : List ℕ = drop (sum page.lacing) (drop (length page.lacing) (drop 27 bytes)) in
    let both : IsPage page × (bytes ≡ page_bytes page ++ rest) = read_is_page bytes page begins.small begins.read in
    let fits : n ≤ m = omega (arith, begins.fits, held_size room held whole) in
    let behind : ℕ = held.end - (held.start + n) in
    let parts : m ≡ n + behind = omega (arith, fits, whole.ordered) in
    let front : take n tail ≡ page_bytes page =
    sym (take-take n m tail fits) ∙ ap (take n) both.1 ∙ take_at (page_bytes page) rest n (length-page_bytes page ∙ sym begins.whole) in
    let read : page_at (take n tail) ≡ Ok page = ap page_at (front ∙ sym (append-nil (page_bytes page))) ∙ page_is_read page [] both.0 in
    let fields : fields_at (take n tail) ≡ page = (passed (take n tail) page read).page in
    record {
      page = page;
      is = both.0;
      size = begins.whole;
      fits = omega (arith, fits, whole.ordered);
      fields = fields;
      read = read ∙ ap Ok (sym fields);
      joined = ap (λ k. take k tail) parts ∙ take-add n behind tail ∙ ap (λ l. l ++ take behind (drop n tail)) front
          ∙ ap (λ l. page_bytes page ++ take behind l) (drop-drop n held.start room);
    }

-- the room still holds what follows the page, and the page that is lent
pub still : (room again : List ℕ) (held : Held) (offset n : ℕ) → again ≡ room → IsHeld room held → Stands room held n →
    IsHeld again (record { start = held.start + n; end = held.end }) × IsLent again (Some (record { offset = offset; start = held.start; end = held.start + n }))
still room again held offset n same holds here =
    let exact : n ≡ held.start + n - held.start = omega arith in
    subst (λ (r : List ℕ). IsHeld r (record { start = held.start + n; end = held.end }) × IsLent r (Some (record { offset = offset; start = held.start; end = held.start + n }))) (sym same) (
      record { whole = holds.whole; ordered = here.fits; fits = holds.fits },
      (
        omega arith,
        omega (arith, here.fits, holds.fits),
        subst (λ k. page_at (take k (drop held.start room)) ≡ Ok (fields_at (take k (drop held.start room)))) exact here.read,
      ),
    )

-- a page is lent
pub moved : (before : List ℕ) (offset behind failures now : ℕ) (was : Option LentAt) (outcome : Option (Result (Unit {0}) PageReaderFault)) (from left : Option (List ℕ)) (room again : List ℕ) (held : Held) (n : ℕ) →
    outcome ≡ None → now ≡ failures → again ≡ room → IsHeld room held → Finds before from (Ok (Some n)) (held_of room held) left → behind ≡ min (offset + n) (2 ^ 64 - 1) →
    HasAdvanced (record { unread = before; offset = offset; lent = was; failures = failures; outcome = outcome }) from (Ok tt)
    (record { unread = held_of again (record { start = held.start + n; end = held.end }); offset = behind; lent = Some (offset, fields_at (take (held.start + n - held.start) (drop held.start again))); failures = now; outcome = outcome }) left
moved before offset behind failures now was outcome from left room again held n none counted same holds found size =
    let here : Stands room held n = stands room held n holds found.shows in
    let exact : held.start + n - held.start ≡ n = omega arith in
    let page : fields_at (take (held.start + n - held.start) (drop held.start again)) ≡ here.page =
    ap (λ r. fields_at (take (held.start + n - held.start) (drop held.start r))) same
    ∙ ap (λ k. fields_at (take k (drop held.start room))) exact
    ∙ here.fields in
    record {
      taken = found.taken;
      consumed = found.consumed;
      gives = record {
        is_page = subst IsPage (sym page) here.is;
        joined = sym found.all ∙ here.joined
            ∙ ap (λ r. page_bytes here.page ++ held_of r (record { start = held.start + n; end = held.end })) (sym same)
            ∙ ap (λ p. page_bytes p ++ held_of again (record { start = held.start + n; end = held.end })) (sym page);
        offset_is = refl;
        behind = size ∙ ap (λ k. min (offset + k) (2 ^ 64 - 1)) here.size ∙ ap (λ p. min (offset + page_size p) (2 ^ 64 - 1)) (sym page);
        goes_on = none;
      };
      cause = counted;
    }

-- what is found, if that is a page
pub finds_page : (before : List ℕ) (from : Option (List ℕ)) (result : Option ℕ) (n : ℕ) (now : List ℕ) (left : Option (List ℕ)) → result ≡ Some n →
    Finds before from (Ok result) now left → Finds before from (Ok (Some n)) now left
finds_page before from result n now left is found = subst (λ (r : Option ℕ). Finds before from (Ok r) now left) is found

pub finds_from : (before again : List ℕ) (from : Option (List ℕ)) (result : Result (Option ℕ) PageReaderFault) (now : List ℕ) (left : Option (List ℕ)) → before ≡ again →
    Finds before from result now left → Finds again from result now left
finds_from before again from result now left is found = subst (λ (l : List ℕ). Finds l from result now left) is found
