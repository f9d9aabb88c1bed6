-- What a run of calls lends is what is found.
use Rattle.std.proofs.Common.{◌≡◌, ◌≢◌, ℕ, ◌+◌, ◌<◌, ◌^◌, List, [], ◌∷◌, ◌++◌, length, refl, sym, ◌∙◌, ap, arith, append_assoc, length-append, Option, Some, None, Result, Ok, Err}
use Rattle.std.specs.Io.KnownBytes.{Consumes}
use Rattle.ogg_page.specs.Page.{Page as PageValue, page_bytes, page_size}
use Rattle.ogg_page.specs.Pages.{FoundPage, found_in}
use Rattle.ogg_page.specs.PagesLaws.{found-nothing, found-fault, found-page}
use Rattle.ogg_page.specs.Window.{LentAt, found}
use Rattle.ogg_page.specs.Laws.ReadAgain.{length-page_bytes}
use Rattle.ogg_page.specs.declared.fault.PageFault.{PageFault}
use Rattle.import_pages.specs.declared.fault.PageReaderFault.{PageReaderFault}
use Rattle.import_pages.specs.declared.fault.PageReaderFault.TheVariants.{Page, Read}
use Rattle.import_pages.specs.Laws.{joined, page_given, whole_fault}
use Rattle.import_pages.specs.Reader.{AreAll, Gives, GivesPage, IsRun, ReaderState}

abbrev page_found : ℕ → PageValue → FoundPage
page_found offset page = Ok (offset, page)

abbrev fault_found : ℕ → PageFault → FoundPage
fault_found offset fault = Err (offset, fault)

longer_is_some : (bytes rest : List ℕ) → bytes ≢ [] → bytes ++ rest ≢ []
longer_is_some [] rest some = absurd (some refl)
longer_is_some (x ∷ bytes) rest some = λ e. cc

-- the end of a run
end_given : (unread bytes taken : List ℕ) (left : Option (List ℕ)) (offset : ℕ) (end : Result (Unit {0}) PageReaderFault) (lent : Option LentAt) (last : ReaderState) →
    lent ≡ None → Consumes (Some bytes) left taken → Gives (unread ++ taken) left offset end lent last → AreAll (found_in offset (unread ++ bytes)) [] end last.offset
end_given unread bytes taken None offset end lent last none consumed gives = absurd consumed
end_given unread bytes taken (Some rest) offset (Ok done) (Some page) last none consumed gives = cc
end_given unread bytes taken (Some rest) offset (Ok done) None last none consumed gives =
    ap (found_in offset) (joined unread bytes taken rest consumed ∙ ap (λ l. l ++ rest) gives.none ∙ gives.at_end) ∙ found-nothing offset
end_given unread bytes taken (Some rest) offset (Err (Page fault)) lent last none consumed gives =
    ap (found_in offset) (joined unread bytes taken rest consumed)
    ∙ found-fault offset ((unread ++ taken) ++ rest) fault (longer_is_some (unread ++ taken) rest gives.fault_is.some) (whole_fault (unread ++ taken) rest fault gives.fault_is)
    ∙ ap (λ n. fault_found n fault ∷ []) (sym gives.offset_is)
end_given unread bytes taken (Some rest) offset (Err Read) lent last none consumed gives = (found_in offset (unread ++ bytes), refl)

-- a page, and then what is found after it
record PageGiven (state : ReaderState) (bytes rest : List ℕ) (lent : LentAt) (new : ReaderState) : Type 0 where
  all : found_in state.offset (state.unread ++ bytes) ≡ found lent ∷ found_in new.offset (new.unread ++ rest)
  fits : new.offset + length (new.unread ++ rest) < 2 ^ 64

one_given : (state : ReaderState) (bytes taken rest : List ℕ) (lent : LentAt) (new : ReaderState) → state.offset + length (state.unread ++ bytes) < 2 ^ 64 →
    bytes ≡ taken ++ rest → GivesPage (state.unread ++ taken) state.offset lent new → PageGiven state bytes rest lent new
one_given state bytes taken rest lent new fits consumed gives =
    let page : PageValue = lent.1 in
    let behind : List ℕ = new.unread ++ rest in
    let all : state.unread ++ bytes ≡ page_bytes page ++ behind =
    joined state.unread bytes taken rest consumed ∙ ap (λ l. l ++ rest) gives.joined ∙ append_assoc (page_bytes page) new.unread rest in
    let size : length (state.unread ++ bytes) ≡ page_size page + length behind =
    ap length all ∙ length-append (page_bytes page) behind ∙ ap (λ n. n + length behind) (length-page_bytes page) in
    let offset : new.offset ≡ state.offset + page_size page = omega (arith, gives.behind, fits, size) in
    record {
      all = ap (found_in state.offset) all
          ∙ found-page state.offset page behind gives.is_page
          ∙ ap (λ n. page_found n page ∷ found_in (state.offset + page_size page) behind) (sym gives.offset_is)
          ∙ ap (λ n. page_found lent.0 page ∷ found_in n behind) (sym offset);
      fits = omega (arith, offset, size, fits);
    }

more : (all rest : List FoundPage) (lent : LentAt) (others : List LentAt) (end : Result (Unit {0}) PageReaderFault) (offset : ℕ) →
    all ≡ found lent ∷ rest → AreAll rest others end offset → AreAll all (lent ∷ others) end offset
more all rest lent others (Ok done) offset first are = first ∙ ap (λ l. found lent ∷ l) are
more all rest lent others (Err Read) offset first are = (are.0, first ∙ ap (λ l. found lent ∷ l) are.1)
more all rest lent others (Err (Page fault)) offset first are = first ∙ ap (λ l. found lent ∷ l) are

pub all_given : (lent : List LentAt) (state : ReaderState) (bytes : List ℕ) (end : Result (Unit {0}) PageReaderFault) (last : ReaderState) →
    state.offset + length (state.unread ++ bytes) < 2 ^ 64 → IsRun state (Some bytes) lent end last → AreAll (found_in state.offset (state.unread ++ bytes)) lent end last.offset
all_given [] state bytes end last fits (left, step, none) =
    end_given state.unread bytes step.taken left state.offset end last.lent last none step.consumed step.gives
all_given (lent ∷ others) state bytes end last fits (new, None, step, same, run) = absurd step.consumed
all_given (lent ∷ others) state bytes end last fits (new, Some rest, step, same, run) =
    let given : PageGiven state bytes rest lent new =
    one_given state bytes step.taken rest lent new fits step.consumed
    (page_given (state.unread ++ step.taken) (Some rest) state.offset lent new.lent new same step.gives) in
    more (found_in state.offset (state.unread ++ bytes)) (found_in new.offset (new.unread ++ rest)) lent others end last.offset given.all
    (all_given others new rest end last given.fits run)
