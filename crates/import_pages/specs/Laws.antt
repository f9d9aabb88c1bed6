-- What a call gives, by what it lends, and a fault of the bytes that were read. Nobody needs these to read a contract.
use Rattle.std.proofs.Common.{◌≡◌, ℕ, List, ◌++◌, refl, sym, ◌∙◌, ap, subst, append_assoc, append-nil, Option, Some, None, Ok, Err}
use Rattle.ogg_page.specs.Reading.{page_at}
use Rattle.ogg_page.specs.Window.{LentAt}
use Rattle.ogg_page.specs.declared.fault.PageFault.{PageFault}
use Rattle.ogg_page.specs.declared.fault.PageFault.TheVariants.{Short, Pattern, Version, Checksum}
use Rattle.import_pages.specs.Reader.{Gives, GivesEnd, GivesPage, IsFaultOf, ReaderState}

-- what is wrong with the bytes that were read is wrong with all
pub whole_fault : (bytes rest : List ℕ) (fault : PageFault) → IsFaultOf bytes (Some rest) fault → page_at (bytes ++ rest) ≡ Err fault
whole_fault bytes rest Short is = ap (λ l. page_at (bytes ++ l)) (is.short refl) ∙ ap page_at (append-nil bytes) ∙ is.read
whole_fault bytes rest Pattern is = is.definite (λ e. cc) rest
whole_fault bytes rest Version is = is.definite (λ e. cc) rest
whole_fault bytes rest Checksum is = is.definite (λ e. cc) rest

pub joined : (unread bytes taken rest : List ℕ) → bytes ≡ taken ++ rest → unread ++ bytes ≡ (unread ++ taken) ++ rest
joined unread bytes taken rest is = ap (λ l. unread ++ l) is ∙ sym (append_assoc unread taken rest)

pub page_given : (bytes : List ℕ) (left : Option (List ℕ)) (offset : ℕ) (lent : LentAt) (given : Option LentAt) (new : ReaderState) → given ≡ Some lent → Gives bytes left offset (Ok tt) given new →
    GivesPage bytes offset lent new
page_given bytes left offset lent given new same gives = subst (λ g. Gives bytes left offset (Ok tt) g new) same gives

pub end_given : (bytes : List ℕ) (left : Option (List ℕ)) (offset : ℕ) (given : Option LentAt) (new : ReaderState) → given ≡ None → Gives bytes left offset (Ok tt) given new → GivesEnd bytes left offset new
end_given bytes left offset given new same gives = subst (λ g. Gives bytes left offset (Ok tt) g new) same gives
