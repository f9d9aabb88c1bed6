-- A page that a window lends. Ours.
use Rattle.std.specs.Prelude.{Option, Some, None, Result, Ok, Err}
use Rattle.ogg_page.specs.Reading.{fields_at}
use Rattle.ogg_page.specs.Window.{LentAt}
use Rattle.ogg_page.specs.declared.lent.LentPage.{LentPage}
use Rattle.ogg_page.specs.declared.fault.WindowFault.{WindowFault}

-- its offset, and the page
abbrev pub value_of : LentPage → LentAt
value_of lent = (lent.offset, fields_at lent.bytes.now)

abbrev pub lent_value : Option LentPage → Option LentAt
lent_value None = None
lent_value (Some lent) = Some (value_of lent)

abbrev pub lent_answer : Result (Option LentPage) WindowFault → Result (Option LentAt) WindowFault
lent_answer (Ok lent) = Ok (lent_value lent)
lent_answer (Err fault) = Err fault
