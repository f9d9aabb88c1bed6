-- What is changed. Ours.
use Rattle.std.specs.Prelude.{Bool, false, not}
use Rattle.import_changes.specs.declared.options.ChangeOptions.{ChangeOptions}
use Rattle.import_changes.specs.declared.options.Skeletons.{Skeletons}
use Rattle.import_changes.specs.declared.options.Skeletons.TheVariants.{Kept, LeftOut, Made}

abbrev pub no_options : ChangeOptions
no_options = record { renumber = false; skeletons = Kept }

abbrev pub is_none_with : Skeletons → Bool → Bool
is_none_with Kept renumber = not renumber
is_none_with LeftOut renumber = false
is_none_with (Made from) renumber = false

-- nothing is changed
abbrev pub is_none : ChangeOptions → Bool
is_none options = is_none_with options.skeletons options.renumber
