use Rattle.std.proofs.Common.{refl, []}
use Rattle.import_mend.specs.Ways.{way_of}
use Rattle.import_mend.specs.Whole.{lost_of}
use Rattle.import_mend.proofs.Held.{all_mended, becomes, ends_mended}
use Rattle.import_mend.proofs.laws.commands_hold_sound_links.Goals as goal

pub returns-clause-page : goal.returns-clause-page
returns-clause-page c offset page old new mend more given links taken held =
    becomes (way_of old.gathered.chain (lost_of old page) page) offset (lost_of old page) page old new mend given more links refl taken.1 held

pub returns-clause-pages : goal.returns-clause-pages
returns-clause-pages c pages start new mends given begins taken = all_mended pages start new mends [] given [] taken (begins.gathered, begins.goes_on)

pub returns-clause-end : goal.returns-clause-end
returns-clause-end c links old new given more ends held = ends_mended links old new given more ends held
