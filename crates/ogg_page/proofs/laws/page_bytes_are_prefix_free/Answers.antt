use Rattle.ogg_page.specs.Laws.Prefixes.{one_page}
use Rattle.ogg_page.proofs.laws.page_bytes_are_prefix_free.Goals as goal

pub returns : goal.returns
returns c = one_page
