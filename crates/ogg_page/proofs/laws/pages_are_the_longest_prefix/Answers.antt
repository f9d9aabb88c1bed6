use Rattle.std.proofs.Common.{◌++◌, length, ap, ◌∙◌, zero-add}
use Rattle.ogg_page.specs.Page.{bytes_of_pages}
use Rattle.ogg_page.specs.Pages.{located, fault_at}
use Rattle.ogg_page.specs.Laws.Walk.{walk_finds, FoundFrom}
use Rattle.ogg_page.proofs.laws.pages_are_the_longest_prefix.Goals as goal

pub returns : goal.returns
returns c = λ bytes found (u, drained).
    let all : FoundFrom (record { offset = 0; bytes = bytes }) found = walk_finds found _ drained.0 u drained.1 drained.2 in
    record {
      pages = all.pages;
      rest = all.rest;
      begins = all.begins;
      all = all.all ∙ ap (λ n. located 0 all.pages ++ fault_at n all.rest) (zero-add (length (bytes_of_pages all.pages)));
    }
