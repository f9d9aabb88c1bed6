use Rattle.std.proofs.Common.{◌≡◌, ⊎_elim, ℕ, Some, List, take, sym, ◌∙◌, ap, subst, rules}
use Rattle.ogg_page.specs.Page.{bytes_of_pages}
use Rattle.gate_file.specs.Gate.{EndsAt}
use Rattle.gate_file.specs.OpenFault.{fault_of_finding, told_disk, told_page}
use Rattle.link_chain.specs.ChainState.{chain_state_of}
use Rattle.link_chain.specs.Links.{AreLinks}
use Rattle.link_chain.specs.Taking.{unfinished_stream}
use Rattle.file_recorder.specs.Taking.{IsBrokenAt, IsUnfinished}
use Rattle.file_recorder.proofs.Passed.{told_chain, told_not_unfinished, told_not_chain, same_serial}
use Rattle.file_recorder.proofs.Walked.{have_walked}
use Rattle.file_recorder.proofs.opening.find_chain.Goals as goal

pub returns-in-Err-find_with-clause-gives_back : goal.returns-in-Err-find_with-clause-gives_back
returns-in-Err-find_with-clause-gives_back g c =
    let back = c.in-Err-find_with.ensures.gives_back in
    let finding = c.in-Err-find_with.fault in
    record {
      any_moment = back.any_moment;
      frame = record {
        honest = back.frame.honest;
        later = back.frame.later;
        cause = λ disk. back.frame.cause (told_disk finding (sym c.from.ensures ∙ disk));
      };
      untouched = λ not_disk. back.untouched (λ disk. not_disk (c.from.ensures ∙ ap fault_of_finding disk));
      damaged = λ offset fault told. back.damaged offset fault (told_page finding offset fault (sym c.from.ensures ∙ told));
      settled = λ offset fault told. back.settled offset fault (told_page finding offset fault (sym c.from.ensures ∙ told));
    }

pub returns-in-Ok-shape_of-clause-whole : goal.returns-in-Ok-shape_of-clause-whole
returns-in-Ok-shape_of-clause-whole g c =
    let (pages, are, shown) = c.in-Ok-find_with.ensures.shown in
    let (reference, walked) = have_walked (λ t. t.taken) (λ t. t.broken) c.of-taker.result c.find_with.new.visitor pages are
    (ap (λ t. t.now.chain) c.of-taker.ensures.taken ∙ c.new-chain.ensures) c.of-taker.ensures.broken shown in
    let (links, are_links, is) = walked.taken (sym c.broken-broken.ensures ∙ c.in-Ok-shape_of.ensures.whole) in
    (bytes_of_pages pages, c.in-Ok-shape_of.ensures.each (bytes_of_pages pages) links are_links (search rules))

pub returns-in-Ok-shape_of-clause-chain : goal.returns-in-Ok-shape_of-clause-chain
returns-in-Ok-shape_of-clause-chain g c = λ honest.
    let seen = c.in-Ok-find_with.ensures.seen honest in
    let (reference, walked) = have_walked (λ t. t.taken) (λ t. t.broken) c.of-taker.result c.find_with.new.visitor seen.pages seen.are_pages
    (ap (λ t. t.now.chain) c.of-taker.ensures.taken ∙ c.new-chain.ensures) c.of-taker.ensures.broken seen.shown in
    let (links, are_links, is) = walked.taken (sym c.broken-broken.ensures ∙ c.in-Ok-shape_of.ensures.whole) in
    c.in-Ok-shape_of.ensures.each _ links (subst (λ (l : List ℕ). AreLinks l links) (sym seen.joined) are_links) (search rules)

pub returns-in-Err-shape_of-clause-broken : goal.returns-in-Err-shape_of-clause-broken
returns-in-Err-shape_of-clause-broken g c = λ offset fault told honest.
    let found = c.in-Ok-find_with.found.0 in
    let here = c.in-Ok-find_with.ensures.opens.frame.honest.0 honest in
    let same = c.in-Ok-find_with.ensures.same honest in
    let seen = c.in-Ok-find_with.ensures.seen honest in
    let (reference, walked) = have_walked (λ t. t.taken) (λ t. t.broken) c.of-taker.result c.find_with.new.visitor seen.pages seen.are_pages
    (ap (λ t. t.now.chain) c.of-taker.ensures.taken ∙ c.new-chain.ensures) c.of-taker.ensures.broken seen.shown in
    ⊎_elim
    (λ (place, at, is).
    let here_is = told_chain place offset fault (sym is ∙ told) in
    ⊎_elim
    (λ broken. (
      found.end,
      subst (λ (l : List ℕ). EndsAt l found.end) same (c.end-end.ensures.ends here).ends,
      subst (λ (l : List ℕ). IsBrokenAt (take found.end l) offset fault) same (subst (λ (l : List ℕ). IsBrokenAt l offset fault) (sym seen.joined) broken),
    ))
    (λ memory. absurd (here_is.1 memory))
    (walked.stopped offset fault (sym c.broken-broken.ensures ∙ at ∙ ap Some here_is.0)))
    (λ (serial, none, unfinished, is). absurd (told_not_chain serial offset fault (sym is ∙ told)))
    c.in-Err-shape_of.ensures.faults

pub returns-in-Err-shape_of-clause-unfinished : goal.returns-in-Err-shape_of-clause-unfinished
returns-in-Err-shape_of-clause-unfinished g c = λ serial told honest.
    let found = c.in-Ok-find_with.found.0 in
    let here = c.in-Ok-find_with.ensures.opens.frame.honest.0 honest in
    let same = c.in-Ok-find_with.ensures.same honest in
    let seen = c.in-Ok-find_with.ensures.seen honest in
    let (reference, walked) = have_walked (λ t. t.taken) (λ t. t.broken) c.of-taker.result c.find_with.new.visitor seen.pages seen.are_pages
    (ap (λ t. t.now.chain) c.of-taker.ensures.taken ∙ c.new-chain.ensures) c.of-taker.ensures.broken seen.shown in
    ⊎_elim
    (λ (place, at, is). absurd (told_not_unfinished place serial (sym is ∙ told)))
    (λ (other, none, unfinished, is).
    let (links, are_links, is_links) = walked.taken (sym c.broken-broken.ensures ∙ none) in (
      found.end,
      subst (λ (l : List ℕ). EndsAt l found.end) same (c.end-end.ensures.ends here).ends,
      subst (λ (l : List ℕ). IsUnfinished (take found.end l) serial) same
          (record {
            links = links;
            are_links = subst (λ (l : List ℕ). AreLinks l links) (sym seen.joined) are_links;
            told = let named : unfinished_stream (chain_state_of links) ≡ Some other = search rules in named ∙ ap Some (same_serial other serial (sym is ∙ told));
          }),
    ))
    c.in-Err-shape_of.ensures.faults
