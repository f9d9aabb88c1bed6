use Rattle.std.proofs.Common.{◌≡◌, sym, ◌∙◌, ap, subst}
use Rattle.serve_live.specs.Following.{open_streams}
use Rattle.archive_cut.specs.Heads.{StandUpTo, streams_after}
use Rattle.archive_fetch.proofs.meetings.begun_in.Goals as goal

pub returns-in-Ok-open_streams-clause-begun : goal.returns-in-Ok-open_streams-clause-begun
returns-in-Ok-open_streams-clause-begun g c pages sure s =
    let on = c.begun_end.ensures.source in
    let found = rw c.in-Ok-Some.field-0-is at (c.in-Ok-Some.ensures.found pages sure s) in
    let taken =
    c.in-Ok.ensures.taken found.front (on.honest_same.0 sure)
    (subst (λ b. StandUpTo b 0 c.in-Ok-Some.place found.front) (sym (on.bytes_same sure)) found.stand) in
    let those_open : c.in-Ok-open_streams.open.items ≡ open_streams c.take_pages.new.streams.items =
    c.in-Ok-open_streams.ensures.streams ∙ ap open_streams c.as_slice.ensures.value in
    record {
      all = c.take_pages.new.streams.items;
      stand = record {
        front = found.front;
        back = found.back;
        split = found.split;
        ends = found.stand.ends;
        leaves = taken ∙ ap (λ l. streams_after l found.front) c.new-streams.ensures.items;
      };
      those_open = those_open;
    }
