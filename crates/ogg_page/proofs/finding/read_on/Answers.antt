use Rattle.std.proofs.Common.{◌≡◌, ◌∙◌, ap, sym, length, take, drop, List, ℕ, ◌-◌, ◌+◌, ◌++◌, arith, length-append}
use Rattle.ogg_page.proofs.Room.{front_is, joined}
use Rattle.ogg_page.proofs.finding.read_on.Goals as goal

pub returns-clause-holds : goal.returns-clause-holds
returns-clause-holds g c =
    let room : List ℕ = c.args.room.now in
    let held = c.args.held.now in
    let kept : ℕ = held.end - held.start in
    let wanted : ℕ = c.min-wanted.result in
    let front : List ℕ = c.split_at_mut-behind.result.0.now in
    let free : List ℕ = c.split_at_mut-free.result.0.now in
    let rest : List ℕ = c.split_at_mut-free.result.1.now in
    let buffer : List ℕ = c.read_at.new.buffer in
    let before = c.requires in
    let done = c.in_ok-read_at.ensures in
    let more : kept + (wanted - kept) ≡ wanted = omega (arith, c.min-wanted.ensures, before.span, before.fits, before.ordered) in
    let moved : front ≡ take kept (drop held.start room) =
    c.split_at_mut-behind.ensures.front ∙ ap (take kept) c.copy_within.ensures.after ∙ front_is room held.start held.end before.ordered (omega (arith, before.fits, before.whole)) in
    let long : length buffer ≡ wanted - kept = c.read_at.auto.buffer ∙ c.split_at_mut-free.ensures.front_len in
    let same : wanted - 0 ≡ wanted = omega arith in
    record {
      whole = omega (arith, before.whole, c.copy_within.ensures.len, c.split_at_mut-behind.ensures.front_len, c.split_at_mut-behind.ensures.back_len, c.split_at_mut-free.ensures.back_len, long, length-append front (buffer ++ rest), length-append buffer rest);
      ordered = omega arith;
      fits = omega (arith, c.min-wanted.ensures);
      inside = omega (arith, before.inside, done.size);
      span = omega (arith, c.min-wanted.ensures, before.span);
      same = λ sure.
          let was = done.honest.1 sure in
          ap (λ n. take n (front ++ (buffer ++ rest))) same
          ∙ joined front buffer rest (g.S.PageSource.bytes c.args.source.now) kept (wanted - kept) c.args.at wanted more c.split_at_mut-behind.ensures.front_len long
          (moved ∙ before.same was)
          (done.read was ∙ ap (λ n. take n (drop (c.args.at + kept) (g.S.PageSource.bytes c.args.source.now))) c.split_at_mut-free.ensures.front_len)
          ∙ ap (λ l. take wanted (drop c.args.at l)) (sym (done.same was))
          ∙ ap (λ n. take n (drop c.args.at (g.S.PageSource.bytes c.read_at.new.self))) (sym same);
    }
