use Rattle.std.proofs.Common.{◌≡◌, ℕ, ◌+◌, ◌-◌, cond, Bool, true, false, refl, [], List, length, map, take, drop, sum, ap, sym, ◌∙◌, subst, arith, length-take, length-drop}
use Rattle.std.specs.Prelude.{nat_lt}
use mir.Val.{bool_byte}
use Rattle.std.proofs.lemmas.List.{length-map, length-take-le}
use Rattle.ogg_page.specs.Lacing.{ends_open}
use Rattle.ogg_page.specs.Page.{Page, page_size}
use Rattle.packetiser.specs.Run.{Timed, packets_ended, position_of}
use Rattle.packetiser.specs.Place.{bytes_left, next_values, next_page, IsBehind}
use Rattle.packetiser.proofs.PageByPage.{dropped_by}
use Rattle.packetiser.proofs.Placing.{next_whole}
use Rattle.packetiser.proofs.paging.make_page.Goals as goal

pub begin_page-requires-clause-room : goal.begin_page-requires-clause-room
begin_page-requires-clause-room g c =
    let run : List Timed = map g.T.TimedPacket.timed c.args.from.now in
    let values : c.split_at.result.0.now ≡ next_values c.args.begun run = c.split_at.ensures.front ∙ c.fill-page.ensures.values in
    let size : page_size (next_page c.args.serial c.args.sequence c.args.flags c.args.begun run) ≡ 27 + length c.split_at.result.0.now + sum c.split_at.result.0.now =
    omega (arith, next_whole c.args.begun run c.requires.within, ap length values, ap sum values) in
    subst (λ n. g.S.PageSpace.fits c.args.space.now n) size c.requires.room

pub put_bytes-requires-clause-enough : goal.put_bytes-requires-clause-enough
put_bytes-requires-clause-enough g c =
    let run : List Timed = map g.T.TimedPacket.timed c.args.from.now in
    let size : c.fill-page.result.size ≡ sum (next_values c.args.begun run) = c.fill-page.ensures.size ∙ ap sum c.fill-page.ensures.values in
    omega (arith, size, next_whole c.args.begun run c.requires.within, length-take (sum (next_values c.args.begun run)) (bytes_left c.args.begun run))

pub end_page-requires : goal.end_page-requires
end_page-requires g c =
    let run : List Timed = map g.T.TimedPacket.timed c.args.from.now in
    let size : c.fill-page.result.size ≡ sum (next_values c.args.begun run) = c.fill-page.ensures.size ∙ ap sum c.fill-page.ensures.values in
    let values : c.split_at.result.0.now ≡ next_values c.args.begun run = c.split_at.ensures.front ∙ c.fill-page.ensures.values in
    let body : List ℕ = take c.fill-page.result.size (bytes_left c.args.begun run) in
    let whole : length body ≡ sum c.split_at.result.0.now =
    ap (λ n. length (take n (bytes_left c.args.begun run))) size ∙ sym (next_whole c.args.begun run c.requires.within) ∙ ap sum (sym values) in (
      c.args.space.now,
      c.split_at.result.0.now,
      body,
      c.put_bytes.ensures c.args.space.now _ c.split_at.result.0.now [] c.begin_page.ensures.work,
      whole,
      omega (arith, whole, c.split_at.ensures.front_len, size, ap sum values),
    )

pub overflow_sub-result : goal.overflow_sub-result
overflow_sub-result g c =
    let timed = g.T.TimedPacket.timed in
    let run : List Timed = map timed c.args.from.now in
    omega (
      arith,
      ap length c.fill-page.ensures.ended,
      length-drop (packets_ended (take c.fill-page.result.count c.fill-page.new.lacing)) run,
      length-map c.args.from.now timed,
      length-map c.fill-page.result.rest.now timed,
    )

byte_of : (b : Bool) → bool_byte b ≡ cond b 1 0
byte_of true = refl
byte_of false = refl

pub returns-clause-page : goal.returns-clause-page
returns-clause-page g c =
    let run : List Timed = map g.T.TimedPacket.timed c.args.from.now in
    let size : c.fill-page.result.size ≡ sum (next_values c.args.begun run) = c.fill-page.ensures.size ∙ ap sum c.fill-page.ensures.values in
    let values : c.split_at.result.0.now ≡ next_values c.args.begun run = c.split_at.ensures.front ∙ c.fill-page.ensures.values in
    let body : List ℕ = take c.fill-page.result.size (bytes_left c.args.begun run) in
    let whole : length body ≡ sum c.split_at.result.0.now =
    ap (λ n. length (take n (bytes_left c.args.begun run))) size ∙ sym (next_whole c.args.begun run c.requires.within) ∙ ap sum (sym values) in
    let page : ℕ → ℕ → List ℕ → List ℕ → Page = λ f p l b.
    record { flags = f; position = p; serial = c.args.serial; sequence = c.args.sequence; lacing = l; body = b } in
    let next : page (c.from.result + c.args.flags) c.fill-page.result.position c.split_at.result.0.now body
    ≡ next_page c.args.serial c.args.sequence c.args.flags c.args.begun run =
    ap (λ n. page (n + c.args.flags) c.fill-page.result.position c.split_at.result.0.now body) (c.from.ensures ∙ byte_of (nat_lt 0 c.args.begun))
    ∙ ap (λ n. page (cond (nat_lt 0 c.args.begun) 1 0 + c.args.flags) n c.split_at.result.0.now body) (c.fill-page.ensures.position ∙ ap (λ l. position_of (packets_ended l) run) c.fill-page.ensures.values)
    ∙ ap (λ l. page (cond (nat_lt 0 c.args.begun) 1 0 + c.args.flags) (position_of (packets_ended (next_values c.args.begun run)) run) l body) values
    ∙ ap (λ n. page (cond (nat_lt 0 c.args.begun) 1 0 + c.args.flags) (position_of (packets_ended (next_values c.args.begun run)) run) (next_values c.args.begun run) (take n (bytes_left c.args.begun run))) size in
    subst (λ p. g.S.PageSpace.has_made c.args.space.now p c.end_page.new.self) next
    (c.end_page.ensures c.args.space.now c.split_at.result.0.now body
    (c.put_bytes.ensures c.args.space.now _ c.split_at.result.0.now [] c.begin_page.ensures.work) whole (omega (arith, whole, c.split_at.ensures.front_len, size, ap sum values)))

pub returns-clause-behind : goal.returns-clause-behind
returns-clause-behind g c =
    let timed = g.T.TimedPacket.timed in
    let run : List Timed = map timed c.args.from.now in
    let rest : List Timed = map timed c.fill-page.result.rest.now in
    let filled = c.fill-page.ensures in
    let values : List ℕ = take c.fill-page.result.count c.fill-page.new.lacing in
    let count : length values ≡ c.fill-page.result.count = length-take-le c.fill-page.result.count c.fill-page.new.lacing (omega (arith, filled.count, c.fill-page.auto.lacing)) in
    let same : values ≡ next_values c.args.begun run = filled.values in
    let behind : IsBehind c.args.begun run c.fill-page.result.done rest = record {
      values = filled.values_behind;
      bytes = filled.bytes_behind ∙ ap (λ l. drop (sum l) (bytes_left c.args.begun run)) same;
      ended = filled.ended ∙ ap (λ l. drop (packets_ended l) run) same;
      within = filled.within;
      open_is = λ some. filled.open (omega (arith, some, ap length same, count)) ∙ ap ends_open same;
    } in
    let here : drop (length c.args.from.now - length c.fill-page.result.rest.now) run ≡ rest =
    ap (λ n. drop (n - length c.fill-page.result.rest.now) run) (sym (length-map c.args.from.now timed))
    ∙ ap (λ n. drop (length run - n) run) (sym (length-map c.fill-page.result.rest.now timed))
    ∙ dropped_by (packets_ended values) run rest filled.ended in
    subst (λ l. IsBehind c.args.begun run c.fill-page.result.done l) (sym here) behind
