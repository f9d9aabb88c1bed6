use Rattle.std.proofs.Common.{◌≡◌, ◌<◌, ◌+◌, ◌++◌, [], ◌∷◌, ℕ, List, length, map, take, drop, get_or, sym, ◌∙◌, ap, arith}
use Rattle.std.specs.Prelude.{slice_set}
use Rattle.std.proofs.lemmas.List.{get_or_default, get_or-append-add, get_or-drop, length-take-le, length-map, map_more}
use Rattle.std.proofs.lemmas.List.Edits.{map_over_more}
use Rattle.import_gather.specs.Kept.{KeptStream}
use Rattle.import_gather.specs.Giving.{bare, new_stream}
use Rattle.import_gather.proofs.giving.new_streams.Goals as goal

-- the next stream is as it was
next_is : (streams now : List KeptStream) (i : ℕ) (x : KeptStream) → i < length streams → now ≡ map bare (take i streams) ++ drop i streams → x ≡ get_or now i x → x ≡ get_or streams i x
next_is streams now i x inside same e =
    let front : List KeptStream = map bare (take i streams) in
    let long : i ≡ length front + 0 = omega (arith, length-map (take i streams) bare, length-take-le i streams (omega arith)) in
    e ∙ ap (λ l. get_or l i x) same ∙ ap (λ n. get_or (front ++ drop i streams) n x) long ∙ get_or-append-add front (drop i streams) 0 x
    ∙ get_or-drop i streams 0 x ∙ ap (λ n. get_or streams n x) (nothing i)
  where
    nothing : (n : ℕ) → n + 0 ≡ n
    nothing n = omega arith

pub loop-stream-preserved : goal.loop-stream-preserved
loop-stream-preserved c =
    let streams : List KeptStream = c.args.streams.now in
    let now : List KeptStream = c.loop-stream.streams in
    let i : ℕ = c.loop-stream.stream-index in
    let stream : KeptStream = get_or now i c.stream-item.result in
    let inside : i < length streams = c.loop-stream-test.true in
    let own : stream ≡ get_or now i stream = get_or_default now i c.stream-item.result stream (omega (arith, c.loop-stream.auto.streams, inside)) in
    let noted : c.push.new.self ≡ c.args.grower.now = c.in_ok-push.ensures.noted ∙ c.loop-stream.invariant.noted in
    let was : stream ≡ get_or streams i stream = next_is streams now i stream inside c.loop-stream.invariant.bare own in
    let made : c.new_stream-stream.result ≡ new_stream (get_or streams i stream) =
    c.new_stream-stream.ensures stream (sym c.serial-serial.ensures) (sym c.take_headers-headers.ensures.value) ∙ ap new_stream was in
    let pushed : c.push.new.list.items ≡ c.loop-stream.new.items ++ c.new_stream-stream.result ∷ [] = c.in_ok-push.ensures.items in
    record {
      new = pushed ∙ ap (λ l. l ++ c.new_stream-stream.result ∷ []) c.loop-stream.invariant.new ∙ ap (λ n. map new_stream (take i streams) ++ n ∷ []) made
          ∙ sym (map_more new_stream streams i stream inside);
      bare = ap (slice_set now i) c.take_headers-headers.ensures.after
          ∙ map_over_more bare streams now i stream inside c.loop-stream.invariant.bare own;
      noted = noted;
    }
