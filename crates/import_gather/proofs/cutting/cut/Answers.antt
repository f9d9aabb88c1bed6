use Rattle.std.proofs.Common.{◌≡◌, ◌+◌, ◌++◌, [], ◌∷◌, ℕ, List, length, take, drop, get_or, sym, ◌∙◌, ap, subst, arith, refl, sum, take-append-drop, take_all, Vec, Global, Bor}
use Rattle.std.proofs.lemmas.List.{take_more}
use Rattle.import_gather.proofs.Cuts.{CutSoFar, cut_same, cut_full, cut_end, cut_all, whole_on, nothing_left}
use Rattle.import_gather.proofs.cutting.cut.Goals as goal
use Rattle.import_gather.proofs.cutting.cut.Goals.{then-value-lt-FULL_VALUE+in_ok-end_packet, else-value-lt-FULL_VALUE}

pub loop-value-preserved : goal.loop-value-preserved
loop-value-preserved c =
    let lacing : List ℕ = c.args.lacing.now in
    let rest : List ℕ = c.args.rest.now.items in
    let i : ℕ = c.loop-value.value-index in
    let value : ℕ = get_or lacing i 0 in
    let left : List ℕ = c.loop-value.left.now in
    let piece : List ℕ = c.split_at.result.0.now in
    let others : List ℕ = c.split_at.result.1.now in
    let size : length piece ≡ value = c.split_at.ensures.front_len ∙ c.from.ensures in
    let split : left ≡ piece ++ others =
    sym (ap (λ l. l ++ others) c.split_at.ensures.front ∙ ap (λ l. take c.from.result left ++ l) c.split_at.ensures.back ∙ take-append-drop c.from.result left) in
    let more : c.append.new.list.items ≡ c.loop-value.rest.items ++ piece = c.in_ok-append.ensures.items in
    let next : take (i + 1) lacing ≡ take i lacing ++ value ∷ [] = take_more lacing i 0 c.loop-value-test.true in
    let whole : sum (drop (i + 1) lacing) ≡ length others = whole_on lacing left piece others i value c.loop-value-test.true refl c.loop-value.invariant.whole size split in
    let noted : c.append.new.self ≡ c.args.grower.now = c.in_ok-append.ensures.noted ∙ c.loop-value.invariant.noted in
    elim c.if-value-lt-FULL_VALUE.branch [
      | then-value-lt-FULL_VALUE+in_ok-end_packet w ↦
          (let lefts : c.if-value-lt-FULL_VALUE.left.now ≡ others = ap (λ (l : Bor (List ℕ)). l.now) w.left-is in
          let rests : c.if-value-lt-FULL_VALUE.rest.items ≡ [] = ap (λ (l : Vec ℕ Global). l.items) w.rest-is ∙ w.end_packet.ensures.rest in
          let packets : c.if-value-lt-FULL_VALUE.packets.items ≡ c.loop-value.packets.items ++ (c.loop-value.rest.items ++ piece) ∷ [] =
          ap (λ (l : Vec (List ℕ) Global). l.items) w.packets-is ∙ w.in_ok-end_packet.ensures.packets ∙ ap (λ l. c.loop-value.packets.items ++ l ∷ []) more in
          record {
            whole = whole ∙ ap length (sym lefts);
            cut = λ segments e.
                cut_same segments rest c.args.body.now (take i lacing ++ value ∷ []) (take (i + 1) lacing) (c.loop-value.packets.items ++ (c.loop-value.rest.items ++ piece) ∷ [])
                c.if-value-lt-FULL_VALUE.packets.items [] c.if-value-lt-FULL_VALUE.rest.items others c.if-value-lt-FULL_VALUE.left.now next packets rests lefts
                (cut_end segments rest (take i lacing) c.args.body.now c.loop-value.packets.items c.loop-value.rest.items left piece others value w.if-value-lt-FULL_VALUE.true size split
                (c.loop-value.invariant.cut segments e));
            noted = w.grower-is ∙ w.in_ok-end_packet.ensures.noted ∙ noted;
          })
      | else-value-lt-FULL_VALUE w ↦
          (let lefts : c.if-value-lt-FULL_VALUE.left.now ≡ others = ap (λ (l : Bor (List ℕ)). l.now) w.left-is in
          let rests : c.if-value-lt-FULL_VALUE.rest.items ≡ c.loop-value.rest.items ++ piece = ap (λ (l : Vec ℕ Global). l.items) w.rest-is ∙ more in
          let packets : c.if-value-lt-FULL_VALUE.packets.items ≡ c.loop-value.packets.items = ap (λ (l : Vec (List ℕ) Global). l.items) w.packets-is in
          let full : value ≡ 255 = omega (arith, w.if-value-lt-FULL_VALUE.false, c.type_inv.lacing i) in
          record {
            whole = whole ∙ ap length (sym lefts);
            cut = λ segments e.
                cut_same segments rest c.args.body.now (take i lacing ++ value ∷ []) (take (i + 1) lacing) c.loop-value.packets.items c.if-value-lt-FULL_VALUE.packets.items
                (c.loop-value.rest.items ++ piece) c.if-value-lt-FULL_VALUE.rest.items others c.if-value-lt-FULL_VALUE.left.now next packets rests lefts
                (cut_full segments rest (take i lacing) c.args.body.now c.loop-value.packets.items c.loop-value.rest.items left piece others value full size split
                (c.loop-value.invariant.cut segments e));
            noted = w.grower-is ∙ noted;
          })
    ]

pub returns-clause-packets : goal.returns-clause-packets
returns-clause-packets c = λ segments e.
    let lacing : List ℕ = c.args.lacing.now in
    let i : ℕ = c.loop-value.value-index in
    cut_all segments c.args.rest.now.items lacing c.args.body.now c.loop-value.packets.items c.loop-value.rest.items c.loop-value.left.now
    (nothing_left lacing c.loop-value.left.now i c.loop-value-test.false c.loop-value.invariant.whole)
    (subst (λ l. CutSoFar segments c.args.rest.now.items l c.args.body.now c.loop-value.packets.items c.loop-value.rest.items c.loop-value.left.now)
    (take_all i lacing c.loop-value-test.false) (c.loop-value.invariant.cut segments e))
