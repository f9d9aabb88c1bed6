use Rattle.std.proofs.Common.{◌++◌, ◌∷◌, [], ◌∙◌, ℕ, List, ap, arith, append_assoc}
use Rattle.std.proofs.lemmas.Result.{err_from_is_err_and}
use Rattle.ogg_page.specs.Numbers.{u32_bytes}
use Rattle.feed_records.specs.Record.{item_bytes, payload_of, kind_of}
use Rattle.feed_records.proofs.SizeFacts.{length-record_of}
use Rattle.feed_records.proofs.writing.write_record.Goals as goal

pub returns-in_err-reserve-clause-full : goal.returns-in_err-reserve-clause-full
returns-in_err-reserve-clause-full c =
    let p = err_from_is_err_and c.from_residual.result c.from_residual.ensures.1 in
    rw p.1 (omega (arith, length-record_of c.args.version c.args.command.now, c.payload_size-size.ensures, c.in_err-reserve.ensures.full))

pub returns-clause-ok : goal.returns-clause-ok
unfolding item_bytes
returns-clause-ok c =
    let old : List ℕ = c.args.out.now.items in
    let payload : List ℕ = payload_of c.args.version c.args.command.now in
    let kind : ℕ = c.kind_number.result in
    let size : ℕ = c.payload_size-size.result in
    c.put_payload.ensures.items
    ∙ ap (λ l. l ++ payload) c.put_u32.ensures.items
    ∙ ap (λ l. (l ++ u32_bytes size) ++ payload) c.put_bytes.ensures.items
    ∙ ap (λ l. ((l ++ kind ∷ []) ++ u32_bytes size) ++ payload) c.in_ok-reserve.ensures.items
    ∙ append_assoc (old ++ kind ∷ []) (u32_bytes size) payload
    ∙ append_assoc old (kind ∷ []) (u32_bytes size ++ payload)
    ∙ ap (λ k. old ++ k ∷ (u32_bytes size ++ payload)) c.kind_number.ensures
    ∙ ap (λ n. old ++ kind_of c.args.command.now ∷ (u32_bytes n ++ payload)) c.payload_size-size.ensures
