use Rattle.std.proofs.Common.{◌+◌, ◌∙◌, ap, sym, ℕ, List, length, arith}
use Rattle.std.proofs.lemmas.List.{length-take-le}
use Rattle.ogg_page.specs.Page.{AreBytes}
use Rattle.ogg_page.specs.Reading.{fields_at}
use Rattle.ogg_page.specs.Laws.ReadAgain.{read_is_page, front_is_page, length-page_bytes}
use Rattle.ogg_page.proofs.reading.size_in_front.Goals as goal

pub returns-clause-found : goal.returns-clause-found
returns-clause-found c =
    let bytes : List ℕ = c.args.bytes.now in
    let values : ℕ = c.in_ok-values.values in
    let size : ℕ = c.in_ok-values.size in
    let h : AreBytes bytes = λ i. omega (arith, c.type_inv.bytes i) in
    let p = c.in_ok-values.ensures in
    record {
      page = fields_at bytes;
      is = (read_is_page bytes (fields_at bytes) h p.page).0;
      read = p.page;
      whole = sym (length-take-le (27 + values + size) bytes p.whole)
          ∙ ap length (front_is_page bytes values size h p) ∙ length-page_bytes (fields_at bytes);
      fits = p.whole;
      small = h;
    }
