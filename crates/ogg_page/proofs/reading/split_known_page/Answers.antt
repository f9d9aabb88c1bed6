use Rattle.std.proofs.Common.{◌≡◌, ◌+◌, ◌++◌, ◌∙◌, ap, sym, refl, subst, ℕ, List, drop, sum, arith}
use Rattle.std.specs.Prelude.{slice_index}
use Rattle.std.proofs.lemmas.List.{take-append-drop}
use Rattle.ogg_page.specs.Page.{IsPage, AreBytes, page_bytes}
use Rattle.ogg_page.specs.Reading.{fields_at, lacing_at, IsPageOf}
use Rattle.ogg_page.specs.Laws.ReadAgain.{known_sizes, read_is_page, front_is_page, ok_same}
use Rattle.ogg_page.proofs.reading.split_known_page.Goals as goal

pub bounds-bytes-26 : goal.bounds-bytes-26
bounds-bytes-26 c = omega (arith, (known_sizes c.args.bytes.now _ refl c.requires).whole)

pub split_at-requires : goal.split_at-requires
split_at-requires c = omega (arith, (known_sizes c.args.bytes.now _ refl c.requires).whole)

pub split_at-requires-2 : goal.split_at-requires-2
split_at-requires-2 c = omega (arith, (known_sizes c.args.bytes.now _ refl c.requires).whole, c.from-values.ensures, c.split_at.ensures.back_len)

pub page_in_front-page-requires : goal.page_in_front-page-requires
page_in_front-page-requires c =
    let q : IsPageOf c.args.bytes.now (slice_index c.args.bytes.now 26) (sum (lacing_at c.args.bytes.now)) = known_sizes c.args.bytes.now _ refl c.requires in
    let size : c.body_size-size.result ≡ sum (lacing_at c.args.bytes.now) = cc in
    record {
      page = q.page;
      table = c.from-values.ensures;
      body = size;
      whole = omega (arith, q.whole, c.from-values.ensures, size);
    }

pub split_at-requires-3 : goal.split_at-requires-3
split_at-requires-3 c =
    let size : c.body_size-size.result ≡ sum (lacing_at c.args.bytes.now) = cc in
    omega (arith, (known_sizes c.args.bytes.now _ refl c.requires).whole, c.from-values.ensures, size)

pub returns : goal.returns
returns c =
    let bytes : List ℕ = c.args.bytes.now in
    let h : AreBytes bytes = λ i. omega (arith, c.type_inv.bytes i) in
    let q : IsPageOf bytes (slice_index bytes 26) (sum (lacing_at bytes)) = known_sizes bytes _ refl c.requires in
    let size : c.body_size-size.result ≡ sum (lacing_at bytes) = cc in
    let same : fields_at bytes ≡ c.page_in_front-page.result = ok_same (fields_at bytes) c.page_in_front-page.result (sym q.page ∙ c.page_in_front-page.ensures) in
    let whole : 27 + c.from-values.result + c.body_size-size.result ≡ 27 + slice_index bytes 26 + sum (lacing_at bytes) = omega (arith, c.from-values.ensures, size) in (
      subst IsPage same (read_is_page bytes (fields_at bytes) h q.page).0,
      sym (take-append-drop (27 + slice_index bytes 26 + sum (lacing_at bytes)) bytes)
          ∙ ap (λ l. l ++ drop (27 + slice_index bytes 26 + sum (lacing_at bytes)) bytes) (front_is_page bytes (slice_index bytes 26) (sum (lacing_at bytes)) h q ∙ ap page_bytes same)
          ∙ ap (λ n. page_bytes c.page_in_front-page.result ++ drop n bytes) (sym whole)
          ∙ ap (λ l. page_bytes c.page_in_front-page.result ++ l) (sym c.split_at-3.ensures.back),
    )
