use Rattle.std.proofs.Common.{◌≡◌, ◌≤◌, ◌∙◌, ◌+◌, ◌++◌, [], ◌∷◌, ℕ, List, length, drop, sym, ap, subst, arith, append_assoc, append-nil, length-append, length-drop}
use Rattle.std.proofs.lemmas.List.{drop-drop}
use Rattle.std.specs.Prelude.{Err}
use Rattle.ogg_page.specs.Page.{page_size}
use Rattle.ogg_page.specs.Reading.{page_at}
use Rattle.ogg_page.specs.PageLaws.{length-page_bytes}
use Rattle.ogg_split.specs.declared.salvaging.GoodPage.{GoodPage}
use Rattle.ogg_split.specs.Salvage.{AreGoodFrom, StandsAt}
use Rattle.ogg_split.proofs.Salvaged.{none_before, none_with, passed_over, with_first, none_left, behind_page, first_of, from_later}
use Rattle.ogg_split.proofs.salvaging.list_pages.Goals as goal

pub loop-skipped-preserved-in-Ok : goal.loop-skipped-preserved-in-Ok
loop-skipped-preserved-in-Ok c =
    let inv = c.loop-skipped.invariant in
    let bytes : List ℕ = c.args.bytes.now in
    let at : ℕ = c.loop-skipped.offset + c.in-Some.skipped in
    let size : ℕ = length c.whole.result.now in
    let first : GoodPage = record { offset = at; length = size } in
    let front : c.split_at.result.1.now ≡ drop at bytes = c.split_at.ensures.back ∙ ap (drop c.in-Some.skipped) inv.place ∙ drop-drop c.in-Some.skipped c.loop-skipped.offset bytes in
    let split = c.in-Ok.ensures.split in
    let sized : size ≡ page_size c.in-Ok.page = ap length c.whole.ensures.bytes ∙ length-page_bytes c.in-Ok.page in
    let stands : StandsAt bytes at c.in-Ok.page = record { is_page = split.0; rest = c.in-Ok.others.now; spelled = sym front ∙ split.1 } in
    let none = none_before bytes c.loop-skipped.rest.now c.loop-skipped.offset c.in-Some.skipped inv.place c.in-Some.ensures.0.before in
    record {
      place = behind_page bytes c.split_at.result.1.now c.in-Ok.others.now at size c.in-Ok.page front split.1 sized;
      small = omega (arith, inv.small, c.in-Ok.ensures.size, ap length c.split_at.ensures.back, length-drop c.in-Some.skipped c.loop-skipped.rest.now, sized, c.in-Some.ensures.0.high);
      listed = inv.listed ++ first ∷ [];
      items = c.in-Ok-push.ensures.items ∙ ap (λ (l : List GoodPage). l ++ first ∷ []) inv.items ∙ append_assoc c.args.pages.now.items inv.listed (first ∷ []);
      count = omega (arith, c.in-Ok-push.ensures.len, inv.count, length-append inv.listed (first ∷ []));
      capacity = omega (arith, inv.capacity, c.push.ensures.capacity);
      good = λ ranges more. subst (AreGoodFrom 0 bytes) (sym (append_assoc inv.listed (first ∷ []) ranges))
          (inv.good (first ∷ ranges) (passed_over bytes c.loop-skipped.offset at (first ∷ ranges) (omega arith) none
          (with_first bytes at size c.in-Ok.page ranges stands sized more)));
      left = λ ranges all.
          let (later, good, long) = inv.left ranges all in
          let (others, behind, one) = first_of bytes c.loop-skipped.offset at size c.in-Ok.page later (omega arith) none stands sized good in
          (others, behind, omega (arith, long, one, length-append inv.listed (first ∷ [])));
    }

pub loop-skipped-preserved : goal.loop-skipped-preserved
loop-skipped-preserved c =
    let inv = c.loop-skipped.invariant in
    let bytes : List ℕ = c.args.bytes.now in
    let at : ℕ = c.loop-skipped.offset + c.in-Some.skipped in
    let front : c.split_at.result.1.now ≡ drop at bytes = c.split_at.ensures.back ∙ ap (drop c.in-Some.skipped) inv.place ∙ drop-drop c.in-Some.skipped c.loop-skipped.offset bytes in
    let none = none_with bytes c.loop-skipped.offset at c.in-Err.field-0
    (none_before bytes c.loop-skipped.rest.now c.loop-skipped.offset c.in-Some.skipped inv.place c.in-Some.ensures.0.before)
    (subst (λ (l : List ℕ). page_at l ≡ Err c.in-Err.field-0) front c.in-Err.ensures.split) in
    let fits : c.in-Some.skipped + 4 ≤ length c.loop-skipped.rest.now = c.in-Some.ensures.1.fits in
    record {
      place = c.split_at-in-Err.ensures.back ∙ ap (drop 1) front ∙ drop-drop 1 at bytes;
      small = omega (
        arith,
        inv.small,
        fits,
        ap length c.split_at.ensures.back,
        length-drop c.in-Some.skipped c.loop-skipped.rest.now,
        ap length c.split_at-in-Err.ensures.back,
        length-drop 1 c.split_at.result.1.now,
      );
      listed = inv.listed;
      items = inv.items;
      count = inv.count;
      capacity = inv.capacity;
      good = λ ranges more. inv.good ranges (passed_over bytes c.loop-skipped.offset (at + 1) ranges (omega arith) none more);
      left = λ ranges all.
          let (later, good, long) = inv.left ranges all in
          (later, from_later bytes c.loop-skipped.offset (at + 1) later (omega arith) none good, long);
    }

pub returns-clause-pages : goal.returns-clause-pages
returns-clause-pages c =
    let inv = c.loop-skipped.invariant in (
      inv.listed,
      subst (AreGoodFrom 0 c.args.bytes.now) (append-nil inv.listed)
          (inv.good [] (none_left c.args.bytes.now c.loop-skipped.rest.now c.loop-skipped.offset inv.place c.in_default.ensures)),
      inv.items,
    )

pub returns-in-Err-push-clause-full : goal.returns-in-Err-push-clause-full
returns-in-Err-push-clause-full c = λ ranges all.
    let inv = c.loop-skipped.invariant in
    let bytes : List ℕ = c.args.bytes.now in
    let at : ℕ = c.loop-skipped.offset + c.in-Some.skipped in
    let size : ℕ = length c.whole.result.now in
    let front : c.split_at.result.1.now ≡ drop at bytes = c.split_at.ensures.back ∙ ap (drop c.in-Some.skipped) inv.place ∙ drop-drop c.in-Some.skipped c.loop-skipped.offset bytes in
    let split = c.in-Ok.ensures.split in
    let sized : size ≡ page_size c.in-Ok.page = ap length c.whole.ensures.bytes ∙ length-page_bytes c.in-Ok.page in
    let stands : StandsAt bytes at c.in-Ok.page = record { is_page = split.0; rest = c.in-Ok.others.now; spelled = sym front ∙ split.1 } in
    let none = none_before bytes c.loop-skipped.rest.now c.loop-skipped.offset c.in-Some.skipped inv.place c.in-Some.ensures.0.before in
    let (later, good, long) = inv.left ranges all in
    let (others, behind, one) = first_of bytes c.loop-skipped.offset at size c.in-Ok.page later (omega arith) none stands sized good in
    omega (arith, inv.count, inv.capacity, long, one, c.in-Err-push.ensures.full)
