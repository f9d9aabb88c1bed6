use Rattle.std.proofs.Common.{◌≡◌, ◌++◌, ◌<◌, add-one, take, drop, length, ap, sym, subst, ◌∙◌}
use Rattle.std.proofs.lemmas.List.Quantifiers.{position-Some}
use Rattle.std.specs.Result.{IfOk, OnErr}
use Rattle.std.specs.Prelude.{vec_capacity}
use Rattle.serve_origins.specs.Added.{with_field}
use Rattle.serve_origins.proofs.Splicing.{is_feed, no_feed, whole_line, without_line}
use Rattle.serve_origins.proofs.added.Allowed.put_first.Goals as goal

-- the three texts of bytes with the end of a line are the bytes with the field
parts : (c : goal.After-join) → c.split_at.result.0.now ++ (c.as_slice.result.now ++ c.split_at.result.1.now) ≡ with_field c.args.self.now c.args.bytes.now
parts c =
    let bytes = c.args.bytes.now in
    let end = c.in-Some.end in
    let (inside, is, before) = position-Some is_feed bytes end 0 (sym c.line_end.ensures ∙ c.in-Some.is) in
    (λ i. c.split_at.ensures.front i ++ ((c.as_slice.ensures.value ∙ c.self.view_is) i ++ c.split_at.ensures.back i))
    ∙ ap (λ n. take n bytes ++ (c.args.self.now ++ drop n bytes)) (add-one end)
    ∙ sym (whole_line c.args.self.now bytes end before inside is)

pub returns-in-Some-clause-ok : goal.returns-in-Some-clause-ok
returns-in-Some-clause-ok c = subst (λ l. IfOk c.join.result (λ _. c.join.new.text.items ≡ l)) (parts c) c.join.ensures.ok

pub returns-in-Some-clause-full : goal.returns-in-Some-clause-full
returns-in-Some-clause-full c = subst (λ l. OnErr c.join.result (vec_capacity c.args.text.now < length l)) (parts c) c.join.ensures.full

pub returns-in-None-clause-ok : goal.returns-in-None-clause-ok
returns-in-None-clause-ok c =
    subst (λ l. IfOk c.join-in-None.result (λ _. c.join-in-None.new.text.items ≡ l)) (sym (without_line c.args.self.now c.args.bytes.now (no_feed c.args.bytes.now (sym c.line_end.ensures ∙ c.in-None.is)))) c.join-in-None.ensures.ok

pub returns-in-None-clause-full : goal.returns-in-None-clause-full
returns-in-None-clause-full c =
    subst (λ l. OnErr c.join-in-None.result (vec_capacity c.args.text.now < length l)) (sym (without_line c.args.self.now c.args.bytes.now (no_feed c.args.bytes.now (sym c.line_end.ensures ∙ c.in-None.is)))) c.join-in-None.ensures.full
