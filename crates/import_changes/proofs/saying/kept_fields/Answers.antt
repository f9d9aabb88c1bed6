use Rattle.std.proofs.Common.{List, sym, ◌∙◌, ap, ◌++◌, ◌∷◌, [], ◌≡◌, true, length, length-append, arith, not}
use Rattle.std.specs.List.{list_all}
use Rattle.skeleton3.specs.Fields.{NamedValue, is_field}
use Rattle.import_changes.specs.Said.{further}
use Rattle.import_changes.proofs.Readings.{all_push_field, further_push, some_field}
use Rattle.import_changes.proofs.saying.kept_fields.Goals as goal

pub loop-name-preserved-in-Continue-branch-3 : goal.loop-name-preserved-in-Continue-branch-3
loop-name-preserved-in-Continue-branch-3 c =
    let now : List NamedValue = c.loop-name.now.items in
    let field : NamedValue = (c.in-Some.name.now, c.in-Some.value.now) in
    let kept : (is_field field ≡ true) × (c.in-Some-2.field ≡ field) =
    some_field (is_field field) field c.in-Some-2.field (sym c.in_ok-field.ensures ∙ c.in-Some-2.is) in
    let pushed : c.push.new.self.items ≡ now ++ field ∷ [] = c.in_ok-push-in-Some-2.ensures.items ∙ ap (λ f. now ++ f ∷ []) kept.1 in
    record {
      can = c.loop-name.invariant.can;
      finite = c.loop-name.invariant.finite;
      fields = further_push c.args.message now c.loop-name.name-iterator c.next.new.self field c.loop-name.invariant.fields
          c.in-Some.ensures.steps (ap (λ b. not b) (sym c.is_content_type.ensures ∙ c.if-not-is_content_type.true))
          ∙ ap (λ l. l ++ further c.next.new.self) (sym pushed);
      kept = ap (list_all is_field) pushed ∙ all_push_field now field c.loop-name.invariant.kept kept.0;
      few = omega (arith, ap length pushed, length-append now (field ∷ []), c.len.ensures, c.if-len-ge-MOST_FIELDS.false);
    }
