use Rattle.std.proofs.Common.{◌≡◌, ◌∷◌, [], refl, sym, ◌∙◌, ap, subst, Result, Ok, Err, Option, Some, IfOk, IsOkAnd, MatchResult}
use Rattle.ogg_command.specs.declared.command.Command.TheVariants.{Put as PutOf, End as EndOf}
use Rattle.import_changes.specs.Changed.{IsPlain, ChangeState}
use Rattle.import_changes.specs.Naming.{entries_named, name_of}
use Rattle.import_changes.specs.Options.{is_none}
use Rattle.import_changes.proofs.Dated.{begin_at, end_at_time, put_at_time, same_at}
use Rattle.import_changes.proofs.Steps.{begin_changed, put_changed, end_changed, same_command}
use Rattle.import_changes.proofs.changes.Changes.change.Goals as goal

-- what comes of a value that `Some` is put round
some_of : {T E : Type 0} (made : Result T E) (result : Result (Option T) E) (P : T → Type 0) (Q : Option T → Type 0)
    → MatchResult made (λ x. IsOkAnd result (λ y. y ≡ Some x)) (λ e. result ≡ Err e) → ((x : T) → P x → Q (Some x)) → IfOk made P → IfOk result Q
some_of (Ok x) (Ok y) P Q is give p = subst Q (sym is) (give x p)
some_of (Ok x) (Err e) P Q is give p = tt
some_of (Err e) result P Q is give p = rw is tt

pub returns-in-Begin-clause-changed : goal.returns-in-Begin-clause-changed
returns-in-Begin-clause-changed c =
    some_of c.begin.result c.map.result _ _ c.map.ensures.cases
    (λ now begins taken commands given h plain. rw c.in-Begin.is
    (begin_changed taken c.args.utc c.args.self.now c.begin.new.self c.in-Begin.begin now commands given
    (ap (λ (s : ChangeState). is_none s.options) (sym c.self.view_is) ∙ sym c.is_none.ensures ∙ c.if-is_none.false)
    (subst IsPlain c.in-Begin.is plain) begins h))
    c.begin.ensures.begins

pub returns-in-Put-clause-changed : goal.returns-in-Put-clause-changed
returns-in-Put-clause-changed c = λ taken commands given h plain.
    rw (c.in-Put.is, c.put.ensures)
    (put_changed taken c.args.self.now c.in-Put.put commands given
    (ap (λ (s : ChangeState). is_none s.options) (sym c.self.view_is) ∙ sym c.is_none.ensures ∙ c.if-is_none.false) h)

pub returns-in-End-clause-changed : goal.returns-in-End-clause-changed
returns-in-End-clause-changed c = λ taken commands given h plain.
    rw (c.in-End.is, c.end.ensures)
    (end_changed taken c.args.self.now c.in-End.serial commands given
    (ap (λ (s : ChangeState). is_none s.options) (sym c.self.view_is) ∙ sym c.is_none.ensures ∙ c.if-is_none.false) h)

pub returns-then-is_none-clause-changed : goal.returns-then-is_none-clause-changed
returns-then-is_none-clause-changed c = λ taken commands given h plain.
    same_command taken c.args.self.now c.args.command commands given
    (ap (λ (s : ChangeState). is_none s.options) (sym c.self.view_is) ∙ sym c.is_none.ensures ∙ c.if-is_none.true) h plain

pub returns-in-Begin-clause-times : goal.returns-in-Begin-clause-times
returns-in-Begin-clause-times c =
    some_of c.begin.result c.map.result _ _ c.map.ensures.cases
    (λ now begins. rw c.in-Begin.is (begin_at c.args.utc c.args.self.now c.begin.new.self c.in-Begin.begin now begins))
    c.begin.ensures.begins

pub returns-in-Put-clause-times : goal.returns-in-Put-clause-times
returns-in-Put-clause-times c = rw (c.in-Put.is, c.put.ensures)
    (put_at_time c.args.utc c.args.self.now.options (PutOf c.in-Put.put) (entries_named c.args.self.now.names c.in-Put.put.entries) refl)

pub returns-in-End-clause-times : goal.returns-in-End-clause-times
returns-in-End-clause-times c = rw (c.in-End.is, c.end.ensures)
    (end_at_time c.args.utc c.args.self.now.options (EndOf c.in-End.serial) (name_of c.args.self.now.names c.in-End.serial) refl)

pub returns-then-is_none-clause-times : goal.returns-then-is_none-clause-times
returns-then-is_none-clause-times c = same_at c.args.utc c.args.self.now.options (c.args.command ∷ [])
    (ap (λ (s : ChangeState). is_none s.options) (sym c.self.view_is) ∙ sym c.is_none.ensures ∙ c.if-is_none.true)
