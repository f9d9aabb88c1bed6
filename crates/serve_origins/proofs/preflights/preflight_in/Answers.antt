use Rattle.std.proofs.Common.{◌≡◌, ◌||◌, Bool, true, false, inl, sym, ◌∙◌}
use Rattle.serve_origins.specs.Preflights.{is_options}
use Rattle.serve_origins.proofs.preflights.preflight_in.Goals as goal

right_of : (a b : Bool) → (a || b) ≡ false → b ≡ false
right_of true b none = absurd (cc none)
right_of false b none = none

pub returns-in-Partial-2-clause-no : goal.returns-in-Partial-2-clause-no
returns-in-Partial-2-clause-no c e =
    let none = sym c.may_be_options.ensures ∙ c.if-may_be_options.false in
    inl (right_of _ (is_options c.args.front.now) none, inl none)
