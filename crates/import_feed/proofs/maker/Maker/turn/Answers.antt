use Rattle.import_feed.proofs.Turns.{takes_page, turn_breaks, turn_fails, turn_goes, turn_made}
use Rattle.import_feed.proofs.maker.Maker.turn.Goals as goal

pub returns-in-Err-clause-made : goal.returns-in-Err-clause-made
returns-in-Err-clause-made g c = λ options from before links given was.
    turn_fails options c.in-Err.fault from _ _ before _ c.args.self.now c.next_page.new.self links given was c.in-Err.ensures

pub returns-in-Ok-clause-made : goal.returns-in-Ok-clause-made
returns-in-Ok-clause-made g c = λ options from before links given was.
    turn_made options from _ _ before _ _ c.args.self.now c.next_page.new.self c.give.new.self links given was
    (takes_page c.in-Ok-true.field-0 _ _ _ _ c.in-Ok-true.field-0-test c.in-Ok-true.ensures) c.in-Ok.ensures.ok

pub returns-in-Ok-clause-goes : goal.returns-in-Ok-clause-goes
returns-in-Ok-clause-goes g c = λ _.
    turn_goes _ _ _ _ c.args.self.now c.next_page.new.self c.give.new.self c.requires
    (takes_page c.in-Ok-true.field-0 _ _ _ _ c.in-Ok-true.field-0-test c.in-Ok-true.ensures) c.in-Ok.ensures.ok

pub returns-in-Err-give-clause-made : goal.returns-in-Err-give-clause-made
returns-in-Err-give-clause-made g c = λ options from before links given was.
    turn_breaks options c.in-Err-give.fault from _ _ before _ _ c.args.self.now c.next_page.new.self c.give.new.self links given was
    (takes_page c.in-Ok-true.field-0 _ _ _ _ c.in-Ok-true.field-0-test c.in-Ok-true.ensures) c.in-Err-give.ensures.err
