use Rattle.std.proofs.Common.{rules, append-nil, refl, sym, subst, [], List}
use Rattle.std.proofs.lemmas.Result.{IfErr-weaker, on_ok_weaker}
use Rattle.ogg_command.specs.declared.command.Command.{Command}
use Rattle.import_feed.specs.Source.{HasSourced}
use Rattle.import_feed.proofs.Turns.{closes_by}
use Rattle.import_feed.proofs.maker.Maker.close.Goals as goal

pub returns-in-Err : goal.returns-in-Err
returns-in-Err g c = record {
  more = [];
  new = c.args.self.now.gatherer;
  gathers = λ options links given is. subst (λ (l : List Command). HasSourced options links c.args.self.now.gatherer l) (sym (append-nil given)) is;
  not = refl;
}

pub returns : goal.returns
returns g c =
    closes_by c.give.result c.args.self.now c.give.new.self _ _
    (on_ok_weaker c.give.result (λ gives. search rules) c.give.ensures.ok)
    (IfErr-weaker c.give.result _ _
    (λ fault gives. record { more = c.in-Ok.commands.items; new = c.end.new.self; gathers = c.in-Ok.ensures.ok.gathers; not = gives.not }) c.give.ensures.err)
