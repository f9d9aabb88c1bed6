use Rattle.std.proofs.Common.{◌≡◌, false, List, ◌++◌, Ok, refl, ◌∙◌, ap, inl, append_assoc}
use Rattle.link_chain.specs.ChainState.{is_open}
use Rattle.ogg_command.specs.declared.command.Command.{Command}
use Rattle.import_gather.specs.Gathered.{Gathered}
use Rattle.import_mend.proofs.Ends.{ends_all}
use Rattle.import_mend.proofs.mender.Mender.restart.Goals as goal

pub returns-clause-gives : goal.returns-clause-gives
returns-clause-gives c =
    let (ends, items, each) = c.in_ok-closed.ensures.gives in
    let (own, all, first) = c.in_ok-enter.ensures.gives in
    let closed : Gathered = c.end_streams.new.gatherer in
    let shut : is_open closed.chain ≡ false = c.in_ok-closed.ensures.closed (ap Ok c.if-not-closed.false) in (
      ends ++ own,
      all ∙ ap (λ (l : List Command). l ++ own) items ∙ append_assoc c.args.commands.now.items ends own,
      inl (
        refl,
        record {
          closed = closed;
          ends = ends;
          own = own;
          each = ends_all c.args.gatherer.now closed ends each shut;
          shut = shut;
          after = c.in_ok-enter.ensures.after.0;
          begins = first.0;
          all = refl;
          losses = first.1;
        },
      ),
    )
