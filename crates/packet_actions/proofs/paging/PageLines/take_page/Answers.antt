use Rattle.std.proofs.Common.{◌≡◌, ◌++◌, ◌∙◌, List, ap, arith, map, subst, sym}
use Rattle.ogg_page.specs.PageLaws.{page_fits}
use Rattle.link_chain.specs.Taking.{links_with}
use Rattle.ogg_command.specs.declared.command.Command.{Command}
use Rattle.import_gather.specs.Gathered.{HasGathered}
use Rattle.line_packets.specs.Choosing.{WritesAll, coming, command_in, no_link}
use Rattle.line_packets.specs.declared.choosing.Wanted.{Wanted}
use Rattle.packet_actions.proofs.Coming.{commands_on, writes_on}
use Rattle.packet_actions.proofs.paging.PageLines.take_page.Goals as goal

pub take_page-requires : goal.take_page-requires
take_page-requires c = grind (arith, page_fits c.args.page.now c.whole-bytes.ensures.is_page, c.chain.ensures, c.len.ensures.value, c.if-len-ge-MOST_BYTES.false)

pub returns-in-Ok-clause-writes : goal.returns-in-Ok-clause-writes
returns-in-Ok-clause-writes c = λ links before has.
    let when = c.args.when in
    let more = c.in_ok-take_page.ensures.gathered in
    let on = more.2.goes_on links (map command_in has.given) has.gathered has.goes_on in
    let came : c.as_slice.result.now ≡ more.0 = c.as_slice.ensures.value ∙ more.1 ∙ ap (λ (l : List Command). l ++ more.0) c.new-commands.ensures.items in
    let wrote = c.in-Ok.ensures.writes in (
      wrote.0,
      wrote.2,
      record {
        given = has.given ++ map (coming when) more.0;
        gathered = subst (HasGathered (links_with links c.args.page.now) c.take_page.new.self) (sym (commands_on when has.given more.0)) on.0;
        goes_on = on.1;
        writes = subst (λ (w : Wanted). WritesAll w no_link (has.given ++ map (coming when) more.0) c.take_all.new.self.link (before ++ wrote.0)) (sym c.in-Ok.ensures.wanted)
            (writes_on c.args.self.now.choosing.wanted no_link c.args.self.now.choosing.link c.take_all.new.self.link has.given (map (coming when) more.0) before wrote.0
            has.writes (subst (λ (commands : List Command). WritesAll c.args.self.now.choosing.wanted c.args.self.now.choosing.link (map (coming when) commands)
            c.take_all.new.self.link wrote.0) came wrote.1));
      },
    )
