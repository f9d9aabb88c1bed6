use Rattle.std.proofs.Common.{[], ◌∷◌, sym, ap, ◌∙◌}
use Rattle.ogg_page.specs.Page.{Page}
use Rattle.command_pages.proofs.Commands.{begin_pages, put_pages, end_pages}
use Rattle.command_pages.proofs.paging.CommandPages.of.Goals as goal

pub returns-in-Begin : goal.returns-in-Begin
returns-in-Begin c =
    c.begin_pages.ensures.pages
    ∙ begin_pages c.args.chain.now.chain c.args.command.now c.in-Begin.begin c.as_slice.result.now c.in-Begin.is c.as_slice.ensures

pub returns-in-Put : goal.returns-in-Put
returns-in-Put c =
    c.put_pages.ensures.pages
    ∙ put_pages c.args.chain.now.chain c.args.command.now c.in-Put.put c.streams.result.now c.as_slice-in-Put.result.now c.in-Put.is c.streams.ensures.value c.as_slice-in-Put.ensures

pub returns-in-End : goal.returns-in-End
returns-in-End c =
    ap (λ (page : Page). page ∷ []) (c.end_head.ensures c.args.chain.now.chain (sym c.streams-in-End.ensures.value))
    ∙ end_pages c.args.chain.now.chain c.args.command.now c.in-End.serial c.in-End.is
