use Rattle.std.proofs.Common.{◌≡◌, List, ◌++◌, Bool, refl, ◌∙◌, ap, subst}
use Rattle.ogg_page.specs.Page.{Page}
use Rattle.link_chain.specs.ChainState.{is_open}
use Rattle.link_chain.specs.Taking.{links_with}
use Rattle.ogg_command.specs.declared.command.Command.{Command}
use Rattle.import_gather.specs.Kept.{KeptLink}
use Rattle.import_gather.specs.Giving.{TakesOn}
use Rattle.import_gather.specs.Gathered.{Gathered}
use Rattle.import_gather.proofs.Gathering.{takes, gathered_alike}
use Rattle.import_gather.proofs.Onward.{state}
use Rattle.import_gather.proofs.Plain.{plain_page}
use Rattle.import_gather.proofs.gatherer.Gatherer.gather.Goals as goal

takes_on : (page : Page) (seen : Gathered) (now : Gathered) (open' : Bool) (new : KeptLink) (more : List Command) → seen ≡ now → open' ≡ is_open seen.chain → TakesOn page open' seen.link new more →
    TakesOn page (is_open now.chain) now.link new more
takes_on page seen now open' new more is o t =
    subst (λ (g : Gathered). TakesOn page (is_open g.chain) g.link new more) is (subst (λ (b : Bool). TakesOn page b seen.link new more) o t)

pub returns-clause-gathered : goal.returns-clause-gathered
returns-clause-gathered c =
    let t = c.in_ok-take_page.ensures.ok in
    let seen : Gathered = record { chain = c.self.inside.chain.chain; link = c.self.inside.link; refused = c.self.inside.grower } in
    let new : Gathered = record { chain = c.take_page-2.new.chain.chain; link = c.take_page.new.self; refused = c.take_page-2.new.self } in
    let opened : c.is_open-open.result ≡ is_open seen.chain = c.is_open-open.ensures ∙ ap (λ s. is_open (record seen.chain { streams = s })) c.streams.ensures.value in
    let on : TakesOn c.args.page.now (is_open c.args.self.now.chain) c.args.self.now.link c.take_page.new.self t.0 =
    takes_on c.args.page.now seen c.args.self.now c.is_open-open.result c.take_page.new.self t.0 c.self.view_is opened t.2 in (
      t.0,
      t.1,
      record {
        takes = on;
        plain = λ links given h. plain_page links c.args.self.now given c.args.page.now c.take_page.new.self t.0 c.requires.fits h on;
        goes_on = λ links given h goes_on.
            let taken =
            takes links c.args.self.now given c.args.page.now c.take_page.new.self c.take_page-2.new.chain.chain t.0 c.whole-bytes.ensures.is_page c.requires.fits h goes_on on
            (c.in_ok-take_page-2.ensures.links links (ap (λ (g : Gathered). g.chain) c.self.view_is ∙ h.chain)) in (
              gathered_alike (links_with links c.args.page.now) (state c.take_page-2.new.chain.chain c.take_page.new.self) new (given ++ t.0) refl refl taken.0,
              taken.1,
            );
      },
    )
