-- Pages gathered into commands, which are changed as asked. Ours.
use Rattle.std.specs.Prelude.{◌≡◌, ◌+◌, Bool, false, None, List, ◌++◌}
use Rattle.std.specs.List.{AllByRecursion}
use Rattle.ogg_page.specs.Page.{Page as PageValue, page_size}
use Rattle.link_chain.specs.ChainState.{ChainState}
use Rattle.link_chain.specs.Taking.{fault_of_page, links_with}
use Rattle.ogg_command.specs.declared.command.Command.{Command}
use Rattle.import_gather.specs.Kept.{KeptLink, is_too_long, waits}
use Rattle.import_gather.specs.Giving.{IsPlain}
use Rattle.import_gather.specs.Gathered.{CanGoOn, Gathered, HasGathered}
use Rattle.import_changes.specs.Changed.{ChangeState, HasChanged}
use Rattle.import_changes.specs.declared.options.ChangeOptions.{ChangeOptions}

pub record Sourced : Type 0 where
  pub chain : ChainState
  pub link : KeptLink
  pub refused : Bool
  pub changes : ChangeState

abbrev pub gathered_of : Sourced → Gathered
gathered_of sourced = record { chain = sourced.chain; link = sourced.link; refused = sourced.refused }

-- The commands of the links, as far as they are gathered, became these, changed as asked.
pub record HasSourced (options : ChangeOptions) (links : List (List PageValue)) (sourced : Sourced) (given : List Command) : Type 0 where
  pub commands : List Command
  pub gathers : HasGathered links (gathered_of sourced) commands
  pub changed : HasChanged sourced.changes commands given
  pub asked : sourced.changes.options ≡ options

-- further pages may be taken
abbrev pub GoesFurther : Sourced → Type 0
GoesFurther sourced = CanGoOn (gathered_of sourced)

-- ---- a page
-- the page is gathered, and these commands are appended
pub record TakesIn (old : Gathered) (page : PageValue) (new : Gathered) (before now : List Command) : Type 0 where
  pub follows : fault_of_page old.chain page ≡ None
  pub short : is_too_long old.link page ≡ false
  pub more : List Command
  pub appended : now ≡ before ++ more
  pub gathers : (links : List (List PageValue)) (given : List Command) → HasGathered links old given → CanGoOn old
      → HasGathered (links_with links page) new (given ++ more) × CanGoOn new
  pub plain : (links : List (List PageValue)) (given : List Command) → HasGathered links old given → AllByRecursion IsPlain more
  pub grows : new.chain.length_of ≡ old.chain.length_of + page_size page

-- the page is gathered, and the commands that its commands became are appended
pub record Gathers (old : Sourced) (page : PageValue) (new : Sourced) (before now : List Command) : Type 0 where
  pub follows : fault_of_page old.chain page ≡ None
  pub more : List Command
  pub appended : now ≡ before ++ more
  pub gathers : (options : ChangeOptions) (links : List (List PageValue)) (given : List Command) → HasSourced options links old given → GoesFurther old
      → HasSourced options (links_with links page) new (given ++ more) × GoesFurther new
  pub grows : new.chain.length_of ≡ old.chain.length_of + page_size page

-- ---- the end
pub record GathersRest (old new : Sourced) (more : List Command) : Type 0 where
  pub gathers : (options : ChangeOptions) (links : List (List PageValue)) (given : List Command) → HasSourced options links old given
      → HasSourced options links new (given ++ more)
  pub none_waits : waits new.link ≡ false
