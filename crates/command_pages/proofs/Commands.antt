-- The pages of a command, by what it lends.
use Rattle.std.proofs.Common.{◌≡◌, ℕ, List, [], ◌∷◌, sym, ap, ◌∙◌}
use Rattle.ogg_command.specs.declared.command.Command.{Command}
use Rattle.ogg_command.specs.declared.command.Command.TheVariants.{Begin as BeginOf, Put as PutOf, End as EndOf}
use Rattle.ogg_command.specs.declared.command.Begin.{Begin}
use Rattle.ogg_command.specs.declared.command.Put.{Put}
use Rattle.ogg_command.specs.declared.command.NewStream.{NewStream}
use Rattle.ogg_command.specs.declared.command.Entry.{Entry}
use Rattle.link_chain.specs.ChainState.{ChainState}
use Rattle.link_chain.specs.declared.stream_state.StreamState.{StreamState}
use Rattle.command_pages.specs.Encoding.{pages_of_begin, runs_of, pages_of_runs, end_page, pages_of_command}

-- the pages by what is lent are those of the command
pub begin_pages : (chain : ChainState) (command : Command) (begin : Begin) (lent : List NewStream) → command ≡ BeginOf begin → lent ≡ begin.streams →
    pages_of_begin begin.skeleton lent ≡ pages_of_command chain command
unfolding pages_of_command
begin_pages chain command begin lent is l = ap (pages_of_begin begin.skeleton) l ∙ ap (pages_of_command chain) (sym is)

pub put_pages : (chain : ChainState) (command : Command) (put : Put) (streams : List StreamState) (lent : List Entry) → command ≡ PutOf put → streams ≡ chain.streams → lent ≡ put.entries →
    pages_of_runs streams (runs_of lent) ≡ pages_of_command chain command
unfolding pages_of_command
put_pages chain command put streams lent is s l =
    ap (λ (xs : List StreamState). pages_of_runs xs (runs_of lent)) s ∙ ap (λ (xs : List Entry). pages_of_runs chain.streams (runs_of xs)) l ∙ ap (pages_of_command chain) (sym is)

pub end_pages : (chain : ChainState) (command : Command) (serial : ℕ) → command ≡ EndOf serial → end_page chain serial ∷ [] ≡ pages_of_command chain command
unfolding pages_of_command
end_pages chain command serial is = ap (pages_of_command chain) (sym is)
