-- How what is written of pages goes on.
use Rattle.std.proofs.Common.{◌≡◌, ◌++◌, ◌∷◌, [], List, ℕ, map, refl, ap, sym, ◌∙◌, append_assoc, subst}
use Rattle.std.proofs.lemmas.List.{map-append}
use Rattle.ogg_command.specs.declared.command.Command.{Command}
use Rattle.line_packets.specs.Choosing.{Came, LinkState, WritesAll, coming, command_in}
use Rattle.line_packets.specs.declared.choosing.Wanted.{Wanted}
use Rattle.line_packets.specs.declared.choosing.When.{When}

pub commands_come : (when : When) (commands : List Command) → map command_in (map (coming when) commands) ≡ commands
commands_come when [] = refl
commands_come when (command ∷ commands) = ap (λ (l : List Command). command ∷ l) (commands_come when commands)

pub commands_on : (when : When) (given : List Came) (more : List Command) → map command_in (given ++ map (coming when) more) ≡ map command_in given ++ more
commands_on when given more = map-append command_in given (map (coming when) more) ∙ ap (λ (l : List Command). map command_in given ++ l) (commands_come when more)

pub writes_on : (wanted : Wanted) (first mid after : LinkState) (given more : List Came) (a b : List ℕ)
    → WritesAll wanted first given mid a → WritesAll wanted mid more after b → WritesAll wanted first (given ++ more) after (a ++ b)
writes_on wanted first mid after [] more a b writes on =
    subst (λ (text : List ℕ). WritesAll wanted first more after (text ++ b)) (sym writes.1)
    (subst (λ (link : LinkState). WritesAll wanted link more after b) writes.0 on)
writes_on wanted first mid after (came ∷ given) more a b writes on = (
  writes.0,
  writes.1,
  writes.2 ++ b,
  writes.3,
  writes_on wanted writes.0 mid after given more writes.2 b writes.4 on,
  ap (λ (text : List ℕ). text ++ b) writes.5 ∙ append_assoc writes.1 writes.2 b,
)
