-- The streams that a command leaves have distinct serials.
use Rattle.std.proofs.Common.{◌≡◌, List, [], ◌∷◌, ◌+◌, length, map, Option, Some, None, refl, sym, ap, subst}
use Rattle.std.specs.Prelude.{nat_eq}
use Rattle.std.specs.List.{IsDistinct, fold}
use Rattle.link_chain.specs.declared.stream_state.StreamState.{StreamState}
use Rattle.link_chain.specs.Progress.{next_in, advanced}
use Rattle.chain_rules.specs.Encoding.{run_serial, run_position, pages_behind, with_run}
use Rattle.ogg_command.specs.declared.command.Entry.{Entry}
use Rattle.ogg_command.specs.declared.command.NewStream.{NewStream}
use Rattle.ogg_command.specs.declared.command.SkeletonHead.{SkeletonHead}
use Rattle.chain_rules.specs.Begun.{new_state, states_of, serials_in}
use Rattle.link_chain.specs.Places.{HaveOwnSerials}
use Rattle.link_chain.specs.Laws.OwnSerials.{serial_in, own_stay}

own_run : (streams : List StreamState) (run : List Entry) → HaveOwnSerials streams → HaveOwnSerials (with_run streams run)
own_run streams run d =
    own_stay (run_serial run) (advanced (next_in streams (run_serial run) + length (pages_behind streams run)) (run_position run)) streams (λ s. refl) d

pub own_runs : (streams : List StreamState) (runs : List (List Entry)) → HaveOwnSerials streams → HaveOwnSerials (fold with_run streams runs)
own_runs streams [] d = d
own_runs streams (run ∷ runs) d = own_runs (with_run streams run) runs (own_run streams run d)

-- ---- a new link
begun_serials : (streams : List NewStream) → map serial_in (map new_state streams) ≡ map (λ (s : NewStream). s.serial) streams
begun_serials [] = refl
begun_serials (s ∷ streams) = ap (λ l. s.serial ∷ l) (begun_serials streams)

pub states_serials : (skeleton : Option SkeletonHead) (streams : List NewStream) → map serial_in (states_of skeleton streams) ≡ serials_in skeleton streams
states_serials None streams = begun_serials streams
states_serials (Some head) streams = ap (λ l. head.serial ∷ l) (begun_serials streams)

pub own_begun : (skeleton : Option SkeletonHead) (streams : List NewStream) → IsDistinct nat_eq (serials_in skeleton streams) →
    HaveOwnSerials (states_of skeleton streams)
own_begun skeleton streams d = subst (λ l. IsDistinct nat_eq l) (sym (states_serials skeleton streams)) d
