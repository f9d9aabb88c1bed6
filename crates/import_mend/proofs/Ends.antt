-- A stream is ended by a page without packets.
use Rattle.std.proofs.Common.{◌≡◌, ℕ, ◌+◌, Bool, cond, true, false, List, [], ◌∷◌, ◌++◌, Some, None, refl, sym, ◌∙◌, ap, subst, arith, append_assoc, append-nil}
use Rattle.std.specs.Prelude.{nat_eq, length, ◌||◌}
use Rattle.std.specs.List.{filter, find}
use Rattle.link_chain.specs.declared.stream_state.StreamState.{StreamState}
use Rattle.link_chain.specs.Progress.{stream_in, left_whole as whole_stream}
use Rattle.link_chain.specs.Taking.{fault_of_page}
use Rattle.import_gather.specs.Gathered.{Gathered, without_packet}
use Rattle.import_gather.specs.Kept.{is_too_long, rest_of}
use Rattle.std.proofs.lemmas.Bool.{cond-true, cond-false, le-ltb}
use Rattle.import_mend.specs.Mended.{end_page}
use Rattle.link_chain.specs.ChainState.{ChainState, is_open}
use Rattle.link_chain.specs.Followed.{followed}
use Rattle.link_chain.specs.Places.{HaveOwnSerials}
use Rattle.link_chain.specs.Progress.{change_at}
use Rattle.link_chain.specs.Laws.StateBehind.{map-map, map-same}
use Rattle.ogg_command.specs.declared.command.Command.{Command}
use Rattle.import_mend.specs.Gives.{EndsEach, EndsOne, EndsStreams, is_unended, open_streams}
use Rattle.import_mend.specs.Steps.{after_end}
use Rattle.import_mend.proofs.Open.{ends_first, none_unended}
use Rattle.import_mend.proofs.Fits.{later_fits, broken_known, no_rest, same_number}

pub end_fits : (stream : StreamState) (g : Gathered) → nat_eq g.chain.links 0 ≡ false → stream_in g.chain.streams stream.serial ≡ Some stream → stream.ended ≡ false →
    fault_of_page (without_packet stream.serial g).chain (end_page stream.next_sequence stream) ≡ None
end_fits stream g some known unended =
    later_fits (without_packet stream.serial g).chain (end_page stream.next_sequence stream) (whole_stream stream) refl some (broken_known false stream.serial g stream known) unended
    (same_number stream.next_sequence) refl refl

pub end_is_short : (stream : StreamState) (g : Gathered) → is_too_long (without_packet stream.serial g).link (end_page stream.next_sequence stream) ≡ false
end_is_short stream g =
    le-ltb 8388608 (length (rest_of stream.serial (without_packet stream.serial g).link.streams) + 0) (omega (arith, ap length (no_rest stream.serial g.link.streams)))

-- ---- one stream after the other
pub ends_more : (streams : List StreamState) (stream : StreamState) (old next new : Gathered) (more own : List Command) → EndsEach streams old next more → EndsOne stream next new own →
    EndsEach (streams ++ stream ∷ []) old new (more ++ own)
ends_more [] stream old next new more own e one = (
  new,
  own,
  [],
  subst (λ (g : Gathered). EndsOne stream g new own) e.0 one,
  (refl, refl),
  ap (λ l. l ++ own) e.1 ∙ sym (append-nil own),
)
ends_more (s ∷ streams) stream old next new more own (between, first, others, one', each, all) one = (
  between,
  first,
  others ++ own,
  one',
  ends_more streams stream between next new others own each one,
  ap (λ l. l ++ own) all ∙ append_assoc first others own,
)

-- the change that ending makes of a stream
ended_by : StreamState → StreamState → StreamState
ended_by stream s = followed (end_page stream.next_sequence stream) (whole_stream s)

twice : (serial : ℕ) (f g : StreamState → StreamState) (s : StreamState) → ((x : StreamState) → (f x).serial ≡ x.serial) → change_at serial g (change_at serial f s) ≡ change_at serial (λ x. g (f x)) s
twice serial f g s keeps = by_case (nat_eq s.serial serial) refl
  where
    by_case : (b : Bool) → nat_eq s.serial serial ≡ b → change_at serial g (cond b (f s) s) ≡ cond b (g (f s)) s
    by_case true e = cond-true (nat_eq (f s).serial serial) (g (f s)) (f s) (ap (λ n. nat_eq n serial) (keeps s) ∙ e)
    by_case false e = cond-false (nat_eq s.serial serial) (g s) s e

-- of the open streams the first is ended
pub one_less : (stream : StreamState) (old new : Gathered) → HaveOwnSerials old.chain.streams → find is_unended old.chain.streams ≡ Some stream → new.chain ≡ after_end stream old →
    open_streams old.chain ≡ stream ∷ open_streams new.chain
unfolding ended_by
one_less stream old new own first after =
    ends_first (ended_by stream) (λ s e. or_true s.ended) old.chain.streams stream own (or_true stream.ended) first
    ∙ ap (λ l. stream ∷ filter is_unended l)
    (sym (map-same (λ s. change_at stream.serial (followed (end_page stream.next_sequence stream)) (change_at stream.serial whole_stream s)) (change_at stream.serial (ended_by stream))
    (λ s. twice stream.serial whole_stream (followed (end_page stream.next_sequence stream)) s (λ x. refl)) old.chain.streams)
    ∙ sym (map-map (change_at stream.serial (followed (end_page stream.next_sequence stream))) (change_at stream.serial whole_stream) old.chain.streams))
    ∙ ap (λ (c : ChainState). stream ∷ open_streams c) (sym after)
  where
    or_true : (b : Bool) → (b || true) ≡ true
    or_true true = refl
    or_true false = refl

-- nothing is ended yet
pub ends_none : (g : Gathered) → EndsStreams g g []
ends_none g = record { ended = []; each = (refl, refl); open_ones = refl }

-- one more is ended
pub ends_one : (stream : StreamState) (old next new : Gathered) (more own : List Command) → EndsStreams old next more → EndsOne stream next new own
    → open_streams next.chain ≡ stream ∷ open_streams new.chain → EndsStreams old new (more ++ own)
ends_one stream old next new more own e one less = record {
  ended = e.ended ++ stream ∷ [];
  each = ends_more e.ended stream old next new more own e.each one;
  open_ones = e.open_ones ∙ ap (λ l. e.ended ++ l) less ∙ sym (append_assoc e.ended (stream ∷ []) (open_streams new.chain));
}

-- all are ended
pub ends_all : (old new : Gathered) (more : List Command) → EndsStreams old new more → is_open new.chain ≡ false → EndsEach (open_streams old.chain) old new more
ends_all old new more e closed =
    let all : open_streams old.chain ≡ e.ended = e.open_ones ∙ ap (λ l. e.ended ++ l) (none_unended new.chain.streams closed) ∙ append-nil e.ended in
    subst (λ (l : List StreamState). EndsEach l old new more) (sym all) e.each
