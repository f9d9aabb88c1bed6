-- The chain state after a run.
use Rattle.std.proofs.Common.{◌≡◌, ℕ, ◌+◌, ◌<◌, ◌^◌, true, false, List, [], ◌∷◌, ◌++◌, length, sym, ◌∙◌, ap, arith, append_assoc}
use Rattle.std.specs.Prelude.{not}
use Rattle.std.proofs.lemmas.Bool.{ne_eqb}
use Rattle.std.proofs.lemmas.List.{append-nil}
use Rattle.std.proofs.lemmas.List.Concat.{flat_map-append}
use Rattle.ogg_page.specs.Page.{Page}
use Rattle.ogg_page.specs.Lacing.{ends_open}
use Rattle.ogg_page.specs.LogicalStream.{is_first, is_last, joined_lacing, number_behind}
use Rattle.packetiser.specs.Run.{Timed, pages_of_run, run_lacing}
use Rattle.ogg_page.specs.StreamLaws.{ends_open-at}
use Rattle.packetiser.specs.Laws.Behind.{run_is_plain, IsPlain, number_behind_run}
use Rattle.packetiser.specs.Laws.Pieces.{run_is_held, run_pages, lacing_again}
use Rattle.link_chain.specs.Links.{pages_with, has_ended}
use Rattle.link_chain.specs.ChainState.{state_of, last_position}
use Rattle.link_chain.specs.Progress.{advanced}
use Rattle.link_chain.specs.Laws.Grow.{Own, Unmarked, GoOn, with_own, ended_same, all_weaker}
use Rattle.chain_rules.proofs.LastPage.{run_reaches, end_position, closed_run, EndsClosed}
use Rattle.link_chain.specs.Laws.StateBehind.{state}
pub use Rattle.link_chain.specs.Followed.{moved_by}

-- ---- a run
closed_open : (xs values : List ℕ) → EndsClosed values → ends_open (xs ++ values) ≡ false
closed_open xs values h =
    ap (λ l. ends_open (xs ++ l)) h.whole ∙ ap ends_open (sym (append_assoc xs h.front (h.last ∷ [])))
    ∙ ends_open-at (xs ++ h.front) h.last [] ∙ ne_eqb h.last 255 (λ e. omega (arith, h.small, e))

run_joined : (serial first : ℕ) (run : List Timed) → joined_lacing (pages_of_run serial first run) ≡ run_lacing run
run_joined serial first run = (run_is_held serial first run).lacing ∙ append-nil _ ∙ sym (lacing_again run)

pub run_own : (serial first : ℕ) (run : List Timed) → Own serial (pages_of_run serial first run)
run_own serial first run = all_weaker (IsPlain serial) (λ (p : Page). p.serial ≡ serial) (λ p h. h.serial_is) (pages_of_run serial first run) (run_is_plain serial first run)

pub run_unmarked : (serial first : ℕ) (run : List Timed) → Unmarked (pages_of_run serial first run)
run_unmarked serial first run = all_weaker (IsPlain serial) (λ (p : Page). is_first p ≡ false) (λ p h. h.unmarked) (pages_of_run serial first run) (run_is_plain serial first run)

pub run_goes_on : (serial first : ℕ) (run : List Timed) → GoOn (pages_of_run serial first run)
run_goes_on serial first run = all_weaker (IsPlain serial) (λ (p : Page). is_last p ≡ false) (λ p h. h.goes_on) (pages_of_run serial first run) (run_is_plain serial first run)

pub run_state : (link : List Page) (serial first : ℕ) (run : List Timed) → 0 < length run → end_position run < 2 ^ 63 → number_behind (pages_with serial link) ≡ first →
    state_of (link ++ pages_of_run serial first run) serial
    ≡ advanced (first + length (pages_of_run serial first run)) (end_position run) (state_of link serial)
run_state link serial first run some small number =
    let pages : List Page = pages_of_run serial first run in
    let own : List Page = pages_with serial link in
    let both : pages_with serial (link ++ pages) ≡ own ++ pages = with_own serial link pages (run_own serial first run) in
    let next : number_behind (own ++ pages) ≡ first + length pages =
    number_behind_run serial first run own number ∙ ap (λ n. first + n) (sym (run_pages serial first run)) in
    let position : last_position (own ++ pages) ≡ end_position run = run_reaches serial first run own some small in
    let finished : not (ends_open (joined_lacing (own ++ pages))) ≡ true =
    ap not (ap ends_open (flat_map-append (λ (p : Page). p.lacing) own pages ∙ ap (λ l. joined_lacing own ++ l) (run_joined serial first run))
    ∙ closed_open (joined_lacing own) (run_lacing run) (closed_run run some)) in
    ap (λ (l : List Page). state serial (number_behind l) (last_position l) (has_ended (link ++ pages) serial) (not (ends_open (joined_lacing l)))) both
    ∙ ap (λ n. state serial n (last_position (own ++ pages)) (has_ended (link ++ pages) serial) (not (ends_open (joined_lacing (own ++ pages))))) next
    ∙ ap (λ n. state serial (first + length pages) n (has_ended (link ++ pages) serial) (not (ends_open (joined_lacing (own ++ pages))))) position
    ∙ ap (λ b. state serial (first + length pages) (end_position run) b (not (ends_open (joined_lacing (own ++ pages))))) (ended_same serial link pages (run_goes_on serial first run))
    ∙ ap (λ b. state serial (first + length pages) (end_position run) (has_ended link serial) b) finished
