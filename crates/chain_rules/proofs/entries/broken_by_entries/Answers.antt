use Rattle.std.proofs.Common.{◌≡◌, ◌+◌, ◌∷◌, ℕ, false, List, drop, sym, ◌∙◌, ap, subst, refl}
use Rattle.std.specs.Prelude.{is_some}
use Rattle.std.proofs.lemmas.List.{drop_more}
use Rattle.ogg_command.specs.declared.command.Entry.{Entry}
use Rattle.link_chain.specs.declared.stream_state.StreamState.{StreamState}
use Rattle.link_chain.specs.Rules.{first_broken}
use Rattle.chain_rules.specs.Decision.{entry_rules, entries_rules}
use Rattle.link_chain.specs.Progress.{with_position, moved_to}
use Rattle.link_chain.specs.Places.{HaveOwnSerials}
use Rattle.link_chain.specs.Laws.OwnSerials.{own_stay}
use Rattle.link_chain.specs.Laws.Rules.{passes_by}
use Rattle.chain_rules.proofs.entries.broken_by_entries.Goals as goal

pub loop-entry-preserved : goal.loop-entry-preserved
loop-entry-preserved c =
    let i : ℕ = c.loop-entry.entry-index in
    let entries : List Entry = c.args.entries.now in
    let streams : List StreamState = c.loop-entry.streams in
    let entry : Entry = c.entry-item.result in
    let own : HaveOwnSerials streams = c.loop-entry.invariant.1 in
    let moved : c.move_stream.new.streams ≡ with_position entry.serial entry.position streams =
    c.move_stream.ensures entry.serial own c.place_of-place.ensures in
    let more : drop i entries ≡ entry ∷ drop (i + 1) entries =
    drop_more entries i entry c.loop-entry-test.true ∙ ap (λ (e : Entry). e ∷ drop (i + 1) entries) (sym c.entry-item.is) in
    let none : is_some c.broken_by_entry-broken.result ≡ false = sym c.is_some.ensures ∙ c.if-is_some.false in (
      c.loop-entry.invariant.0
          ∙ ap (λ l. first_broken (entries_rules streams l)) more
          ∙ passes_by c.broken_by_entry-broken.result (entry_rules streams entry)
          (entries_rules (with_position entry.serial entry.position streams) (drop (i + 1) entries))
          c.broken_by_entry-broken.ensures none
          ∙ ap (λ s. first_broken (entries_rules s (drop (i + 1) entries))) (sym moved),
      subst HaveOwnSerials (sym moved) (own_stay entry.serial (moved_to entry.position) streams (λ s. refl) own),
    )
