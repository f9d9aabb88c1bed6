-- An input whose bytes come piece by piece: the pages that are taken, and what is recorded of them.
use Rattle.std.proofs.Common.{◌≡◌, ℕ, List, [], ◌∷◌, ◌++◌, Option, Some, None, Ok, refl, sym, ◌∙◌, ap, subst, append_assoc, append-nil}
use Rattle.std.specs.Prelude.{⊤}
use Rattle.ogg_page.specs.Window.{LentAt}
use Rattle.feed_records.specs.declared.item.Record.{Record}
use Rattle.feed_replies.specs.declared.reply.Reply.{Reply}
use Rattle.import_pages.specs.Reader.{HasAdvanced, ReaderState}
use Rattle.import_mend.specs.declared.mend.Mend.{Mend}
use Rattle.import_record.specs.Steps.{IntakeState, Takes}
use Rattle.import_record.specs.Whole.Event.{Flushing, Taking, Resuming}
use Rattle.import_record.specs.Whole.{Done, Event, Records, flush_then, nothing_done, page_then, pages_in}
use Rattle.import_record.specs.Pushing.{Call, Drains, Feeds, Imports, InputState, IsStepped, bytes_in, event_of, events_in}
use Rattle.import_record.specs.Pushing.Call.{Came, Stepped}
use Rattle.import_record.specs.declared.intake.Taken.{Taken}
use Rattle.import_record.specs.declared.reading.Step.{Step}
use Rattle.import_record.specs.declared.reading.Step.TheVariants.{Flushed, PassedOver, Page, Ended}
use Rattle.import_record.proofs.Pushed.{IsOfBytes, Reaches, any_page, any_pass, no_end, none_passed, page_goes_on, pushed, reaches_page, reaches_passed, reaches_unpushed, unpushed}

-- ---- the pages
pages_both : (events more : List Event) → pages_in (events ++ more) ≡ pages_in events ++ pages_in more
pages_both [] more = refl
pages_both (Flushing ∷ events) more = pages_both events more
pages_both (Resuming streams serials ∷ events) more = pages_both events more
pages_both (Taking lent ∷ events) more = ap (λ l. lent ∷ l) (pages_both events more)

-- the end is found
pub record IsEnd (state : ReaderState) (xs : List ℕ) : Type 0 where
  pub last : ReaderState
  pub found : HasAdvanced state (Some xs) (Ok tt) last (Some [])
  pub none : last.lent ≡ None

pub end_of_bytes : IsOfBytes IsEnd
end_of_bytes old bytes zs is = record { last = is.last; found = unpushed old bytes zs (Ok tt) is.last (Some []) is.found; none = is.none }

-- nothing more is known
abbrev pub IsSomewhere : ReaderState → List ℕ → Type 0
IsSomewhere state xs = ⊤

pub somewhere_of_bytes : IsOfBytes IsSomewhere
somewhere_of_bytes old bytes zs is = tt

some_lent : (lent other : Option LentAt) (at : LentAt) → lent ≡ other → lent ≡ Some at → other ≡ Some at
some_lent lent other at a b = sym a ∙ b

module _ {S : Type 0} (answers : S → Record → Reply → List ℕ → S → Type 0) (Holds : ReaderState → List ℕ → Type 0) where
  page_on : (lent : Option LentAt) (at : LentAt) (offset : ℕ) (junk : Option Mend) (taken : Taken) (pages : List LentAt) (old : ReaderState) (xs : List ℕ) (next : ReaderState) → lent ≡ Some at
      → HasAdvanced old (Some xs) (Ok tt) next (Some xs) → next.lent ≡ Some at → Reaches Holds pages next xs
      → Reaches Holds (pages_in (event_of (Page offset junk taken) lent) ++ pages) old xs
  page_on None at offset junk taken pages old xs next same found is more = cc
  page_on (Some lent) at offset junk taken pages old xs next same found is more = reaches_page Holds pages old xs lent next found (is ∙ sym same) more

  pub fed : IsOfBytes Holds → (calls : List Call) (old new : InputState) (before after : S) → Feeds answers calls old new before after → old.pages.outcome ≡ None
      → (pages : List LentAt) (xs : List ℕ) → (new.pages.outcome ≡ None → Reaches Holds pages new.pages xs)
      → Reaches Holds (pages_in (events_in calls) ++ pages) old.pages (bytes_in calls ++ xs)
  fed of [] old new before after (same, here) on pages xs goes =
      subst (λ (s : InputState). Reaches Holds pages s.pages xs) same (goes (ap (λ (s : InputState). s.pages.outcome) same ∙ on))
  fed of (Came bytes ∷ later) old new before after (next, comes, more) on pages xs goes =
      let now : next.pages ≡ pushed old.pages bytes = comes.reads.new_is ∙ ap (pushed old.pages) comes.bytes_are in
      let rest : Reaches Holds (pages_in (events_in later) ++ pages) next.pages (bytes_in later ++ xs) =
      fed of later next new before after more (ap (λ (s : ReaderState). s.outcome) now ∙ on) pages xs goes in
      subst (λ l. Reaches Holds (pages_in (events_in later) ++ pages) old.pages l) (sym (append_assoc bytes (bytes_in later) xs))
      (reaches_unpushed Holds of (pages_in (events_in later) ++ pages) old.pages bytes (bytes_in later ++ xs)
      (subst (λ (s : ReaderState). Reaches Holds (pages_in (events_in later) ++ pages) s (bytes_in later ++ xs)) now rest))
  fed of (Stepped (Flushed reply) lent ∷ later) old new before after (next, mid, bytes, needs, is, more) on pages xs goes =
      let same : next.pages ≡ old.pages = is.steps.1 in
      subst (λ (s : ReaderState). Reaches Holds (pages_in (events_in later) ++ pages) s (bytes_in later ++ xs)) same
      (fed of later next new mid after more (ap (λ (s : ReaderState). s.outcome) same ∙ on) pages xs goes)
  fed of (Stepped PassedOver lent ∷ later) old new before after (next, mid, bytes, known, is, more) on pages xs goes =
      let (count, one) = is.steps.0 on in
      reaches_passed Holds (pages_in (events_in later) ++ pages) old.pages (bytes_in later ++ xs) count next.pages
      (any_pass old.pages bytes (bytes_in later ++ xs) count next.pages known one)
      (fed of later next new mid after more one.passes.goes_on pages xs goes)
  fed of (Stepped (Page offset junk taken) lent ∷ later) old new before after (next, mid, bytes, known, is, more) on pages xs goes =
      let (advanced, (at, lent_at, place, takes)) = is.steps in
      let found = any_page old.pages bytes (bytes_in later ++ xs) at next.pages (advanced on) lent_at in
      let rest : Reaches Holds (pages_in (events_in later) ++ pages) next.pages (bytes_in later ++ xs) =
      fed of later next new mid after more (page_goes_on old.pages (Some bytes) (Some bytes) at next.pages (advanced on) lent_at) pages xs goes in
      subst (λ l. Reaches Holds l old.pages (bytes_in later ++ xs))
      (sym (ap (λ l. l ++ pages) (pages_both (event_of (Page offset junk taken) lent) (events_in later))
      ∙ append_assoc (pages_in (event_of (Page offset junk taken) lent)) (pages_in (events_in later)) pages))
      (page_on lent at offset junk taken (pages_in (events_in later) ++ pages) old.pages (bytes_in later ++ xs) next.pages
      (some_lent next.pages.lent lent at is.lent_is lent_at) found lent_at rest)
  fed of (Stepped (Ended junk) lent ∷ later) old new before after (next, mid, bytes, known, is, more) on pages xs goes =
      absurd (no_end old.pages bytes next.pages known (is.steps.0 on) is.steps.1.0)

module _ {S : Type 0} (answers : S → Record → Reply → List ℕ → S → Type 0) where
  pub drained : (calls : List Call) (old new : InputState) (before after : S) → Drains answers calls old new before after → old.pages.outcome ≡ None
      → Reaches IsEnd (pages_in (events_in calls)) old.pages []
  drained [] old new before after absent on = absurd absent
  drained (Came bytes ∷ later) old new before after absent on = absurd absent
  drained (Stepped (Flushed reply) lent ∷ later) old new before after (next, mid, is, more) on =
      let same : next.pages ≡ old.pages = is.steps.1 in
      subst (λ (s : ReaderState). Reaches IsEnd (pages_in (events_in later)) s []) same
      (drained later next new mid after more (ap (λ (s : ReaderState). s.outcome) same ∙ on))
  drained (Stepped PassedOver lent ∷ later) old new before after (next, mid, is, more) on =
      let (count, one) = is.steps.0 on in
      reaches_passed IsEnd (pages_in (events_in later)) old.pages [] count next.pages one (drained later next new mid after more one.passes.goes_on)
  drained (Stepped (Page offset junk taken) lent ∷ later) old new before after (next, mid, is, more) on =
      let (advanced, (at, lent_at, place, takes)) = is.steps in
      let rest : Reaches IsEnd (pages_in (events_in later)) next.pages [] =
      drained later next new mid after more (page_goes_on old.pages (Some []) (Some []) at next.pages (advanced on) lent_at) in
      subst (λ l. Reaches IsEnd l old.pages []) (sym (pages_both (event_of (Page offset junk taken) lent) (events_in later)))
      (page_on answers IsEnd lent at offset junk taken (pages_in (events_in later)) old.pages [] next.pages
      (some_lent next.pages.lent lent at is.lent_is lent_at) (advanced on) lent_at rest)
  drained (Stepped (Ended junk) lent ∷ later) old new before after (is, none) on =
      subst (λ (l : List Call). Reaches IsEnd (pages_in (events_in l)) old.pages []) (sym none)
      (none_passed old.pages [], record { last = new.pages; found = is.steps.0 on; none = is.steps.1.0 })

  -- ---- the recording
  -- a step adds its event
  one_recorded : (step : Step) (lent : Option LentAt) (bytes : List ℕ) (old next : InputState) (before mid : S) → IsStepped answers bytes step lent old next before mid
      → (events : List Event) (new : IntakeState) (after : S) → (rest : Done) → Records answers events next.intake new rest mid after
      → (done : Done) × Records answers (event_of step lent ++ events) old.intake new done before after
  one_recorded (Flushed reply) lent bytes old next before mid is events new after rest records =
      let (answer, same, intake, left, output) = is.steps in
      (flush_then reply rest, (reply, [], mid, rest, answer, subst (λ (s : IntakeState). Records answers events s new rest mid after) intake records, refl))
  one_recorded PassedOver lent bytes old next before mid is events new after rest records =
      let (passed, intake, here, output) = is.steps in
      (rest, subst (λ (s : S). Records answers events old.intake new rest s after) here (subst (λ (s : IntakeState). Records answers events s new rest mid after) intake records))
  one_recorded (Page offset junk taken) lent bytes old next before mid is events new after rest records =
      let (advanced, (at, lent_at, place, takes)) = is.steps in
      by lent at (some_lent next.pages.lent lent at is.lent_is lent_at)
      (subst (λ n. Takes answers n at.1 old.intake next.intake taken before mid is.output is.new_output) (sym place) takes)
    where
      the_same : (lent at : LentAt) → (let o : Option LentAt = Some lent in o) ≡ Some at → at ≡ lent
      the_same lent at e = cc

      by : (lent : Option LentAt) (at : LentAt) → lent ≡ Some at → Takes answers at.0 at.1 old.intake next.intake taken before mid is.output is.new_output
          → (done : Done) × Records answers (event_of (Page offset junk taken) lent ++ events) old.intake new done before after
      by None at same takes = cc
      by (Some lent) at same takes =
          let t : Takes answers lent.0 lent.1 old.intake next.intake taken before mid is.output is.new_output =
          subst (λ (l : LentAt). Takes answers l.0 l.1 old.intake next.intake taken before mid is.output is.new_output) (the_same lent at same) takes in
          (page_then taken.mend t.more t.given t.ran.replies rest, (next.intake, taken, mid, is.output, is.new_output, rest, t, records, refl))
  one_recorded (Ended junk) lent bytes old next before mid is events new after rest records =
      let (advanced, (none, intake, here, output)) = is.steps in
      (rest, subst (λ (s : S). Records answers events old.intake new rest s after) here (subst (λ (s : IntakeState). Records answers events s new rest mid after) intake records))

  pub feeds_recorded : (calls : List Call) (old mid : InputState) (before between : S) → Feeds answers calls old mid before between
      → (events : List Event) (new : IntakeState) (after : S) (rest : Done) → Records answers events mid.intake new rest between after
      → (done : Done) × Records answers (events_in calls ++ events) old.intake new done before after
  feeds_recorded [] old mid before between (same, here) events new after rest records =
      (rest, subst (λ (s : S). Records answers events old.intake new rest s after) here (subst (λ (s : InputState). Records answers events s.intake new rest between after) same records))
  feeds_recorded (Came bytes ∷ later) old mid before between (next, comes, more) events new after rest records =
      let (done, all) = feeds_recorded later next mid before between more events new after rest records in
      (done, subst (λ (s : IntakeState). Records answers (events_in later ++ events) s new done before after) comes.same all)
  feeds_recorded (Stepped step lent ∷ later) old mid before between (next, at, bytes, needs, is, more) events new after rest records =
      let (others, all) = feeds_recorded later next mid at between more events new after rest records in
      let (done, whole) = one_recorded step lent bytes old next before at is (events_in later ++ events) new after others all in
      (done, subst (λ l. Records answers l old.intake new done before after) (sym (append_assoc (event_of step lent) (events_in later) events)) whole)

  pub drains_recorded : (calls : List Call) (old new : InputState) (before after : S) → Drains answers calls old new before after
      → (done : Done) × Records answers (events_in calls) old.intake new.intake done before after
  drains_recorded [] old new before after absent = absurd absent
  drains_recorded (Came bytes ∷ later) old new before after absent = absurd absent
  drains_recorded (Stepped (Flushed reply) lent ∷ later) old new before after (next, mid, is, more) =
      let (rest, all) = drains_recorded later next new mid after more in
      one_recorded (Flushed reply) lent [] old next before mid is (events_in later) new.intake after rest all
  drains_recorded (Stepped PassedOver lent ∷ later) old new before after (next, mid, is, more) =
      let (rest, all) = drains_recorded later next new mid after more in
      one_recorded PassedOver lent [] old next before mid is (events_in later) new.intake after rest all
  drains_recorded (Stepped (Page offset junk taken) lent ∷ later) old new before after (next, mid, is, more) =
      let (rest, all) = drains_recorded later next new mid after more in
      one_recorded (Page offset junk taken) lent [] old next before mid is (events_in later) new.intake after rest all
  drains_recorded (Stepped (Ended junk) lent ∷ later) old new before after (is, none) =
      subst (λ (l : List Call). (done : Done) × Records answers (events_in l) old.intake new.intake done before after) (sym none)
      (one_recorded (Ended junk) lent [] old new before after is [] new.intake after nothing_done (refl, refl, refl))

  pub imports_reached : (bytes : List ℕ) (events : List Event) (old new : InputState) (before after : S) → Imports answers bytes events old new before after
      → old.pages.outcome ≡ None → Reaches IsEnd (pages_in events) old.pages bytes
  imports_reached bytes events old new before after is on =
      let reached : Reaches IsEnd (pages_in (events_in is.calls) ++ pages_in (events_in is.last)) old.pages (bytes_in is.calls ++ []) =
      fed answers IsEnd end_of_bytes is.calls old is.mid before is.between is.feeds on (pages_in (events_in is.last)) []
      (λ still. drained is.last is.mid new is.between after is.drains still) in
      subst (λ l. Reaches IsEnd (pages_in events) old.pages l) (append-nil (bytes_in is.calls) ∙ sym is.bytes_are)
      (subst (λ l. Reaches IsEnd l old.pages (bytes_in is.calls ++ [])) (sym (ap pages_in is.events_are ∙ pages_both (events_in is.calls) (events_in is.last))) reached)

  pub imports_recorded : (bytes : List ℕ) (events : List Event) (old new : InputState) (before after : S) → Imports answers bytes events old new before after
      → (done : Done) × Records answers events old.intake new.intake done before after
  imports_recorded bytes events old new before after is =
      let (rest, drained) = drains_recorded is.last is.mid new is.between after is.drains in
      subst (λ l. (done : Done) × Records answers l old.intake new.intake done before after) (sym is.events_are)
      (feeds_recorded is.calls old is.mid before is.between is.feeds (events_in is.last) new.intake after rest drained)
