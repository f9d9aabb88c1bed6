-- The pages that are taken over all files, as somebody takes them who changes nothing and keeps nothing. So what
-- import_record says of the pages of one input holds of them.
use Rattle.std.proofs.Common.{◌≡◌, ◌+◌, ◌-◌, ◌<◌, ◌^◌, length, ℕ, Option, Some, None, Ok, List, [], ◌∷◌, ◌++◌, refl, sym, ◌∙◌, ap, subst}
use Rattle.std.proofs.lemmas.List.Elements.{filter_map-append}
use Rattle.std.proofs.lemmas.List.Sums.{fold-append}
use Rattle.std.specs.List.{AllByRecursion, AllZip}
use Rattle.ogg_page.specs.Window.{LentAt}
use Rattle.chain_rules.specs.Recording.{Recording, add, after as after_commands}
use Rattle.ogg_command.specs.declared.command.Begin.{Begin}
use Rattle.ogg_command.specs.declared.command.Command.{Command}
use Rattle.ogg_command.specs.declared.command.Command.TheVariants.{Begin as BeginOf, Put as PutOf, End as EndOf}
use Rattle.feed_records.specs.declared.item.Record.{Record}
use Rattle.feed_replies.specs.declared.reply.Reply.{Reply}
use Rattle.feed_replies.specs.declared.reply.Reply.TheVariants.{Held}
use Rattle.feed_runner.specs.Answering.{AnswersAll}
use Rattle.import_changes.specs.Changed.{Become, ChangeState, IsPlain}
use Rattle.import_changes.specs.Options.{no_options}
use Rattle.import_changes.specs.Skeletons.{BeginsThose, IsBegunAs, begin_of, begins_of}
use Rattle.import_mend.specs.Gives.{Mending}
use Rattle.import_mend.specs.Whole.{TakesPage}
use Rattle.import_mend.specs.declared.mend.Mend.{Mend}
use Rattle.import_pages.specs.Reader.{HasAdvanced, ReaderState}
use Rattle.import_mend.specs.Found.{AreGoodPages, PassesOne}
use Rattle.import_record.specs.Begun.{BegunState, begun_after}
use Rattle.import_record.specs.Pushing.{Call, Came, Comes, Feeds, InputState, NeedsNone, Stepped, bytes_in, events_in}
use Rattle.import_record.specs.Running.{HasRun, answered_by, nothing, records_of}
use Rattle.import_record.specs.Steps.{IntakeState, Takes}
use Rattle.import_record.specs.Whole.{pages_in}
use Rattle.import_record.specs.declared.answering.Answered.{Answered}
use Rattle.import_record.specs.declared.intake.Taken.{Taken}
use Rattle.import_record.specs.declared.reading.Step.TheVariants.{PassedOver, Page as PageStep, Ended}
use Rattle.archive_record.specs.Anybody.{Answers}

-- ---- nothing is changed
abbrev none_changed : ChangeState
none_changed = record { options = no_options; given = []; names = []; room = 0; name_room = 0 }

all_append : {X : Type 0} (P : X → Type 0) (xs ys : List X) → AllByRecursion P xs → AllByRecursion P ys → AllByRecursion P (xs ++ ys)
all_append P [] ys first second = second
all_append P (x ∷ xs) ys (here, first) second = (here, all_append P xs ys first second)

zip_append : {X : Type 0} (R : X → X → Type 0) (xs ys more : List X) → AllZip R xs ys → ((x : X) → R x x) → AllZip R (xs ++ more) (ys ++ more)
zip_append R [] [] [] zip own = tt
zip_append R [] [] (m ∷ more) zip own = (own m, zip_append R [] [] more tt own)
zip_append R [] (y ∷ ys) more zip own = absurd zip
zip_append R (x ∷ xs) [] more zip own = absurd zip
zip_append R (x ∷ xs) (y ∷ ys) more (here, zip) own = (here, zip_append R xs ys more zip own)

as_it_is : (begin : Begin) → BeginsThose no_options begin begin
as_it_is begin = record { headers = refl; says = tt }

plain_begun : (commands : List Command) → AllByRecursion IsPlain commands → AllByRecursion (IsBegunAs no_options) commands
plain_begun [] plain = tt
plain_begun (BeginOf begin ∷ commands) (here, plain) = ((λ out. cc out, here), plain_begun commands plain)
plain_begun (PutOf put ∷ commands) (here, plain) = (tt, plain_begun commands plain)
plain_begun (EndOf serial ∷ commands) (here, plain) = (tt, plain_begun commands plain)

same_after : (before now more : List Command) → after_commands [] now ≡ after_commands [] before
    → after_commands [] (now ++ more) ≡ after_commands [] (before ++ more)
same_after before now more same =
    fold-append add [] now more ∙ ap (λ (r : Recording). after_commands r more) same ∙ sym (fold-append add [] before more)

become_same : (more : List Command) → Become none_changed none_changed more more
become_same more taken before now has plain = record {
  changed = same_after before now more has.changed;
  stay = subst (λ l. AllZip (BeginsThose no_options) l (begins_of (now ++ more))) (sym (filter_map-append begin_of before more))
      (subst (λ l. AllZip (BeginsThose no_options) (begins_of before ++ begins_of more) l) (sym (filter_map-append begin_of now more))
      (zip_append (BeginsThose no_options) (begins_of before) (begins_of now) (begins_of more) has.stay as_it_is));
  begun = all_append (IsBegunAs no_options) now more has.begun (plain_begun more plain);
  follows = same_after before now more has.follows;
}

-- ---- everything is answered
all_answered : (records : List Record) → (replies : List Reply) × AnswersAll Answers tt records replies [] tt
all_answered [] = ([], (refl, refl))
all_answered (given ∷ records) = let (replies, all) = all_answered records in (Held 0 ∷ replies, (tt, [], [], tt, all, refl))

all_run : (commands : List Command) → (answered : Answered) × HasRun Answers commands answered tt tt None None
all_run commands =
    let (replies, all) = all_answered (records_of commands) in
    (answered_by nothing commands replies, record { replies = replies; runs = record { bytes = []; answered = all; written = tt }; result_is = refl })

abbrev intake_at : Mending → BegunState → IntakeState
intake_at mending begun = record { mending = mending; options = no_options; changes = none_changed; begun = begun }

abbrev at : ReaderState → Mending → BegunState → InputState
at reader mending begun = record { pages = reader; intake = intake_at mending begun }

-- ---- the pages
-- from one reader to the other these bytes came, and these pages were taken
pub record Fed (pages : List LentAt) (bytes : List ℕ) (start end : ReaderState) (old new : Mending) (begun : BegunState) : Type 0 where
  pub calls : List Call
  pub left : BegunState
  pub feeds : Feeds Answers calls (at start old begun) (at end new left) tt tt
  pub bytes_are : bytes_in calls ≡ bytes
  pub pages_are : pages_in (events_in calls) ≡ pages

abbrev pub IsFed : List LentAt → List ℕ → ReaderState → ReaderState → Mending → Mending → Type 0
IsFed pages bytes start end old new = (begun : BegunState) → Fed pages bytes start end old new begun

pub fed_none : (reader : ReaderState) (mending : Mending) → IsFed [] [] reader reader mending mending
fed_none reader mending begun = record { calls = []; left = begun; feeds = (refl, refl); bytes_are = refl; pages_are = refl }

pub fed_more : (pages : List LentAt) (bytes more : List ℕ) (start next end : ReaderState) (old new : Mending) (x y : IntakeState)
    → Comes bytes (record { pages = start; intake = x }) (record { pages = next; intake = y }) → IsFed pages more next end old new
    → IsFed pages (bytes ++ more) start end old new
fed_more pages bytes more start next end old new x y comes fed begun =
    let rest = fed begun in record {
      calls = Came bytes ∷ rest.calls;
      left = rest.left;
      feeds = (
        at next old begun,
        record { from = comes.from; left = comes.left; count = comes.count; reads = comes.reads; bytes_are = comes.bytes_are; same = refl },
        rest.feeds,
      );
      bytes_are = ap (λ l. bytes ++ l) rest.bytes_are;
      pages_are = rest.pages_are;
    }

pub fed_passed : (pages : List LentAt) (bytes : List ℕ) (start next end : ReaderState) (old new : Mending) → NeedsNone PassedOver start
    → (start.outcome ≡ None → (count : ℕ) × PassesOne start (Some []) count next (Some [])) → IsFed pages bytes next end old new
    → IsFed pages bytes start end old new
fed_passed pages bytes start next end old new needs passes fed begun =
    let rest = fed begun in record {
      calls = Stepped PassedOver next.lent ∷ rest.calls;
      left = rest.left;
      feeds = (at next old begun, tt, [], needs, record { output = None; new_output = None; steps = (passes, refl, refl, refl); lent_is = refl }, rest.feeds);
      bytes_are = rest.bytes_are;
      pages_are = rest.pages_are;
    }

pub fed_ended : (junk : Option Mend) (pages : List LentAt) (bytes : List ℕ) (start next end : ReaderState) (old new : Mending) → NeedsNone (Ended junk) start
    → (start.outcome ≡ None → HasAdvanced start (Some []) (Ok tt) next (Some [])) → next.lent ≡ None → IsFed pages bytes next end old new
    → IsFed pages bytes start end old new
fed_ended junk pages bytes start next end old new needs advanced none fed begun =
    let rest = fed begun in record {
      calls = Stepped (Ended junk) None ∷ rest.calls;
      left = rest.left;
      feeds = (
        at next old begun,
        tt,
        [],
        needs,
        record { output = None; new_output = None; steps = (advanced, (none, refl, refl, refl)); lent_is = none },
        rest.feeds,
      );
      bytes_are = rest.bytes_are;
      pages_are = rest.pages_are;
    }

taken_as_it_is : (lent : LentAt) (old new : Mending) (mend : Option Mend) (more : List Command) (begun : BegunState) → TakesPage lent.0 lent.1 old new mend more
    → (taken : Taken) × Takes Answers lent.0 lent.1 (intake_at old begun) (intake_at new (begun_after begun more more)) taken tt tt None None
taken_as_it_is lent old new mend more begun takes =
    let (answered, ran) = all_run more in (
      record { mend = mend; answered = answered },
      record { more = more; given = more; mended = takes; options = refl; changed = become_same more; begun = refl; ran = ran },
    )

pub fed_page : (lent : LentAt) (mend : Option Mend) (more : List Command) (pages : List LentAt) (bytes : List ℕ) (start next end : ReaderState) (old mid new : Mending)
    → NeedsNone PassedOver start
    → (start.outcome ≡ None → HasAdvanced start (Some []) (Ok tt) next (Some [])) → next.lent ≡ Some lent → TakesPage lent.0 lent.1 old mid mend more
    → IsFed pages bytes next end mid new → IsFed (lent ∷ pages) bytes start end old new
fed_page lent mend more pages bytes start next end old mid new needs advanced lent_is takes fed begun =
    let (taken, is) = taken_as_it_is lent old mid mend more begun takes in
    let rest = fed (begun_after begun more more) in record {
      calls = Stepped (PageStep lent.0 None taken) (Some lent) ∷ rest.calls;
      left = rest.left;
      feeds = (
        at next mid (begun_after begun more more),
        tt,
        [],
        needs,
        record { output = None; new_output = None; steps = (advanced, (lent, lent_is, refl, is)); lent_is = lent_is },
        rest.feeds,
      );
      bytes_are = rest.bytes_are;
      pages_are = ap (λ l. lent ∷ l) rest.pages_are;
    }

-- ---- what import_record says
abbrev pub AreGood : Type 0
AreGood =
    (calls : List Call) (old new : InputState) (before after : Unit {0}) → Feeds Answers calls old new before after
    → old.pages.outcome ≡ None → old.pages.offset + length (old.pages.unread ++ bytes_in calls) < 2 ^ 64 - 1
    → (rest : List ℕ) × AreGoodPages old.pages.offset (old.pages.unread ++ bytes_in calls) (pages_in (events_in calls)) rest

pub good_pages : (start end : ReaderState) (old new : Mending) (bytes : List ℕ) (pages : List LentAt) (begun : BegunState) → AreGood
    → Fed pages bytes start end old new begun → start.outcome ≡ None → start.offset + length (start.unread ++ bytes) < 2 ^ 64 - 1
    → (rest : List ℕ) × AreGoodPages start.offset (start.unread ++ bytes) pages rest
good_pages start end old new bytes pages begun law fed on small =
    let (rest, good) =
    law fed.calls (at start old begun) (at end new fed.left) tt tt fed.feeds on
    (subst (λ (l : List ℕ). start.offset + length (start.unread ++ l) < 2 ^ 64 - 1) (sym fed.bytes_are) small) in (
      rest,
      subst (λ (l : List LentAt). AreGoodPages start.offset (start.unread ++ bytes) l rest) fed.pages_are
          (subst (λ (l : List ℕ). AreGoodPages start.offset (start.unread ++ l) (pages_in (events_in fed.calls)) rest) fed.bytes_are good),
    )
