-- One more record was read of a feed, and answered.
use Rattle.std.proofs.Common.{◌≡◌, ℕ, List, [], ◌∷◌, ◌++◌, refl, sym, ap, ◌∙◌, subst, append_assoc, append-nil, Option, Some, None}
use Rattle.std.proofs.lemmas.Grind.{flat_map-append}
use Rattle.std.proofs.KnownBytes.{Appends-nil, Appends-trans, Consumes-nil, Consumes-trans}
use Rattle.std.specs.List.{flat_map, AllByRecursion}
use Rattle.std.specs.Io.KnownBytes.{Appends, Consumes}
use Rattle.ogg_page.specs.Laws.PageBytes.{all_both}
use Rattle.feed_records.specs.declared.item.Record.{Record}
use Rattle.feed_replies.specs.declared.reply.Reply.{Reply}
use Rattle.feed_records.specs.declared.version.Version.{Version}
use Rattle.feed_codec.specs.Feed.{GivesRecord}
use Rattle.feed_records.specs.Record.{HasRecord, opening, record_of}
use Rattle.feed_replies.specs.Reply.{reply_line}
use Rattle.feed_runner.specs.Laws.InTurn.{one_more}
use Rattle.feed_run.specs.Run.{HasRead, HasRun, Streams}

and_one : {X : Type 0} (f : X → List ℕ) (xs : List X) (x : X) → flat_map f xs ++ f x ≡ flat_map f (xs ++ x ∷ [])
and_one f xs x = ap (λ l. flat_map f xs ++ l) (sym (append-nil (f x))) ∙ sym (flat_map-append f xs (x ∷ []))

read_first : (records : List Record) (known : Option Version) (start mid now : Option (List ℕ)) (given : Record) → HasRead None records start mid → (gives : GivesRecord None known mid now given)
    → HasRead (Some gives.version) (records ++ given ∷ []) start now
read_first records known start mid now given (none, read) gives =
    let v = gives.version in
    let both = Consumes-trans start mid now [] (opening v ++ record_of v given) read gives.read in (
      subst (λ l. AllByRecursion (HasRecord v) (l ++ given ∷ [])) (sym none) (gives.is_record, tt),
      subst (λ l. Consumes start now (opening v ++ flat_map (record_of v) (l ++ given ∷ []))) (sym none)
          (subst (λ l. Consumes start now (opening v ++ l)) (sym (append-nil (record_of v given))) both),
    )

read_next : (was v : Version) (records : List Record) (start mid now : Option (List ℕ)) (given : Record) → was ≡ v → HasRead (Some was) records start mid → HasRecord v given → Consumes mid now (record_of v given)
    → HasRead (Some v) (records ++ given ∷ []) start now
read_next was v records start mid now given same read is one =
    let there : HasRead (Some v) records start mid = subst (λ w. HasRead (Some w) records start mid) same read in
    let both = Consumes-trans start mid now (opening v ++ flat_map (record_of v) records) (record_of v given) there.1 one in (
      all_both (HasRecord v) records (given ∷ []) there.0 (is, tt),
      subst (Consumes start now) (append_assoc (opening v) (flat_map (record_of v) records) (record_of v given) ∙ ap (λ l. opening v ++ l) (and_one (record_of v) records given)) both,
    )

reads_on : (was known : Option Version) (records : List Record) (start mid now : Option (List ℕ)) (given : Record) → HasRead was records start mid → GivesRecord was known mid now given
    → HasRead known (records ++ given ∷ []) start now
reads_on None known records start mid now given read gives =
    subst (λ k. HasRead k (records ++ given ∷ []) start now) (sym gives.known) (read_first records known start mid now given read gives)
reads_on (Some was) known records start mid now given read gives =
    subst (λ k. HasRead k (records ++ given ∷ []) start now) (sym gives.known) (read_next was gives.version records start mid now given gives.continues read gives.is_record gives.read)

module _ {S : Type 0} (answers : S → Record → Reply → List ℕ → S → Type 0) where
  pub runs_on : (start old new : Streams) (known later : Option Version) (records : List Record) (replies : List Reply) (before mid after : S) (given : Record) (reply : Reply) (own : List ℕ)
      → HasRun answers start old known records replies before mid → GivesRecord known later old.feed new.feed given → answers mid given reply own after
      → Appends old.pages new.pages own → Appends old.lines new.lines (reply_line reply)
      → HasRun answers start new later (records ++ given ∷ []) (replies ++ reply ∷ []) before after
  runs_on start old new known later records replies before mid after given reply own run read answered pages lines = record {
    bytes = run.bytes ++ own;
    answers_all = one_more answers before records replies run.bytes mid given reply own after run.answers_all answered;
    read = reads_on known later records start.feed old.feed new.feed given run.read read;
    pages = Appends-trans start.pages old.pages new.pages run.bytes own run.pages pages;
    lines = subst (λ l. Appends start.lines new.lines l) (and_one reply_line replies reply)
        (Appends-trans start.lines old.lines new.lines (flat_map reply_line replies) (reply_line reply) run.lines lines);
  }

  pub none_run : (start : Streams) (before : S) → HasRun answers start start None [] [] before before
  none_run start before = record {
    bytes = [];
    answers_all = (refl, refl);
    read = (refl, Consumes-nil start.feed);
    pages = Appends-nil start.pages;
    lines = Appends-nil start.lines;
  }
