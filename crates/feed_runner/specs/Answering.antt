-- Records answered in turn. In `answers before given reply own after` a runner in the state `before` answers the
-- record `given` by the reply, the bytes `own` are the record's pages, and then the runner is in the state `after`.
-- Ours.
use Rattle.std.specs.Prelude.{◌≡◌, ℕ, List, [], ◌∷◌, ◌++◌}
use Rattle.feed_records.specs.declared.item.Record.{Record}
use Rattle.feed_replies.specs.declared.reply.Reply.{Reply}

module _ {S : Type 0} (answers : S → Record → Reply → List ℕ → S → Type 0) where
  -- records in turn, each answered in the state that those before it left; all their pages
  abbrev pub AnswersAll : S → List Record → List Reply → List ℕ → S → Type 0
  AnswersAll before [] [] bytes after = (bytes ≡ []) × (after ≡ before)
  AnswersAll before (given ∷ records) (reply ∷ replies) bytes after =
      (next : S) × (own : List ℕ) × (later : List ℕ)
      × answers before given reply own next × AnswersAll next records replies later after × (bytes ≡ own ++ later)
  AnswersAll before [] (reply ∷ replies) bytes after = ⊥
  AnswersAll before (given ∷ records) [] bytes after = ⊥
