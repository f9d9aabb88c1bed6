-- Records that are answered in turn, and one more.
use Rattle.std.proofs.Common.{◌≡◌, ℕ, List, [], ◌∷◌, ◌++◌, length, refl, sym, ap, ◌∙◌, subst, arith, append_assoc, append-nil}
use Rattle.feed_records.specs.declared.item.Record.{Record}
use Rattle.feed_replies.specs.declared.reply.Reply.{Reply}
use Rattle.feed_runner.specs.Answering.{AnswersAll}

module _ {S : Type 0} (answers : S → Record → Reply → List ℕ → S → Type 0) where
  pub one_more : (before : S) (records : List Record) (replies : List Reply) (bytes : List ℕ) (after : S) (given : Record) (reply : Reply) (own : List ℕ) (next : S)
      → AnswersAll answers before records replies bytes after → answers after given reply own next
      → AnswersAll answers before (records ++ given ∷ []) (replies ++ reply ∷ []) (bytes ++ own) next
  one_more before [] [] bytes after given reply own next (no_bytes, here) a =
      (next, own, [], subst (λ (s : S). answers s given reply own next) here a, (refl, refl), ap (λ l. l ++ own) no_bytes ∙ sym (append-nil own))
  one_more before [] (r ∷ replies) bytes after given reply own next all a = absurd all
  one_more before (c ∷ records) [] bytes after given reply own next all a = absurd all
  one_more before (c ∷ records) (r ∷ replies) bytes after given reply own next (mid, first, later, answer, rest, e) a =
      (mid, first, later ++ own, answer, one_more mid records replies later after given reply own next rest a, ap (λ l. l ++ own) e ∙ append_assoc first later own)

  pub as_many : (before : S) (records : List Record) (replies : List Reply) (bytes : List ℕ) (after : S) → AnswersAll answers before records replies bytes after → length records ≡ length replies
  as_many before [] [] bytes after all = refl
  as_many before [] (r ∷ replies) bytes after all = absurd all
  as_many before (c ∷ records) [] bytes after all = absurd all
  as_many before (c ∷ records) (r ∷ replies) bytes after (mid, first, later, answer, rest, e) =
      omega (arith, as_many mid records replies later after rest)

  pub answers_both : (before mid after : S) (xs ys : List Record) (rs ss : List Reply) (bs cs : List ℕ) → AnswersAll answers before xs rs bs mid
      → AnswersAll answers mid ys ss cs after → AnswersAll answers before (xs ++ ys) (rs ++ ss) (bs ++ cs) after
  answers_both before mid after [] ys [] ss bs cs (none, same) more =
      subst (λ l. AnswersAll answers before ys ss l after) (ap (λ l. l ++ cs) (sym none)) (subst (λ (s : S). AnswersAll answers s ys ss cs after) same more)
  answers_both before mid after [] ys (r ∷ rs) ss bs cs all more = absurd all
  answers_both before mid after (x ∷ xs) ys [] ss bs cs all more = absurd all
  answers_both before mid after (x ∷ xs) ys (r ∷ rs) ss bs cs (next, own, later, first, rest, whole) more =
      (next, own, later ++ cs, first, answers_both next mid after xs ys rs ss later cs rest more, ap (λ l. l ++ cs) whole ∙ append_assoc own later cs)
