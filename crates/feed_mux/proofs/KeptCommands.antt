-- The commands of a run that were kept, and their pages.
use Rattle.std.proofs.Common.{◌≡◌, ◌+◌, ℕ, List, [], ◌∷◌, ◌++◌, length, inl, inr, refl, sym, ap, ◌∙◌, subst, arith, Result, Ok, Err}
use Rattle.std.specs.Prelude.{IsOk}
use Rattle.link_chain.specs.ChainState.{chain_state_of}
use Rattle.chain_rules.specs.Commands.{AreKept, bytes_of_commands, links_behind}
use Rattle.chain_rules.specs.Decision.{decision}
use Rattle.chain_rules.specs.Encoding.{command_bytes}
use Rattle.ogg_command.specs.declared.command.Command.{Command}
use Rattle.ogg_command.specs.declared.refusal.Refusal.{Refusal}
use Rattle.ogg_command.specs.declared.refusal.Refusal.TheVariants.{Failed, Disk}
use Rattle.feed_replies.specs.declared.reply.Reply.{Reply}
use Rattle.feed_replies.specs.declared.reply.Reply.TheVariants.{Held, Kept as KeptOf, Refused}
use Rattle.feed_records.specs.declared.item.Record.{Record}
use Rattle.feed_records.specs.declared.item.Record.TheVariants.{Command as CommandOf, Flush}
use Rattle.feed_runner.specs.Answering.{AnswersAll}
use Rattle.feed_runner.specs.Counting.{kept_after, kept_of, left_by}
use Rattle.feed_mux.specs.Progress.{Progress, AnsweredBy, AnswersRecord, with_command}

-- from the progress `before`, a run that keeps these commands writes these bytes and reaches the progress `behind`
pub record CameTo (before : Progress) (kept : List Command) (bytes : List ℕ) (behind : Progress) : Type 0 where
  pub are_kept : AreKept before.links kept
  pub bytes_are : bytes ≡ bytes_of_commands before.links kept
  pub links_are : behind.links ≡ links_behind before.links kept
  pub count_is : behind.kept ≡ before.kept + length kept

nothing : (before : Progress) (bytes : List ℕ) (behind : Progress) → bytes ≡ [] → behind ≡ before → CameTo before [] bytes behind
nothing before bytes behind none same =
    record { are_kept = tt; bytes_are = none; links_are = ap (λ (p : Progress). p.links) same; count_is = omega (arith, ap (λ (p : Progress). p.kept) same) }

-- a refusal in front
passed : (before next : Progress) (kept : List Command) (own later bytes : List ℕ) (behind : Progress) → own ≡ [] → next ≡ before → bytes ≡ own ++ later
    → CameTo next kept later behind → CameTo before kept bytes behind
passed before next kept own later bytes behind none same whole came =
    let there : CameTo before kept later behind = subst (λ (p : Progress). CameTo p kept later behind) same came in
    subst (λ l. CameTo before kept l behind) (sym (whole ∙ ap (λ l. l ++ later) none)) there

-- a command that was kept in front
taken : (before next : Progress) (command : Command) (size : ℕ) (kept : List Command) (own later bytes : List ℕ) (behind : Progress)
    → decision (chain_state_of before.links) command ≡ Ok size → own ≡ command_bytes (chain_state_of before.links) command → next ≡ with_command before command → bytes ≡ own ++ later
    → CameTo next kept later behind → CameTo before (command ∷ kept) bytes behind
taken before next command size kept own later bytes behind decided pages more whole came =
    let there : CameTo (with_command before command) kept later behind = subst (λ (p : Progress). CameTo p kept later behind) more came in
    record {
      are_kept = (subst (λ (r : Result ℕ Refusal). IsOk r) (sym decided) refl, there.are_kept);
      bytes_are = whole ∙ ap (λ l. l ++ later) pages ∙ ap (λ l. command_bytes (chain_state_of before.links) command ++ l) there.bytes_are;
      links_are = there.links_are;
      count_is = omega (arith, there.count_is);
    }

-- nothing waits, and nothing is lost
still_none : (refusal : Refusal) → left_by {A = List Command} refusal [] [] ≡ []
still_none Failed = refl
still_none Disk = refl
still_none refusal = refl

-- a command that was refused in front
refused : (before next : Progress) (command : Command) (records : List Record) (refusal : Refusal) (replies : List Reply) (own later bytes : List ℕ) (behind : Progress)
    → own ≡ [] → next ≡ before → bytes ≡ own ++ later → CameTo next (kept_of records replies) later behind
    → CameTo before (kept_of (CommandOf command ∷ records) (Refused refusal ∷ replies)) bytes behind
refused before next command records refusal replies own later bytes behind none same whole came =
    subst (λ (waiting : List Command). CameTo before (kept_after waiting records replies) bytes behind) (sym (still_none refusal))
    (passed before next (kept_of records replies) own later bytes behind none same whole came)

one_kept : (decided : Result ℕ Refusal) (before next : Progress) (command : Command) (records : List Record) (reply : Reply) (replies : List Reply) (own later bytes : List ℕ) (behind : Progress)
    → decision (chain_state_of before.links) command ≡ decided → AnsweredBy decided before command reply own next → bytes ≡ own ++ later
    → CameTo next (kept_of records replies) later behind → CameTo before (kept_of (CommandOf command ∷ records) (reply ∷ replies)) bytes behind
one_kept (Err refusal) before next command records (KeptOf kept) replies own later bytes behind is (told, none, same) whole came = absurd (cc told)
one_kept (Err refusal) before next command records (Held count) replies own later bytes behind is (told, none, same) whole came = absurd (cc told)
one_kept (Err refusal) before next command records (Refused r) replies own later bytes behind is (told, none, same) whole came =
    refused before next command records r replies own later bytes behind none same whole came
one_kept (Ok size) before next command records (KeptOf kept) replies own later bytes behind is (inl (told, pages, more)) whole came =
    taken before next command size (kept_of records replies) own later bytes behind is pages more whole came
one_kept (Ok size) before next command records (Held count) replies own later bytes behind is (inl (told, pages, more)) whole came = absurd (cc told)
one_kept (Ok size) before next command records (Refused r) replies own later bytes behind is (inl (told, pages, more)) whole came = absurd (cc told)
one_kept (Ok size) before next command records (KeptOf kept) replies own later bytes behind is (inr (told, none, same)) whole came = absurd (cc told)
one_kept (Ok size) before next command records (Held count) replies own later bytes behind is (inr (told, none, same)) whole came = absurd (cc told)
one_kept (Ok size) before next command records (Refused r) replies own later bytes behind is (inr (told, none, same)) whole came =
    refused before next command records r replies own later bytes behind none same whole came

pub came_to : (before : Progress) (records : List Record) (replies : List Reply) (bytes : List ℕ) (behind : Progress) → AnswersAll AnswersRecord before records replies bytes behind
    → CameTo before (kept_of records replies) bytes behind
came_to before [] [] bytes behind (none, same) = nothing before bytes behind none same
came_to before [] (reply ∷ replies) bytes behind all = absurd all
came_to before (given ∷ records) [] bytes behind all = absurd all
came_to before (CommandOf command ∷ records) (reply ∷ replies) bytes behind (next, own, later, answer, rest, whole) =
    one_kept (decision (chain_state_of before.links) command) before next command records reply replies own later bytes behind refl answer whole
    (came_to next records replies later behind rest)
came_to before (Flush ∷ records) (reply ∷ replies) bytes behind (next, own, later, (told, none, same), rest, whole) =
    subst (λ (r : Reply). CameTo before (kept_of (Flush ∷ records) (r ∷ replies)) bytes behind) (sym told)
    (passed before next (kept_of records replies) own later bytes behind none same whole (came_to next records replies later behind rest))
