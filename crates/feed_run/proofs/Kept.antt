-- The counts with one more record are those of all records with that one.
use Rattle.std.proofs.Common.{◌≡◌, ◌+◌, ℕ, List, [], ◌∷◌, ◌++◌, length, refl, sym, ap, ◌∙◌, subst, arith, append_assoc, append-nil, length-append}
use Rattle.ogg_command.specs.declared.command.Command.{Command}
use Rattle.ogg_command.specs.declared.refusal.Refusal.{Refusal}
use Rattle.ogg_command.specs.declared.refusal.Refusal.TheVariants.{Failed, Disk}
use Rattle.feed_replies.specs.declared.reply.Reply.{Reply}
use Rattle.feed_replies.specs.declared.reply.Reply.TheVariants.{Held, Kept as KeptOf, Refused}
use Rattle.feed_records.specs.declared.item.Record.{Record}
use Rattle.feed_records.specs.declared.item.Record.TheVariants.{Command as CommandOf, Flush}
use Rattle.feed_runner.specs.declared.counting.Counts.{Counts}
use Rattle.feed_runner.specs.Counting.{Counted, commands_in, counts_with, kept_after, kept_by, kept_of, left_after, left_by, waiting_after}

commands-append : (xs : List Record) (x : Record) → length (commands_in (xs ++ x ∷ [])) ≡ length (commands_in xs) + length (commands_in (x ∷ []))
commands-append [] x = omega arith
commands-append (CommandOf command ∷ xs) x = omega (arith, commands-append xs x)
commands-append (Flush ∷ xs) x = commands-append xs x

kept-append : (waiting : List Command) (records : List Record) (replies : List Reply) (given : Record) (reply : Reply) → length records ≡ length replies
    → kept_after waiting (records ++ given ∷ []) (replies ++ reply ∷ []) ≡ kept_after waiting records replies ++ kept_by (left_after waiting records replies) given reply
kept-append waiting [] [] given reply same = append-nil (kept_by waiting given reply)
kept-append waiting [] (p ∷ replies) given reply same = absurd (omega (arith, same))
kept-append waiting (r ∷ records) [] given reply same = absurd (omega (arith, same))
kept-append waiting (r ∷ records) (p ∷ replies) given reply same =
    let next = waiting_after waiting r p in
    ap (λ l. kept_by waiting r p ++ l) (kept-append next records replies given reply (omega (arith, same)))
    ∙ sym (append_assoc (kept_by waiting r p) (kept_after next records replies) (kept_by (left_after next records replies) given reply))

left-append : (waiting : List Command) (records : List Record) (replies : List Reply) (given : Record) (reply : Reply) → length records ≡ length replies
    → left_after waiting (records ++ given ∷ []) (replies ++ reply ∷ []) ≡ waiting_after (left_after waiting records replies) given reply
left-append waiting [] [] given reply same = refl
left-append waiting [] (p ∷ replies) given reply same = absurd (omega (arith, same))
left-append waiting (r ∷ records) [] given reply same = absurd (omega (arith, same))
left-append waiting (r ∷ records) (p ∷ replies) given reply same = left-append (waiting_after waiting r p) records replies given reply (omega (arith, same))

left_of : (refusal : Refusal) (count : ℕ) (waiting : List Command) → count ≡ length waiting → left_by refusal 0 count ≡ length (left_by refusal [] waiting)
left_of Failed count waiting same = refl
left_of Disk count waiting same = refl
left_of refusal count waiting same = same

-- the counts of one record
record CountsOne (counts now : Counts) (waiting : List Command) (given : Record) (reply : Reply) : Type 0 where
  commands : now.commands ≡ counts.commands + length (commands_in (given ∷ []))
  kept : now.kept ≡ counts.kept + length (kept_by waiting given reply)
  waits : now.waiting ≡ length (waiting_after waiting given reply)

counts_one : (counts : Counts) (waiting : List Command) (given : Record) (reply : Reply) → counts.waiting ≡ length waiting → CountsOne counts (counts_with counts given reply) waiting given reply
counts_one counts waiting (CommandOf command) (KeptOf kept) same =
    record { commands = refl; kept = omega (arith, same, length-append waiting (command ∷ [])); waits = refl }
counts_one counts waiting (CommandOf command) (Held count) same =
    record { commands = refl; kept = omega arith; waits = omega (arith, same, length-append waiting (command ∷ [])) }
counts_one counts waiting (CommandOf command) (Refused refusal) same =
    record { commands = refl; kept = omega arith; waits = left_of refusal counts.waiting waiting same }
counts_one counts waiting Flush (KeptOf kept) same = record { commands = omega arith; kept = omega (arith, same); waits = refl }
counts_one counts waiting Flush (Held count) same = record { commands = omega arith; kept = omega arith; waits = same }
counts_one counts waiting Flush (Refused refusal) same =
    record { commands = omega arith; kept = omega arith; waits = left_of refusal counts.waiting waiting same }

pub counted_on : (counts now : Counts) (records : List Record) (replies : List Reply) (given : Record) (reply : Reply) → length records ≡ length replies
    → Counted counts records replies → now ≡ counts_with counts given reply → Counted now (records ++ given ∷ []) (replies ++ reply ∷ [])
counted_on counts now records replies given reply same counted is =
    let left = left_after [] records replies in
    let one = subst (λ (c : Counts). CountsOne counts c left given reply) (sym is) (counts_one counts left given reply counted.waiting) in
    record {
      commands = one.commands ∙ ap (λ n. n + length (commands_in (given ∷ []))) counted.commands ∙ sym (commands-append records given);
      kept =
          one.kept ∙ ap (λ n. n + length (kept_by left given reply)) counted.kept
          ∙ sym (length-append (kept_of records replies) (kept_by left given reply))
          ∙ ap (λ (l : List Command). length l) (sym (kept-append [] records replies given reply same));
      waiting = one.waits ∙ ap (λ (l : List Command). length l) (sym (left-append [] records replies given reply same));
    }
