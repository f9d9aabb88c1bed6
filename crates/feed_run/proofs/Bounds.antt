-- What the counts keep when one more record is counted.
use Rattle.std.proofs.Common.{◌≡◌, ◌+◌, ◌≤◌, ℕ, arith, subst, sym}
use Rattle.ogg_command.specs.declared.refusal.Refusal.{Refusal}
use Rattle.ogg_command.specs.declared.refusal.Refusal.TheVariants.{Failed, Disk}
use Rattle.feed_replies.specs.declared.reply.Reply.{Reply}
use Rattle.feed_replies.specs.declared.reply.Reply.TheVariants.{Held, Kept as KeptOf, Refused}
use Rattle.feed_records.specs.declared.item.Record.{Record}
use Rattle.feed_records.specs.declared.item.Record.TheVariants.{Command as CommandOf, Flush}
use Rattle.feed_runner.specs.declared.counting.Counts.{Counts}
use Rattle.feed_runner.specs.Counting.{counts_with, left_by}

left_few : (refusal : Refusal) (waiting : ℕ) → left_by refusal 0 waiting ≤ waiting
left_few Failed waiting = omega arith
left_few Disk waiting = omega arith
left_few refusal waiting = omega arith

-- no more were kept or wait than there were, and one record is at most one command
abbrev pub Fits : Counts → Counts → Type 0
Fits was now = (now.kept + now.waiting ≤ now.commands) × (now.commands ≤ was.commands + 1)

pub fits : (was : Counts) (given : Record) (reply : Reply) → was.kept + was.waiting ≤ was.commands → Fits was (counts_with was given reply)
fits was (CommandOf command) (KeptOf kept) few = (omega (arith, few), omega arith)
fits was (CommandOf command) (Held count) few = (omega (arith, few), omega arith)
fits was (CommandOf command) (Refused refusal) few = (omega (arith, few, left_few refusal was.waiting), omega arith)
fits was Flush (KeptOf kept) few = (omega (arith, few), omega arith)
fits was Flush (Held count) few = (few, omega arith)
fits was Flush (Refused refusal) few = (omega (arith, few, left_few refusal was.waiting), omega arith)

pub fits_so : (was now : Counts) (given : Record) (reply : Reply) → now ≡ counts_with was given reply → was.kept + was.waiting ≤ was.commands → Fits was now
fits_so was now given reply same few = subst (Fits was) (sym same) (fits was given reply few)
