-- What comes next in a feed, and why it isn't run.
use Rattle.std.proofs.Common.{◌≡◌, ◌≢◌, ℕ, List, Option, Some, None, Bool, Ok, Err}
use Rattle.std.specs.Prelude.{Result, IfOk, IfErr, IfSome, IfNone}
use Rattle.feed_records.specs.declared.item.Record.{Record}
use Rattle.feed_replies.specs.declared.fault.FeedFault.{FeedFault}
use Rattle.feed_replies.specs.declared.fault.FeedFault.TheVariants.{Read, Memory}
use Rattle.feed_codec.specs.Feed.{FeedState, GivesEnd, GivesRecord, HasFault}
use Rattle.feed_replies.specs.declared.fault.RunFault.TheVariants.{Feed, Write, TooMany}
use Rattle.feed_replies.specs.declared.reply.Reply.{Reply}
use Rattle.feed_records.specs.declared.version.Version.{Version}
use Rattle.feed_run.specs.Run.{Comes, EndsOne, Outcome, StopsBy, Streams, answer_at}
use Rattle.feed_run.proofs.Staying.{ends_for}

-- what was read of a feed that hasn't ended
pub comes_so : (next : Result (Option Record) FeedFault) (was now : FeedState) (enough : Bool) (old new : Option (List ℕ)) → was.outcome ≡ None
    → IfOk next (λ found. IfSome found (λ given. (was.outcome ≡ None) × (now.outcome ≡ None) × GivesRecord was.version now.version old new given))
    → IfOk next (λ found. IfNone found (was.outcome ≡ None → GivesEnd was.version old new))
    → IfErr next (λ fault. was.outcome ≡ None → fault ≢ Read → fault ≢ Memory → HasFault was.version old fault)
    → Comes next was now enough old new
comes_so (Ok (Some given)) was now enough old new is_open gives ends faulty = (gives.1, gives.2)
comes_so (Ok None) was now enough old new is_open gives ends faulty = ends_for enough was.version old new (ends is_open)
comes_so (Err fault) was now enough old new is_open gives ends faulty = faulty is_open

-- the fault by which a run ends, if nothing waits
pub stops_so : {S : Type 0} (answers : S → Record → Reply → List ℕ → S → Type 0) (held : S → ℕ) (there : S → Type 0) (outcome : Outcome) (old new : Streams)
    (known : Option Version) (count : ℕ) (before after : S) → there after → EndsOne held outcome old new known count before after
    → IfErr (answer_at outcome) (λ fault. (s : S) × there s × StopsBy answers held fault old new known count before s)
stops_so answers held there (Ok _) old new known count before after is one = tt
stops_so answers held there (Err (Feed fault)) old new known count before after is one = (after, is, one)
stops_so answers held there (Err TooMany) old new known count before after is one = (after, is, one)
stops_so answers held there (Err Write) old new known count before after is one = absurd one.leaves
