use Rattle.std.proofs.Common.{inl, inr}
use Rattle.archive_fetch.proofs.Ending.{met}
use Rattle.archive_fetch.proofs.fetches.Fetches.file_meets.Goals as goal

pub returns-clause-meets : goal.returns-clause-meets
returns-clause-meets g c client id heard here session found =
    let (after, rest, grows, kept, left) = c.grows.ensures.grows client id heard here session found in (
      after,
      rest,
      record {
        same = grows.same;
        becomes = elim grows.becomes [
          | inl grown ↦ inl (grown.0, met g.D.Disk c.args.meeting.now heard rest grows.same grown.1)
          | inr failed ↦ inr failed
        ];
      },
      kept,
      left,
    )
