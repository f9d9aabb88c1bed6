use Rattle.feed_run.proofs.Coming.{comes_so}
use Rattle.feed_run.proofs.next.next_for.Goals as goal

pub returns-clause-next : goal.returns-clause-next
returns-clause-next g c =
    comes_so c.next_record.result c.args.feed.now.feed c.next_record.new.feed.feed _ _ _ c.requires
    c.next_record.ensures.record c.next_record.ensures.end c.next_record.ensures.fault
