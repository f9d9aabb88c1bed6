use Rattle.std.proofs.Common.{length, refl, sym, ◌∙◌, subst}
use Rattle.archive_fetch.specs.Bodies.{BodyState, HasPulled}
use Rattle.archive_fetch.specs.Hearing.{HeardState, Hears}
use Rattle.archive_fetch.proofs.Contents.{same_body, same_heard}
use Rattle.archive_fetch.proofs.fetches.give_of.Goals as goal

pub returns-in-Sending-File-clause-pulls : goal.returns-in-Sending-File-clause-pulls
returns-in-Sending-File-clause-pulls g c body sending given = (
  c.pull-count.new.body,
  subst (λ (one : BodyState _). HasPulled g.D.Disk (length c.args.buffer.now) c.args.client.now one c.pull-count.result c.pull-count.new.buffer c.pull-count.new.client c.pull-count.new.body)
      (same_body c.in-Sending-File.body body (sym c.in-Sending-File.is-1 ∙ given)) c.pull-count.ensures.pulled,
  refl,
)

pub returns-in-Hearing-Heard-clause-hears : goal.returns-in-Hearing-Heard-clause-hears
returns-in-Hearing-Heard-clause-hears g c heard hearing given = (
  c.hear-count.new.heard,
  subst (λ (one : HeardState _). Hears g.D.Disk (length c.args.buffer.now) c.args.client.now one c.hear-count.result c.hear-count.new.buffer c.hear-count.new.client c.hear-count.new.heard)
      (same_heard c.in-Hearing-Heard.heard heard (sym c.in-Hearing-Heard.is-1 ∙ given)) c.hear-count.ensures.hears,
  refl,
)
