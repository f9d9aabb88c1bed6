use Rattle.std.proofs.Common.{◌≡◌, ℕ, Some, length, refl, sym, ◌∙◌, ap, subst, inl}
use Rattle.serve_clients.specs.Client.{ClientState}
use Rattle.serve_machine.specs.Hub.{Pull}
use Rattle.station_hub.specs.Giving.{LosesSession}
use Rattle.station_hub.proofs.Keeping.{as_seen, by_session, unchanged}
use Rattle.station_hub.proofs.live_hub.LiveHub.give.Goals as goal

same_id : (one other : ℕ) → Some one ≡ Some other → one ≡ other
same_id one other e = cc

pub returns-in-Hearing-default-clause-hears : goal.returns-in-Hearing-default-clause-hears
returns-in-Hearing-default-clause-hears g c machine moment given listener none stage shows is hearing =
    c.hear.ensures.heard machine moment given listener shows is hearing

pub returns-in-Hearing-default-clause-recorded : goal.returns-in-Hearing-default-clause-recorded
returns-in-Hearing-default-clause-recorded g c = as_seen g.D.Disk c.args.self.now.hub c.hear.new.hub c.hear.ensures.machine

pub returns-in-Hearing-default-clause-keeps : goal.returns-in-Hearing-default-clause-keeps
returns-in-Hearing-default-clause-keeps g c stage = c.hear.ensures.machine

pub returns-in-Hearing-default-clause-disk : goal.returns-in-Hearing-default-clause-disk
returns-in-Hearing-default-clause-disk g c = c.hear.ensures.disk

pub returns-in-Hearing-default-clause-rest : goal.returns-in-Hearing-default-clause-rest
returns-in-Hearing-default-clause-rest g c = c.hear.ensures.rest

pub returns-in-Hearing-default-clause-within : goal.returns-in-Hearing-default-clause-within
returns-in-Hearing-default-clause-within g c = c.hear.ensures.within

pub returns-in-Sending-Some-clause-recorded : goal.returns-in-Sending-Some-clause-recorded
returns-in-Sending-Some-clause-recorded g c =
    let (answer, steps, pulled) = c.pull.ensures.pulled in
    by_session g.D.Disk c.calls_move_their_session.ensures.file c.args.self.now.hub c.pull.new.hub (Pull c.in-Sending-Some.id (length c.args.buffer.now) answer)
    c.in-Sending-Some.id refl steps

pub returns-in-Sending-Some-clause-cause : goal.returns-in-Sending-Some-clause-cause
returns-in-Sending-Some-clause-cause g c id machine none stage session shows cuts =
    let own = ap (λ (client : ClientState). client.session) c.client.view_is in
    subst (λ (one : ℕ). LosesSession g.D.Disk one machine c.args.self.now.hub c.pull.new.hub)
    (same_id c.in-Sending-Some.id id (sym c.in-Sending-Some.is-1 ∙ own ∙ session)) (c.pull.ensures.cause machine shows cuts)

pub returns-in-Sending-Some-clause-disk : goal.returns-in-Sending-Some-clause-disk
returns-in-Sending-Some-clause-disk g c = c.pull.ensures.disk

pub returns-in-Sending-Some-clause-within : goal.returns-in-Sending-Some-clause-within
returns-in-Sending-Some-clause-within g c = c.pull.ensures.within

pub returns-then-not-is_empty-clause-again : goal.returns-then-not-is_empty-clause-again
returns-then-not-is_empty-clause-again g c some = (refl, refl, c.give_again.ensures.bytes)

pub returns-then-not-is_empty-clause-keeps : goal.returns-then-not-is_empty-clause-keeps
returns-then-not-is_empty-clause-keeps g c stage machine shows = shows

pub returns-then-not-is_empty-clause-goes_on : goal.returns-then-not-is_empty-clause-goes_on
returns-then-not-is_empty-clause-goes_on g c hears = inl hears

pub returns-then-not-is_empty-clause-rest : goal.returns-then-not-is_empty-clause-rest
returns-then-not-is_empty-clause-rest g c = refl

pub returns-then-not-is_empty-clause-disk : goal.returns-then-not-is_empty-clause-disk
returns-then-not-is_empty-clause-disk g c = inl refl

pub returns-then-not-is_empty-clause-recorded : goal.returns-then-not-is_empty-clause-recorded
returns-then-not-is_empty-clause-recorded g c = unchanged g.D.Disk c.args.self.now.hub c.args.self.now.hub refl

pub returns-in_default-clause-keeps : goal.returns-in_default-clause-keeps
returns-in_default-clause-keeps g c stage machine shows = shows

pub returns-in_default-clause-goes_on : goal.returns-in_default-clause-goes_on
returns-in_default-clause-goes_on g c hears = inl hears

pub returns-in_default-clause-rest : goal.returns-in_default-clause-rest
returns-in_default-clause-rest g c = refl

pub returns-in_default-clause-disk : goal.returns-in_default-clause-disk
returns-in_default-clause-disk g c = inl refl

pub returns-in_default-clause-recorded : goal.returns-in_default-clause-recorded
returns-in_default-clause-recorded g c = unchanged g.D.Disk c.args.self.now.hub c.args.self.now.hub refl

pub returns-in-Hearing-default-clause-lost : goal.returns-in-Hearing-default-clause-lost
returns-in-Hearing-default-clause-lost g c machine moment given listener none stage shows is hearing cuts =
    c.hear.ensures.lost machine moment given listener shows is hearing stage cuts
