use Rattle.serve_machine.specs.declared.answers.Progress.TheVariants.{Ready}
use Rattle.station_hub.proofs.Owed.{begins, exchanges, keeps, others, pulls, writes}
use Rattle.station_hub.proofs.laws.connections_are_owed_their_responses.Goals as goal

pub returns : goal.returns
returns c = record {
  begins = begins (λ old new id received bytes. c.calls_move_their_session.ensures.receive old new id received bytes Ready);
  pulls = pulls c.calls_move_their_session.ensures.pull;
  keeps = keeps;
  writes = writes;
  exchanges = exchanges c.calls_move_their_session.ensures.pull;
  others = others c.other_sessions_stay.ensures;
}
