use Rattle.std.proofs.Common.{◌++◌, take, drop, refl, sym, ◌∙◌, ap, inr, append_assoc}
use Rattle.std.proofs.lemmas.List.{take-append-drop}
use Rattle.serve_live.specs.Live.{IsMomentOf}
use Rattle.serve_hub.specs.Listening.{waiting_at}
use Rattle.serve_hub.proofs.laws.what_a_hub_lets_hear_is_a_chain.Goals as goal

pub returns : goal.returns
returns c = record {
  waits = λ front committed more bytes closed links are none grown after live.
      let moment : IsMomentOf front (waiting_at front) = record { links = closed; are_links = are; place = refl; last = inr (record { closed = none; begin = refl; passed = refl }) } in
      c.what_is_live_is_a_chain.ensures.whole front committed more bytes (waiting_at front) links moment grown after live;
  joins = λ front committed more bytes moment place links after are there grown now live.
      let joined = c.places_are_moments.ensures front links moment place are there in
      let split = grown ∙ ap (λ l. l ++ more) (sym (take-append-drop place.boundary front)) ∙ append_assoc (take place.boundary front) (drop place.boundary front) more in
      c.what_is_live_is_a_chain.ensures.whole (take place.boundary front) committed (drop place.boundary front ++ more) bytes moment after joined split now live;
}
