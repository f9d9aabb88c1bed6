-- What is left stays while the committed bytes grow.
use Rattle.std.proofs.Common.{◌≡◌, ℕ, ◌+◌, ◌≤◌, List, ◌++◌, length, sym, ◌∙◌, ap, arith, length-append}
use Rattle.ogg_page.specs.Page.{AreBytes}
use Rattle.serve_machine.specs.Places.{part_at, LiesIn, IsStreamRest, stream_rest}
use Rattle.serve_sending.specs.Sending.{SendingState, IsBodyLeft, IsLeft, body_left, left}
use Rattle.serve_sending.specs.declared.body.Body.{Body}
use Rattle.serve_sending.specs.declared.body.Body.TheVariants.{Nothing, Part, Stream}

module _ (part_stays : (place count : ℕ) (committed more : List ℕ) → LiesIn place count committed → part_at place count (committed ++ more) ≡ part_at place count committed)
    (stream_stays : (committed more : List ℕ) (serial place skip count : ℕ) (rest : List ℕ) → IsStreamRest committed serial place skip count rest
    → IsStreamRest (committed ++ more) serial place skip count rest) where
  body_stays : (committed more rest : List ℕ) (body : Body) → IsBodyLeft committed body rest → IsBodyLeft (committed ++ more) body rest
  body_stays committed more rest Nothing e = e
  body_stays committed more rest (Part place count) (inside, e) =
      ((let z : place + count ≤ length (committed ++ more) = omega (arith, inside, length-append committed more) in z), e ∙ sym (part_stays place count committed more inside))
  body_stays committed more rest (Stream serial place skip count) r = stream_stays committed more serial place skip count rest r

  pub left_stays : (committed more rest : List ℕ) (sending : SendingState) → IsLeft committed sending rest → IsLeft (committed ++ more) sending rest
  left_stays committed more rest sending l = record { body = l.body; body_left = body_stays committed more l.body sending.body l.body_left; joined = l.joined }

module _ (stream_found : (committed : List ℕ) (serial place skip count : ℕ) (rest : List ℕ) → AreBytes committed → IsStreamRest committed serial place skip count rest
    → stream_rest committed serial place skip count ≡ rest) where
  body_found : (committed rest : List ℕ) (body : Body) → AreBytes committed → IsBodyLeft committed body rest → body_left committed body ≡ rest
  body_found committed rest Nothing small e = sym e
  body_found committed rest (Part place count) small (inside, e) = sym e
  body_found committed rest (Stream serial place skip count) small r = stream_found committed serial place skip count rest small r

  pub left_found : (committed rest : List ℕ) (sending : SendingState) → AreBytes committed → IsLeft committed sending rest → left committed sending ≡ rest
  left_found committed rest sending small l = ap (λ t. sending.text ++ t) (body_found committed l.body sending.body small l.body_left) ∙ sym l.joined
