-- What is left of a response, as a text and a place in the committed bytes. Ours.
use Rattle.std.specs.Prelude.{◌≡◌, ◌≢◌, ℕ, Bool, true, ◌==◌, List, [], ◌++◌, length, take, drop, min}
pub use Rattle.ogg_page.specs.Window.{HasFailed}
use Rattle.serve_machine.specs.Hub.{is_nothing}
use Rattle.serve_machine.specs.Places.{part_at, LiesIn, IsStreamRest, stream_rest}
use Rattle.serve_machine.specs.declared.answers.Pulled.{Pulled}
use Rattle.serve_sending.specs.declared.body.Body.{Body}
use Rattle.serve_sending.specs.declared.body.Body.TheVariants.{Nothing, Part, Stream}

-- the text that isn't sent, and the part of the file that follows it
pub record SendingState : Type 0 where
  pub text : List ℕ
  pub body : Body

-- over these committed bytes, this is left of the body
abbrev pub IsBodyLeft : List ℕ → Body → List ℕ → Type 0
IsBodyLeft committed Nothing rest = rest ≡ []
IsBodyLeft committed (Part place count) rest = LiesIn place count committed × (rest ≡ part_at place count committed)
IsBodyLeft committed (Stream serial place skip count) rest = IsStreamRest committed serial place skip count rest

-- nothing is left of it
abbrev pub is_empty_body : Body → Bool
is_empty_body Nothing = true
is_empty_body (Part place count) = count == 0
is_empty_body (Stream serial place skip count) = count == 0

-- over these committed bytes, this is left of the whole response
pub record IsLeft (committed : List ℕ) (sending : SendingState) (rest : List ℕ) : Type 0 where
  pub body : List ℕ
  pub body_left : IsBodyLeft committed sending.body body
  pub joined : rest ≡ sending.text ++ body

-- The same as functions, for definitions that cite them.
abbrev pub body_left : List ℕ → Body → List ℕ
body_left committed Nothing = []
body_left committed (Part place count) = part_at place count committed
body_left committed (Stream serial place skip count) = stream_rest committed serial place skip count

abbrev pub left : List ℕ → SendingState → List ℕ
left committed sending = sending.text ++ body_left committed sending.body

-- ---- what a pull takes
-- The first bytes of what was left of the body are in the buffer, as many as go in, and the rest is left.
pub record GivesBody (committed rest : List ℕ) (size : ℕ) (buffer : List ℕ) (count : ℕ) (after : Body) : Type 0 where
  pub count_is : count ≡ min (length rest) size
  pub given : take count buffer ≡ take size rest
  pub left : IsBodyLeft committed after (drop size rest)

-- The same of the whole response; and the pull says whether nothing is left.
pub record Gives (committed rest : List ℕ) (size : ℕ) (buffer : List ℕ) (pulled : Pulled) (after : SendingState) : Type 0 where
  pub count_is : pulled.count ≡ min (length rest) size
  pub given : take pulled.count buffer ≡ take size rest
  pub done : pulled.done ≡ is_nothing (drop size rest)
  pub left : IsLeft committed after (drop size rest)

-- why a pull of this much met a fault: a read failed, and a byte was to be given
abbrev pub IsFaultOf : List ℕ → ℕ → ℕ → ℕ → Type 0
IsFaultOf rest size before now = HasFailed before now × (take size rest ≢ [])
