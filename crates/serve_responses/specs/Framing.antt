-- How long the content is that follows a head (RFC 9112, section 6.3).
use Rattle.std.specs.Prelude.{◌≡◌, ℕ, ◌+◌, ◌-◌, Option, Some, None, [], length}
use Rattle.ogg_http.specs.Answer.{AnswerFits}
use Rattle.ogg_http.specs.declared.answer.Answer.{Answer}
use Rattle.ogg_http.specs.declared.answer.Answer.TheVariants.{Full, Part, Unsatisfiable, Listing, BadRequest, NotFound, NotAllowed}
use Rattle.ogg_http.specs.declared.head.Verb.{Verb}
use Rattle.ogg_http.specs.declared.head.Verb.TheVariants.{Get, Head, Other}
use Rattle.serve_responses.specs.Response.{Asked, Response}

-- the length that the head's Content-Length field has (RFC 9110, section 8.6)
abbrev pub stated_length : Answer → ℕ
stated_length (Full len) = len
stated_length (Part first last len) = last - first + 1
stated_length (Unsatisfiable len) = 0
stated_length (Listing len) = len
stated_length BadRequest = 0
stated_length NotFound = 0
stated_length NotAllowed = 0

-- nothing follows the head of a response to HEAD; any other has the content that its head states
abbrev pub HasItsLength : Verb → Response → Type 0
HasItsLength Head response = response.content ≡ []
HasItsLength Get response = length response.content ≡ stated_length response.answer
HasItsLength Other response = length response.content ≡ stated_length response.answer

pub record IsFramed (verb : Verb) (response : Response) : Type 0 where
  -- a part has a byte, and lies in its representation
  pub fits : AnswerFits response.answer
  pub follows : HasItsLength verb response

-- what is no request is answered as a GET would be
abbrev pub IsFramedFor : Option Asked → Response → Type 0
IsFramedFor None response = IsFramed Get response
IsFramedFor (Some asked) response = IsFramed asked.verb response
