-- The answer to a request for a file of an archive (RFC 9110, sections 9.3, 13 and 14). Which fields count is as for the
-- resources of one file.
use Rattle.std.specs.Prelude.{◌≡◌, ⊤, ◌⊎◌, ℕ, ◌+◌, ◌≤◌, Bool, if◌then◌else◌, Option, Some, None, List, [], ◌++◌, codes, slice_range}
use Rattle.std.specs.Fmt.{decimal}
use Rattle.memchr.specs.Find.{OccursAt}
use Rattle.ogg_http.specs.Answer.{AnswerFits}
use Rattle.ogg_http.specs.declared.answer.Answer.{Answer}
use Rattle.ogg_http.specs.declared.answer.Answer.TheVariants.{Full, Listing, Part as PartOf, Unsatisfiable as NoPart, BadRequest, NotFound, NotAllowed}
use Rattle.ogg_http.specs.declared.head.Verb.{Verb}
use Rattle.ogg_http.specs.declared.head.Verb.TheVariants.{Get, Other}
use Rattle.ogg_http.specs.declared.range.Ranged.{Ranged}
use Rattle.ogg_http.specs.declared.range.Ranged.TheVariants.{Whole, Part, Unsatisfiable}
use Rattle.serve_responses.specs.Response.{Asked, asked_range, lacks_host}
use Rattle.archive_fetch.specs.declared.replies.FileFacts.{FileFacts}
use Rattle.archive_fetch.specs.declared.replies.Reply.{Reply}
use Rattle.archive_fetch.specs.declared.replies.Reply.TheVariants.{Unchanged, Found, Refused}

-- The entity tag of a file (RFC 9110, section 8.8.3). Ours: its number and its length, as a file only grows.
abbrev pub tag_of : FileFacts → List ℕ
tag_of file = codes "\"" ++ decimal file.number ++ codes "-" ++ decimal file.bytes ++ codes "\""

-- A client that sends this value of If-None-Match has the file as it stands: any, or one with this tag (section 13.1.2). No
-- tag has quotes within, so that one stands in the list if its text does.
abbrev pub IsHad : List ℕ → FileFacts → Type 0
IsHad value file = (value ≡ codes "*") ⊎ ((at : ℕ) × OccursAt value (tag_of file) at)

-- The bytes that are asked for: all of them (section 15.3.1), a part (section 15.3.7), or none that are there (section
-- 15.5.17).
abbrev pub answer_for : Ranged → ℕ → Answer
answer_for Whole len = Full len
answer_for (Part first last) len = PartOf first last len
answer_for Unsatisfiable len = NoPart len

-- a Range field counts for GET alone (section 14.2)
abbrev pub answer_in : Verb → Option (List ℕ) → ℕ → Answer
answer_in Get range len = answer_for (asked_range range len) len
answer_in verb range len = Full len

-- Whatever it names, a request of HTTP/1.1 without one Host field is bad (RFC 9112, section 3.2), and files are only read.
abbrev pub refusal_in : Verb → Option Answer
refusal_in Other = Some NotAllowed
refusal_in verb = None

abbrev pub refusal_of : Asked → Option Answer
refusal_of asked = if lacks_host asked then Some BadRequest else refusal_in asked.verb

-- What the client has isn't sent again (section 13.1.2), before a range is looked at (section 13.2.2).
abbrev pub reply_in : Verb → Option (List ℕ) → Bool → Option FileFacts → Reply
reply_in Other range had file = Refused NotAllowed
reply_in verb range had None = Refused NotFound
reply_in verb range had (Some file) = if had then Unchanged file else Found (answer_in verb range file.bytes) file

-- the answer to a request for a file, if it is there, by whether its client has it as it stands
abbrev pub reply_of : Asked → Bool → Option FileFacts → Reply
reply_of asked had file = if lacks_host asked then Refused BadRequest else reply_in asked.verb asked.range had file

-- the same of a list of this length
abbrev pub list_in : Verb → ℕ → Answer
list_in Other len = NotAllowed
list_in verb len = Listing len

abbrev pub list_answer : Asked → ℕ → Answer
list_answer asked len = if lacks_host asked then BadRequest else list_in asked.verb len

-- a part that is answered lies in the file
abbrev pub ReplyFits : Reply → Type 0
ReplyFits (Unchanged file) = ⊤
ReplyFits (Found answer file) = AnswerFits answer
ReplyFits (Refused answer) = AnswerFits answer

-- what is answered is of no more bytes than these
abbrev pub LiesWithin : ℕ → Answer → Type 0
LiesWithin most (Full len) = len ≤ most
LiesWithin most (PartOf first last len) = len ≤ most
LiesWithin most answer = ⊤

abbrev pub IsWithin : ℕ → Reply → Type 0
IsWithin most (Unchanged file) = ⊤
IsWithin most (Found answer file) = LiesWithin most answer
IsWithin most (Refused answer) = ⊤

-- the bytes that follow the head, if the file has these
abbrev pub content_in : Answer → List ℕ → List ℕ
content_in (Full len) bytes = slice_range bytes 0 len
content_in (PartOf first last len) bytes = slice_range bytes first (last + 1)
content_in answer bytes = []

abbrev pub content_of : Verb → Reply → List ℕ → List ℕ
content_of Get (Found answer file) bytes = content_in answer bytes
content_of verb reply bytes = []
