-- The lines of the log, in the combined format of Apache's httpd ("Log Files", "Combined Log Format").
use Rattle.std.specs.Prelude.{◌≡◌, ℕ, min, List, [], ◌++◌, take, drop, codes}
use Rattle.std.specs.Fmt.{decimal}
use Rattle.httpdate.specs.Date.{date_text, unix_secs}
use Rattle.httpdate.specs.declared.date.HttpDate.{HttpDate}
use Rattle.serve_texts.specs.Escape.{escaped, shown_text}
use Rattle.serve_texts.specs.Heard.{request_line, value_of}
use Rattle.serve_texts.specs.Status.{three_digits}
use Rattle.serve_texts.specs.declared.reply.Reply.{Reply}

-- the second of the date, counted from 1970; ours: one past the year 9999 is the last of that year
abbrev pub IsAt : ℕ → HttpDate → Type 0
IsAt seconds date = unix_secs date ≡ min seconds 253_402_300_799

-- the date of an HTTP field, as `Thu, 26 Nov 2026 08:01:37 GMT` (RFC 9110, section 5.6.7), in the order of the log:
-- `26/Nov/2026:08:01:37 +0000`
-- with what stands before and after it
abbrev pub date_part : List ℕ → List ℕ
date_part date =
    codes " - - [" ++ (take 2 (drop 5 date) ++ (codes "/" ++ (take 3 (drop 8 date) ++ (codes "/"
    ++ (take 4 (drop 12 date) ++ (codes ":" ++ (take 8 (drop 17 date) ++ (codes " +0000] \"" ++ []))))))))

-- who asked, and when
abbrev pub front_text : List ℕ → List ℕ → List ℕ
front_text address date = escaped address ++ date_part date

-- the status of the answer, and how many bytes of content were sent
abbrev pub number_text : Reply → List ℕ
number_text reply =
    codes "\" " ++ (three_digits reply.status ++ (codes " " ++ (decimal reply.content ++ (codes " \"" ++ []))))

-- what was asked for, and what was answered
abbrev pub request_text : List ℕ → Reply → List ℕ
request_text head reply = shown_text (request_line head) ++ number_text reply

-- the end of a line
abbrev pub last_text : List ℕ → List ℕ
last_text text = shown_text text ++ (codes "\"\n" ++ [])

-- the page that the request came from, and the program that made it
abbrev pub program_text : List ℕ → List ℕ
program_text head = codes "\" \"" ++ last_text (value_of (codes "user-agent:") head)

abbrev pub agent_text : List ℕ → List ℕ
agent_text head = shown_text (value_of (codes "referer:") head) ++ program_text head

-- a line with this date
abbrev pub line_text : List ℕ → List ℕ → List ℕ → Reply → List ℕ
line_text address date head reply = front_text address date ++ (request_text head reply ++ agent_text head)

-- the line of a connection from this address that ended at this date, of which this was heard and sent
abbrev pub log_line : List ℕ → HttpDate → List ℕ → Reply → List ℕ
log_line address date head reply = line_text address (date_text date) head reply
