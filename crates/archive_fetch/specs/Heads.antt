-- The heads of answers about files of an archive (RFC 9110, sections 8.8.3 and 15.4.5; RFC 9111, section 5.2.2).
use Rattle.std.specs.Prelude.{ℕ, ◌-◌, Bool, true, false, List, [], ◌++◌, codes, length, take}
use Rattle.ogg_http.specs.Answer.{answer_head, line}
use Rattle.archive_fetch.specs.Replies.{tag_of}
use Rattle.archive_fetch.specs.declared.replies.FileFacts.{FileFacts}
use Rattle.archive_fetch.specs.declared.replies.Reply.{Reply}
use Rattle.archive_fetch.specs.declared.replies.Reply.TheVariants.{Unchanged, Found, Refused}

-- What has ended is never asked for again (RFC 8246); of what grows a cache asks each time.
abbrev pub caching : Bool → List ℕ
caching true = line (codes "Cache-Control: public, max-age=31536000, immutable")
caching false = line (codes "Cache-Control: no-cache")

abbrev pub validators : FileFacts → List ℕ
validators file = line (codes "ETag: " ++ tag_of file) ++ caching file.has_ended

-- a cut is kept under a name of its times (RFC 6266)
abbrev pub both : List ℕ → List ℕ → List ℕ
both from to = from ++ codes "-" ++ to

abbrev pub name_of : List ℕ → List ℕ → List ℕ
name_of from to = both from to ++ codes ".ogg\""

abbrev pub disposition : List ℕ → List ℕ → List ℕ
disposition from to = line (codes "Content-Disposition: attachment; filename=\"" ++ name_of from to)

-- a head with these lines more, before the empty one at its end
abbrev pub with_lines : List ℕ → List ℕ → List ℕ
with_lines lines head = take (length head - 2) head ++ lines ++ line []

abbrev pub head_of : Reply → List ℕ
head_of (Unchanged file) = line (codes "HTTP/1.1 304 Not Modified") ++ validators file ++ line (codes "Connection: close") ++ line []
head_of (Found answer file) = with_lines (validators file) (answer_head answer)
head_of (Refused answer) = answer_head answer
