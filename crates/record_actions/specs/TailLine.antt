-- What is told of a tail that is kept aside. Ours.
use Rattle.std.specs.Prelude.{ℕ, nat_lt, if◌then◌else◌, List, ◌++◌, codes}
use Rattle.std.specs.Fmt.{decimal}
use Rattle.feed_replies.specs.Reply.{line_end}
use Rattle.record_actions.specs.declared.tails.Tail.{Tail}

-- the name of the first copy: that of the file, and where the tail begins
abbrev pub first_name : List ℕ → ℕ → List ℕ
first_name file offset = file ++ codes ".tail-" ++ decimal offset

-- the name of the copy with this number, from 1 on
abbrev pub tail_name : List ℕ → ℕ → ℕ → List ℕ
tail_name file offset number =
    if nat_lt 1 number then first_name file offset ++ codes "-" ++ decimal number else first_name file offset

-- where the tail begins, how many bytes it has, and what holds it
abbrev pub tail_line : Tail → List ℕ → List ℕ
tail_line tail name =
    codes "tail " ++ decimal tail.offset ++ codes " " ++ decimal tail.bytes ++ codes " " ++ name ++ line_end
