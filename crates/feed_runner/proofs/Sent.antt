-- What is out of lines that wait.
use Rattle.std.proofs.Common.{◌≡◌, ◌<◌, ◌++◌, ◌∙◌, ℕ, List, [], Option, Some, None, sym, ap, subst, arith, take, drop, length, append_assoc, append-nil, length-append, length-drop, take-append-drop}
use Rattle.std.proofs.KnownBytes.{Appends-trans, Keeps-trans}
use Rattle.std.proofs.Math.Seq.{take-length}
use Rattle.std.proofs.lemmas.List.{append_cancel_left, take-append-le}
use Rattle.std.proofs.lemmas.Result.{on_err_weaker}
use Rattle.std.specs.Prelude.{OnErr, Result, Ok, Err, codes}
use Rattle.std.specs.Fmt.{decimal}
use Rattle.std.specs.Io.KnownBytes.{Appends, Keeps, append_known}
use Rattle.ogg_page.specs.Output.{WritesPart, WritesPrefix}
use Rattle.ogg_command.specs.Refusal.{code_of, name_of}
use Rattle.feed_replies.specs.Reply.{line_end, reply_line}
use Rattle.feed_replies.specs.declared.reply.Reply.{Reply}
use Rattle.feed_replies.specs.declared.reply.Reply.TheVariants.{Held, Kept, Refused}

pub on_err : {T E : Type 0} → (result : Result T E) (P : Type 0) → P → OnErr result P
on_err (Ok done) P p = tt
on_err (Err fault) P p = p

-- all of it is out, a part of it, or nothing
pub all_out : (a b : Option (List ℕ)) (text : List ℕ) → Appends a b text → WritesPrefix a b text
all_out a b text all = (length text, omega arith, subst (Appends a b) (sym (take-length text)) all)

pub front_out : (a b : Option (List ℕ)) (text : List ℕ) (count : ℕ) → count < length text → Appends a b (take count text) → WritesPrefix a b text
front_out a b text count less part = (count, omega (arith, less), part)

-- what is left of a text after a part of it
pub some_left : (text : List ℕ) (count : ℕ) → count < length text → 0 < length (drop count text)
some_left text count less = omega (arith, length-drop count text, less)

-- no line is empty
line_some : (reply : Reply) → 0 < length (reply_line reply)
line_some (Held count) = omega (arith, length-append (codes "held ") (decimal count ++ line_end), length-append (decimal count) line_end)
line_some (Kept kept) =
    omega (
      arith,
      length-append (codes "kept ") (decimal kept.count ++ (codes " " ++ (decimal kept.end ++ line_end))),
      length-append (decimal kept.count) (codes " " ++ (decimal kept.end ++ line_end)),
      length-append (codes " ") (decimal kept.end ++ line_end),
      length-append (decimal kept.end) line_end,
    )
line_some (Refused refusal) =
    omega (
      arith,
      length-append (codes "refused ") (decimal (code_of refusal) ++ (codes " " ++ (name_of refusal ++ line_end))),
      length-append (decimal (code_of refusal)) (codes " " ++ (name_of refusal ++ line_end)),
      length-append (codes " ") (name_of refusal ++ line_end),
      length-append (name_of refusal) line_end,
    )

-- bytes are out, and some are left: those that are out are a part of all
part_out : (a b : Option (List ℕ)) (text more left : List ℕ) → Appends a b more → Keeps (append_known a text) (append_known b left)
    → 0 < length left → 0 < length text → WritesPart a b text
part_out None b text more left out kept some full = (0, full, tt)
part_out (Some x) None text more left out kept some full = absurd out
part_out (Some x) (Some y) text more left out kept some full =
    let whole : x ++ (more ++ left) ≡ x ++ text = sym (append_assoc x more left) ∙ ap (λ l. l ++ left) (sym out) ∙ kept in
    let split : more ++ left ≡ text = append_cancel_left x (more ++ left) text whole in
    let front : take (length more) text ≡ more = ap (take (length more)) (sym split) ∙ take-append-le (length more) more left (omega arith) ∙ take-length more in
    (length more, omega (arith, some, ap length split, length-append more left), subst (λ l. y ≡ x ++ l) (sym front) out)

kept_more : (a b : Option (List ℕ)) (one two line : List ℕ) → Keeps (append_known a one) (append_known b two) → Keeps (append_known a (one ++ line)) (append_known b (two ++ line))
kept_more None b one two line kept = tt
kept_more (Some x) None one two line kept = absurd kept
kept_more (Some x) (Some y) one two line kept = sym (append_assoc y two line) ∙ ap (λ l. l ++ line) kept ∙ append_assoc x one line

some_more : (one : List ℕ) (reply : Reply) → 0 < length (one ++ reply_line reply)
some_more one reply = omega (arith, line_some reply, length-append one (reply_line reply))

-- the line isn't out, whatever became of those before it
pub line_left : (a b : Option (List ℕ)) (one two : List ℕ) (reply : Reply) → WritesPrefix a b one → Keeps (append_known a one) (append_known b two)
    → WritesPart a b (one ++ reply_line reply)
line_left a b one two reply (n, within, out) kept =
    part_out a b (one ++ reply_line reply) (take n one) (two ++ reply_line reply) out (kept_more a b one two (reply_line reply) kept) (some_more two reply) (some_more one reply)

-- the line was put behind the others, and then they are sent: if that fails, not all of them went out
pub lines_left : {T E : Type 0} (result : Result T E) (a b c : Option (List ℕ)) (one two with left : List ℕ) (reply : Reply) → WritesPrefix a b one
    → Keeps (append_known a one) (append_known b two) → with ≡ two ++ reply_line reply → WritesPrefix b c with → Keeps (append_known b with) (append_known c left)
    → (0 < length with → OnErr result (0 < length left)) → OnErr result (WritesPart a c (one ++ reply_line reply))
lines_left result a b c one two with left reply (n, within, out) kept told (m, inside, more) sent some =
    let line = reply_line reply in
    let before : Keeps (append_known a (one ++ line)) (append_known b with) =
    subst (λ (l : List ℕ). Keeps (append_known a (one ++ line)) (append_known b l)) (sym told) (kept_more a b one two line kept) in
    let full : 0 < length with = subst (λ (l : List ℕ). 0 < length l) (sym told) (some_more two reply) in
    on_err_weaker result
    (λ rest. part_out a c (one ++ line) (take n one ++ take m with) left (Appends-trans a b c (take n one) (take m with) out more)
    (Keeps-trans (append_known a (one ++ line)) (append_known b with) (append_known c left) before sent) rest (some_more one reply))
    (some full)

-- of bytes that wait, these were written, and the others wait
pub drained : (a b : Option (List ℕ)) (text : List ℕ) (count : ℕ) → Appends a b (take count text)
    → Keeps (append_known a text) (append_known b (drop count text))
drained None b text count p = tt
drained (Some x) None text count p = absurd p
drained (Some x) (Some y) text count p =
    ap (λ l. l ++ drop count text) p ∙ append_assoc x (take count text) (drop count text) ∙ ap (λ l. x ++ l) (take-append-drop count text)

pub drained_all : (a b : Option (List ℕ)) (text : List ℕ) → Appends a b text → Keeps (append_known a text) (append_known b [])
drained_all None b text p = tt
drained_all (Some x) None text p = absurd p
drained_all (Some x) (Some y) text p = append-nil y ∙ p

-- a line was told, and then what waited was written as far as it went
pub told_so_far : (a b c : Option (List ℕ)) (one two line : List ℕ) → Keeps a (append_known b one) → two ≡ one ++ line
    → Keeps (append_known b two) c → WritesPrefix a c line
told_so_far None b c one two line kept told sent = (0, omega arith, tt)
told_so_far (Some x) None c one two line kept told sent = absurd kept
told_so_far (Some x) (Some y) None one two line kept told sent = absurd sent
told_so_far (Some x) (Some y) (Some z) one two line kept told sent =
    let whole : z ≡ x ++ line = sent ∙ ap (λ l. y ++ l) told ∙ sym (append_assoc y one line) ∙ ap (λ l. l ++ line) kept in
    (length line, omega arith, subst (λ l. z ≡ x ++ l) (sym (take-length line)) whole)
