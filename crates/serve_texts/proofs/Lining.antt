-- A line of the log is printable, but for the line feed at its end.
use Rattle.std.proofs.Common.{◌≡◌, ℕ, zero, suc, ◌+◌, ◌-◌, ◌/◌, ◌%◌, ◌^◌, ◌<◌, Bool, true, false, cond, nat_lt, ◌==◌, ◌||◌, ◌&&◌, List, [], ◌∷◌, ◌++◌, Option, Some, None, length, take, drop, codes, get_or, arith, refl, ap, sym, ◌∙◌, append_assoc}
use Rattle.std.proofs.lemmas.Bool.{and_parts, ltb-true}
use Rattle.std.proofs.lemmas.Fmt.{decimal_is_IsNumeral}
use Rattle.std.proofs.lemmas.Str.Parse.{digit_from_value}
use Rattle.std.proofs.lemmas.List.Elements.{All-nil, All-cons, All-append, All-take, All-drop}
use Rattle.std.specs.Fmt.{decimal}
use Rattle.std.specs.List.{All, list_all}
use Rattle.std.specs.Str.Parse.{AllDigits}
use Rattle.httpdate.specs.Calendar.{days_in_month, is_leap_year}
use Rattle.httpdate.specs.Date.{date_text}
use Rattle.httpdate.specs.Text.{day_name, month_name, two_digits, four_digits, time_of_day}
use Rattle.httpdate.specs.declared.date.HttpDate.{HttpDate}
use Rattle.serve_texts.specs.Escape.{IsByte, IsPrintable, escaped, shown_text}
use Rattle.serve_texts.specs.Heard.{is_field, is_request_line, line_end, request_before, request_line, trimmed, trimmed_start, value_among, value_at, value_of, after_line}
use Rattle.serve_texts.specs.Log.{date_part, front_text, log_line, number_text, request_text}
use Rattle.serve_texts.specs.Status.{three_digits}
use Rattle.serve_texts.specs.declared.reply.Reply.{Reply}
use Rattle.serve_texts.proofs.Escaping.{escaped_is_printable}

-- ---- literals
-- printable, as a test that computes
abbrev printable : ℕ → Bool
printable b = nat_lt 31 b && nat_lt b 127

literal : (text : List ℕ) → list_all printable text ≡ true → All IsPrintable text
literal [] all = All-nil IsPrintable
literal (b ∷ rest) all =
    let (here, others) = and_parts (printable b) (list_all printable rest) all in
    let (low, high) = and_parts (nat_lt 31 b) (nat_lt b 127) here in
    All-cons IsPrintable b rest (omega (arith, ltb-true 31 b low), ltb-true b 127 high) (literal rest others)

literal_at : (names : List (List ℕ)) (i : ℕ) → list_all (list_all printable) names ≡ true → All IsPrintable (get_or names i [])
literal_at [] i all = All-nil IsPrintable
literal_at (name ∷ names) zero all = literal name (and_parts (list_all printable name) (list_all (list_all printable) names) all).0
literal_at (name ∷ names) (suc i) all = literal_at names i (and_parts (list_all printable name) (list_all (list_all printable) names) all).1

join : (xs ys : List ℕ) → All IsPrintable xs → All IsPrintable ys → All IsPrintable (xs ++ ys)
join xs ys = All-append IsPrintable xs ys

-- ---- numbers
digit : (n : ℕ) → n < 10 → IsPrintable (48 + n)
digit n small = (omega arith, omega (arith, small))

two : (n : ℕ) → n < 100 → All IsPrintable (two_digits n)
two n small =
    All-cons IsPrintable (48 + n / 10) ((48 + n % 10) ∷ []) (digit (n / 10) (omega (arith, small)))
    (All-cons IsPrintable (48 + n % 10) [] (digit (n % 10) (omega arith)) (All-nil IsPrintable))

three : (n : ℕ) → All IsPrintable (three_digits n)
three n =
    All-cons IsPrintable (48 + n / 100 % 10) ((48 + n / 10 % 10) ∷ (48 + n % 10) ∷ []) (digit (n / 100 % 10) (omega arith))
    (All-cons IsPrintable (48 + n / 10 % 10) ((48 + n % 10) ∷ []) (digit (n / 10 % 10) (omega arith))
    (All-cons IsPrintable (48 + n % 10) [] (digit (n % 10) (omega arith)) (All-nil IsPrintable)))

digits : (ds : List ℕ) → AllDigits 10 ds → All IsPrintable ds
digits [] all = All-nil IsPrintable
digits (d ∷ ds) all =
    let range = digit_from_value d all.0 in
    All-cons IsPrintable d ds (omega (arith, range), omega (arith, range)) (digits ds all.1)

number : (n : ℕ) → n < 2 ^ 64 → All IsPrintable (decimal n)
number n fits = digits (decimal n) (decimal_is_IsNumeral n fits).0.1

-- ---- the date
month_size : (a b c : Bool) → cond a (cond b 29 28) (cond c 30 31) < 100
month_size true true c = omega arith
month_size true false c = omega arith
month_size false b true = omega arith
month_size false b false = omega arith

days : (year month : ℕ) → days_in_month year month < 100
days year month =
    month_size (month == 2) (is_leap_year year) ((month == 4) || (month == 6) || (month == 9) || (month == 11))

abbrev day_names : List (List ℕ)
day_names = codes "Mon" ∷ codes "Tue" ∷ codes "Wed" ∷ codes "Thu" ∷ codes "Fri" ∷ codes "Sat" ∷ codes "Sun" ∷ []

abbrev month_names : List (List ℕ)
month_names =
    codes "Jan" ∷ codes "Feb" ∷ codes "Mar" ∷ codes "Apr" ∷ codes "May" ∷ codes "Jun"
    ∷ codes "Jul" ∷ codes "Aug" ∷ codes "Sep" ∷ codes "Oct" ∷ codes "Nov" ∷ codes "Dec" ∷ []

date_is_printable : (date : HttpDate) → All IsPrintable (date_text date)
date_is_printable date =
    let p = date.parts in
    let year : All IsPrintable (four_digits p.year) =
    join (two_digits (p.year / 100)) (two_digits (p.year % 100)) (two (p.year / 100) (omega (arith, date.civil.0.1))) (two (p.year % 100) (omega arith)) in
    let day : All IsPrintable (two_digits p.day) = two p.day (omega (arith, date.civil.2.1, days p.year p.mon)) in
    let hour : List ℕ = two_digits p.hour in
    let minute : List ℕ = two_digits p.min in
    let colon : All IsPrintable (codes ":") = literal (codes ":") refl in
    let clock : All IsPrintable (time_of_day p) =
    join (hour ++ codes ":" ++ minute ++ codes ":") (two_digits p.sec)
    (join (hour ++ codes ":" ++ minute) (codes ":")
    (join (hour ++ codes ":") minute (join hour (codes ":") (two p.hour (omega (arith, date.time.0))) colon) (two p.min (omega (arith, date.time.1))))
    colon)
    (two p.sec (omega (arith, date.time.2))) in
    join _ (codes " GMT")
    (join _ (time_of_day p)
    (join _ (codes " ")
    (join _ (four_digits p.year)
    (join _ (codes " ")
    (join _ (month_name p.mon)
    (join _ (codes " ")
    (join _ (two_digits p.day)
    (join (day_name p.wday) (codes ", ") (literal_at day_names (p.wday - 1) refl) (literal (codes ", ") refl))
    day)
    (literal (codes " ") refl))
    (literal_at month_names (p.mon - 1) refl))
    (literal (codes " ") refl))
    year)
    (literal (codes " ") refl))
    clock)
    (literal (codes " GMT") refl)

date_part_is_printable : (date : List ℕ) → All IsPrintable date → All IsPrintable (date_part date)
date_part_is_printable date all =
    let part : (from size : ℕ) → All IsPrintable (take size (drop from date)) =
    λ from size. All-take IsPrintable size (drop from date) (All-drop IsPrintable from date all) in
    join (codes " - - [") _ (literal (codes " - - [") refl)
    (join (take 2 (drop 5 date)) _ (part 5 2)
    (join (codes "/") _ (literal (codes "/") refl)
    (join (take 3 (drop 8 date)) _ (part 8 3)
    (join (codes "/") _ (literal (codes "/") refl)
    (join (take 4 (drop 12 date)) _ (part 12 4)
    (join (codes ":") _ (literal (codes ":") refl)
    (join (take 8 (drop 17 date)) (codes " +0000] \"" ++ []) (part 17 8) (literal (codes " +0000] \"" ++ []) refl))))))))

-- ---- what was heard
shown_is_printable : (text : List ℕ) → All IsByte text → All IsPrintable (shown_text text)
shown_is_printable text all = choose (length text == 0)
  where
    choose : (empty : Bool) → All IsPrintable (cond empty (codes "-") (escaped text))
    choose true = literal (codes "-") refl
    choose false = escaped_is_printable text all

trimmed_bytes : (text : List ℕ) → All IsByte text → All IsByte (trimmed text)
trimmed_bytes text all = All-take IsByte _ (trimmed_start text) (All-drop IsByte _ text all)

one_of : (b : Bool) (xs ys : List ℕ) → All IsByte xs → All IsByte ys → All IsByte (cond b xs ys)
one_of true xs ys p q = p
one_of false xs ys p q = q

request_bytes : (head : List ℕ) → All IsByte head → All IsByte (request_line head)
request_bytes head all = at (line_end head)
  where
    at : (end : Option ℕ) → All IsByte (request_before end head)
    at None = All-nil IsByte
    at (Some end) =
        one_of (is_request_line (trimmed (take end head))) (trimmed (take end head)) [] (trimmed_bytes (take end head) (All-take IsByte end head all)) (All-nil IsByte)

value_at_bytes : (after : List ℕ → List ℕ) (name text : List ℕ) → ((rest : List ℕ) → All IsByte rest → All IsByte (after rest)) → All IsByte text → (end : Option ℕ) → All IsByte (value_at after name end text)
value_at_bytes after name text others all None = All-nil IsByte
value_at_bytes after name text others all (Some end) =
    let line : List ℕ = trimmed (take end text) in
    let bytes : All IsByte line = trimmed_bytes (take end text) (All-take IsByte end text all) in
    let value : List ℕ = trimmed (drop (length name) line) in
    one_of (length line == 0) [] (cond (is_field name line) value (after (drop (end + 1) text))) (All-nil IsByte)
    (one_of (is_field name line) value (after (drop (end + 1) text))
    (trimmed_bytes (drop (length name) line) (All-drop IsByte (length name) line bytes))
    (others (drop (end + 1) text) (All-drop IsByte (end + 1) text all)))

value_bytes : (lines : ℕ) (name text : List ℕ) → All IsByte text → All IsByte (value_among lines name text)
value_bytes zero name text all = All-nil IsByte
value_bytes (suc lines) name text all = value_at_bytes (value_among lines name) name text (λ rest bytes. value_bytes lines name rest bytes) all (line_end text)

after_bytes : (head : List ℕ) → All IsByte head → (end : Option ℕ) → All IsByte (after_line end head)
after_bytes head all None = All-nil IsByte
after_bytes head all (Some end) = All-drop IsByte (end + 1) head all

value_of_bytes : (name head : List ℕ) → All IsByte head → All IsByte (value_of name head)
value_of_bytes name head all = value_bytes 64 name (after_line (line_end head) head) (after_bytes head all (line_end head))

-- ---- the line
regroup : (a b c d e : List ℕ) → a ++ (b ++ (c ++ (d ++ (e ++ (codes "\"\n" ++ []))))) ≡ (a ++ (b ++ (c ++ (d ++ (e ++ codes "\""))))) ++ codes "\n"
regroup a b c d e =
    sym (append_assoc a (b ++ (c ++ (d ++ (e ++ codes "\"")))) (codes "\n")
    ∙ ap (λ t. a ++ t) (append_assoc b (c ++ (d ++ (e ++ codes "\""))) (codes "\n")
    ∙ ap (λ t. b ++ t) (append_assoc c (d ++ (e ++ codes "\"")) (codes "\n")
    ∙ ap (λ t. c ++ t) (append_assoc d (e ++ codes "\"") (codes "\n")
    ∙ ap (λ t. d ++ t) (append_assoc e (codes "\"") (codes "\n"))))))

pub line_is_printable : (address head : List ℕ) (date : HttpDate) (reply : Reply) → All IsByte address → All IsByte head → reply.content < 2 ^ 64 → (text : List ℕ) × All IsPrintable text × (log_line address date head reply ≡ text ++ codes "\n")
line_is_printable address head date reply bytes heard fits =
    let front : List ℕ = front_text address (date_text date) in
    let request : List ℕ = request_text head reply in
    let referer : List ℕ = shown_text (value_of (codes "referer:") head) in
    let agent : List ℕ = shown_text (value_of (codes "user-agent:") head) in
    let is_front : All IsPrintable front =
    join (escaped address) (date_part (date_text date)) (escaped_is_printable address bytes) (date_part_is_printable (date_text date) (date_is_printable date)) in
    let numbers : All IsPrintable (number_text reply) =
    join (codes "\" ") (three_digits reply.status ++ (codes " " ++ (decimal reply.content ++ (codes " \"" ++ [])))) (literal (codes "\" ") refl)
    (join (three_digits reply.status) (codes " " ++ (decimal reply.content ++ (codes " \"" ++ []))) (three reply.status)
    (join (codes " ") (decimal reply.content ++ (codes " \"" ++ [])) (literal (codes " ") refl)
    (join (decimal reply.content) (codes " \"" ++ []) (number reply.content fits) (literal (codes " \"" ++ []) refl)))) in
    let is_request : All IsPrintable request =
    join (shown_text (request_line head)) (number_text reply) (shown_is_printable (request_line head) (request_bytes head heard)) numbers in
    let is_referer : All IsPrintable referer = shown_is_printable (value_of (codes "referer:") head) (value_of_bytes (codes "referer:") head heard) in
    let is_agent : All IsPrintable agent = shown_is_printable (value_of (codes "user-agent:") head) (value_of_bytes (codes "user-agent:") head heard) in (
      front ++ (request ++ (referer ++ (codes "\" \"" ++ (agent ++ codes "\"")))),
      join front _ is_front
          (join request _ is_request
          (join referer _ is_referer
          (join (codes "\" \"") _ (literal (codes "\" \"") refl)
          (join agent (codes "\"") is_agent (literal (codes "\"") refl))))),
      regroup front request referer (codes "\" \"") agent,
    )
