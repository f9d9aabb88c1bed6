use Rattle.std.proofs.Common.{◌≡◌, ℕ, ◌-◌, ◌/◌, ◌%◌, List, [], ◌∷◌, ◌++◌, length, take, ap, sym, ◌∙◌, pos}
use Rattle.archive_names.specs.Name.{clock_digits, day_digits, kind_text, on_text, padded, second_of, text_before}
use Rattle.archive_names.proofs.Texts.{text_ends, without_last}
use Rattle.archive_names.proofs.name.Name.text.Goals as goal

pub returns : goal.returns
returns c =
    let (date, day_is, digits_are) = c.day_digits.ensures in
    let second : ℕ = second_of c.args.self % 86400 in
    let text : List ℕ = text_before c.args.self date second (kind_text c.args.kind) in
    let ending : c.put_text.new.self.text ≡ kind_text c.args.kind ++ 10 ∷ [] = c.put_text.ensures.text ∙ cc in
    let on : c.put_text-2.new.self.text ≡ on_text c.args.self.goes_on ++ (kind_text c.args.kind ++ 10 ∷ []) = c.put_text-2.ensures.text ∙ cc in
    let clock_is : c.clock_digits.result ≡ clock_digits second = c.clock_digits.ensures ∙ ap (λ n. clock_digits (n % 86400)) c.min-begin.ensures in
    let clock : c.put_padded.new.line.text ≡ padded 6 (clock_digits second) ++ 90 ∷ (on_text c.args.self.goes_on ++ (kind_text c.args.kind ++ 10 ∷ [])) =
    c.put_padded.ensures.text ∙ ap (λ n. padded 6 n ++ c.put_text-3.new.self.text) clock_is
    ∙ ap (λ t. padded 6 (clock_digits second) ++ t) (c.put_text-3.ensures.text ∙ ap (λ t. 90 ∷ t) on) in
    let day : c.put_padded-2.new.line.text ≡ padded 8 (day_digits date) ++ 84 ∷ c.put_padded.new.line.text =
    c.put_padded-2.ensures.text ∙ ap (λ n. padded 8 n ++ c.put_text-4.new.self.text) digits_are
    ∙ ap (λ t. padded 8 (day_digits date) ++ t) c.put_text-4.ensures.text in
    let whole : c.put_padded-3.new.line.text ≡ text ++ 10 ∷ [] =
    c.put_padded-3.ensures.text
    ∙ ap (λ t. padded 6 c.args.self.number ++ t) (c.put_text-5.ensures.text ∙ ap (λ t. 45 ∷ t) (day ∙ ap (λ t. padded 8 (day_digits date) ++ 84 ∷ t) clock))
    ∙ sym (text_ends c.args.self date second (kind_text c.args.kind) (10 ∷ [])) in
    record {
      date = date;
      day_is = day_is ∙ ap (λ n. pos (n / 86400)) c.min-begin.ensures;
      text_is = ap (λ (t : List ℕ). take (length t - 1) t) whole ∙ without_last text 10;
    }
