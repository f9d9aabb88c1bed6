-- How the parts of a line follow one another.
use Rattle.std.proofs.Common.{◌≡◌, ℕ, List, [], ◌∷◌, ◌++◌, length, drop, ap, ◌∙◌, arith}
use Rattle.std.proofs.lemmas.List.{drop_all}
use Rattle.feed_replies.specs.Reply.{line_end}

-- a line feed at the end of a buffer
pub ends_line : (line rest : List ℕ) → length line ≡ 48 → rest ≡ 10 ∷ [] ++ drop 48 line → rest ≡ line_end
ends_line line rest long e = e ∙ ap (λ l. 10 ∷ l) (drop_all 48 line (omega (arith, long)))

-- five texts, each written in front of the next
pub in_a_row : (a b c d e l1 l2 l3 l4 l5 : List ℕ) → l5 ≡ a ++ l4 → l4 ≡ b ++ l3 → l3 ≡ c ++ l2 → l2 ≡ d ++ l1 → l1 ≡ e → l5 ≡ a ++ (b ++ (c ++ (d ++ e)))
in_a_row a b c d e l1 l2 l3 l4 l5 e5 e4 e3 e2 e1 =
    e5 ∙ ap (λ l. a ++ l) (e4 ∙ ap (λ l. b ++ l) (e3 ∙ ap (λ l. c ++ l) (e2 ∙ ap (λ l. d ++ l) e1)))
