use Rattle.std.proofs.Common.{◌≡◌, ℕ, List, ◌++◌, append_assoc, refl, ap, ◌∙◌}
use Rattle.ogg_http.proofs.answer.push_content_range.Goals as goal

-- seven pieces, each appended to what the ones before it made
appended_in_turn : (s s1 s2 s3 s4 s5 s6 s7 a b c d e f g : List ℕ)
    → s1 ≡ s ++ a → s2 ≡ s1 ++ b → s3 ≡ s2 ++ c → s4 ≡ s3 ++ d → s5 ≡ s4 ++ e → s6 ≡ s5 ++ f → s7 ≡ s6 ++ g
    → s7 ≡ s ++ (a ++ b ++ c ++ d ++ e ++ f ++ g)
appended_in_turn s s1 s2 s3 s4 s5 s6 s7 a b c d e f g e1 e2 e3 e4 e5 e6 e7 =
    e7 ∙ ap (λ t. t ++ g) (e6 ∙ ap (λ t. t ++ f) (e5 ∙ ap (λ t. t ++ e) (e4 ∙ ap (λ t. t ++ d) (e3 ∙ ap (λ t. t ++ c) (e2 ∙ ap (λ t. t ++ b) e1)))))
    ∙ (let joined : s ++ a ++ b ++ c ++ d ++ e ++ f ++ g ≡ s ++ (a ++ b ++ c ++ d ++ e ++ f ++ g) = simp append_assoc refl in joined)

pub returns-clause-items : goal.returns-clause-items
returns-clause-items c =
    appended_in_turn _ _ _ _ _ _ _ _ _ _ _ _ _ _ _
    c.push.ensures.items c.push_number.ensures.items c.push-2.ensures.items c.push_number-2.ensures.items
    c.push-3.ensures.items c.push_number-3.ensures.items c.push-4.ensures.items
