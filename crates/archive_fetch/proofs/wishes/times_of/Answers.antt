use Rattle.std.proofs.Common.{◌≡◌, ℕ, List, [], ◌∷◌, ◌++◌, ◌==◌, Some, None, length, take, drop, get_or, codes, arith, ap, sym, ◌∙◌, subst, take-append-drop, refl, true}
use Rattle.std.specs.Option.{IsSome}
use Rattle.std.proofs.lemmas.Bool.{eqb-true}
use Rattle.std.proofs.lemmas.List.{take_at, drop_at}
use Rattle.ogg_http.specs.Target.{first_slash}
use Rattle.archive_fetch.specs.declared.wishes.Wish.TheVariants.{Files, File, From, Between}
use Rattle.archive_fetch.proofs.Slashes.{before, behind}
use Rattle.archive_fetch.proofs.wishes.times_of.Goals as goal
use Rattle.archive_fetch.proofs.wishes.times_of.Goals.{in_default-until_of-via-in-Some-until_of+else-not-is_empty, in_default-until_of-via-in_default-until_of}

same_place : (one other : ℕ) → Some one ≡ Some other → one ≡ other
same_place one other e = cc

is_empty : (text : List ℕ) → (length text == 0) ≡ true → text ≡ []
is_empty [] e = refl
is_empty (b ∷ rest) e = absurd (omega (arith, eqb-true (length (b ∷ rest)) 0 e))

pub returns-in-Some-until_of-clause-named : goal.returns-in-Some-until_of-clause-named
returns-in-Some-until_of-clause-named c =
    let text : List ℕ = c.args.text.now in
    let place : first_slash text ≡ Some c.in-Some.slash = sym c.first_slash.ensures ∙ c.in-Some.is in
    let first : first_slash c.split_at.result.0.now ≡ None = ap first_slash c.split_at.ensures.front ∙ before text c.in-Some.slash place in
    let until : List ℕ = c.in-Some-until_of.until.now in
    let whole : text ≡ c.split_at.result.0.now ++ (47 ∷ 116 ∷ 111 ∷ 47 ∷ until) =
    sym (take-append-drop c.in-Some.slash text)
    ∙ ap (λ t. t ++ drop c.in-Some.slash text) (sym c.split_at.ensures.front)
    ∙ ap (λ t. c.split_at.result.0.now ++ t) (sym c.split_at.ensures.back ∙ c.in-Some-until_of.ensures.of.1) in (
      ((λ e. absurd (cc (c.if-not-is_empty.ensures ∙ ap (λ t. length t == 0) e)), first), c.in-Some-until_of.ensures.of.0),
      ap (λ t. 47 ∷ 102 ∷ 114 ∷ 111 ∷ 109 ∷ 47 ∷ t) whole,
    )

pub returns-in_default-until_of-clause-each : goal.returns-in_default-until_of-clause-each
returns-in_default-until_of-clause-each c Files is same = absurd (omega (arith, ap (λ t. get_or t 2 0) same))
returns-in_default-until_of-clause-each c (File number) is same = absurd (omega (arith, ap (λ t. get_or t 2 0) same))
returns-in_default-until_of-clause-each c (From since) is same =
    absurd (cc (sym is.1 ∙ ap first_slash (ap (drop 6) (sym same)) ∙ sym c.first_slash.ensures ∙ c.in-Some.is))
returns-in_default-until_of-clause-each c (Between since until) is same =
    let text : List ℕ = c.args.text.now in
    let rest : List ℕ = 116 ∷ 111 ∷ 47 ∷ until.now in
    let whole : text ≡ since.now ++ 47 ∷ rest = ap (drop 6) same in
    let place : c.in-Some.slash ≡ length since.now =
    same_place _ _ (sym (sym c.first_slash.ensures ∙ c.in-Some.is) ∙ ap first_slash whole ∙ behind since.now rest is.0.1) in
    let front : c.split_at.result.0.now ≡ since.now =
    c.split_at.ensures.front ∙ ap (λ n. take n text) place ∙ ap (take (length since.now)) whole ∙ take_at since.now (47 ∷ rest) (length since.now) refl in
    let back : c.split_at.result.1.now ≡ codes "/to/" ++ until.now =
    c.split_at.ensures.back ∙ ap (λ n. drop n text) place ∙ ap (drop (length since.now)) whole ∙ drop_at since.now (47 ∷ rest) (length since.now) refl in
    let some = c.until_of.ensures.each until.now is.1 back in
    elim c.in_default-until_of.branch [
      | in_default-until_of-via-in-Some-until_of+else-not-is_empty w ↦
          absurd (is.0.0 (sym front ∙ is_empty _ (sym w.if-not-is_empty.ensures)))
      | in_default-until_of-via-in_default-until_of w ↦ subst IsSome w.in_default-until_of.is some
    ]
