-- An answer states what its body has.
use Rattle.std.proofs.Common.{◌≡◌, ℕ, ◌+◌, ◌-◌, ◌≤◌, ◌<◌, Option, Some, None, Result, Ok, Err, List, ◌++◌, length, take, drop, sym, ◌∙◌, ap, subst, arith, take_all}
use Rattle.std.specs.Prelude.{IfOk}
use Rattle.ogg_http.specs.Answer.{answer_head}
use Rattle.ogg_http.specs.declared.answer.Answer.{Answer}
use Rattle.ogg_http.specs.declared.answer.Answer.TheVariants.{Full, Part as PartOf}
use Rattle.ogg_http.specs.declared.range.Ranged.{Ranged}
use Rattle.ogg_http.specs.declared.range.Ranged.TheVariants.{Whole, Part}
use Rattle.serve_responses.specs.Response.{Content, Pages, Response, Text, asked_range, get_response, ranged}
use Rattle.serve_sending.specs.Answering.{AreFound, IsAnswered, IsFound, IsWhole, cut, length_of}
use Rattle.serve_sending.specs.Sending.{SendingState, IsBodyLeft}
use Rattle.serve_sending.specs.declared.body.Body.{Body}
use Rattle.serve_sending.specs.declared.finding.Found.{Found}
use Rattle.serve_sending.specs.declared.finding.Found.TheVariants.{File, Pages as PagesOf}

pub whole_answered : (committed bytes : List ℕ) (found : Found) (len : ℕ) (body : Body) → AreFound committed bytes found → len ≡ length_of found
    → (0 + len ≤ length bytes → body ≡ cut found 0 len) → IsAnswered committed (ranged bytes Whole) (Full len) body
whole_answered committed bytes found len body f is made =
    let all : length bytes ≡ len = f.length_is ∙ sym is in
    let inside : 0 + len ≤ length bytes = omega (arith, all) in (
      ap Full (sym all),
      subst (λ b. IsBodyLeft committed b bytes) (sym (made inside))
          (subst (IsBodyLeft committed (cut found 0 len)) (take_all len bytes (omega (arith, all))) (f.cuts 0 len inside)),
    )

pub part_answered : (committed bytes : List ℕ) (found : Found) (first last len : ℕ) (body : Body) → AreFound committed bytes found → len ≡ length_of found
    → first ≤ last → last < length_of found → (first + (last - first + 1) ≤ length bytes → body ≡ cut found first (last - first + 1))
    → IsAnswered committed (ranged bytes (Part first last)) (PartOf first last len) body
part_answered committed bytes found first last len body f is order within made =
    let all : length bytes ≡ len = f.length_is ∙ sym is in
    let inside : first + (last - first + 1) ≤ length bytes = omega (arith, all, is, order, within) in
    let same : last - first + 1 ≡ last + 1 - first = omega (arith, order) in (
      ap (PartOf first last) (sym all),
      subst (λ b. IsBodyLeft committed b (take (last + 1 - first) (drop first bytes))) (sym (made inside))
          (subst (λ n. IsBodyLeft committed (cut found first (last - first + 1)) (take n (drop first bytes))) same (f.cuts first (last - first + 1) inside)),
    )

-- a text that states it, and its body, are the response
pub whole_made : {E : Type 0} (committed : List ℕ) (response : Response) (answer : Answer) (body : Body) (result : Result SendingState E)
    → IsAnswered committed response answer body → IfOk result (λ s. s.text ≡ answer_head answer) → IfOk result (λ s. s.body ≡ body)
    → IfOk result (λ s. IsWhole committed response s)
whole_made committed response answer body (Ok s) is text same =
    record {
      body = response.content;
      body_left = subst (λ b. IsBodyLeft committed b response.content) (sym same) is.1;
      joined = ap (λ (t : List ℕ). t ++ response.content) (ap answer_head (sym is.0) ∙ sym text);
    }
whole_made committed response answer body (Err fault) is text same = tt

pub range_answered : (committed bytes : List ℕ) (found : Found) (range : Option (List ℕ)) (asked : Ranged) (len : ℕ) (answer : Answer) (body : Body)
    → AreFound committed bytes found → len ≡ length_of found → asked ≡ asked_range range len → IsAnswered committed (ranged bytes asked) answer body
    → IsAnswered committed (get_response range (Some (Pages bytes))) answer body
range_answered committed bytes found range asked len answer body f is same a =
    subst (λ r. IsAnswered committed (ranged bytes r) answer body) (same ∙ ap (asked_range range) (is ∙ sym f.length_is)) a

-- what was found are the bytes of pages
pub file_got : {E : Type 0} (committed text : List ℕ) (content : Option Content) (range : Option (List ℕ)) (place len : ℕ) (result : Result SendingState E)
    → IsFound committed text content (Some (File place len))
    → ((bytes : List ℕ) → AreFound committed bytes (File place len) → IfOk result (λ s. IsWhole committed (get_response range (Some (Pages bytes))) s))
    → IfOk result (λ s. IsWhole committed (get_response range content) s)
file_got committed text None range place len result f made = absurd f
file_got committed text (Some (Text bytes)) range place len result f made = absurd f
file_got committed text (Some (Pages bytes)) range place len result f made = made bytes f

pub pages_got : {E : Type 0} (committed text : List ℕ) (content : Option Content) (range : Option (List ℕ)) (serial place len : ℕ) (result : Result SendingState E)
    → IsFound committed text content (Some (PagesOf serial place len))
    → ((bytes : List ℕ) → AreFound committed bytes (PagesOf serial place len) → IfOk result (λ s. IsWhole committed (get_response range (Some (Pages bytes))) s))
    → IfOk result (λ s. IsWhole committed (get_response range content) s)
pages_got committed text None range serial place len result f made = absurd f
pages_got committed text (Some (Text bytes)) range serial place len result f made = absurd f
pages_got committed text (Some (Pages bytes)) range serial place len result f made = made bytes f
