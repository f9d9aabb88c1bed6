use Rattle.std.proofs.Common.{ℕ, List, ◌++◌, nat_eq, ◌∙◌, ap, subst, arith, append_assoc, sym}
use Rattle.std.specs.List.{AllByRecursion}
use Rattle.disk_model.specs.Leaving.{and_then}
use Rattle.ogg_page.specs.Page.{Page, IsPage, page_bytes, bytes_of_pages}
use Rattle.gate_file.specs.Commit.{CommitsTo}
use Rattle.gate_file.specs.GateFile.{staged_bytes}
use Rattle.file_recorder.proofs.Lasting.{not_failed, never}
use Rattle.file_recorder.proofs.staging.stage_pages.Goals as goal

pub pages-preserved : goal.pages-preserved
pages-preserved g c =
    let d = g.D.Disk in
    let inv = c.pages.invariant in
    let (page, split, made) = c.pages-test.ensures in
    let rest = c.next.new.self in
    let mid = c.pages.file in
    let file = c.stage_page.new.file in
    record {
      are = (subst (λ (l : List Page). AllByRecursion IsPage l) split inv.are).1;
      good = not_failed file.failed (λ bad. never (c.in-Ok.ensures.failed.0 bad));
      whole = λ none. c.in-Ok.ensures.whole (ap (λ (n : ℕ). nat_eq n 0) (c.left.ensures ∙ none));
      end = c.stage_page.ensures.end ∙ inv.end;
      staged = λ honest.
          let here = inv.honest.0 honest in
          ap (λ (l : List ℕ). l ++ bytes_of_pages rest) (c.in-Ok.ensures.staged page made here) ∙ append_assoc (staged_bytes d.state mid) (page_bytes page) (bytes_of_pages rest)
          ∙ ap (λ (l : List Page). staged_bytes d.state mid ++ bytes_of_pages l) (sym split) ∙ inv.staged honest;
      front = λ honest. c.stage_page.ensures.front (inv.honest.0 honest) ∙ inv.front honest;
      any_moment = λ honest. and_then d _ mid.disk file.disk _ _ _ (inv.any_moment honest) (c.stage_page.ensures.any_moment (inv.honest.0 honest)) (λ image commits. commits)
          (λ image commits. subst (λ (l : List ℕ). CommitsTo l image) (inv.front honest) commits);
      honest = ((λ h. c.stage_page.ensures.frame.honest.0 (inv.honest.0 h)), (λ h. inv.honest.1 (c.stage_page.ensures.frame.honest.1 h)));
      later = omega (arith, inv.later, c.stage_page.ensures.frame.later);
    }
