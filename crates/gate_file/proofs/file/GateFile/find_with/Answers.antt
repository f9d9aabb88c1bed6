use Rattle.std.proofs.Common.{⊎_elim, ◌≡◌, ◌≤◌, ℕ, List, length, sym, ◌∙◌, ap, subst, subst₂, arith, Result}
use Rattle.disk_model.specs.declared.disk.Disk.{Ghosts as DiskModel}
use Rattle.disk_model.specs.Clock.{HasImages}
use Rattle.disk_model.specs.Frame.{Frame}
use Rattle.disk_model.specs.Image.{DiskState, IsImage, IsSettled}
use Rattle.disk_model.specs.Leaving.{LeavesOnly, and_then}
use Rattle.ogg_page.specs.Page.{Page as PageValue}
use Rattle.ogg_page.specs.Window.{HasSourceCause, LentAt, left_of, window}
use Rattle.ogg_page.specs.declared.fault.WindowFault.{WindowFault}
use Rattle.ogg_page.specs.declared.visiting.Visit.{Visit}
use Rattle.gate_file.specs.DiskSource.{SourceState, source_state}
use Rattle.gate_file.specs.Found.{IsDamagedAt, found_bytes}
use Rattle.gate_file.specs.Opening.{Opens}
use Rattle.gate_file.specs.Reading.{OnlyReads, reads_then}
use Rattle.gate_file.specs.Visiting.{AreShown, EndsAfter, all_of}
use Rattle.gate_file.proofs.Ends.{settled_before, whole_left}
use Rattle.gate_file.proofs.Moment.{rises_over}
use Rattle.gate_file.proofs.file.GateFile.find_with.Goals as goal

-- the pass, from the disk that was measured to the one that the source gives back
passed_over : {D : Type 0} (model : DiskModel D) (first back : D) (size : ℕ) (old new : SourceState D) (walked : Result (Unit {0}) WindowFault) → old ≡ source_state first size → back ≡ new.disk
    → OnlyReads model old.disk new.disk → HasSourceCause (model.failures old.disk) (model.failures new.disk) walked → OnlyReads model first back × HasSourceCause (model.failures first) (model.failures back) walked
passed_over model first back size old new walked from to only cause =
    subst₂ (λ x y. OnlyReads model x y × HasSourceCause (model.failures x) (model.failures y) walked) (ap (λ s. s.disk) from) (sym to) (only, cause)

-- after the sync it only reads
still_opens : {D was : Type 0} {size : ℕ} (model : DiskModel D) (disk first last : D) → (model.is_honest disk → HasImages (model.state disk) (model.moment disk) (model.images_since disk))
    → (model.is_honest disk → IsSettled (model.state first) × ((model.state first).contents ≡ (model.state disk).contents) × (length (model.state disk).contents ≡ size))
    → (model.is_honest disk → LeavesOnly model disk first (IsImage (model.state disk))) → Frame model disk first was → OnlyReads model first last → model.failures first ≤ model.failures last
    → Opens model (IsImage (model.state disk)) disk last
still_opens model disk first last laws synced leaves start reads later = record {
  any_moment = λ honest. and_then model disk first last _ _ (IsImage (model.state disk)) (leaves honest) (reads.any_moment (start.honest.0 honest))
      (λ image is. is) (λ image is. settled_before _ _ image (laws honest).contents_is_image (synced honest).0 (synced honest).1 is);
  frame = record {
    honest = ((λ h. reads.honest.0 (start.honest.0 h)), (λ h. start.honest.1 (reads.honest.1 h)));
    later = omega (arith, start.later, later);
    cause = λ no. absurd no;
  };
}

shown_from_start : {V : Type 0} (sees : V → LentAt → Visit → V → Type 0) {old new : V} {offset : ℕ} {pages : List PageValue} → AreShown sees old offset pages new → offset ≡ 0 → AreShown sees old 0 pages new
shown_from_start sees {old} {new} {offset} {pages} shown start = subst (λ (k : ℕ). AreShown sees old k pages new) start shown

pub returns-in-Err-end_of-clause-gives_back : goal.returns-in-Err-end_of-clause-gives_back
returns-in-Err-end_of-clause-gives_back g c =
    let d = g.D.Disk in
    let first = c.measure.new.disk in
    let last = c.end_of.new.disk in
    let start = c.measure.ensures.frame in
    let ok = c.in-Ok.ensures.ok in
    let (walked, cause) = passed_over d _ _ c.in-Ok.size _ c.pass_all-walked.new.window.source c.pass_all-walked.result (ap (λ w. w.source) c.new-window.ensures ∙ c.of.ensures)
    (c.into_disk-disk.ensures ∙ ap (λ s. s.disk) c.into_parts-source.ensures.source) c.pass_all-walked.ensures.source.only c.pass_all-walked.ensures.cause in
    let reads = reads_then d _ _ _ walked c.end_of.ensures.reads in
    let opens = still_opens d c.args.disk first last (g.met.D.Disk.laws c.args.disk) ok c.measure.ensures.any_moment start reads (omega (arith, cause.0, c.end_of.ensures.later)) in
    record {
      any_moment = opens.any_moment;
      frame = record {
        honest = opens.frame.honest;
        later = opens.frame.later;
        cause = λ is. ⊎_elim
            (λ source. rises_over _ _ _ _ start.later cause.0 c.end_of.ensures.later (cause.1 source))
            (λ rises. rises_over _ _ _ (d.failures last) (omega (arith, start.later, cause.0)) c.end_of.ensures.later (omega arith) rises)
            (c.in-Err-end_of.ensures.cause is);
      };
      untouched = λ _ honest. ap (λ (s : DiskState). s.contents) (reads.same (start.honest.0 honest)) ∙ (ok honest).1;
      damaged = λ offset why is honest.
          let here = start.honest.0 honest in
          subst (λ (l : List ℕ). IsDamagedAt l offset why) (ap (λ (s : DiskState). s.contents) (walked.same here) ∙ (ok honest).1)
          (c.in-Err-end_of.ensures.damaged offset why is (walked.honest.0 here));
      settled = λ offset why is honest. subst IsSettled (sym (reads.same (start.honest.0 honest))) (ok honest).0;
    }

pub returns-in-Ok-end_of-clause-opens : goal.returns-in-Ok-end_of-clause-opens
returns-in-Ok-end_of-clause-opens g c =
    let d = g.D.Disk in
    let (walked, cause) = passed_over d _ _ c.in-Ok.size _ c.pass_all-walked.new.window.source c.pass_all-walked.result (ap (λ w. w.source) c.new-window.ensures ∙ c.of.ensures)
    (c.into_disk-disk.ensures ∙ ap (λ s. s.disk) c.into_parts-source.ensures.source) c.pass_all-walked.ensures.source.only c.pass_all-walked.ensures.cause in
    subst (λ x. Opens d (IsImage (d.state c.args.disk)) c.args.disk x) (sym (ap (λ f. f.disk) c.at.ensures))
    (still_opens d c.args.disk c.measure.new.disk c.end_of.new.disk (g.met.D.Disk.laws c.args.disk) c.in-Ok.ensures.ok c.measure.ensures.any_moment c.measure.ensures.frame
    (reads_then d _ _ _ walked c.end_of.ensures.reads) (omega (arith, cause.0, c.end_of.ensures.later)))

pub returns-in-Ok-end_of-clause-seen : goal.returns-in-Ok-end_of-clause-seen
returns-in-Ok-end_of-clause-seen g c = λ honest.
    let d = g.D.Disk in
    let first = c.measure.new.disk in
    let size = c.in-Ok.size in
    let src = ap (λ w. w.source) c.new-window.ensures ∙ c.of.ensures in
    let walked = (passed_over d first _ size _ c.pass_all-walked.new.window.source c.pass_all-walked.result src
    (c.into_disk-disk.ensures ∙ ap (λ s. s.disk) c.into_parts-source.ensures.source) c.pass_all-walked.ensures.source.only c.pass_all-walked.ensures.cause).0 in
    let ok = c.in-Ok.ensures.ok honest in
    let still = c.measure.ensures.frame.honest.0 honest in
    let long : length (d.state first).contents ≡ size = ap length ok.1 ∙ ok.2 in
    let sure = subst (λ s. d.is_honest s.disk × (length (d.state s.disk).contents ≡ s.size)) (sym src) (still, long) in
    let left : left_of (λ s. (d.state s.disk).contents) c.new-window.result ≡ all_of (d.state c.into_disk-disk.result).contents =
    ap (left_of (λ s. (d.state s.disk).contents)) c.new-window.ensures ∙ (λ i. left_of (λ s. (d.state s.disk).contents) (window (c.of.ensures i) 0 size))
    ∙ ap all_of (whole_left (d.state first).contents size long) ∙ ap (λ (s : DiskState). all_of s.contents) (sym (walked.same still)) in
    let passed = c.pass_all-walked.ensures.passed in
    record {
      pages = passed.pages;
      are_pages = passed.are_pages;
      joined = ap (found_bytes d.state) c.at.ensures
          ∙ c.in-Ok-end_of.ensures.pages (walked.honest.0 still) passed.pages (subst (λ l. EndsAfter passed.pages l c.pass_all-walked.result) left (passed.ends sure));
      shown = shown_from_start g.V.PageVisitor.sees passed.shown (ap (λ w. w.at) c.new-window.ensures);
    }

pub returns-in-Ok-end_of-clause-shown : goal.returns-in-Ok-end_of-clause-shown
returns-in-Ok-end_of-clause-shown g c =
    let passed = c.pass_all-walked.ensures.passed in
    (passed.pages, passed.are_pages, shown_from_start g.V.PageVisitor.sees passed.shown (ap (λ w. w.at) c.new-window.ensures))
