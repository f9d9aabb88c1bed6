-- Where the pages of a file end that was looked at again, whole.
use Rattle.std.proofs.Common.{inl, inr, ◌≡◌, ◌+◌, ◌++◌, ◌<◌, ◌≤◌, ◌-◌, ◌^◌, ℕ, Result, Ok, Err, OnOk, length, length-append, min, take, sym, ap, ◌∙◌, subst, arith}
use Rattle.std.proofs.lemmas.List.{take-append-drop, take-append-le, take_all}
use Rattle.disk_model.specs.Image.{DiskState}
use Rattle.disk_model.specs.declared.disk.Disk.{Ghosts as DiskModel}
use Rattle.ogg_page.specs.Page.{bytes_of_pages}
use Rattle.serve_live.specs.Listening.{HasFailed}
use Rattle.archive_cut.specs.Cut.{ends_of}
use Rattle.archive_reading.specs.Ends.{EndsFrom}
use Rattle.archive_reading.specs.Prefix.{PrefixState, prefix_bytes}
use Rattle.archive_fetch.specs.Hearing.{HasGrown, HasMet, HeardState, IsSameHeard}
use Rattle.archive_fetch.specs.declared.meetings.Meeting.{Meeting}

pub on_ok : {T E A B : Type 0} (r : Result T E) → (A → B) → OnOk r A → OnOk r B
on_ok (Ok x) f a = f a
on_ok (Err e) f a = a

-- what failed since a later moment failed since an earlier one
pub failed_since : (first before now : ℕ) → first ≤ before → HasFailed before now → HasFailed first now
failed_since first before now le (inl rose) = inl (omega arith)
failed_since first before now le (inr at) = inr at

-- the front is the whole disk, so its pages end where those of the disk do
pub record IsReady {D : Type 0} (model : DiskModel D) (old : HeardState D) (source : PrefixState D) (known end : ℕ) : Type 0 where
  pub honest : model.is_honest source.disk
  pub whole : length (prefix_bytes model.state source) ≡ source.end
  pub ends : EndsFrom (prefix_bytes model.state source) known end
  pub state : model.state source.disk ≡ model.state old.source.disk
  pub length_is : source.end ≡ length (model.state old.source.disk).contents

module _ {D : Type 0} (model : DiskModel D) where
  pub ready_to_end : (old mid : HeardState D) (source : PrefixState D) (known end : ℕ) → source ≡ mid.source → known ≡ old.source.end → IsSameHeard model old mid
      → HasGrown model (2 ^ 64 - 1) old mid → (model.is_honest old.source.disk → length (model.state old.source.disk).contents < 2 ^ 63)
      → model.is_honest old.source.disk → EndsFrom (model.state old.source.disk).contents old.source.end end → IsReady model old source known end
  ready_to_end old mid source known end is known_is same grown short sure ends =
      let contents = (model.state old.source.disk).contents in
      let few : length contents < 2 ^ 63 = short sure in
      let honest = subst (λ (s : PrefixState D). model.is_honest s.disk) (sym is) (same.disk.honest.0 sure) in
      let state : model.state source.disk ≡ model.state old.source.disk =
      subst (λ (s : PrefixState D). model.state s.disk ≡ model.state old.source.disk) (sym is) (same.disk.state sure) in
      let bound : source.end ≡ min (length contents) (2 ^ 64 - 1) =
      subst (λ (s : PrefixState D). s.end ≡ min (length contents) (2 ^ 64 - 1)) (sym is) (grown sure) in
      let long : source.end ≡ length contents = omega (arith, bound, few) in
      let bytes : prefix_bytes model.state source ≡ contents =
      ap (λ (s : DiskState). take source.end s.contents) state ∙ take_all source.end contents (omega (arith, long)) in
      record {
        honest = honest;
        whole = ap (λ b. length b) bytes ∙ sym long;
        ends = subst (λ b. EndsFrom b known end) (sym bytes) (subst (λ n. EndsFrom contents n end) (sym known_is) ends);
        state = state;
        length_is = long;
      }

  -- a file is heard up to where it meets the next one
  pub met : (meeting : Meeting) (old new : HeardState D) → IsSameHeard model old new → HasGrown model meeting.end old new → HasMet model meeting old new
  met meeting old new same grown pages tail sure is ends =
      let place : ℕ = meeting.end in
      let contents = (model.state old.source.disk).contents in
      let long : length contents ≡ length pages + length tail = ap (λ l. length l) is ∙ length-append pages tail in
      let end : new.source.end ≡ place = omega (arith, grown sure, long, ends.size) in
      let bytes : prefix_bytes model.state new.source ≡ take place pages =
      ap (λ (s : DiskState). take new.source.end s.contents) (same.disk.state sure) ∙ ap (λ n. take n contents) end ∙ ap (take place) is
      ∙ take-append-le place pages tail (omega (arith, ends.size)) in
      ap (λ l. l ++ bytes_of_pages (ends_of meeting.ended.items)) bytes ∙ ap (λ l. take place pages ++ l) (sym ends.pages)
      ∙ take-append-drop place pages
