-- What a reopening may find are links, and stay links.
use Rattle.std.proofs.Common.{◌≡◌, ℕ, Bool, true, false, not, Option, Some, None, IsOk, Result, Ok, Err, List, [], ◌∷◌, ◌++◌, refl, sym, ◌∙◌, ap, subst, inl, inr, append_assoc}
use Rattle.std.specs.Prelude.{is_some, if◌then◌else◌}
use Rattle.std.proofs.lemmas.Bool.{both_ways, or_parts}
use Rattle.disk_model.specs.declared.disk.Disk.{Ghosts as DiskModel}
use Rattle.disk_model.specs.Image.{DiskState, IsImage}
use Rattle.ogg_page.specs.Page.{Page, bytes_of_pages}
use Rattle.ogg_page.specs.PageLaws.{bytes_both, pages_both}
use Rattle.gate_file.specs.Commit.{ArePages}
use Rattle.gate_file.specs.CommitLaws.{pages_of}
use Rattle.link_chain.specs.ChainState.{chain_state_of}
use Rattle.link_chain.specs.Laws.InTurn.{bytes_flattened, only, pages_flattened, same_pages}
use Rattle.link_chain.specs.Laws.TakenLinks.{taken}
use Rattle.link_chain.specs.LinkLaws.{one_chain}
use Rattle.link_chain.specs.Links.{AreLinks, flattened}
use Rattle.link_chain.specs.Recording.{Recording, Holds}
use Rattle.link_chain.specs.Taking.{AreTaken, links_with}
use Rattle.chain_rules.specs.Decision.{decision}
use Rattle.chain_rules.specs.Encoding.{command_bytes}
use Rattle.chain_rules.specs.Recording.{add}
use Rattle.feed_replies.specs.declared.reply.Kept.{Kept}
use Rattle.ogg_command.specs.Command.{IsCommand}
use Rattle.ogg_command.specs.declared.command.Command.{Command}
use Rattle.ogg_command.specs.declared.refusal.Refusal.{Refusal}
use Rattle.ogg_command.specs.declared.refusal.Refusal.TheVariants.{Failed, Memory, Disk}
use Rattle.file_recorder.specs.Recorder.{RecorderState, IsRecorder, committed, staged}
use Rattle.feed_replies.specs.declared.outcome.Outcome.{Outcome}
use Rattle.feed_replies.specs.declared.outcome.Outcome.TheVariants.{Held as WasHeld, Kept as WasKept}
use Rattle.serve_machine.specs.Hub.{HubState, IsAccepted, command_step, committing, doubting, flush_step, holding, is_failed, reopen_step, without_file}
use Rattle.serve_machine.specs.Sound.{IsRecorded}
use Rattle.serve_hub.specs.Showing.{FindsLinks, IsChain, ShowsFile}
use Rattle.serve_hub.proofs.Lasting.{pages_behind}

-- ---- a front of links
taken_front : (start : List (List Page)) (front rest : List Page) (links : List (List Page)) → AreTaken start (front ++ rest) links
    → (mid : List (List Page)) × AreTaken start front mid
taken_front start [] rest links all = (start, refl)
taken_front start (page ∷ front) rest links all =
    let (mid, more) = taken_front (links_with start page) front rest links all.1 in
    (mid, (all.0, more))

-- pages in front of links are links
pub front_is_chain : (bytes more : List ℕ) (links : List (List Page)) → ArePages bytes → AreLinks (bytes ++ more) links → IsChain bytes
front_is_chain bytes more links first all =
    let whole : List Page = flattened links in
    let are = pages_flattened links all.pages in
    let spelled : bytes_of_pages whole ≡ bytes_of_pages first.pages ++ more =
    sym (all.spelled ∙ bytes_flattened links) ∙ ap (λ (l : List ℕ). l ++ more) first.spelled in
    let behind = pages_behind first.pages whole more first.are_pages are spelled in
    let split : whole ≡ first.pages ++ behind.pages =
    same_pages whole (first.pages ++ behind.pages) are (pages_both first.pages behind.pages first.are_pages behind.are_pages)
    (spelled ∙ ap (λ (l : List ℕ). bytes_of_pages first.pages ++ l) behind.spelled ∙ sym (bytes_both first.pages behind.pages)) in
    let (mid, front) = taken_front [] first.pages behind.pages links (subst (λ (l : List Page). AreTaken [] l links) split (only (bytes ++ more) links all)) in
    (mid, subst (λ (l : List ℕ). AreLinks l mid) (sym first.spelled) (taken first.pages mid first.are_pages front))

-- ---- calls
some_same : (a b : List ℕ) → ◌≡◌ {A = Option (List ℕ)} (Some a) (Some b) → a ≡ b
some_same a b e = cc

size_in : (decided : Result ℕ Refusal) → IsOk decided → (size : ℕ) × (decided ≡ Ok size)
size_in (Ok size) ok = (size, refl)
size_in (Err refusal) ok = cc

no_doubt : (hub : HubState) (group : List ℕ) → is_failed hub ≡ false → hub.in_doubt ≡ Some group → ⊥
no_doubt hub group fine doubt = both_ways (is_some hub.in_doubt) (or_parts (not hub.has_file) (is_some hub.in_doubt) fine).1 (ap (λ (o : Option (List ℕ)). is_some o) doubt)

linked_same : (old new : HubState) → new ≡ old → FindsLinks old → FindsLinks new
linked_same old new e linked = subst FindsLinks (sym e) linked

-- all that waits is committed
linked_committing : (hub : HubState) → is_failed hub ≡ false → IsChain (hub.committed ++ hub.held) → FindsLinks (committing hub)
linked_committing hub fine both found (inl same) = subst IsChain (sym same) both
linked_committing hub fine both found (inr (group, doubt, same)) = absurd (no_doubt hub group fine doubt)

-- all that waits is in doubt
linked_doubting : (hub : HubState) → FindsLinks hub → IsChain (hub.committed ++ hub.held) → FindsLinks (doubting hub)
linked_doubting hub linked both found (inl same) = linked found (inl same)
linked_doubting hub linked both found (inr (group, doubt, same)) =
    subst IsChain (ap (λ (l : List ℕ). hub.committed ++ l) (some_same hub.held group doubt) ∙ sym same) both

recorded_chain : (bytes : List ℕ) → IsRecorded bytes → IsChain bytes
recorded_chain bytes (recording, holds) = (holds.0, holds.1)

pub linked_flush : (old new : HubState) (answer : Result Kept Refusal) → flush_step old answer new → FindsLinks old
    → (is_failed old ≡ false → IsRecorded (old.committed ++ old.held)) → FindsLinks new
linked_flush old new (Ok kept) step linked recorded =
    subst FindsLinks (sym step.2) (linked_committing old step.0 (recorded_chain (old.committed ++ old.held) (recorded step.0)))
linked_flush old new (Err Failed) step linked recorded = linked_same old new step.1 linked
linked_flush old new (Err Disk) step linked recorded =
    subst FindsLinks (sym step.2) (linked_doubting old linked (recorded_chain (old.committed ++ old.held) (recorded step.0)))
linked_flush old new (Err _) step linked recorded = absurd step

pub linked_reopen : (old new : HubState) (found : Option (List ℕ)) → reopen_step old found new → FindsLinks old → FindsLinks new
linked_reopen old new None step linked = subst FindsLinks (sym step) linked
linked_reopen old new (Some found) step linked = subst FindsLinks (sym step.1) (now found (linked found step.0))
  where
    now : (found : List ℕ) → IsChain found → FindsLinks (record (without_file old) { committed = found; in_doubt = None; has_file = true })
    now found chain bytes (inl same) = subst IsChain (sym same) chain
    now found chain bytes (inr (group, doubt, same)) = let none : ◌≡◌ {A = Option (List ℕ)} None (Some group) = doubt in cc

module _ (still_holds : (bytes : List ℕ) (recording : Recording) (held : Holds bytes recording) (command : Command) (size : ℕ)
    → IsCommand command → decision (chain_state_of held.0) command ≡ Ok size → Holds (bytes ++ command_bytes (chain_state_of held.0) command) (add recording command)) where
  chain_with : (old : HubState) (command : Command) (added : List ℕ) → IsRecorded (old.committed ++ old.held) → IsCommand command → IsAccepted old command added
      → IsChain (old.committed ++ (old.held ++ added))
  chain_with old command added (recording, holds) is (links, are, ok, spelled) =
      let bytes : List ℕ = old.committed ++ old.held in
      let same : links ≡ holds.0 = one_chain bytes links holds.0 are holds.1 in
      let (size, fine) = size_in (decision (chain_state_of holds.0) command) (subst (λ (l : List (List Page)). IsOk (decision (chain_state_of l) command)) same ok) in
      let more = still_holds bytes recording holds command size is fine in
      subst IsChain
      (ap (λ (l : List (List Page)). bytes ++ command_bytes (chain_state_of l) command) (sym same) ∙ ap (λ (l : List ℕ). bytes ++ l) (sym spelled)
      ∙ append_assoc old.committed old.held added)
      (more.0, more.1)

  pub linked_command : (old new : HubState) (command : Command) (answer : Result Outcome Refusal) → IsCommand command → command_step old command answer new → FindsLinks old
      → (is_failed old ≡ false → IsRecorded (old.committed ++ old.held)) → FindsLinks new
  linked_command old new command (Ok (WasHeld count)) is step linked recorded = subst FindsLinks (sym step.5) linked
  linked_command old new command (Ok (WasKept kept)) is step linked recorded =
      subst FindsLinks (sym step.5) (linked_committing (holding step.1 old) step.0 (chain_with old command step.1 (recorded step.0) is step.2))
  linked_command old new command (Err Failed) is step linked recorded = linked_same old new step.1 linked
  linked_command old new command (Err Memory) is step linked recorded = linked_same old new step.3 linked
  linked_command old new command (Err Disk) is step linked recorded =
      subst FindsLinks (sym step.3) (linked_doubting (holding step.1 old) linked (chain_with old command step.1 (recorded step.0) is step.2))
  linked_command old new command (Err _) is step linked recorded = linked_same old new step.2 linked

-- ---- a recorder
module _ {D : Type 0} (model : DiskModel D) where
  -- while it hasn't failed, what is committed holds a recording with what waits
  pub recorded_in : (r : RecorderState D) (m : HubState) → IsRecorder model r → ShowsFile model r m → is_failed m ≡ false
      → IsRecorded (m.committed ++ m.held)
  recorded_in r m always f fine =
      let good : r.file.failed ≡ false = sym f.failed_is ∙ (or_parts (not m.has_file) (is_some m.in_doubt) fine).1 in
      let holds = always.all good f.honest in
      let waits : m.held ≡ staged model.state r = f.held_is ∙ ap (λ (b : Bool). if b then [] else staged model.state r) good in
      let bytes : m.committed ++ m.held ≡ committed model.state r ++ staged model.state r =
      ap (λ (l : List ℕ). l ++ m.held) f.committed_is ∙ ap (λ (l : List ℕ). committed model.state r ++ l) waits in
      subst IsRecorded (sym bytes) (holds.recording, (holds.links, holds.are_links, holds.holds))

  -- a new hub's machine
  pub new_linked : (r : RecorderState D) (m : HubState) → IsRecorder model r → r.file.failed ≡ false → model.is_honest r.file.disk
      → IsImage (model.state r.file.disk) (model.state r.file.disk).contents → m.in_doubt ≡ None → m.committed ≡ committed model.state r → FindsLinks m
  new_linked r m always good honest image none is =
      let holds = always.all good honest in
      let bytes : List ℕ = committed model.state r in
      let pages = pages_of bytes (model.state r.file.disk).contents (always.images good honest (model.state r.file.disk).contents image) in
      found_in (front_is_chain bytes (staged model.state r) holds.links pages holds.are_links)
    where
      found_in : IsChain (committed model.state r) → FindsLinks m
      found_in chain found (inl same) = subst IsChain (sym (same ∙ is)) chain
      found_in chain found (inr (group, doubt, same)) = let both : ◌≡◌ {A = Option (List ℕ)} None (Some group) = sym none ∙ doubt in cc
