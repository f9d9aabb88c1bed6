-- What a recorder tells, of the machine.
use Rattle.std.proofs.Common.{◌≡◌, Bool, false, Option, Some, None, List, [], ◌++◌, ℕ, sym, ◌∙◌, ap, subst, true≢false}
use Rattle.std.specs.Prelude.{is_some, if◌then◌else◌}
use Rattle.disk_model.specs.declared.disk.Disk.{Ghosts as DiskModel}
use Rattle.disk_model.specs.Image.{DiskState}
use Rattle.ogg_page.specs.Page.{Page}
use Rattle.link_chain.specs.ChainState.{chain_state_of}
use Rattle.link_chain.specs.Links.{AreLinks}
use Rattle.file_recorder.specs.Recorder.{RecorderState, IsRecorder, committed, staged}
use Rattle.serve_machine.specs.Hub.{HubState}
use Rattle.serve_hub.specs.declared.opening.Lost.{Lost}
use Rattle.serve_hub.specs.Showing.{HasLinks, ShowsFile, ShowsPlace}

module _ {D : Type 0} (model : DiskModel D) (one : (bytes : List ℕ) (links others : List (List Page)) → AreLinks bytes links → AreLinks bytes others → links ≡ others) where
  -- its chain is that of the machine's links
  pub chain_is : (r : RecorderState D) (m : HubState) (links : List (List Page)) → IsRecorder model r → ShowsFile model r m → HasLinks m links → r.chain ≡ chain_state_of links
  chain_is r m links always f has =
      let good : r.file.failed ≡ false = sym f.failed_is ∙ ap (λ (o : Option (List ℕ)). is_some o) has.none in
      let holds = always.all good f.honest in
      let waits : m.held ≡ staged model.state r = f.held_is ∙ ap (λ (b : Bool). if b then [] else staged model.state r) good in
      let bytes : m.committed ++ m.held ≡ committed model.state r ++ staged model.state r =
      ap (λ (l : List ℕ). l ++ m.held) f.committed_is ∙ ap (λ (l : List ℕ). committed model.state r ++ l) waits in
      holds.chain_is ∙ ap chain_state_of (one (committed model.state r ++ staged model.state r) holds.links links holds.are_links (subst (λ (l : List ℕ). AreLinks l links) bytes has.are_links))

  pub no_links : (lost : Option (Lost D)) (m : HubState) (links : List (List Page)) → ShowsPlace model None lost m → HasLinks m links → ⊥
  no_links None m links s has = absurd s
  no_links (Some gone) m links s has = absurd (true≢false (sym has.has_file ∙ s.has_file))
