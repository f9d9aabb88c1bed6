-- What a recorder always holds, after a command.
use Rattle.std.proofs.Common.{◌≡◌, inl, ℕ, ◌+◌, ◌<◌, ◌≤◌, ◌^◌, Bool, true, false, nat_lt, List, ◌++◌, length, take, refl, sym, ◌∙◌, ap, subst, arith, append_assoc, Ok, Err, Result}
use Rattle.std.proofs.lemmas.Bool.Decides.{nat_tests}
use Rattle.disk_model.specs.declared.disk.Disk.{Ghosts as DiskModel}
use Rattle.disk_model.specs.Clock.{HasImages}
use Rattle.disk_model.specs.Leaving.{LeavesOnly, and_then, started}
use Rattle.gate_file.specs.Commit.{CommitsTo, CommitsToEither}
use Rattle.gate_file.specs.Gate.{EachImage}
use Rattle.gate_file.specs.GateFile as G
use Rattle.gate_file.specs.GateFile.{GateState}
use Rattle.link_chain.specs.ChainState.{ChainState, chain_state_of}
use Rattle.chain_rules.specs.Decision.{decision}
use Rattle.chain_rules.specs.Encoding.{command_bytes, links_after}
use Rattle.ogg_command.specs.Command.{IsCommand}
use Rattle.ogg_command.specs.declared.command.Command.{Command}
use Rattle.ogg_command.specs.declared.refusal.Refusal.{Refusal}
use Rattle.file_recorder.specs.Recovery.{Links}
use Rattle.file_recorder.specs.Taking.{HoldsChain, IsWholeChain}
use Rattle.file_recorder.specs.Recorder.{RecorderState, IsRecorder, committed, staged}
use Rattle.file_recorder.proofs.Growing.{AddsPackets, AddsSome, chain_grows, command_long}
use Rattle.file_recorder.proofs.Opened.{none_staged}

pub not_failed : (failed : Bool) → (failed ≡ true → ⊥) → failed ≡ false
not_failed false refuted = refl
not_failed true refuted = absurd (refuted refl)

pub never : false ≡ true → ⊥
never e = cc

pub lt_false : (a b : ℕ) → b ≤ a → nat_lt a b ≡ false
lt_false a b le = grind (arith, nat_tests)

pub same_refusal : {T : Type 0} (a b : Refusal) → ◌≡◌ {A = Result T Refusal} (Err a) (Err b) → a ≡ b
same_refusal a b e = cc

-- a staging, and then a commit of what is staged
pub staged_then : {D : Type 0} (model : DiskModel D) (old mid new : D) (b more c others : List ℕ) → c ≡ b → others ≡ more → LeavesOnly model old mid (CommitsTo b)
    → LeavesOnly model mid new (CommitsToEither c others) → LeavesOnly model old new (CommitsToEither b more)
staged_then model old mid new b more c others same alike first second =
    and_then model old mid new (CommitsTo b) (CommitsToEither c others) (CommitsToEither b more) first second (λ image commits. inl commits)
    (λ image either. subst (λ (l : List ℕ). CommitsToEither l more image) same (subst (λ (l : List ℕ). CommitsToEither c l image) alike either))

-- no call was made: each image commits to what is committed
pub nothing_staged : {D : Type 0} (model : DiskModel D) (disk : D) (b more : List ℕ) → HasImages (model.state disk) (model.moment disk) (model.images_since disk)
    → EachImage (model.state disk) (CommitsTo b) → LeavesOnly model disk disk (CommitsToEither b more)
nothing_staged model disk b more has each = started model disk (CommitsToEither b more) (λ image since. inl (each image (has.only_now image since)))

-- the same bytes in front, up to the same place
pub same_front : (end now : ℕ) (contents b : List ℕ) → now ≡ end → take end contents ≡ b → take now contents ≡ b
same_front end now contents b same front = ap (λ (n : ℕ). take n contents) same ∙ front

module _ {D : Type 0} (model : DiskModel D) (old : RecorderState D) (file : GateState D) (chain : ChainState) (command : Command) (size : ℕ) (was : IsRecorder model old)
    (good : old.file.failed ≡ false) (packets : AddsPackets) (some : AddsSome) (sized : length (command_bytes old.chain command) ≡ size) (is : IsCommand command) (kept : decision old.chain command ≡ Ok size)
    (room : old.chain.length_of + size < 2 ^ 40) (planned : ChainState) (same : planned ≡ old.chain)
    (accept : (links : Links) → planned ≡ chain_state_of links → chain ≡ chain_state_of (links_after links command))
    (grows : (links : Links) (size : ℕ) → planned ≡ chain_state_of links → decision planned command ≡ Ok size → chain.length_of ≡ planned.length_of + size)
    (still : file.failed ≡ false) (before : model.is_honest file.disk → model.is_honest old.file.disk) (images : model.is_honest file.disk → EachImage (model.state file.disk) (CommitsTo (G.committed model.state file))) where
  size_some : 0 < size
  size_some = omega (arith, sized, command_long some old.chain command size was.chain is kept)

  whole_chain : IsWholeChain chain
  whole_chain = (was.chain.0 ++ command_bytes old.chain command, chain_grows packets was.chain.0 old.chain chain command size was.chain.1 is kept (λ links here. accept links (same ∙ here)))

  longer : chain.length_of ≡ old.chain.length_of + size
  longer = grows was.chain.1.links size (same ∙ was.chain.1.chain_is) (ap (λ (s : ChainState). decision s command) same ∙ kept) ∙ ap (λ (s : ChainState). s.length_of + size) same

  all_now : model.is_honest old.file.disk → HoldsChain ((committed model.state old ++ staged model.state old) ++ command_bytes old.chain command) chain
  all_now honest = chain_grows packets (committed model.state old ++ staged model.state old) old.chain chain command size (was.all good honest) is kept (λ links here. accept links (same ∙ here))

  -- it waits
  pub is_waiting : old.held + 1 < old.most → file.whole ≡ true → (model.is_honest old.file.disk → G.committed model.state file ≡ committed model.state old)
      → (model.is_honest old.file.disk → G.staged_bytes model.state file ≡ staged model.state old ++ command_bytes old.chain command) → IsRecorder model (record old { file = file; chain = chain; held = old.held + 1 })
  is_waiting few whole front more = record {
    few = few;
    count = omega (arith, longer, size_some, was.count);
    fits = omega (arith, room, size_some, was.count);
    chain = whole_chain;
    none = λ bad. absurd (never (sym still ∙ bad));
    empty = λ _ none. absurd (omega (arith, none));
    whole = λ _ _. whole;
    all = λ _ now. subst (λ (l : List ℕ). HoldsChain l chain)
        (append_assoc (committed model.state old) (staged model.state old) (command_bytes old.chain command) ∙ (λ i. sym (front (before now)) i ++ sym (more (before now)) i)) (all_now (before now));
    images = λ _ now. images now;
  }

  -- it is kept
  pub is_kept : file.staged ≡ 0 → (model.is_honest old.file.disk → G.committed model.state file ≡ committed model.state old ++ (staged model.state old ++ command_bytes old.chain command))
      → 0 < old.most → IsRecorder model (record old { file = file; chain = chain; kept = old.kept + (old.held + 1); held = 0 })
  is_kept none grown few = record {
    few = few;
    count = omega (arith, longer, size_some, was.count);
    fits = omega (arith, room, size_some, was.count);
    chain = whole_chain;
    none = λ bad. refl;
    empty = λ _ _. none;
    whole = λ _ some. absurd (omega (arith, some));
    all = λ _ now. subst (λ (l : List ℕ). HoldsChain l chain)
        (append_assoc (committed model.state old) (staged model.state old) (command_bytes old.chain command) ∙ sym (grown (before now)) ∙ sym (none_staged model.state file none)) (all_now (before now));
    images = λ _ now. images now;
  }
