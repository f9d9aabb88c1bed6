-- The committed bytes of a run grow by those of the commands that it kept.
use Rattle.std.proofs.Common.{◌≡◌, ◌⊎◌, inl, inr, ⊎_elim, ℕ, ◌≤◌, Bool, true, false, List, [], ◌∷◌, ◌++◌, refl, sym, ap, ◌∙◌, subst, arith, append_assoc, Result, Ok, Err}
use Rattle.std.proofs.lemmas.List.{append-nil}
use Rattle.std.proofs.lemmas.Grind.{fold-append}
use Rattle.disk_model.specs.declared.disk.Disk.{Ghosts as DiskModel}
use Rattle.feed_records.specs.declared.item.Record.{Record}
use Rattle.feed_records.specs.declared.item.Record.TheVariants.{Command as CommandOf, Flush}
use Rattle.feed_replies.specs.declared.reply.Kept.{Kept as KeptOf}
use Rattle.feed_replies.specs.declared.reply.Reply.{Reply}
use Rattle.feed_replies.specs.declared.reply.Reply.TheVariants.{Held as HeldReply, Kept as KeptReply, Refused as RefusedReply}
use Rattle.feed_runner.specs.Counting.{kept_by, kept_after, waiting_after, left_by}
use Rattle.link_chain.specs.ChainState.{chain_state_of}
use Rattle.chain_rules.specs.Commands.{bytes_of_commands, links_behind}
use Rattle.chain_rules.specs.Decision.{decision}
use Rattle.chain_rules.specs.Encoding.{command_bytes, links_after}
use Rattle.ogg_command.specs.Refusal.{code_of}
use Rattle.ogg_command.specs.declared.command.Command.{Command}
use Rattle.ogg_command.specs.declared.refusal.Refusal.{Refusal}
use Rattle.ogg_command.specs.declared.refusal.Refusal.TheVariants.{Failed, Memory, Disk}
use Rattle.file_recorder.specs.Recovery.{Links}
use Rattle.file_recorder.specs.Recorder.{RecorderState, committed}
use Rattle.file_recorder.specs.Running.{Progress, AnsweredBy, FlushedBy, FlushBecomes, Becomes, Takes, Replies, Writes}
use Rattle.file_recorder.specs.Steps.{HasWaiting}
use Rattle.file_recorder.proofs.Steps.{OfTable, AreAnswered, shut_reply, none_kept, flush_not_held}

-- ---- bytes of commands
bytes-append : (links : Links) (xs ys : List Command) → bytes_of_commands links (xs ++ ys) ≡ bytes_of_commands links xs ++ bytes_of_commands (links_behind links xs) ys
bytes-append links [] ys = refl
bytes-append links (x ∷ xs) ys =
    ap (λ (l : List ℕ). command_bytes (chain_state_of links) x ++ l) (bytes-append (links_after links x) xs ys)
    ∙ sym (append_assoc (command_bytes (chain_state_of links) x) (bytes_of_commands (links_after links x) xs) (bytes_of_commands (links_behind (links_after links x) xs) ys))

bytes_with : (links : Links) (xs : List Command) (x : Command) → bytes_of_commands links (xs ++ x ∷ []) ≡ bytes_of_commands links xs ++ command_bytes (chain_state_of (links_behind links xs)) x
bytes_with links xs x = bytes-append links xs (x ∷ []) ∙ ap (λ (l : List ℕ). bytes_of_commands links xs ++ l) (append-nil (command_bytes (chain_state_of (links_behind links xs)) x))

links_with : (links : Links) (xs : List Command) (x : Command) → links_behind links (xs ++ x ∷ []) ≡ links_after (links_behind links xs) x
links_with links xs x = fold-append links_after links xs (x ∷ [])

-- ---- one record
takes_if_held : {D : Type 0} (decided : Result ℕ Refusal) (old new : RecorderState D) (command : Command) (count : ℕ) → AnsweredBy false decided old command (HeldReply count) new → Takes old command new
takes_if_held (Ok size) old new command count is = is.1
takes_if_held (Err refusal) old new command count (told, same) = absurd (cc told)

takes_if_kept : {D : Type 0} (decided : Result ℕ Refusal) (old new : RecorderState D) (command : Command) (kept : KeptOf) → AnsweredBy false decided old command (KeptReply kept) new → Takes old command new
takes_if_kept (Ok size) old new command kept is = is.1
takes_if_kept (Err refusal) old new command kept (told, same) = absurd (cc told)

module _ {D : Type 0} (model : DiskModel D) (table : OfTable) where
  -- the committed bytes grow by those of the commands that the reply keeps, and the others wait
  abbrev GoesOn : Links → List Command → RecorderState D → RecorderState D → Record → Reply → Type 0
  GoesOn links waiting old new given reply =
      (committed model.state new ≡ committed model.state old ++ bytes_of_commands links (kept_by waiting given reply))
      × HasWaiting model.state (links_behind links (kept_by waiting given reply)) (waiting_after waiting given reply) new

  -- the disk has failed, and nothing is kept
  abbrev Ends : List Command → RecorderState D → RecorderState D → Record → Reply → Type 0
  Ends waiting old new given reply = (new.file.failed ≡ true) × (committed model.state new ≡ committed model.state old) × (kept_by waiting given reply ≡ [])

  takes_held : (links : Links) (waiting : List Command) (old new : RecorderState D) (command : Command) (count : ℕ) → HasWaiting model.state links waiting old
      → Replies old (CommandOf command) (HeldReply count) new → Writes model.state old (CommandOf command) (HeldReply count) new → GoesOn links waiting old new (CommandOf command) (HeldReply count)
  takes_held links waiting old new command count has is writes =
      let takes = takes_if_held (decision old.chain command) old new command count
      (subst (λ (failed : Bool). AnsweredBy failed (decision old.chain command) old command (HeldReply count) new) has.good is) in (
        writes.0 ∙ sym (append-nil (committed model.state old)),
        record {
          good = takes.0;
          chain = takes.1 (links_behind links waiting) has.chain ∙ ap chain_state_of (sym (links_with links waiting command));
          waits = writes.1 ∙ (λ i. has.waits i ++ command_bytes (has.chain i) command) ∙ sym (bytes_with links waiting command);
        },
      )

  takes_kept : (links : Links) (waiting : List Command) (old new : RecorderState D) (command : Command) (kept : KeptOf) → HasWaiting model.state links waiting old
      → Replies old (CommandOf command) (KeptReply kept) new → Writes model.state old (CommandOf command) (KeptReply kept) new → GoesOn links waiting old new (CommandOf command) (KeptReply kept)
  takes_kept links waiting old new command kept has is writes =
      let takes = takes_if_kept (decision old.chain command) old new command kept
      (subst (λ (failed : Bool). AnsweredBy failed (decision old.chain command) old command (KeptReply kept) new) has.good is) in (
        writes.0 ∙ ap (λ (l : List ℕ). committed model.state old ++ l) ((λ i. has.waits i ++ command_bytes (has.chain i) command) ∙ sym (bytes_with links waiting command)),
        record {
          good = takes.0;
          chain = takes.1 (links_behind links waiting) has.chain ∙ ap chain_state_of (sym (links_with links waiting command));
          waits = writes.1;
        },
      )

  -- nothing has changed
  stays : (links : Links) (waiting left : List Command) (old new : RecorderState D) → HasWaiting model.state links waiting old → new ≡ old → left ≡ waiting
      → (committed model.state new ≡ committed model.state old ++ []) × HasWaiting model.state links left new
  stays links waiting left old new has same all = (
    ap (λ (r : RecorderState D). committed model.state r) same ∙ sym (append-nil (committed model.state old)),
    subst (λ (r : RecorderState D). HasWaiting model.state links left r) (sym same) (subst (λ (l : List Command). HasWaiting model.state links l old) (sym all) has),
  )

  left_by_rules : (waiting : List Command) (refusal : Refusal) → 2 ≤ code_of refusal → code_of refusal ≤ 19 → left_by refusal [] waiting ≡ waiting
  left_by_rules waiting Failed some few = absurd (omega (arith, some))
  left_by_rules waiting Disk some few = absurd (omega (arith, few))
  left_by_rules waiting refusal some few = refl

  becomes : (links : Links) (waiting : List Command) (old new : RecorderState D) (command : Command) (refusal : Refusal) → HasWaiting model.state links waiting old
      → Becomes old command (RefusedReply refusal) new → committed model.state new ≡ committed model.state old
      → GoesOn links waiting old new (CommandOf command) (RefusedReply refusal) ⊎ Ends waiting old new (CommandOf command) (RefusedReply refusal)
  becomes links waiting old new command Memory has (begins, same) writes = inl (stays links waiting waiting old new has same refl)
  becomes links waiting old new command Disk has fails writes = inr (fails.0, writes, refl)
  becomes links waiting old new command refusal has never writes = absurd never

  refused : (links : Links) (waiting : List Command) (decided : Result ℕ Refusal) (old new : RecorderState D) (command : Command) (refusal : Refusal) → HasWaiting model.state links waiting old
      → ((q : Refusal) → decided ≡ Err q → (2 ≤ code_of q) × (code_of q ≤ 19)) → AnsweredBy false decided old command (RefusedReply refusal) new → committed model.state new ≡ committed model.state old
      → GoesOn links waiting old new (CommandOf command) (RefusedReply refusal) ⊎ Ends waiting old new (CommandOf command) (RefusedReply refusal)
  refused links waiting (Ok size) old new command refusal has few is writes = becomes links waiting old new command refusal has is writes
  refused links waiting (Err q) old new command refusal has few (told, same) writes =
      let e : refusal ≡ q = cc told in
      let (some, most) = few q refl in
      inl (stays links waiting (left_by refusal [] waiting) old new has same (ap (λ (p : Refusal). left_by p [] waiting) e ∙ left_by_rules waiting q some most))

  flush_refused : (links : Links) (waiting : List Command) (old new : RecorderState D) (refusal : Refusal) → FlushBecomes old (RefusedReply refusal) new → committed model.state new ≡ committed model.state old
      → GoesOn links waiting old new Flush (RefusedReply refusal) ⊎ Ends waiting old new Flush (RefusedReply refusal)
  flush_refused links waiting old new Disk fails writes = inr (fails.1.0, writes, refl)
  flush_refused links waiting old new refusal never writes = absurd never

  next_is : (links : Links) (waiting : List Command) (old new : RecorderState D) (given : Record) (reply : Reply) → HasWaiting model.state links waiting old
      → Replies old given reply new → Writes model.state old given reply new → GoesOn links waiting old new given reply ⊎ Ends waiting old new given reply
  next_is links waiting old new (CommandOf command) (HeldReply count) has is writes = inl (takes_held links waiting old new command count has is writes)
  next_is links waiting old new (CommandOf command) (KeptReply kept) has is writes = inl (takes_kept links waiting old new command kept has is writes)
  next_is links waiting old new (CommandOf command) (RefusedReply refusal) has is writes =
      refused links waiting (decision old.chain command) old new command refusal has (table old.chain command)
      (subst (λ (failed : Bool). AnsweredBy failed (decision old.chain command) old command (RefusedReply refusal) new) has.good is) writes
  next_is links waiting old new Flush (HeldReply count) has is writes = absurd (flush_not_held old.file.failed count old new is)
  next_is links waiting old new Flush (KeptReply kept) has is writes =
      let flushed = subst (λ (failed : Bool). FlushedBy failed old (KeptReply kept) new) has.good is in
      inl (
        writes.0 ∙ ap (λ (l : List ℕ). committed model.state old ++ l) has.waits,
        record { good = flushed.1; chain = ap (λ (r : RecorderState D). r.chain) flushed.3 ∙ has.chain; waits = writes.1 },
      )
  next_is links waiting old new Flush (RefusedReply refusal) has is writes =
      flush_refused links waiting old new refusal (subst (λ (failed : Bool). FlushedBy failed old (RefusedReply refusal) new) has.good is) writes

  -- ---- records in turn
  shut : (before after : Progress D) (records : List Record) (replies : List Reply) (bytes : List ℕ) → before.now.file.failed ≡ true
      → AreAnswered model table before records replies bytes after → after.now ≡ before.now
  shut before after [] [] bytes bad (none, same) = ap (λ (p : Progress D). p.now) same
  shut before after [] (reply ∷ replies) bytes bad all = absurd all
  shut before after (given ∷ records) [] bytes bad all = absurd all
  shut before after (given ∷ records) (reply ∷ replies) bytes bad (next, own, later, answer, rest, whole) =
      let (told, same) = shut_reply given reply before.now next.now bad answer.replies in
      shut next after records replies later (ap (λ (r : RecorderState D). r.file.failed) same ∙ bad) rest ∙ same

  abbrev pub Grows : Links → List Command → Progress D → Progress D → List Record → List Reply → Type 0
  Grows links waiting before after records replies = committed model.state after.now ≡ committed model.state before.now ++ bytes_of_commands links (kept_after waiting records replies)

  grows_on : (links : Links) (waiting : List Command) (before next after : Progress D) (given : Record) (reply : Reply) (records : List Record) (replies : List Reply)
      → GoesOn links waiting before.now next.now given reply
      → Grows (links_behind links (kept_by waiting given reply)) (waiting_after waiting given reply) next after records replies
      → Grows links waiting before after (given ∷ records) (reply ∷ replies)
  grows_on links waiting before next after given reply records replies goes others =
      let mine = kept_by waiting given reply in
      let rest = kept_after (waiting_after waiting given reply) records replies in
      others ∙ ap (λ (l : List ℕ). l ++ bytes_of_commands (links_behind links mine) rest) goes.0
      ∙ append_assoc (committed model.state before.now) (bytes_of_commands links mine) (bytes_of_commands (links_behind links mine) rest)
      ∙ ap (λ (l : List ℕ). committed model.state before.now ++ l) (sym (bytes-append links mine rest))

  grows_no_more : (links : Links) (waiting : List Command) (before next after : Progress D) (given : Record) (reply : Reply) (records : List Record) (replies : List Reply) (later : List ℕ)
      → Ends waiting before.now next.now given reply → AreAnswered model table next records replies later after
      → Grows links waiting before after (given ∷ records) (reply ∷ replies)
  grows_no_more links waiting before next after given reply records replies later (bad, same, mine) rest =
      let none : kept_after waiting (given ∷ records) (reply ∷ replies) ≡ [] =
      (λ i. mine i ++ none_kept model table (waiting_after waiting given reply) next records replies later after bad rest i) in
      ap (λ (r : RecorderState D). committed model.state r) (shut next after records replies later bad rest) ∙ same ∙ sym (append-nil (committed model.state before.now))
      ∙ ap (λ (l : List Command). committed model.state before.now ++ bytes_of_commands links l) (sym none)

  pub grown : (links : Links) (waiting : List Command) (before after : Progress D) (records : List Record) (replies : List Reply) (bytes : List ℕ) → model.is_honest before.now.file.disk
      → HasWaiting model.state links waiting before.now → AreAnswered model table before records replies bytes after
      → Grows links waiting before after records replies
  grown links waiting before after [] [] bytes h has (none, same) =
      ap (λ (p : Progress D). committed model.state p.now) same ∙ sym (append-nil (committed model.state before.now))
  grown links waiting before after [] (reply ∷ replies) bytes h has all = absurd all
  grown links waiting before after (given ∷ records) [] bytes h has all = absurd all
  grown links waiting before after (given ∷ records) (reply ∷ replies) bytes h has (next, own, later, answer, rest, whole) =
      ⊎_elim
      (λ goes. grows_on links waiting before next after given reply records replies goes
      (grown (links_behind links (kept_by waiting given reply)) (waiting_after waiting given reply) next after records replies later (answer.honest.0 h) goes.1 rest))
      (λ ends. grows_no_more links waiting before next after given reply records replies later ends rest)
      (next_is links waiting before.now next.now given reply has answer.replies (answer.writes h))
