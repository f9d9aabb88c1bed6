-- Records answered in turn are steps of the history.
use Rattle.std.proofs.Common.{◌≡◌, ℕ, ◌+◌, ◌≤◌, Bool, true, false, nat_lt, if◌then◌else◌, List, [], ◌∷◌, ◌++◌, length, refl, sym, ap, ◌∙◌, subst, arith, append_assoc, Result, Ok, Err}
use Rattle.std.proofs.lemmas.List.{append-nil}
use Rattle.disk_model.specs.declared.disk.Disk.{Ghosts as DiskModel}
use Rattle.feed_records.specs.declared.item.Record.{Record}
use Rattle.feed_records.specs.declared.item.Record.TheVariants.{Command as CommandOf, Flush}
use Rattle.feed_replies.specs.declared.reply.Reply.{Reply}
use Rattle.feed_replies.specs.declared.reply.Reply.TheVariants.{Held as HeldReply, Kept as KeptReply, Refused as RefusedReply}
use Rattle.feed_runner.specs.Answering.{AnswersAll}
use Rattle.feed_runner.specs.Counting.{kept_by, kept_after, waiting_after, left_by}
use Rattle.link_chain.specs.ChainState.{ChainState}
use Rattle.link_chain.specs.Recording.{Recording}
use Rattle.chain_rules.specs.Decision.{decision}
use Rattle.chain_rules.specs.Recording.{add}
use Rattle.ogg_command.specs.Refusal.{code_of}
use Rattle.ogg_command.specs.declared.command.Command.{Command}
use Rattle.ogg_command.specs.declared.refusal.Refusal.{Refusal}
use Rattle.ogg_command.specs.declared.refusal.Refusal.TheVariants.{Failed, Memory, Disk}
use Rattle.history.specs.World.{World, Call, Staging, Committing, Step, Held, Kept, Faulted, happens, run, disk_after, acknowledged, acknowledged_by as acknowledged_in}
use Rattle.history.specs.History.{AreSteps, run-append, disk_after-append, steps-append}
use Rattle.history.specs.Runs.{AreCommands, IsCommand, accepted, accepted_by as accepted_in, commands-append}
use Rattle.file_recorder.specs.Recovery.{Shows, Accepts}
use Rattle.file_recorder.specs.Recorder.{RecorderState}
use Rattle.file_recorder.specs.Answer.{call_of, refused_step}
use Rattle.file_recorder.specs.Running.{Progress, Answers, Replies, AnsweredBy, FlushedBy, FlushBecomes, Becomes, steps_of}
use Rattle.file_recorder.specs.Steps.{HasSteps, Stands, accepted_by}

-- ---- lists of steps
accepted-append : {D : Type 0} (xs ys : List (Step Command × D)) → accepted (xs ++ ys) ≡ accepted xs ++ accepted ys
accepted-append [] ys = refl
accepted-append ((Held c, disk) ∷ xs) ys = ap (λ (l : List Command). c ∷ l) (accepted-append xs ys)
accepted-append ((Kept c, disk) ∷ xs) ys = ap (λ (l : List Command). c ∷ l) (accepted-append xs ys)
accepted-append ((Faulted call, disk) ∷ xs) ys =
    ap (λ (l : List Command). accepted_in call ++ l) (accepted-append xs ys) ∙ sym (append_assoc (accepted_in call) (accepted xs) (accepted ys))
accepted-append ((step, disk) ∷ xs) ys = accepted-append xs ys

acknowledged-append : {D : Type 0} (w : World Command) (xs ys : List (Step Command × D)) → acknowledged w (xs ++ ys) ≡ acknowledged w xs ++ acknowledged (run w xs) ys
acknowledged-append w [] ys = refl
acknowledged-append w ((step, disk) ∷ xs) ys =
    ap (λ (l : List Command). acknowledged_in w step ++ l) (acknowledged-append (happens w step) xs ys)
    ∙ sym (append_assoc _ (acknowledged (happens w step) xs) (acknowledged (run (happens w step) xs) ys))

-- ---- one record
-- only reasons of the table refuse a command by the rules
abbrev pub OfTable : Type 0
OfTable = (chain : ChainState) (command : Command) (refusal : Refusal) → decision chain command ≡ Err refusal → (2 ≤ code_of refusal) × (code_of refusal ≤ 19)

never : true ≡ false → ⊥
never e = cc e

is_command : (waits : Bool) (command : Command) → IsCommand (if waits then Staging command else Committing command)
is_command true command = tt
is_command false command = tt

takes_one : (waits : Bool) (command : Command) → accepted_in (if waits then Staging command else Committing command) ++ [] ≡ command ∷ []
takes_one true command = refl
takes_one false command = refl

-- a command that was refused
refused_are : {D : Type 0} (refusal : Refusal) (call : Call Command) (command : Command) (disk : D) → IsCommand call → AreCommands ((refused_step refusal call command, disk) ∷ [])
refused_are Disk call command disk is = (is, tt)
refused_are refusal call command disk is = tt

refused_accepts : {D : Type 0} (refusal : Refusal) (waits : Bool) (command : Command) (disk : D)
    → accepted ((refused_step refusal (if waits then Staging command else Committing command) command, disk) ∷ []) ≡ accepted_by (CommandOf command) (RefusedReply refusal)
refused_accepts Disk waits command disk = takes_one waits command
refused_accepts refusal waits command disk = refl

refused_keeps : {D : Type 0} (w : World Command) (refusal : Refusal) (call : Call Command) (command : Command) (disk : D) → acknowledged w ((refused_step refusal call command, disk) ∷ []) ≡ []
refused_keeps w Disk call command disk = refl
refused_keeps w refusal call command disk = refl

by_rules : (w : World Command) (refusal : Refusal) (call : Call Command) (command : Command) → 2 ≤ code_of refusal → code_of refusal ≤ 19
    → (happens w (refused_step refusal call command)).held ≡ left_by refusal [] w.held
by_rules w Failed call command some few = absurd (omega (arith, some))
by_rules w Disk call command some few = absurd (omega (arith, few))
by_rules w refusal call command some few = refl

by_becoming : {D : Type 0} (w : World Command) (refusal : Refusal) (call : Call Command) (command : Command) (old new : RecorderState D) → Becomes old command (RefusedReply refusal) new
    → (happens w (refused_step refusal call command)).held ≡ left_by refusal [] w.held
by_becoming w Memory call command old new is = refl
by_becoming w Disk call command old new is = refl
by_becoming w refusal call command old new is = absurd is

refused_holds : {D : Type 0} (decided : Result ℕ Refusal) (w : World Command) (refusal : Refusal) (call : Call Command) (command : Command) (old new : RecorderState D)
    → ((q : Refusal) → decided ≡ Err q → (2 ≤ code_of q) × (code_of q ≤ 19)) → AnsweredBy false decided old command (RefusedReply refusal) new
    → (happens w (refused_step refusal call command)).held ≡ left_by refusal [] w.held
refused_holds (Ok size) w refusal call command old new table is = by_becoming w refusal call command old new is
refused_holds (Err q) w refusal call command old new table (is, same) =
    let e : refusal ≡ q = cc is in
    let (some, few) = table q refl in
    subst (λ (p : Refusal). (happens w (refused_step p call command)).held ≡ left_by p [] w.held) (sym e) (by_rules w q call command some few)

-- a flush
flush_ends : {D : Type 0} (failed : Bool) (most : ℕ) (w : World Command) (refusal : Refusal) (old new : RecorderState D) → FlushedBy failed old (RefusedReply refusal) new
    → disk_after old.file.disk (steps_of most w Flush (RefusedReply refusal) new.file.disk) ≡ new.file.disk
flush_ends true most w Failed old new (is, same) = ap (λ (r : RecorderState _). r.file.disk) (sym same)
flush_ends false most w Failed old new is = absurd is
flush_ends failed most w refusal old new is = refl

flush_are : {D : Type 0} (most : ℕ) (w : World Command) (refusal : Refusal) (disk : D) → AreCommands (steps_of most w Flush (RefusedReply refusal) disk)
flush_are most w Failed disk = tt
flush_are most w refusal disk = (tt, tt)

flush_accepts : {D : Type 0} (most : ℕ) (w : World Command) (refusal : Refusal) (disk : D) → accepted (steps_of most w Flush (RefusedReply refusal) disk) ≡ []
flush_accepts most w Failed disk = refl
flush_accepts most w refusal disk = refl

flush_keeps : {D : Type 0} (most : ℕ) (w : World Command) (refusal : Refusal) (disk : D) → acknowledged w (steps_of most w Flush (RefusedReply refusal) disk) ≡ []
flush_keeps most w Failed disk = refl
flush_keeps most w refusal disk = refl

flush_holds : {D : Type 0} (most : ℕ) (w : World Command) (refusal : Refusal) (old new : RecorderState D) → FlushBecomes old (RefusedReply refusal) new
    → (run w (steps_of most w Flush (RefusedReply refusal) new.file.disk)).held ≡ left_by refusal [] w.held
flush_holds most w Disk old new is = refl
flush_holds most w refusal old new is = absurd is

pub flush_not_held : {D : Type 0} (failed : Bool) (count : ℕ) (old new : RecorderState D) → FlushedBy failed old (HeldReply count) new → ⊥
flush_not_held true count old new (is, same) = cc is
flush_not_held false count old new is = is

-- what one record makes of the commands
record One {D : Type 0} (w : World Command) (old new : RecorderState D) (given : Record) (reply : Reply) : Type 0 where
  commands : AreCommands (steps_of old.most w given reply new.file.disk)
  ends : disk_after old.file.disk (steps_of old.most w given reply new.file.disk) ≡ new.file.disk
  accepts : accepted (steps_of old.most w given reply new.file.disk) ≡ accepted_by given reply
  keeps : acknowledged w (steps_of old.most w given reply new.file.disk) ≡ kept_by w.held given reply
  holds : old.file.failed ≡ false → (run w (steps_of old.most w given reply new.file.disk)).held ≡ waiting_after w.held given reply

one : {D : Type 0} (table : OfTable) (w : World Command) (old new : RecorderState D) (given : Record) (reply : Reply) → Replies old given reply new → One w old new given reply
one table w old new (CommandOf command) (HeldReply count) is = record { commands = tt; ends = refl; accepts = refl; keeps = refl; holds = λ good. refl }
one table w old new (CommandOf command) (KeptReply kept) is =
    record { commands = tt; ends = refl; accepts = refl; keeps = append-nil (w.held ++ command ∷ []); holds = λ good. refl }
one table w old new (CommandOf command) (RefusedReply refusal) is =
    let waits : Bool = nat_lt (length w.held + 1) old.most in
    let call : Call Command = call_of old.most w command in
    record {
      commands = refused_are refusal call command new.file.disk (is_command waits command);
      ends = refl;
      accepts = refused_accepts refusal waits command new.file.disk;
      keeps = refused_keeps w refusal call command new.file.disk;
      holds = λ good. refused_holds (decision old.chain command) w refusal call command old new (table old.chain command)
          (subst (λ (failed : Bool). AnsweredBy failed (decision old.chain command) old command (RefusedReply refusal) new) good is);
    }
one table w old new Flush (HeldReply count) is = absurd (flush_not_held old.file.failed count old new is)
one table w old new Flush (KeptReply kept) is = record { commands = tt; ends = refl; accepts = refl; keeps = append-nil w.held; holds = λ good. refl }
one table w old new Flush (RefusedReply refusal) is = record {
  commands = flush_are old.most w refusal new.file.disk;
  ends = flush_ends old.file.failed old.most w refusal old new is;
  accepts = flush_accepts old.most w refusal new.file.disk;
  keeps = flush_keeps old.most w refusal new.file.disk;
  holds = λ good. flush_holds old.most w refusal old new (subst (λ (failed : Bool). FlushedBy failed old (RefusedReply refusal) new) good is);
}

-- ---- records in turn
-- after a disk fault each is refused, and nothing changes
pub shut_reply : {D : Type 0} (given : Record) (reply : Reply) (old new : RecorderState D) → old.file.failed ≡ true → Replies old given reply new → (reply ≡ RefusedReply Failed) × (new ≡ old)
shut_reply (CommandOf command) reply old new bad is = subst (λ (failed : Bool). AnsweredBy failed (decision old.chain command) old command reply new) bad is
shut_reply Flush reply old new bad is = subst (λ (failed : Bool). FlushedBy failed old reply new) bad is

none_by : (waiting : List Command) (given : Record) → kept_by waiting given (RefusedReply Failed) ≡ []
none_by waiting (CommandOf command) = refl
none_by waiting Flush = refl

module _ {D : Type 0} (model : DiskModel D) (table : OfTable) where
  abbrev pub AreAnswered : Progress D → List Record → List Reply → List ℕ → Progress D → Type 0
  AreAnswered before records replies bytes after = AnswersAll (Answers model) before records replies bytes after

  pub none_kept : (waiting : List Command) (before : Progress D) (records : List Record) (replies : List Reply) (bytes : List ℕ) (after : Progress D)
      → before.now.file.failed ≡ true → AreAnswered before records replies bytes after → kept_after waiting records replies ≡ []
  none_kept waiting before [] replies bytes after bad all = refl
  none_kept waiting before (given ∷ records) [] bytes after bad all = refl
  none_kept waiting before (given ∷ records) (reply ∷ replies) bytes after bad (next, own, later, answer, rest, whole) =
      let (is, same) = shut_reply given reply before.now next.now bad answer.replies in
      let mine : kept_by waiting given reply ≡ [] = ap (λ (r : Reply). kept_by waiting given r) is ∙ none_by waiting given in
      let others = none_kept (waiting_after waiting given reply) next records replies later after (ap (λ (r : RecorderState D). r.file.failed) same ∙ bad) rest in
      (λ i. mine i ++ others i)

  keeps_on : (failed : Bool) (before next after : Progress D) (given : Record) (reply : Reply) (records : List Record) (replies : List Reply) (later : List ℕ)
      → before.now.file.failed ≡ failed → Replies before.now given reply next.now → (before.now.file.failed ≡ false → next.world.held ≡ waiting_after before.world.held given reply)
      → AreAnswered next records replies later after
      → kept_after next.world.held records replies ≡ kept_after (waiting_after before.world.held given reply) records replies
  keeps_on false before next after given reply records replies later good is holds rest = ap (λ (l : List Command). kept_after l records replies) (holds good)
  keeps_on true before next after given reply records replies later bad is holds rest =
      let (told, same) = shut_reply given reply before.now next.now bad is in
      let still : next.now.file.failed ≡ true = ap (λ (r : RecorderState D). r.file.failed) same ∙ bad in
      none_kept next.world.held next records replies later after still rest ∙ sym (none_kept (waiting_after before.world.held given reply) next records replies later after still rest)

  pub are_steps : (before after : Progress D) (records : List Record) (replies : List Reply) (bytes : List ℕ) → AreAnswered before records replies bytes after
      → HasSteps model before after records replies
  are_steps before after [] [] bytes (none, same) = record {
    steps = [];
    are_commands = tt;
    same = ap (λ (p : Progress D). p.first) same;
    leads = ap (λ (p : Progress D). p.world) (sym same);
    ends = ap (λ (p : Progress D). p.now.file.disk) (sym same);
    accepts = refl;
    keeps = refl;
    are = λ stands. tt;
    stands = λ stands. subst (λ (p : Progress D). Stands model p) (sym same) stands;
  }
  are_steps before after [] (reply ∷ replies) bytes all = absurd all
  are_steps before after (given ∷ records) [] bytes all = absurd all
  are_steps before after (given ∷ records) (reply ∷ replies) bytes (next, own, later, answer, rest, whole) =
      let w : World Command = before.world in
      let disk : D = before.now.file.disk in
      let it = one table w before.now next.now given reply answer.replies in
      let mine : List (Step Command × D) = steps_of before.now.most w given reply next.now.file.disk in
      let others = are_steps next after records replies later rest in
      let Are : Recording → World Command → D → Type 0 = λ first world from. AreSteps model Shows Accepts add first world from others.steps in
      record {
        steps = mine ++ others.steps;
        are_commands = commands-append mine others.steps it.commands others.are_commands;
        same = others.same ∙ answer.same;
        leads = run-append w mine others.steps ∙ ap (λ (v : World Command). run v others.steps) (sym answer.world_is) ∙ others.leads;
        ends = disk_after-append disk mine others.steps ∙ ap (λ (d : D). disk_after d others.steps) it.ends ∙ others.ends;
        accepts = accepted-append mine others.steps ∙ (λ i. it.accepts i ++ others.accepts i);
        keeps =
            let more : acknowledged (run w mine) others.steps ≡ kept_after (waiting_after w.held given reply) records replies =
            ap (λ (v : World Command). acknowledged v others.steps) (sym answer.world_is) ∙ others.keeps
            ∙ keeps_on before.now.file.failed before next after given reply records replies later refl answer.replies
            (λ good. ap (λ (v : World Command). v.held) answer.world_is ∙ it.holds good) rest in
            acknowledged-append w mine others.steps ∙ (λ i. it.keeps i ++ more i);
        are = λ (h, is_in).
            let comes = answer.comes_next h is_in in
            steps-append model Shows Accepts add before.first w disk mine others.steps comes.0
            (subst (λ first. Are first (run w mine) (disk_after disk mine)) answer.same
            (subst (λ world. Are next.first world (disk_after disk mine)) answer.world_is
            (subst (λ from. Are next.first next.world from) (sym it.ends) (others.are (answer.honest.0 h, comes.1)))));
        stands = λ (h, is_in). others.stands (answer.honest.0 h, (answer.comes_next h is_in).1);
      }
