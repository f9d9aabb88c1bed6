-- What is kept of the link that is open, command by command.
use Rattle.std.proofs.Common.{◌≡◌, ℕ, ◌+◌, ◌<◌, Bool, true, false, List, [], ◌∷◌, ◌++◌, length, length-append, map, take, drop, refl, sym, subst, ap, ◌∙◌, arith}
use Rattle.std.specs.Prelude.{Result, Ok, Err, OnErr}
use Rattle.std.specs.List.{AllZip, filter, list_any}
use Rattle.std.proofs.lemmas.List.{map-append, take-append-drop}
use Rattle.std.proofs.lemmas.List.Elements.{filter-append}
use Rattle.link_chain.specs.declared.stream_state.StreamState.{StreamState}
use Rattle.ogg_command.specs.declared.command.Begin.{Begin}
use Rattle.ogg_command.specs.declared.command.Command.{Command}
use Rattle.ogg_command.specs.declared.command.Command.TheVariants.{Begin as BeginOf, Put as PutOf, End as EndOf}
use Rattle.import_changes.specs.Changed.{begins}
use Rattle.import_changes.specs.Skeletons.{begins_of}
use Rattle.import_changes.specs.Steps.{BeginAt, BeginsAt}
use Rattle.import_changes.specs.declared.options.ChangeOptions.{ChangeOptions}
use Rattle.import_record.specs.Resuming.{end_of, ends_of, is_left}
use Rattle.import_record.specs.Begun.{open_after, open_with, streams_after, streams_with}
use Rattle.import_record.specs.declared.begun.BegunStream.{BegunStream}

pub streams_both : (was : List BegunStream) (commands more : List Command) → streams_after was (commands ++ more) ≡ streams_after (streams_after was commands) more
streams_both was [] more = refl
streams_both was (command ∷ commands) more = streams_both (streams_with was command) commands more

pub open_both : (was : List ℕ) (commands more : List Command) → open_after was (commands ++ more) ≡ open_after (open_after was commands) more
open_both was [] more = refl
open_both was (command ∷ commands) more = open_both (open_with was command) commands more

pub streams_more : (was : List BegunStream) (commands : List Command) (i : ℕ) (command : Command) → take (i + 1) commands ≡ take i commands ++ command ∷ []
    → streams_after was (take (i + 1) commands) ≡ streams_with (streams_after was (take i commands)) command
streams_more was commands i command e = ap (streams_after was) e ∙ streams_both was (take i commands) (command ∷ [])

pub open_more : (was : List ℕ) (commands : List Command) (i : ℕ) (command : Command) → take (i + 1) commands ≡ take i commands ++ command ∷ []
    → open_after was (take (i + 1) commands) ≡ open_with (open_after was (take i commands)) command
open_more was commands i command e = ap (open_after was) e ∙ open_both was (take i commands) (command ∷ [])

-- ---- a link begins only if one of the commands begins a link
some_begin : (commands : List Command) → list_any begins commands ≡ true → (begin : Begin) × (more : List Begin) × (begins_of commands ≡ begin ∷ more)
some_begin [] is = absurd (cc)
some_begin (BeginOf begin ∷ commands) is = (begin, begins_of commands, refl)
some_begin (PutOf put ∷ commands) is = some_begin commands is
some_begin (EndOf serial ∷ commands) is = some_begin commands is

no_begin : (commands : List Command) → list_any begins commands ≡ false → begins_of commands ≡ []
no_begin [] is = refl
no_begin (BeginOf begin ∷ commands) is = absurd (cc)
no_begin (PutOf put ∷ commands) is = no_begin commands is
no_begin (EndOf serial ∷ commands) is = no_begin commands is

pub begun_among : (utc : List ℕ) (options : ChangeOptions) (commands given : List Command) → BeginAt utc options commands given
    → list_any begins given ≡ true → list_any begins commands ≡ true
begun_among utc options commands given all is = by (list_any begins commands) refl
  where
    by : (b : Bool) → list_any begins commands ≡ b → list_any begins commands ≡ true
    by true e = e
    by false e =
        let (begin, more, some) = some_begin given is in
        absurd (subst (λ l. AllZip (BeginsAt utc options) l (begin ∷ more)) (no_begin commands e)
        (subst (AllZip (BeginsAt utc options) (begins_of commands)) some all))

-- ---- ends that are still to be run
pub fewer_ends : (ours : List ℕ) (streams : List StreamState) (i : ℕ) (stream : StreamState) → take (i + 1) streams ≡ take i streams ++ stream ∷ []
    → is_left ours stream ≡ true → length (ends_of ours (take i streams)) < length (ends_of ours streams)
fewer_ends ours streams i stream more left =
    let parts : (xs ys : List StreamState) → length (ends_of ours (xs ++ ys)) ≡ length (ends_of ours xs) + length (ends_of ours ys) = both in
    let all : length (ends_of ours streams) ≡ length (ends_of ours (take (i + 1) streams)) + length (ends_of ours (drop (i + 1) streams)) =
    ap (λ l. length (ends_of ours l)) (sym (take-append-drop (i + 1) streams)) ∙ parts (take (i + 1) streams) (drop (i + 1) streams) in
    let front : length (ends_of ours (take (i + 1) streams)) ≡ length (ends_of ours (take i streams)) + length (ends_of ours (stream ∷ [])) =
    ap (λ l. length (ends_of ours l)) more ∙ parts (take i streams) (stream ∷ []) in
    let last : length (ends_of ours (stream ∷ [])) ≡ 1 = rw left refl in
    omega (arith, all, front, last)
  where
    both : (xs ys : List StreamState) → length (ends_of ours (xs ++ ys)) ≡ length (ends_of ours xs) + length (ends_of ours ys)
    both xs ys =
        ap length (ap (map end_of) (filter-append (is_left ours) xs ys) ∙ map-append end_of (filter (is_left ours) xs) (filter (is_left ours) ys))
        ∙ length-append (ends_of ours xs) (ends_of ours ys)

pub on_err : {T E : Type 0} → (result : Result T E) (P : Type 0) → P → OnErr result P
on_err (Ok done) P p = tt
on_err (Err fault) P p = p
