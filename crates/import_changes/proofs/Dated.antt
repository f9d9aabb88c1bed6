-- At which time of day links were changed.
use Rattle.std.proofs.Common.{◌≡◌, ℕ, Bool, true, false, List, [], ◌∷◌, ◌++◌, map, refl, sym, ◌∙◌, ap, subst}
use Rattle.std.specs.Prelude.{Option, Some, None}
use Rattle.std.specs.List.{AllZip, cons_option}
use Rattle.std.proofs.lemmas.List.Elements.{filter_map-append}
use Rattle.ogg_command.specs.declared.command.Command.{Command}
use Rattle.ogg_command.specs.declared.command.Command.TheVariants.{Begin as BeginOf, Put as PutOf, End as EndOf}
use Rattle.ogg_command.specs.declared.command.Begin.{Begin}
use Rattle.ogg_command.specs.declared.command.Entry.{Entry}
use Rattle.import_changes.specs.declared.options.ChangeOptions.{ChangeOptions}
use Rattle.import_changes.specs.declared.options.Skeletons.{Skeletons}
use Rattle.import_changes.specs.declared.options.Skeletons.TheVariants.{Kept, LeftOut, Made}
use Rattle.import_changes.specs.Options.{is_none, is_none_with}
use Rattle.import_changes.specs.Changed.{ChangeState}
use Rattle.import_changes.specs.Naming.{stream_named}
use Rattle.import_changes.specs.Skeletons.{begin_of, begins_of, made_for, said_in, staying}
use Rattle.import_changes.specs.Steps.{BeginAt, Begins, BeginsAs, BeginsAt, SaysTime, end_of, option_list, put_of}
use Rattle.import_changes.proofs.Names.{clash}

-- ---- one command
pub begin_at : (utc : List ℕ) (old new : ChangeState) (begin : Begin) (now : Command) → Begins utc old new begin now
    → BeginAt utc old.options (BeginOf begin ∷ []) (now ∷ [])
begin_at utc old new begin now b =
    by (made_for old.options.skeletons (staying old.options.skeletons begin.streams)) refl b.begins
  where
    by : (o : Option ℕ) → made_for old.options.skeletons (staying old.options.skeletons begin.streams) ≡ o
        → BeginsAs o utc (said_in old.options.skeletons begin.streams) b.state new begin.skeleton
        (staying old.options.skeletons begin.streams) now
        → BeginAt utc old.options (BeginOf begin ∷ []) (now ∷ [])
    by None e begins =
        let begun : Begin = record { skeleton = begin.skeleton; streams = map (stream_named b.state.names) (staying old.options.skeletons begin.streams) } in
        subst (λ c. BeginAt utc old.options (BeginOf begin ∷ []) (c ∷ [])) (sym begins.now_is)
        (record { says = subst (λ o. SaysTime o utc (said_in old.options.skeletons begin.streams) begun) (sym e) tt }, tt)
    by (Some from) e begins =
        let begun : Begin = record { skeleton = Some begins.head; streams = begins.described } in
        subst (λ c. BeginAt utc old.options (BeginOf begin ∷ []) (c ∷ [])) (sym begins.now_is) (
          record {
            says = subst (λ o. SaysTime o utc (said_in old.options.skeletons begin.streams) begun) (sym e) (begins.head, refl, begins.head_said);
          },
          tt,
        )

pub put_at_time : (utc : List ℕ) (options : ChangeOptions) (command : Command) (entries : List Entry) → begin_of command ≡ None
    → BeginAt utc options (command ∷ []) (option_list (put_of entries))
put_at_time utc options command [] none = rw none tt
put_at_time utc options command (entry ∷ entries) none = rw none tt

pub end_at_time : (utc : List ℕ) (options : ChangeOptions) (command : Command) (serial : Option ℕ) → begin_of command ≡ None
    → BeginAt utc options (command ∷ []) (option_list (end_of serial))
end_at_time utc options command None none = rw none tt
end_at_time utc options command (Some serial) none = rw none tt

-- ---- nothing is changed
no_skeleton : (utc : List ℕ) (skeletons : Skeletons) (renumber : Bool) (begin : Begin) → is_none_with skeletons renumber ≡ true
    → BeginsAt utc (record { renumber = renumber; skeletons = skeletons }) begin begin
no_skeleton utc Kept renumber begin e = record { says = tt }
no_skeleton utc LeftOut renumber begin e = clash e refl
no_skeleton utc (Made from) renumber begin e = clash e refl

same_begins : (utc : List ℕ) (options : ChangeOptions) (begins : List Begin) → is_none options ≡ true → AllZip (BeginsAt utc options) begins begins
same_begins utc options [] is = tt
same_begins utc options (begin ∷ begins) is = (no_skeleton utc options.skeletons options.renumber begin is, same_begins utc options begins is)

pub same_at : (utc : List ℕ) (options : ChangeOptions) (commands : List Command) → is_none options ≡ true → BeginAt utc options commands commands
same_at utc options commands is = same_begins utc options (begins_of commands) is

-- ---- one after the other
zip_both : {A B : Type 0} (R : A → B → Type 0) (xs more : List A) (ys others : List B) → AllZip R xs ys → AllZip R more others
    → AllZip R (xs ++ more) (ys ++ others)
zip_both R [] more [] others all each = each
zip_both R [] more (y ∷ ys) others all each = absurd all
zip_both R (x ∷ xs) more [] others all each = absurd all
zip_both R (x ∷ xs) more (y ∷ ys) others (p, all) each = (p, zip_both R xs more ys others all each)

pub both_at : (utc : List ℕ) (options : ChangeOptions) (commands more given others : List Command) → BeginAt utc options commands given
    → BeginAt utc options more others → BeginAt utc options (commands ++ more) (given ++ others)
both_at utc options commands more given others all each =
    subst (λ l. AllZip (BeginsAt utc options) l (begins_of (given ++ others))) (sym (filter_map-append begin_of commands more))
    (subst (AllZip (BeginsAt utc options) (begins_of commands ++ begins_of more)) (sym (filter_map-append begin_of given others))
    (zip_both (BeginsAt utc options) (begins_of commands) (begins_of more) (begins_of given) (begins_of others) all each))
