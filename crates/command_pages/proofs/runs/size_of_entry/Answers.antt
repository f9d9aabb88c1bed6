use Rattle.std.proofs.Common.{List, [], ◌∷◌, arith, ◌∙◌}
use Rattle.ogg_command.specs.declared.command.Entry.{Entry}
use Rattle.link_chain.specs.declared.stream_state.StreamState.{StreamState}
use Rattle.command_pages.proofs.RunPages.{IsCounted}
use Rattle.command_pages.proofs.LoneEntry.{entry_counted, entry_sized, entry_far, entry_small, entry_behind}
use Rattle.command_pages.proofs.runs.size_of_entry.Goals as goal

pub returns-in_default-clause-value : goal.returns-in_default-clause-value
returns-in_default-clause-value c =
    let streams : List StreamState = c.args.streams.now in
    let entry : Entry = c.args.entry.now in
    let counted : IsCounted streams (entry ∷ []) c.values_of-values.result c.len-bytes.result = entry_counted streams entry c.values_of-values.result c.len-bytes.result c.len-bytes.ensures c.values_of-values.ensures in
    entry_far streams entry c.values_of-values.result c.len-bytes.result counted
    (λ few. c.in_default.ensures (omega (arith, few, c.next_at.ensures entry.serial c.requires.place, c.pages_of.ensures)))

pub returns-clause-value : goal.returns-clause-value
returns-clause-value c =
    let streams : List StreamState = c.args.streams.now in
    let entry : Entry = c.args.entry.now in
    let counted : IsCounted streams (entry ∷ []) c.values_of-values.result c.len-bytes.result = entry_counted streams entry c.values_of-values.result c.len-bytes.result c.len-bytes.ensures c.values_of-values.ensures in
    entry_sized streams entry c.values_of-values.result c.len-bytes.result c.size_of.result counted
    (omega (arith, c.in-Some.ensures.0, c.next_at.ensures entry.serial c.requires.place, c.pages_of.ensures)) c.size_of.ensures

pub returns-clause-small : goal.returns-clause-small
returns-clause-small c =
    let streams : List StreamState = c.args.streams.now in
    let entry : Entry = c.args.entry.now in
    let counted : IsCounted streams (entry ∷ []) c.values_of-values.result c.len-bytes.result = entry_counted streams entry c.values_of-values.result c.len-bytes.result c.len-bytes.ensures c.values_of-values.ensures in
    omega (arith, c.size_of.ensures, entry_small streams entry c.values_of-values.result c.len-bytes.result counted, c.requires.short)

pub returns-clause-after : goal.returns-clause-after
returns-clause-after c =
    let streams : List StreamState = c.args.streams.now in
    let entry : Entry = c.args.entry.now in
    let counted : IsCounted streams (entry ∷ []) c.values_of-values.result c.len-bytes.result = entry_counted streams entry c.values_of-values.result c.len-bytes.result c.len-bytes.ensures c.values_of-values.ensures in
    c.bring_stream.ensures entry.serial c.requires.distinct c.requires.place
    ∙ entry_behind streams entry c.values_of-values.result c.len-bytes.result c.in-Some.sequence counted
    (omega (arith, c.in-Some.ensures.1, c.next_at.ensures entry.serial c.requires.place, c.pages_of.ensures))
