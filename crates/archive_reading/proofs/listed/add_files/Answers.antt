use Rattle.std.proofs.Common.{ap, ◌∙◌, ◌++◌, ◌∷◌, [], Bool, Option, if◌then◌else◌}
use Rattle.archive_reading.specs.Folder.{option_list}
use Rattle.archive_reading.specs.declared.listed.Listed.{Listed}
use Rattle.archive_reading.proofs.Groups.{all_done, one_done}
use Rattle.archive_reading.proofs.listed.add_files.Goals as goal

pub loop-first-preserved : goal.loop-first-preserved
loop-first-preserved c =
    let first = c.in-Some.first.now in
    let group = c.split_number.result.0.now in
    let split = c.split_number.ensures in
    one_done c.args.entries.now c.loop-first.files.items c.loop-first.twice.items first c.in-Some.field-0-1.now c.loop-first.rest.now group
    c.split_number.result.1.now c.push_file.new.files.items c.push_number.new.numbers.items c.loop-first.invariant c.in-Some.ensures.cases.0
    split.joined split.same split.other
    (c.in_ok-push_file.ensures ∙ ap (λ (file : Option Listed). c.loop-first.files.items ++ option_list file) c.file_of.ensures)
    (c.in_ok-push_number.ensures ∙ ap (λ (twice : Bool). c.loop-first.twice.items ++ (if twice then first.name.number ∷ [] else [])) c.is_twice.ensures)

pub returns : goal.returns
returns c = record {
  grouped = λ up.
      all_done c.args.entries.now c.loop-first.rest.now c.loop-first.files.items c.loop-first.twice.items c.loop-first.invariant c.in_default.ensures.cases up;
}
