use Rattle.std.proofs.Common.{◌≡◌, ℕ, Option, List, Result, Ok, Err, sym, subst, rules}
use Rattle.std.specs.Prelude.{⊤, IfErr, IsOk}
use Rattle.fault_lines.specs.declared.fault.Fault.{Fault}
use Rattle.fault_lines.specs.declared.fault.Fault.TheVariants.{Split}
use Rattle.ogg_split.specs.Copying.{IsCopy}
use Rattle.ogg_split.specs.declared.fault.SplitFault.{SplitFault}
use Rattle.link_chain.specs.Links.{pages_with}
use Rattle.ogg_page.specs.Page.{bytes_of_pages}
use Rattle.file_actions.specs.Copies.{IsWritten, pages_asked}
use Rattle.file_actions.proofs.files.copy.Goals as goal

-- what is told of a copy is that of its answer
as_written : (old new : Option (List ℕ)) (text : List ℕ) (answer : Result ℕ SplitFault) (result : Result ⊤ Fault) → IsCopy old new text answer → (IsOk answer → result ≡ Ok tt)
    → IfErr answer (λ fault. result ≡ Err (Split fault)) → IsWritten old new text result
as_written old new text (Ok count) result copied ok err = subst (IsWritten old new text) (sym (ok (search rules))) copied.1
as_written old new text (Err fault) result copied ok err = subst (IsWritten old new text) (sym err) copied

pub returns-in-Some-clause-copied : goal.returns-in-Some-clause-copied
returns-in-Some-clause-copied g c = λ links pages honest indexed at.
    let old = g.W.Write.contents c.args.out.now in
    let new = g.W.Write.contents c.copy_stream_from.new.out in
    subst (λ (asked : Option ℕ). IsWritten old new (bytes_of_pages (pages_asked asked pages)) c.copied.result) (sym c.in-Some.is)
    (as_written old new (bytes_of_pages (pages_with c.in-Some.serial pages)) c.copy_stream_from.result c.copied.result
    (c.copy_stream_from.ensures.copied links pages honest indexed at) c.copied.ensures.ok c.copied.ensures.err)

pub returns-in-None-clause-copied : goal.returns-in-None-clause-copied
returns-in-None-clause-copied g c = λ links pages honest indexed at.
    let old = g.W.Write.contents c.args.out.now in
    let new = g.W.Write.contents c.copy_link_from.new.out in
    subst (λ (asked : Option ℕ). IsWritten old new (bytes_of_pages (pages_asked asked pages)) c.copied-in-None.result) (sym c.in-None.is)
    (as_written old new (bytes_of_pages pages) c.copy_link_from.result c.copied-in-None.result
    (c.copy_link_from.ensures.copied links pages honest indexed at) c.copied-in-None.ensures.ok c.copied-in-None.ensures.err)

pub returns-in-Some-clause-cause : goal.returns-in-Some-clause-cause
returns-in-Some-clause-cause g c = λ links honest indexed told. c.copy_stream_from.ensures.cause links honest indexed (c.copied.ensures.source told)

pub returns-in-None-clause-cause : goal.returns-in-None-clause-cause
returns-in-None-clause-cause g c = λ links honest indexed told. c.copy_link_from.ensures.cause links honest indexed (c.copied-in-None.ensures.source told)
