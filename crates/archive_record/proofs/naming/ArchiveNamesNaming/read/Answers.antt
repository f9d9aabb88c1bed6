use Rattle.std.proofs.Common.{◌≡◌, ℕ, List, Some, sym, subst}
use Rattle.archive_names.specs.Name.{IsText}
use Rattle.archive_names.specs.declared.name.Kind.TheVariants.{Pages}
use Rattle.archive_record.specs.Spelling.{name_of}
use Rattle.archive_record.proofs.Spelled.{told_name, same_name, same_kind}
use Rattle.archive_record.proofs.naming.ArchiveNamesNaming.read.Goals as goal

pub returns-in-Pages-clause-each : goal.returns-in-Pages-clause-each
returns-in-Pages-clause-each c = λ file told spells.
    let found : c.read.result ≡ Some (name_of file, Pages) = c.read.ensures.each (name_of file) Pages (told_name file told) (subst (λ (t : List ℕ). IsText Pages (name_of file) t) (sym c.as_bytes.ensures.value) spells) in
    c.file_of.ensures.each file told (same_name c.read.result (name_of file) c.in-Some.name Pages c.in-Some.kind found c.in-Some.is)

pub returns-in-Times-clause-each : goal.returns-in-Times-clause-each
returns-in-Times-clause-each c = λ file told spells.
    let found : c.read.result ≡ Some (name_of file, Pages) = c.read.ensures.each (name_of file) Pages (told_name file told) (subst (λ (t : List ℕ). IsText Pages (name_of file) t) (sym c.as_bytes.ensures.value) spells) in
    let same : Pages ≡ c.in-Some.kind = same_kind c.read.result (name_of file) c.in-Some.name Pages c.in-Some.kind found c.in-Some.is in
    let is = c.in-Times.is in cc

pub returns-in-Keep-clause-each : goal.returns-in-Keep-clause-each
returns-in-Keep-clause-each c = λ file told spells.
    let found : c.read.result ≡ Some (name_of file, Pages) = c.read.ensures.each (name_of file) Pages (told_name file told) (subst (λ (t : List ℕ). IsText Pages (name_of file) t) (sym c.as_bytes.ensures.value) spells) in
    let same : Pages ≡ c.in-Some.kind = same_kind c.read.result (name_of file) c.in-Some.name Pages c.in-Some.kind found c.in-Some.is in
    let is = c.in-Keep.is in cc

pub returns-in-None-clause-each : goal.returns-in-None-clause-each
returns-in-None-clause-each c = λ file told spells.
    let found : c.read.result ≡ Some (name_of file, Pages) = c.read.ensures.each (name_of file) Pages (told_name file told) (subst (λ (t : List ℕ). IsText Pages (name_of file) t) (sym c.as_bytes.ensures.value) spells) in
    let is = c.in-None.is in cc
