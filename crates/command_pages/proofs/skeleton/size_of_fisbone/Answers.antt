use Rattle.std.proofs.Common.{◌≡◌, List, length, ◌∙◌, sym, ap, arith}
use Rattle.skeleton3.specs.Fisbone.{fisbone_bytes_with, fisbone_of as lent_fisbone}
use Rattle.std.proofs.lemmas.Bool.{ltb-false}
use Rattle.skeleton3.specs.Fields.{NamedValue}
use Rattle.skeleton3.specs.FisboneLaws.{length-fisbone_bytes_with}
use Rattle.command_pages.specs.Encoding.{fisbone_of, fisbone_packet}
use Rattle.command_pages.proofs.skeleton.size_of_fisbone.Goals as goal

pub size_of_packet-requires : goal.size_of_packet-requires
size_of_packet-requires c =
    let size : c.size_with.result ≡ length (fisbone_packet c.args.stream.now) = c.size_with.ensures ∙ ap (λ (l : List NamedValue). length (fisbone_bytes_with l (lent_fisbone c.fisbone_of.result))) c.as_slice.ensures ∙ ap (λ f. length (fisbone_bytes_with c.args.stream.now.fields f)) c.fisbone_of.ensures in
    omega (arith, size, length-fisbone_bytes_with c.args.stream.now.fields (fisbone_of c.args.stream.now), ltb-false _ _ c.requires.message)

pub returns-clause-value : goal.returns-clause-value
returns-clause-value c = λ serial first.
    let size : c.size_with.result ≡ length (fisbone_packet c.args.stream.now) = c.size_with.ensures ∙ ap (λ (l : List NamedValue). length (fisbone_bytes_with l (lent_fisbone c.fisbone_of.result))) c.as_slice.ensures ∙ ap (λ f. length (fisbone_bytes_with c.args.stream.now.fields f)) c.fisbone_of.ensures in
    c.size_of_packet.ensures.value serial first (fisbone_packet c.args.stream.now) (sym size)

pub returns-clause-small : goal.returns-clause-small
returns-clause-small c =
    let size : c.size_with.result ≡ length (fisbone_packet c.args.stream.now) = c.size_with.ensures ∙ ap (λ (l : List NamedValue). length (fisbone_bytes_with l (lent_fisbone c.fisbone_of.result))) c.as_slice.ensures ∙ ap (λ f. length (fisbone_bytes_with c.args.stream.now.fields f)) c.fisbone_of.ensures in
    omega (arith, size, length-fisbone_bytes_with c.args.stream.now.fields (fisbone_of c.args.stream.now), ltb-false _ _ c.requires.message, c.size_of_packet.ensures.small)

pub size_with-requires : goal.size_with-requires
size_with-requires c =
    let same = ap (λ (l : List NamedValue). length (fisbone_bytes_with l (lent_fisbone c.fisbone_of.result))) c.as_slice.ensures ∙ ap (λ f. length (fisbone_bytes_with c.args.stream.now.fields f)) c.fisbone_of.ensures in
    omega (arith, same, length-fisbone_bytes_with c.args.stream.now.fields (fisbone_of c.args.stream.now), ltb-false _ _ c.requires.message)
