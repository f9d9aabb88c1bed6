use Rattle.std.proofs.Common.{◌≡◌, ◌∷◌, [], true, List, ℕ, length, sym, ◌∙◌, ap, subst, arith}
use Rattle.std.proofs.lemmas.Bool.{ltb-false}
use Rattle.ogg_page.specs.Page.{Page}
use Rattle.packetiser.specs.Run.{pages_of_run, flagged}
use Rattle.packetiser.specs.PageSpace.{NextFits, NextMade}
use Rattle.skeleton3.specs.Fields.{NamedValue}
use Rattle.skeleton3.specs.Fisbone.{fisbone_bytes_with, fisbone_of as lent_fisbone}
use Rattle.skeleton3.specs.FisboneLaws.{length-fisbone_bytes_with}
use Rattle.command_pages.specs.Encoding.{header, fisbone_of, fisbone_packet}
use Rattle.command_pages.proofs.LaidHeaders.{unflagged}
use Rattle.command_pages.proofs.beginning.make_fisbone.Goals as goal

pub packet_with-fisbone-requires : goal.packet_with-fisbone-requires
packet_with-fisbone-requires g c =
    let same = ap (λ (l : List NamedValue). length (fisbone_bytes_with l (lent_fisbone c.fisbone_of.result))) c.as_slice.ensures ∙ ap (λ f. length (fisbone_bytes_with c.args.stream.now.fields f)) c.fisbone_of.ensures in
    omega (arith, same, length-fisbone_bytes_with c.args.stream.now.fields (fisbone_of c.args.stream.now), ltb-false _ _ c.requires.message)

pub make_packet-requires-clause-short : goal.make_packet-requires-clause-short
make_packet-requires-clause-short g c =
    let same : c.as_slice-2.result.now ≡ fisbone_packet c.args.stream.now = c.as_slice-2.ensures.value ∙ c.packet_with-fisbone.ensures ∙ ap (λ (l : List NamedValue). fisbone_bytes_with l (lent_fisbone c.fisbone_of.result)) c.as_slice.ensures ∙ ap (fisbone_bytes_with c.args.stream.now.fields) c.fisbone_of.ensures in
    omega (arith, ap length same, length-fisbone_bytes_with c.args.stream.now.fields (fisbone_of c.args.stream.now), ltb-false _ _ c.requires.message)

pub returns : goal.returns
returns g c =
    let same : c.as_slice-2.result.now ≡ fisbone_packet c.args.stream.now = c.as_slice-2.ensures.value ∙ c.packet_with-fisbone.ensures ∙ ap (λ (l : List NamedValue). fisbone_bytes_with l (lent_fisbone c.fisbone_of.result)) c.as_slice.ensures ∙ ap (fisbone_bytes_with c.args.stream.now.fields) c.fisbone_of.ensures in
    subst (λ (l : List Page). NextMade g.S.PageSpace.has_made c.args.space.now l true [] c.make_packet.new.space) (unflagged (pages_of_run c.args.serial c.args.sequence (header (fisbone_packet c.args.stream.now) ∷ [])))
    (subst (λ (p : List ℕ). NextMade g.S.PageSpace.has_made c.args.space.now (flagged 0 (pages_of_run c.args.serial c.args.sequence (header p ∷ []))) true [] c.make_packet.new.space) same c.make_packet.ensures)

pub make_packet-requires-clause-room : goal.make_packet-requires-clause-room
make_packet-requires-clause-room g c =
    let same : c.as_slice-2.result.now ≡ fisbone_packet c.args.stream.now = c.as_slice-2.ensures.value ∙ c.packet_with-fisbone.ensures ∙ ap (λ (l : List NamedValue). fisbone_bytes_with l (lent_fisbone c.fisbone_of.result)) c.as_slice.ensures ∙ ap (fisbone_bytes_with c.args.stream.now.fields) c.fisbone_of.ensures in
    subst (λ (p : List ℕ). NextFits g.S.PageSpace.fits c.args.space.now (flagged 0 (pages_of_run c.args.serial c.args.sequence (header p ∷ [])))) (sym same)
    (subst (λ (l : List Page). NextFits g.S.PageSpace.fits c.args.space.now l) (sym (unflagged (pages_of_run c.args.serial c.args.sequence (header (fisbone_packet c.args.stream.now) ∷ [])))) c.requires.room)
