use Rattle.std.proofs.Common.{ℕ, Option, Some, sym, ◌∙◌, ap, subst, option_map}
use Rattle.link_index.specs.declared.info.LinkInfo.{LinkInfo}
use Rattle.serve_responses.specs.Response.{content_of, stream_in_link}
use Rattle.ogg_http.specs.declared.target.Resource.TheVariants.{Stream as StreamOf}
use Rattle.serve_sending.specs.Answering.{IsFound, bytes_with}
use Rattle.serve_sending.specs.declared.finding.Found.TheVariants.{Pages as PagesOf}
use Rattle.serve_sending.proofs.Located.{stream_found, info_is, no_link, no_info, some_entry, no_true}
use Rattle.serve_sending.proofs.finding.find_stream.Goals as goal

pub returns-in-Some-bytes_with : goal.returns-in-Some-bytes_with
returns-in-Some-bytes_with c committed text links are is =
    let (entry, there, same) = c.in-Some-streams.ensures.streams in
    let info = info_is c.args.index.now.entries c.args.number entry c.in-Some.link there (sym c.link.ensures ∙ c.in-Some.is) in
    let bytes = ap (bytes_with c.args.serial) (sym same) ∙ sym c.bytes_with.ensures ∙ c.in-Some-bytes_with.is in
    subst (λ (i : LinkInfo). IsFound committed text (content_of links (StreamOf c.args.number c.args.serial)) (Some (PagesOf c.args.serial i.start c.in-Some-bytes_with.bytes))) info
    (subst (λ (o : Option ℕ). IsFound committed text (content_of links (StreamOf c.args.number c.args.serial)) (option_map (λ n. PagesOf c.args.serial entry.info.start n) o)) bytes
    (stream_found committed text links c.args.index.now c.args.number c.args.serial entry are is there))

pub returns-in-None-bytes_with : goal.returns-in-None-bytes_with
returns-in-None-bytes_with c committed text links are is =
    let (entry, there, same) = c.in-Some-streams.ensures.streams in
    let bytes = ap (bytes_with c.args.serial) (sym same) ∙ sym c.bytes_with.ensures ∙ c.in-None-bytes_with.is in
    subst (λ (o : Option ℕ). IsFound committed text (content_of links (StreamOf c.args.number c.args.serial)) (option_map (λ n. PagesOf c.args.serial entry.info.start n) o)) bytes
    (stream_found committed text links c.args.index.now c.args.number c.args.serial entry are is there)

pub returns-in-None-streams : goal.returns-in-None-streams
returns-in-None-streams c committed text links are is =
    absurd (no_true (c.in-None-streams.ensures.some.1 (some_entry c.args.index.now.entries c.args.number c.in-Some.link (sym c.link.ensures ∙ c.in-Some.is))))

pub returns-in-None : goal.returns-in-None
returns-in-None c committed text links are is =
    no_link committed text links c.args.index.now c.args.number (stream_in_link c.args.serial) is are
    (no_info links c.args.index.now c.args.number (sym c.link.ensures ∙ c.in-None.is))
