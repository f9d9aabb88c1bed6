use Rattle.std.proofs.Common.{◌≡◌, Ok, Some, drop, length, take, ◌∙◌, ap, arith}
use Rattle.std.specs.Prelude.{nat_eq}
use Rattle.ogg_page.specs.Head.{head_size, header_of}
use Rattle.ogg_page.specs.Lacing.{ends_open}
use Rattle.ogg_page.specs.LogicalStream.{is_first, is_last}
use Rattle.ogg_page.specs.Page.{page_bytes}
use Rattle.archive_cut.proofs.Walked.{lacing_is, stands_alone}
use Rattle.archive_cut.proofs.heads.said_by.Goals as goal

pub returns-in-Err : goal.returns-in-Err
returns-in-Err c page is =
    let head : c.split_at.result.0.now ≡ take (head_size page) (page_bytes page) =
    c.split_at.ensures.front ∙ ap (λ f. take f.len c.args.front.now.bytes) is.facts ∙ is.bytes in
    let read : c.read_header.result ≡ Ok (header_of page) =
    c.read_header.ensures.each (page_bytes page) page (head_size page) (stands_alone page is.is_page) (omega arith) head in
    cc

pub returns-in-Ok : goal.returns-in-Ok
returns-in-Ok c page is =
    let head : c.split_at.result.0.now ≡ take (head_size page) (page_bytes page) =
    c.split_at.ensures.front ∙ ap (λ f. take f.len c.args.front.now.bytes) is.facts ∙ is.bytes in
    let read : c.read_header.result ≡ Ok (header_of page) =
    c.read_header.ensures.each (page_bytes page) page (head_size page) (stands_alone page is.is_page) (omega arith) head in
    let same : c.in-Ok.header ≡ header_of page = cc in
    let lacing : c.split_at-in-Ok.result.1.now ≡ page.lacing = c.split_at-in-Ok.ensures.back ∙ ap (drop 27) head ∙ lacing_is page in
    let begins : c.args.front.now.facts.begins ≡ is_first page = ap (λ f. f.begins) is.facts in
    let ends : c.args.front.now.facts.ends ≡ is_last page = ap (λ f. f.ends) is.facts in
    let serial : c.args.front.now.facts.serial ≡ page.serial = ap (λ f. f.serial) is.facts in
    let number : c.args.front.now.facts.number ≡ page.sequence = ap (λ f. f.number) is.facts in
    let position : c.in-Ok.header.head.position ≡ page.position = ap (λ h. h.head.position) same in
    let values : nat_eq c.in-Ok.header.values 0 ≡ nat_eq (length page.lacing) 0 = ap (λ h. nat_eq h.values 0) same in
    let open' : c.ends_open.result ≡ ends_open page.lacing = c.ends_open.ensures ∙ ap ends_open lacing in
    (λ i. Some (record {
      begins = begins i;
      ends = ends i;
      serial = serial i;
      number = number i;
      position = position i;
      is_empty = values i;
      goes_on = open' i;
    }))
