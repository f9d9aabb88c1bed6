use Rattle.std.proofs.Common.{◌≡◌, ◌≤◌, ◌+◌, ◌%◌, ◌/◌, ℕ, List, ◌++◌, Ok, Some, drop, length, take, sym, refl, ◌∙◌, ap, arith, length-append}
use Rattle.std.proofs.Math.Seq.{take-length}
use Rattle.std.specs.Prelude.{nat_eq}
use Rattle.ogg_page.specs.Head.{Stands, head_size, header_of}
use Rattle.ogg_page.specs.Lacing.{ends_open}
use Rattle.ogg_page.specs.LogicalStream.{is_first, is_last}
use Rattle.ogg_page.specs.Page.{IsPage, Page, page_bytes, page_size}
use Rattle.ogg_page.specs.PageLaws.{length-page_bytes}
use Rattle.archive_cut.proofs.Walked.{head_in_front, lacing_is}
use Rattle.archive_cut.proofs.heads.said_with_size.Goals as goal

-- the bytes begin with a page
stands_in_front : (page : Page) (rest : List ℕ) → IsPage page → Stands (page_bytes page ++ rest) page
stands_in_front page rest is = record { is_page = is; tail = rest; spelled = refl }

fits : (bytes : List ℕ) (page : Page) (rest : List ℕ) → bytes ≡ page_bytes page ++ rest → head_size page ≤ length bytes
fits bytes page rest spelled = omega (arith, ap length spelled, length-append (page_bytes page) rest, length-page_bytes page)

all_of : (bytes : List ℕ) (page : Page) (rest : List ℕ) → bytes ≡ page_bytes page ++ rest → bytes ≡ take (length bytes) (page_bytes page ++ rest)
all_of bytes page rest spelled = sym (take-length bytes) ∙ ap (take (length bytes)) spelled

pub returns-in-Err : goal.returns-in-Err
returns-in-Err c page rest is spelled =
    let bytes = c.args.bytes.now in
    let read : c.read_header.result ≡ Ok (header_of page) =
    c.read_header.ensures.each (page_bytes page ++ rest) page (length bytes) (stands_in_front page rest is) (fits bytes page rest spelled) (all_of bytes page rest spelled) in
    cc

pub returns-in-Ok : goal.returns-in-Ok
returns-in-Ok c page rest is spelled =
    let bytes = c.args.bytes.now in
    let read : c.read_header.result ≡ Ok (header_of page) =
    c.read_header.ensures.each (page_bytes page ++ rest) page (length bytes) (stands_in_front page rest is) (fits bytes page rest spelled) (all_of bytes page rest spelled) in
    let same : c.in-Ok.header ≡ header_of page = cc in
    let head : c.split_at.result.0.now ≡ take (head_size page) (page_bytes page) =
    c.split_at.ensures.front ∙ ap (λ h. take (27 + h.values) bytes) same ∙ ap (take (head_size page)) spelled ∙ head_in_front page rest in
    let lacing : c.split_at-in-Ok.result.1.now ≡ page.lacing = c.split_at-in-Ok.ensures.back ∙ ap (drop 27) head ∙ lacing_is page in
    let begins : nat_eq (c.in-Ok.header.head.flags / 2 % 2) 1 ≡ is_first page = ap (λ h. nat_eq (h.head.flags / 2 % 2) 1) same in
    let ends : nat_eq (c.in-Ok.header.head.flags / 4 % 2) 1 ≡ is_last page = ap (λ h. nat_eq (h.head.flags / 4 % 2) 1) same in
    let serial : c.in-Ok.header.head.serial ≡ page.serial = ap (λ h. h.head.serial) same in
    let number : c.in-Ok.header.head.sequence ≡ page.sequence = ap (λ h. h.head.sequence) same in
    let position : c.in-Ok.header.head.position ≡ page.position = ap (λ h. h.head.position) same in
    let values : nat_eq c.in-Ok.header.values 0 ≡ nat_eq (length page.lacing) 0 = ap (λ h. nat_eq h.values 0) same in
    let open' : c.ends_open.result ≡ ends_open page.lacing = c.ends_open.ensures ∙ ap ends_open lacing in
    let size : (27 + c.in-Ok.header.values) + c.in-Ok.header.body ≡ page_size page = ap (λ h. (27 + h.values) + h.body) same in
    (λ i. Some (
      record {
        begins = begins i;
        ends = ends i;
        serial = serial i;
        number = number i;
        position = position i;
        is_empty = values i;
        goes_on = open' i;
      },
      size i,
    ))
