use Rattle.std.proofs.Common.{◌≡◌, ℕ, Ok, List, ◌++◌, length, take, drop, refl, sym, ◌∙◌, ap, arith, append_assoc}
use Rattle.std.specs.Prelude.{bit_xor}
use Rattle.std.proofs.lemmas.List.{drop_at, take_at}
use Rattle.byteorder.specs.Endian.{little_bytes}
use Rattle.ogg_page.specs.Head.{checksum_in, header_of}
use Rattle.ogg_page.specs.Page.{page_bytes, page_size}
use Rattle.ogg_page.specs.PageLaws.{length-page_bytes}
use Rattle.serve_live.specs.Renaming.{back_of}
use Rattle.serve_live.specs.Renaming.{head_of, names_change, names_of, page_change}
use Rattle.archive_cut.proofs.Continued.{all_taken, before_back, before_size, in_two}
use Rattle.serve_live.specs.RenamingLaws.{old_names, retold_bytes}
use Rattle.archive_cut.proofs.Walked.{stands_alone}
use Rattle.archive_cut.proofs.retelling.retell.Goals as goal

pub returns-in_default : goal.returns-in_default
returns-in_default c page is spelled =
    let read : c.read_header.result ≡ Ok (header_of page) =
    c.read_header.ensures.each (page_bytes page) page (page_size page) (stands_alone page is) (omega arith) (all_taken c.args.page.now page spelled) in
    cc

pub returns-then-is_named : goal.returns-then-is_named
returns-then-is_named c page is spelled =
    let read : c.read_header.result ≡ Ok (header_of page) =
    c.read_header.ensures.each (page_bytes page) page (page_size page) (stands_alone page is) (omega arith) (all_taken c.args.page.now page spelled) in
    let same : c.in-Ok.header ≡ header_of page = cc in
    spelled ∙ ap page_bytes (sym (c.is_named.ensures page same c.if-is_named.true))

pub returns-else-is_named : goal.returns-else-is_named
returns-else-is_named c page is spelled =
    let read : c.read_header.result ≡ Ok (header_of page) =
    c.read_header.ensures.each (page_bytes page) page (page_size page) (stands_alone page is) (omega arith) (all_taken c.args.page.now page spelled) in
    let same : c.in-Ok.header ≡ header_of page = cc in
    let serial : ℕ = c.args.serial in
    let number : ℕ = c.args.number in
    let old : List ℕ = c.args.page.now in
    let back : List ℕ = back_of page in
    let sum : ℕ = bit_xor (checksum_in page) (page_change page serial number) in
    let size : length old ≡ page_size page = ap length spelled ∙ length-page_bytes page in
    let sum_is : bit_xor c.in-Ok.header.checksum c.names_change-change.result ≡ sum =
    ap (bit_xor c.in-Ok.header.checksum)
    (c.names_change-change.ensures ∙ ap (λ h. names_change h.head.serial h.head.sequence serial number (length old)) same
    ∙ ap (names_change page.serial page.sequence serial number) size)
    ∙ ap (λ h. bit_xor h.checksum (page_change page serial number)) same in
    let front : take 14 old ≡ head_of page =
    ap (take 14) (spelled ∙ old_names page)
    ∙ take_at (head_of page) (names_of page.serial page.sequence ++ (little_bytes 4 (checksum_in page) ++ back)) 14 refl in
    let rest : drop 26 old ≡ back = ap (drop 26) (spelled ∙ in_two page) ∙ drop_at (before_back page) back 26 (before_size page) in
    c.put_names.ensures
    ∙ ap (λ n. take 14 old ++ ((names_of serial number ++ little_bytes 4 n) ++ drop 26 old)) sum_is
    ∙ ap (λ l. l ++ ((names_of serial number ++ little_bytes 4 sum) ++ drop 26 old)) front
    ∙ ap (λ l. head_of page ++ ((names_of serial number ++ little_bytes 4 sum) ++ l)) rest
    ∙ ap (λ l. head_of page ++ l) (append_assoc (names_of serial number) (little_bytes 4 sum) back)
    ∙ sym (retold_bytes serial number page is (omega arith) (omega arith))
