use Rattle.std.proofs.Common.{◌≡◌, ℕ, ◌+◌, ◌-◌, ◌%◌, ◌^◌, false, List, ◌++◌, take, drop, refl, sym, ◌∙◌, ap, arith, append_assoc}
use Rattle.std.specs.Prelude.{bit_xor}
use Rattle.std.proofs.lemmas.Bool.{cond-false}
use Rattle.byteorder.specs.Endian.{little_bytes}
use Rattle.ogg_page.specs.Page.{Page, page_bytes}
use Rattle.ogg_page.specs.LogicalStream.{is_first}
use Rattle.serve_live.specs.Names.{name_in}
use Rattle.serve_live.specs.Heads.{next_heard}
use Rattle.ogg_page.specs.Head.{checksum_in}
use Rattle.serve_live.specs.Heard.{named_page}
use Rattle.serve_live.specs.Renaming.{back_of, head_of, names_change, names_of, page_change, retold}
use Rattle.serve_live.specs.RenamingLaws.{heads_alike, old_names, retold_bytes, wrapped_bytes}
use Rattle.serve_live.specs.declared.names.StreamName.{StreamName}
use Rattle.serve_live.proofs.heads.put_heard.Goals as goal

-- the number with which the page is heard
abbrev number_of : StreamName → Page → ℕ
number_of stream page = stream.more + (page.sequence - stream.less)

-- the bytes of the page as it is heard
heard_bytes : (names : ℕ → StreamName) (stream : StreamName) (number : ℕ) (page : Page) → is_first page ≡ false → stream ≡ names page.serial →
    number ≡ number_of stream page % 2 ^ 32 → page_bytes (next_heard names page) ≡ page_bytes (retold stream.name number page)
heard_bytes names stream number page later is number_is =
    ap page_bytes (cond-false (is_first page) page (named_page names page) later)
    ∙ ap (λ (s : StreamName). page_bytes (retold s.name (number_of s page) page)) (sym is)
    ∙ wrapped_bytes stream.name (number_of stream page) page
    ∙ ap (λ n. page_bytes (retold stream.name n page)) (sym number_is)

pub returns-then-stream-facts-clause-heard : goal.returns-then-stream-facts-clause-heard
returns-then-stream-facts-clause-heard c page n is facts least same =
    let names = name_in c.args.names.now in
    let stream = c.name_in-stream.result in
    let number : ℕ = c.number_heard-number.result in
    let bytes : List ℕ = c.args.bytes.now in
    let later : is_first page ≡ false = sym (ap (λ x. x.begins) facts) ∙ c.if-facts.false in
    let named : stream ≡ names page.serial = c.name_in-stream.ensures ∙ ap names (ap (λ x. x.serial) facts) in
    let number_is : number ≡ number_of stream page % 2 ^ 32 =
    c.number_heard-number.ensures ∙ ap (λ n. (stream.more + (n - stream.less)) % 2 ^ 32) (c.from.ensures ∙ ap (λ x. x.number) facts) in
    let change : ℕ = page_change page stream.name number in
    let sum : ℕ = bit_xor (checksum_in page) change in
    let sum_is : bit_xor c.args.facts.checksum c.names_change-change.result ≡ sum =
    ap (bit_xor c.args.facts.checksum)
    (c.names_change-change.ensures
    ∙ ap (λ n. names_change n c.args.facts.number stream.name number c.args.facts.size) (ap (λ x. x.serial) facts)
    ∙ ap (λ n. names_change page.serial n stream.name number c.args.facts.size) (ap (λ x. x.number) facts)
    ∙ ap (names_change page.serial page.sequence stream.name number) (ap (λ x. x.size) facts))
    ∙ ap (λ n. bit_xor n change) (ap (λ x. x.checksum) facts) in
    let k : ℕ = n - 26 in
    let at : n ≡ 26 + k = omega (arith, least) in
    let new : List ℕ = names_of stream.name number ++ little_bytes 4 sum in
    let put : c.put_names.new.header ≡ take 14 bytes ++ (new ++ drop 26 bytes) =
    c.put_names.ensures ∙ ap (λ n. take 14 bytes ++ ((names_of stream.name number ++ little_bytes 4 n) ++ drop 26 bytes)) sum_is in
    let old : List ℕ = names_of page.serial page.sequence ++ little_bytes 4 (checksum_in page) in
    let was : page_bytes page ≡ head_of page ++ (old ++ back_of page) =
    old_names page ∙ ap (λ l. head_of page ++ l) (sym (append_assoc (names_of page.serial page.sequence) (little_bytes 4 (checksum_in page)) (back_of page))) in
    let now : page_bytes (next_heard names page) ≡ head_of page ++ (new ++ back_of page) =
    heard_bytes names stream number page later named number_is
    ∙ retold_bytes stream.name number page is (omega arith) c.number_heard-number.type_inv
    ∙ ap (λ l. head_of page ++ l) (sym (append_assoc (names_of stream.name number) (little_bytes 4 sum) (back_of page))) in
    ap (take n) put
    ∙ ap (λ m. take m (take 14 bytes ++ (new ++ drop 26 bytes))) at
    ∙ heads_alike bytes (head_of page) old new (back_of page) k refl refl refl c.requires.1
    (ap (λ m. take m bytes) (sym at) ∙ same ∙ ap (λ m. take m (page_bytes page)) at ∙ ap (take (26 + k)) was)
    ∙ ap (take (26 + k)) (sym now)
    ∙ ap (λ m. take m (page_bytes (next_heard names page))) (sym at)

pub returns-else-number-facts-clause-heard : goal.returns-else-number-facts-clause-heard
returns-else-number-facts-clause-heard c page n is facts least same =
    let names = name_in c.args.names.now in
    let stream = c.name_in-stream.result in
    let number : ℕ = c.number_heard-number.result in
    let later : is_first page ≡ false = sym (ap (λ x. x.begins) facts) ∙ c.if-facts.false in
    let named : stream ≡ names page.serial = c.name_in-stream.ensures ∙ ap names (ap (λ x. x.serial) facts) in
    let number_is : number ≡ number_of stream page % 2 ^ 32 =
    c.number_heard-number.ensures ∙ ap (λ n. (stream.more + (n - stream.less)) % 2 ^ 32) (c.from.ensures ∙ ap (λ x. x.number) facts) in
    let same_name : stream.name ≡ page.serial = omega (arith, c.if-stream-facts.false, ap (λ x. x.serial) facts) in
    let same_number : number ≡ page.sequence = omega (arith, c.if-number-facts.false, ap (λ x. x.number) facts) in
    same
    ∙ ap (take n) (sym
    (heard_bytes names stream number page later named number_is
    ∙ ap (λ s. page_bytes (retold s number page)) same_name
    ∙ ap (λ m. page_bytes (retold page.serial m page)) same_number))
