use Rattle.std.proofs.Common.{◌≡◌, ◌<◌, ◌+◌, ◌++◌, ℕ, List, length, sym, ap, ◌∙◌, subst, vec_len}
use Rattle.std.specs.Prelude.{OnOk, OnErr, vec_capacity}
use Rattle.ogg_page.specs.Page.{Page, bytes_of_pages}
use Rattle.link_chain.specs.Size.{size_of_pages}
use Rattle.command_pages.specs.Laws.Sizes.{length-bytes_of_pages}
use Rattle.command_pages.proofs.Commands.{begin_pages, put_pages, end_pages}
use Rattle.command_pages.proofs.laying.lay_command.Goals as goal

as_long : (pages whole : List Page) → pages ≡ whole → size_of_pages pages ≡ length (bytes_of_pages whole)
as_long pages whole same = ap size_of_pages same ∙ sym (length-bytes_of_pages whole)

pub returns-in-Begin-clause-ok : goal.returns-in-Begin-clause-ok
returns-in-Begin-clause-ok c =
    let pages = begin_pages c.args.chain.now.chain c.args.command.now c.in-Begin.begin c.as_slice.result.now c.in-Begin.is c.as_slice.ensures in
    subst (λ (l : List Page). OnOk c.lay_begin.result (c.lay_begin.new.out.items ≡ c.args.out.now.items ++ bytes_of_pages l)) pages c.lay_begin.ensures.ok

pub returns-in-Begin-clause-full : goal.returns-in-Begin-clause-full
returns-in-Begin-clause-full c =
    let pages = begin_pages c.args.chain.now.chain c.args.command.now c.in-Begin.begin c.as_slice.result.now c.in-Begin.is c.as_slice.ensures in
    subst (λ (n : ℕ). OnErr c.lay_begin.result (vec_capacity c.args.out.now < vec_len c.args.out.now + n)) (as_long _ _ pages) c.lay_begin.ensures.full

pub returns-in-Put-clause-ok : goal.returns-in-Put-clause-ok
returns-in-Put-clause-ok c =
    let pages = put_pages c.args.chain.now.chain c.args.command.now c.in-Put.put c.streams.result.now c.as_slice-in-Put.result.now c.in-Put.is c.streams.ensures.value c.as_slice-in-Put.ensures in
    subst (λ (l : List Page). OnOk c.lay_put.result (c.lay_put.new.out.items ≡ c.args.out.now.items ++ bytes_of_pages l)) pages c.lay_put.ensures.ok

pub returns-in-Put-clause-full : goal.returns-in-Put-clause-full
returns-in-Put-clause-full c =
    let pages = put_pages c.args.chain.now.chain c.args.command.now c.in-Put.put c.streams.result.now c.as_slice-in-Put.result.now c.in-Put.is c.streams.ensures.value c.as_slice-in-Put.ensures in
    subst (λ (n : ℕ). OnErr c.lay_put.result (vec_capacity c.args.out.now < vec_len c.args.out.now + n)) (as_long _ _ pages) c.lay_put.ensures.full

pub returns-in-End-clause-ok : goal.returns-in-End-clause-ok
returns-in-End-clause-ok c =
    let pages = end_pages c.args.chain.now.chain c.args.command.now c.in-End.serial c.in-End.is in
    subst (λ (l : List Page). OnOk c.lay_end.result (c.lay_end.new.out.items ≡ c.args.out.now.items ++ bytes_of_pages l)) pages (c.lay_end.ensures.ok c.args.chain.now.chain (sym c.streams-in-End.ensures.value))

pub returns-in-End-clause-full : goal.returns-in-End-clause-full
returns-in-End-clause-full c =
    let pages = end_pages c.args.chain.now.chain c.args.command.now c.in-End.serial c.in-End.is in
    subst (λ (n : ℕ). OnErr c.lay_end.result (vec_capacity c.args.out.now < vec_len c.args.out.now + n)) (as_long _ _ pages) c.lay_end.ensures.full
