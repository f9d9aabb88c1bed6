use Rattle.std.proofs.Common.{◌≡◌, ◌-◌, length, ap, arith, length-append}
use Rattle.ogg_page.specs.Page.{bytes_with, page_of}
use Rattle.packetiser.proofs.Appending.{length-bytes_with}
use Rattle.packetiser.proofs.space.VecU8PageSpace.end_page.Goals as goal

pub overflow_sub-len : goal.overflow_sub-len
overflow_sub-len c =
    let before = c.requires.0 in
    let page = page_of c.args._head.now c.requires.1 c.requires.2 in
    omega (arith, c.len.ensures, c.args.self.now.ok.0, ap length c.requires.3.items, length-append before.items (bytes_with 0 page), length-bytes_with page, c.requires.5)

pub close_page-requires : goal.close_page-requires
close_page-requires c =
    let before = c.requires.0 in
    let page = page_of c.args._head.now c.requires.1 c.requires.2 in
    omega (arith, c.len.ensures, c.args.self.now.ok.0, ap length c.requires.3.items, length-append before.items (bytes_with 0 page), length-bytes_with page, c.requires.5)

pub returns : goal.returns
returns c = λ before lacing body work whole size.
    let page = page_of c.args._head.now lacing body in
    let start : length before.items ≡ c.len.result - c.args.size =
    omega (arith, c.len.ensures, c.args.self.now.ok.0, ap length work.items, length-append before.items (bytes_with 0 page), length-bytes_with page, size) in
    record {
      items = c.close_page.ensures.items before.items page start work.items;
      room = omega (arith, work.room, c.close_page.ensures.capacity);
    }
