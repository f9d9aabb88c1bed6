use Rattle.std.proofs.Common.{◌+◌, length}
use Rattle.std.proofs.lemmas.Bool.{eq-eqb, ne_eqb}
use Rattle.ogg_page.specs.Page.{page_bytes}
use Rattle.serve_machine.proofs.Parts.{rest_stays, located, pass_other, pass_own, give_own}
use Rattle.serve_machine.proofs.rests.stream_rests_are_places.Goals as goal

pub returns : goal.returns
returns c = record {
  stays = rest_stays;
  other = λ committed serial place skip count rest page more r some is at apart.
      let l = located c.page_bytes_are_prefix_free.ensures committed serial place skip count rest page more r some is at in
      pass_other committed serial place skip count rest page l.0 l.1 (ne_eqb page.serial serial apart);
  passed = λ committed serial place skip count rest page more r some is at same.
      let l = located c.page_bytes_are_prefix_free.ensures committed serial place (length (page_bytes page) + skip) count rest page more r some is at in
      pass_own committed serial place skip count rest page l.0 l.1 (eq-eqb page.serial serial same);
  given = λ committed serial place skip n left rest page more r some is at same room.
      let l = located c.page_bytes_are_prefix_free.ensures committed serial place skip (n + left) rest page more r some is at in
      give_own committed serial place skip n left rest page l.0 l.1 (eq-eqb page.serial serial same) room;
}
