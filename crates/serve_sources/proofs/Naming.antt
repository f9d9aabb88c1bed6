-- A head names what the parts name that were read of it.
use Rattle.std.proofs.Common.{◌≡◌, ℕ, Bool, List, Option, ◌∙◌}
use Rattle.httparse.specs.Grammar.{RequestHead}
use Rattle.ogg_http.specs.Head.{HoldsRequest}
use Rattle.ogg_http.specs.declared.head.Request.{Request}
use Rattle.serve_sources.specs.Asking.{named, named_by}
use Rattle.serve_sources.specs.declared.own.OwnResource.{OwnResource}

pub named_so : (bytes : List ℕ) (read : Request) (head : RequestHead) (found : Option OwnResource) → HoldsRequest bytes head read → found ≡ named read.target.now read.http11 read.hosts → found ≡ named_by head
named_so bytes read head found holds is = is ∙ (λ i. named (holds.target i) (holds.http11 i) (holds.hosts i))
