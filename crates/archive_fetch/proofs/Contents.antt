-- What a connection gets is one thing.
use Rattle.std.proofs.Common.{◌≡◌}
use Rattle.archive_fetch.specs.Bodies.{BodyState}
use Rattle.archive_fetch.specs.Hearing.{HeardState}
use Rattle.archive_fetch.specs.declared.fetches.Content.TheVariants.{File, Heard}

module _ {D : Type 0} where
  pub same_body : (one other : BodyState D) → File one ≡ File other → one ≡ other
  same_body one other e = cc

  pub same_heard : (one other : HeardState D) → Heard one ≡ Heard other → one ≡ other
  same_heard one other e = cc
