-- When a fuse blows.
use Rattle.std.specs.Prelude.{ℕ, ◌+◌, Bool, nat_le, ◌==◌}
use Rattle.disk_model.specs.declared.fuse.Fuse.{Fuse}
use Rattle.disk_model.specs.declared.fuse.Fuse.TheVariants.{StopAfter, FailOnce}

-- whether the next call fails, after this number of calls
abbrev pub blows_after : Fuse → ℕ → Bool
blows_after (StopAfter calls) made = nat_le calls made
blows_after (FailOnce call) made = call == made + 1
