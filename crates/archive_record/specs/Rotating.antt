-- When the next file of an archive is begun. Ours.
use Rattle.std.specs.Prelude.{max}
use Rattle.archive_names.specs.declared.plan.Limits.{Limits}

-- a period has at least a second
abbrev pub with_period : Limits → Limits
with_period limits = record { every = max limits.every 1; most_bytes = limits.most_bytes }
