use Rattle.std.proofs.Common.{rules, sym, ◌∙◌, ap}
use Rattle.serve_clients.specs.Client.{ClientState}
use Rattle.archive_fetch.proofs.fetches.Fetches.file_heard.Goals as goal

pub returns-in-Hearing-Some-Heard-clause-only : goal.returns-in-Hearing-Some-Heard-clause-only
returns-in-Hearing-Some-Heard-clause-only g c = (
  c.in_ok-client.client.now,
  c.in_ok-id.id,
  c.in-Hearing-Some-Heard.heard,
  search rules,
  search rules,
  search rules,
  search rules,
  sym c.file.ensures,
)
