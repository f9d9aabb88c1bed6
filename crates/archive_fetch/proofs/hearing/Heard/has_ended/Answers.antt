use Rattle.std.proofs.Common.{◌≡◌, ◌≤◌, ℕ, length, min, refl, sym, ap, ◌∙◌, subst, arith}
use Rattle.disk_model.specs.Image.{DiskState}
use Rattle.archive_reading.specs.Prefix.{PrefixState}
use Rattle.archive_fetch.specs.Hearing.{HeardState}
use Rattle.archive_fetch.proofs.Ending.{failed_since, on_ok, ready_to_end}
use Rattle.archive_fetch.proofs.hearing.Heard.has_ended.Goals as goal

pub returns-in_err-end-clause-cause : goal.returns-in_err-end-clause-cause
returns-in_err-end-clause-cause g c err end sure ends =
    let is : c.self-2.inside.source ≡ c.grows.new.self.source = ap (λ (h : HeardState _). h.source) c.self-2.view_is in
    let known : c.end-known.result ≡ c.args.self.now.source.end = c.end-known.ensures ∙ ap (λ (h : HeardState _). h.source.end) c.self.view_is in
    let ready = ready_to_end g.D.Disk c.args.self.now c.grows.new.self c.self-2.inside.source c.end-known.result end is known c.in_ok-grows.ensures.same
    c.in_ok-grows.ensures.grown c.in_ok-grows.ensures.short sure ends in
    let later : g.D.Disk.failures c.args.self.now.source.disk ≤ g.D.Disk.failures c.self-2.inside.source.disk =
    subst (λ (s : PrefixState _). g.D.Disk.failures c.args.self.now.source.disk ≤ g.D.Disk.failures s.disk) (sym is) c.in_ok-grows.ensures.later in
    failed_since _ _ _ later (c.in_err-end.ensures.cause end (ready.honest, ready.whole) ready.ends refl)

pub returns-clause-ended : goal.returns-clause-ended
returns-clause-ended g c =
    on_ok c.grows-2.result
    (λ grown end sure ends.
    let is : c.self-2.inside.source ≡ c.grows.new.self.source = ap (λ (h : HeardState _). h.source) c.self-2.view_is in
    let known : c.end-known.result ≡ c.args.self.now.source.end = c.end-known.ensures ∙ ap (λ (h : HeardState _). h.source.end) c.self.view_is in
    let ready = ready_to_end g.D.Disk c.args.self.now c.grows.new.self c.self-2.inside.source c.end-known.result end is known c.in_ok-grows.ensures.same
    c.in_ok-grows.ensures.grown c.in_ok-grows.ensures.short sure ends in
    let found : c.in_ok-end.end ≡ end = c.in_ok-end.ensures.ends end (ready.honest, ready.whole) ready.ends in
    let kept = c.end_from.ensures.source in
    let reads = kept.only in
    let grows = grown (reads.honest.0 ready.honest) in
    let long : length (g.D.Disk.state c.end_from.new.source.disk).contents ≡ length (g.D.Disk.state c.args.self.now.source.disk).contents =
    ap (λ (s : DiskState). length s.contents) (reads.same ready.honest ∙ ready.state) in
    let inside : c.in_ok-end.end ≤ c.self-2.inside.source.end = c.in_ok-end.ensures.inside.1 in
    let all = ready.length_is in
    omega (arith, grows, long, found, inside, all))
    c.grows-2.ensures.grown
