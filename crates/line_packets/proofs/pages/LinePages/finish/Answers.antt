use Rattle.std.proofs.Common.{◌++◌, ◌∷◌, [], ℕ, ◌∙◌, ap, sym, subst}
use Rattle.std.specs.List.{flat_map}
use Rattle.line_packets.specs.Lines.{short}
use Rattle.line_packets.specs.Pages.{HasEnded, HasPut, ended_by, entries_in}
use Rattle.line_packets.specs.declared.lines.Lines.{Lines}
use Rattle.line_packets.specs.declared.streams.Streams.{Streams}
use Rattle.line_packets.proofs.Reading.{ends, last_line}
use Rattle.line_packets.proofs.pages.LinePages.finish.Goals as goal

pub returns-in_ok-put-in-Ok-clause-ended : goal.returns-in_ok-put-in-Ok-clause-ended
returns-in_ok-put-in-Ok-clause-ended c = λ input before taken stood.
    let media = c.args.media.now in
    let streams = c.args.self.now.lines.streams in
    let put = c.in_ok-put-in-Ok.ensures.put (flat_map (entries_in streams) taken) before
    (subst (λ (s : Streams). HasPut media s c.args.self.now.has_begun c.args.self.now.bitstream.shape.chain
    (flat_map (entries_in streams) taken) before) (sym c.in-Ok.ensures.streams) stood.has_put) in
    let entries = last_line streams c.finish.new.self.last stood.line _ c.finish.new.entries.items c.new-entries.ensures.items
    (λ none. (c.in-Ok.ensures.none (stood.front_is ∙ ap short none)).1)
    (λ some. (c.in-Ok.ensures.last stood.line some stood.front_is).1.entries_are) in (
      put.0,
      ended_by stood.line,
      put.1,
      subst (λ (last : ℕ). HasEnded media streams input (taken ++ (last, ended_by stood.line) ∷ []) (before ++ put.0))
          (sym (ap (λ (l : Lines). l.last) c.in_ok-put-in-Ok.ensures.same))
          (ends media streams c.commands_add_their_packets.ensures.holds input stood.line taken stood.has_read c.finish.new.self.last _ entries _ _ _
          (subst (λ (s : Streams). HasPut media s c.put.new.self.has_begun c.put.new.self.bitstream.shape.chain
          (flat_map (entries_in streams) taken ++ c.finish.new.entries.items) (before ++ put.0))
          (ap (λ (l : Lines). l.streams) c.in_ok-put-in-Ok.ensures.same ∙ c.in-Ok.ensures.streams) put.2)),
    )
