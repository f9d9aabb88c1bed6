use Rattle.std.proofs.Common.{◌++◌, ◌∷◌, [], ◌∙◌, List, ℕ, ap, sym, subst}
use Rattle.std.specs.List.{flat_map}
use Rattle.ogg_command.specs.declared.command.Entry.{Entry}
use Rattle.line_packets.specs.Placing.{entries_of}
use Rattle.line_packets.specs.Pages.{HasPut, Stands, entries_in}
use Rattle.line_packets.specs.declared.lines.Lines.{Lines}
use Rattle.line_packets.specs.declared.streams.Streams.{Streams}
use Rattle.line_packets.proofs.Reading.{has_put_on, read_on}
use Rattle.line_packets.proofs.pages.LinePages.take.Goals as goal

pub returns-in-Ok-clause-stands : goal.returns-in-Ok-clause-stands
returns-in-Ok-clause-stands c = λ input before taken stood.
    let streams = c.args.self.now.lines.streams in
    let came = c.in-Ok.ensures.taken stood.line stood.front_is in
    let put = c.in_ok-put-in-Ok.ensures.put (flat_map (entries_in streams) taken) before
    (subst (λ (s : Streams). HasPut c.args.media.now s c.args.self.now.has_begun c.args.self.now.bitstream.shape.chain
    (flat_map (entries_in streams) taken) before) (sym c.in-Ok.ensures.streams) stood.has_put) in
    let now : Stands c.args.media.now c.put.new.self input (taken ++ (c.take.new.self.last, came.done) ∷ []) c.in-Ok.taken.rest.now (before ++ put.0) =
    record {
      line = came.next;
      front_is = ap (λ (l : Lines). l.front) c.in_ok-put-in-Ok.ensures.same ∙ came.front_is;
      has_read = read_on streams taken c.take.new.self.last came.done input stood.line c.args.piece.now came.next c.in-Ok.taken.rest.now stood.has_read
          came.lines_are came.rest_is;
      has_put = has_put_on _ streams _ _ _ taken c.take.new.self.last came.done _ _
          (ap (λ (l : Lines). l.streams) c.in_ok-put-in-Ok.ensures.same ∙ c.in-Ok.ensures.streams)
          (came.entries_are ∙ ap (λ (l : List Entry). l ++ flat_map (entries_of streams c.take.new.self.last) came.done) c.new-entries.ensures.items)
          put.2;
    } in (
      put.0,
      came.done,
      put.1,
      subst (λ (last : ℕ). Stands c.args.media.now c.put.new.self input (taken ++ (last, came.done) ∷ []) c.in-Ok.taken.rest.now (before ++ put.0))
          (sym (ap (λ (l : Lines). l.last) c.in_ok-put-in-Ok.ensures.same)) now,
    )
