use Rattle.std.proofs.Common.{◌≡◌, ◌∷◌, not, false, length, ◌==◌, option_copied, sym, ap, ◌∙◌, rules}
use Rattle.std.proofs.lemmas.Fn.{always_returns_same}
use Rattle.std.specs.Str.Lines.{strip_carriage_return}
use Rattle.skeleton3.specs.Fields.{field_of, media_in, shown}
use Rattle.skeleton3.proofs.FieldFacts.{is_feed, media_from, pieces_left, next_piece, empty_line, no_field, one_field, chosen_with, chosen_now, not_chosen, chosen_before, is_some-map}
use Rattle.skeleton3.proofs.fields.media_in.Goals as goal
use Rattle.skeleton3.proofs.fields.media_in.Goals.{In-Some, Else-is_empty, else-is_none-via-then-is_none+else-is_content_type, else-is_none-via-else-is_none}

-- the media type found so far, the piece and the pieces after it make the answer
with_piece : (c : In-Some) → media_from (option_copied c.loop-piece.media) (c.in-Some.piece.now ∷ pieces_left c.next.new.self.done c.next.new.self.rest.now) ≡ media_in c.args.message.now
with_piece c =
    let step = c.in-Some.ensures.steps in
    let key = always_returns_same _ (λ a r. r ≡ is_feed a.0.now) _ (λ a r q k. search rules) in
    sym
    (ap (media_from (option_copied c.loop-piece.media))
    (next_piece c.loop-piece.piece-iterator.rest.now c.in-Some.piece.now c.next.new.self.rest.now c.loop-piece.piece-iterator.done c.next.new.self.done step.0 step.1 (step.2 is_feed key).1))
    ∙ c.loop-piece.invariant.2

-- the line isn't empty
some_line : (c : Else-is_empty) → (length (strip_carriage_return c.in-Some.piece.now) == 0) ≡ false
some_line c = ap (λ l. length l == 0) (sym c.without_return-line.ensures) ∙ sym c.is_empty.ensures ∙ c.if-is_empty.false

pub loop-piece-preserved-then-is_empty : goal.loop-piece-preserved-then-is_empty
loop-piece-preserved-then-is_empty c =
    let empty = ap (λ l. length l == 0) (sym c.without_return-line.ensures) ∙ sym c.is_empty.ensures ∙ c.if-is_empty.true in (
      search rules,
      search rules,
      sym (empty_line (option_copied c.loop-piece.media) c.in-Some.piece.now (pieces_left c.next.new.self.done c.next.new.self.rest.now) empty)
          ∙ with_piece (goal.at.loop-piece-preserved-then-is_empty c).In-Some,
    )

pub returns-in_err-name : goal.returns-in_err-name
returns-in_err-name c =
    let at = goal.at.returns-in_err-name c in
    let left = pieces_left c.next.new.self.done c.next.new.self.rest.now in
    let none = ap field_of (sym c.without_return-line.ensures) ∙ sym c.in_err-name.ensures in
    rw c.from_residual.ensures
    (sym (no_field (option_copied c.loop-piece.media) c.in-Some.piece.now left (some_line at.Else-is_empty) none) ∙ with_piece at.In-Some)

pub loop-piece-preserved-then-is_content_type : goal.loop-piece-preserved-then-is_content_type
loop-piece-preserved-then-is_content_type c =
    let at = goal.at.loop-piece-preserved-then-is_content_type c in
    let found = option_copied c.loop-piece.media in
    let field = shown (c.in_ok-name.name, c.in_ok-name.value) in
    let left = pieces_left c.next.new.self.done c.next.new.self.rest.now in
    let is = ap field_of (sym c.without_return-line.ensures) ∙ sym c.in_ok-name.ensures in
    let none = is_some-map (λ m. m.now) c.loop-piece.media ∙ c.is_none.ensures ∙ ap not c.if-is_none.true in
    let now = chosen_now found field none (sym c.is_content_type.ensures ∙ c.if-is_content_type.true) in (
      search rules,
      search rules,
      sym (one_field found c.in-Some.piece.now left field (some_line at.Else-is_empty) is ∙ ap (λ m. media_from m left) now) ∙ with_piece at.In-Some,
    )

pub loop-piece-preserved : goal.loop-piece-preserved
loop-piece-preserved c =
    let at = goal.at.loop-piece-preserved c in
    let found = option_copied c.loop-piece.media in
    let field = shown (c.in_ok-name.name, c.in_ok-name.value) in
    let left = pieces_left c.next.new.self.done c.next.new.self.rest.now in
    let is = ap field_of (sym c.without_return-line.ensures) ∙ sym c.in_ok-name.ensures in
    let same : chosen_with found field ≡ found = elim c.else-is_none.branch [
      | else-is_none-via-then-is_none+else-is_content_type w ↦ not_chosen found field (sym w.is_content_type.ensures ∙ w.if-is_content_type.false)
      | else-is_none-via-else-is_none w ↦ chosen_before found field (is_some-map (λ m. m.now) c.loop-piece.media ∙ c.is_none.ensures ∙ ap not w.if-is_none.false)
    ] in (
      search rules,
      search rules,
      sym (one_field found c.in-Some.piece.now left field (some_line at.Else-is_empty) is ∙ ap (λ m. media_from m left) same) ∙ with_piece at.In-Some,
    )
