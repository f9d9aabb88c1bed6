use Rattle.std.proofs.Common.{◌≡◌, option_copied}
use Rattle.skeleton3.specs.Fields.{media_in}
use Rattle.skeleton3.proofs.FieldFacts.{media_from, pieces_left}
use Rattle.skeleton3.proofs.fields.media_in.Given as goal

-- the media type found so far and the pieces that are left make the answer
abbrev pub invariant-loop-piece : goal.invariant-loop-piece
invariant-loop-piece l =
    (goal.iterator-loop-piece).can_next l.piece-iterator ×
    (goal.iterator-loop-piece).is_finite l.piece-iterator ×
    (media_from (option_copied l.media) (pieces_left l.piece-iterator.done l.piece-iterator.rest.now) ≡ media_in l.message)
