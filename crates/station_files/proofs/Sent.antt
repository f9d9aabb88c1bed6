-- Who reads a file that is left goes elsewhere, key by key.
use Rattle.std.proofs.Common.{◌≡◌, ◌≢◌, ◌⊎◌, ℕ, ◌+◌, ◌-◌, ◌<◌, ◌≤◌, Option, None, List, [], ◌∷◌, ◌++◌, refl, sym, ◌∙◌, ap, subst, inl, inr, arith, append_assoc, append-nil}
use Rattle.std.specs.Prelude.{vec_capacity, vec_len}
use Rattle.std.proofs.lemmas.Bool.Decides.{eqb_tells}
use Rattle.slab.specs.Slab.{get}
use Rattle.serve_clients.specs.Client.{ClientState}
use Rattle.serve_clients.specs.Clients.{OthersStay}
use Rattle.station.specs.Changing.{ReadsFile}
use Rattle.station.specs.declared.station.Station.{Station}
use Rattle.station_files.specs.Moving.{AreDropped, AreSent, DropsIf, IsDropped, IsSent, ReadersLeave, SendsIf}
use Rattle.station_files.specs.declared.seats.Move.{Move}
use Rattle.station_files.specs.declared.seats.Stations.{Stations}

reads_none : (found : Option ClientState) → found ≡ None → ¬ (ReadsFile found)
reads_none found gone reads = subst ReadsFile gone reads

module _ {D : Type 0} where
  pub sent_one : (number : ℕ) (moves : List Move) (move : Move) (old mid new before between after : Station D)
      → AreSent number moves old mid before between → IsSent number move mid new between after → AreSent number (moves ++ move ∷ []) old new before after
  sent_one number [] move old mid new before between after (same, stays) one = (
    new,
    after,
    subst (λ (start : Station D). IsSent number move start new before after) same
        (subst (λ (start : Station D). IsSent number move mid new start after) stays one),
    (refl, refl),
  )
  sent_one number (first ∷ moves) move old mid new before between after (left, entered, is, rest) one =
      (left, entered, is, sent_one number moves move left mid new entered between after rest one)

  pub dropped_one : (moves : List Move) (move : Move) (old mid new : Station D)
      → AreDropped moves old mid → IsDropped move mid new → AreDropped (moves ++ move ∷ []) old new
  dropped_one [] move old mid new same one =
      (new, subst (λ (start : Station D). IsDropped move start new) same one, refl)
  dropped_one (first ∷ moves) move old mid new (left, is, rest) one = (left, is, dropped_one moves move left mid new rest one)

  -- who has a key below this one doesn't read the file, and whoever has another is as before; so is who didn't read it
  pub record LeaveUpTo (key : ℕ) (old new : Station D) : Type 0 where
    pub none : (other : ℕ) → other < key → ¬ (ReadsFile (get new.clients.slots other))
    pub above : (other : ℕ) → key ≤ other → get new.clients.slots other ≡ get old.clients.slots other
    pub others : (other : ℕ) → ¬ (ReadsFile (get old.clients.slots other)) → get new.clients.slots other ≡ get old.clients.slots other

  pub none_yet : (old : Station D) → LeaveUpTo 0 old old
  none_yet old = record {
    none = λ other below. absurd (omega (arith, below));
    above = λ other above. refl;
    others = λ other isnt. refl;
  }

  -- who has the next key is as before, as it doesn't read the file, or is gone
  abbrev pub LeavesOr : ℕ → Station D → Station D → Type 0
  LeavesOr key old new =
      (¬ (ReadsFile (get old.clients.slots key)) × (get new.clients.slots key ≡ get old.clients.slots key))
      ⊎ (ReadsFile (get old.clients.slots key) × (get new.clients.slots key ≡ None))

  unread_at : (key : ℕ) (mid new : Station D) → LeavesOr key mid new → ¬ (ReadsFile (get new.clients.slots key))
  unread_at key mid new (inl (isnt, same)) reads = isnt (subst ReadsFile same reads)
  unread_at key mid new (inr (is, gone)) reads = subst ReadsFile gone reads

  same_at : (key : ℕ) (mid new : Station D) → LeavesOr key mid new → ¬ (ReadsFile (get mid.clients.slots key))
      → get new.clients.slots key ≡ get mid.clients.slots key
  same_at key mid new (inl (isnt, same)) unread = same
  same_at key mid new (inr (is, gone)) unread = absurd (unread is)

  pub leave_next : (key : ℕ) (old mid new : Station D) → LeaveUpTo key old mid → LeavesOr key mid new → OthersStay key mid.clients new.clients
      → LeaveUpTo (key + 1) old new
  leave_next key old mid new so_far leaves stay = record {
    none = λ other below. elim (eqb_tells other key) [
      | inl is ↦ subst (λ (one : ℕ). ¬ (ReadsFile (get new.clients.slots one))) (sym is.1) (unread_at key mid new leaves)
      | inr isnt ↦ λ reads. so_far.none other (omega (arith, below, isnt.1)) (subst ReadsFile (stay other isnt.1) reads)
    ];
    above = λ other above. stay other (λ same. omega (arith, above, same)) ∙ so_far.above other (omega (arith, above));
    others = λ other unread. elim (eqb_tells other key) [
      | inl is ↦ subst (λ (one : ℕ). get new.clients.slots one ≡ get old.clients.slots one) (sym is.1)
          (same_at key mid new leaves (λ reads. unread (subst (λ (one : ℕ). ReadsFile (get old.clients.slots one)) (sym is.1)
          (subst ReadsFile (so_far.above key (omega arith)) reads)))
          ∙ so_far.above key (omega arith))
      | inr isnt ↦ stay other isnt.1 ∙ so_far.others other unread
    ];
  }

  sends_leaves : (number key : ℕ) (mid new : Stations D) (between after : Station D) → SendsIf number key mid new between after
      → LeavesOr key mid.newest new.newest
  sends_leaves number key mid new between after (inl (isnt, same, stays)) =
      inl (isnt, ap (λ (one : Stations D). get one.newest.clients.slots key) same)
  sends_leaves number key mid new between after (inr (is, gone, moves)) = inr (is, gone)

  drops_leaves : (key : ℕ) (mid new : Stations D) → DropsIf key mid new → LeavesOr key mid.newest new.newest
  drops_leaves key mid new (inl (isnt, same)) = inl (isnt, ap (λ (one : Stations D). get one.newest.clients.slots key) same)
  drops_leaves key mid new (inr (is, gone, moves)) = inr (is, gone)

  pub sent_from : (number key : ℕ) (old mid new : Stations D) (between after : Station D) → LeaveUpTo key old.newest mid.newest
      → SendsIf number key mid new between after → OthersStay key mid.newest.clients new.newest.clients → LeaveUpTo (key + 1) old.newest new.newest
  sent_from number key old mid new between after so_far sends stay =
      leave_next key old.newest mid.newest new.newest so_far (sends_leaves number key mid new between after sends) stay

  pub dropped_from : (key : ℕ) (old mid new : Stations D) → LeaveUpTo key old.newest mid.newest
      → DropsIf key mid new → OthersStay key mid.newest.clients new.newest.clients → LeaveUpTo (key + 1) old.newest new.newest
  dropped_from key old mid new so_far drops stay =
      leave_next key old.newest mid.newest new.newest so_far (drops_leaves key mid new drops) stay

  -- all keys are below this one
  pub all_left : (key : ℕ) (old new : Station D) → ((other : ℕ) → get old.clients.slots other ≢ None → other < key) → LeaveUpTo key old new
      → ReadersLeave old new
  all_left key old new below is = record {
    none = λ other reads. is.none other (below other (λ gone. reads_none (get new.clients.slots other)
        (is.others other (λ was. subst ReadsFile gone was) ∙ gone) reads)) reads;
    others = is.others;
  }

  -- ---- the moves that are noted
  -- if there was room for a move of each key, there is for those that are left
  abbrev pub SentUpTo : ℕ → ℕ → ℕ → Stations D → Stations D → Station D → Station D → Type 0
  SentUpTo number bound key old new before after =
      vec_len old.moves + bound ≤ vec_capacity old.moves → (vec_len new.moves + (bound - key) ≤ vec_capacity new.moves)
      × (sent : List Move) × (new.moves.items ≡ old.moves.items ++ sent) × AreSent number sent old.newest new.newest before after

  pub sent_none : (number bound : ℕ) (old : Stations D) (before : Station D) → SentUpTo number bound 0 old old before before
  sent_none number bound old before room = (omega (arith, room), [], sym (append-nil old.moves.items), (refl, refl))

  pub sent_next : (number bound key : ℕ) (old mid new : Stations D) (before between after : Station D) → key < bound
      → SentUpTo number bound key old mid before between → SendsIf number key mid new between after
      → vec_capacity mid.moves ≤ vec_capacity new.moves → vec_len new.moves ≤ vec_len mid.moves + 1
      → SentUpTo number bound (key + 1) old new before after
  sent_next number bound key old mid new before between after below so_far (inl (isnt, same, stays)) more longer room =
      let (left, sent, moves, are) = so_far room in (
        subst (λ (one : Stations D). vec_len one.moves + (bound - (key + 1)) ≤ vec_capacity one.moves) (sym same) (omega (arith, left)),
        sent,
        ap (λ (one : Stations D). one.moves.items) same ∙ moves,
        subst (λ (one : Stations D). AreSent number sent old.newest one.newest before after) (sym same)
            (subst (λ (one : Station D). AreSent number sent old.newest mid.newest before one) (sym stays) are),
      )
  sent_next number bound key old mid new before between after below so_far (inr (is, gone, moves)) more longer room =
      let (left, sent, items, are) = so_far room in
      let (move, noted, one) = moves (omega (arith, below, left)) in (
        omega (arith, below, left, more, longer),
        sent ++ move ∷ [],
        noted ∙ ap (λ (xs : List Move). xs ++ move ∷ []) items ∙ append_assoc old.moves.items sent (move ∷ []),
        sent_one number sent move old.newest mid.newest new.newest before between after are one,
      )

  abbrev pub DroppedUpTo : ℕ → ℕ → Stations D → Stations D → Type 0
  DroppedUpTo bound key old new =
      vec_len old.moves + bound ≤ vec_capacity old.moves → (vec_len new.moves + (bound - key) ≤ vec_capacity new.moves)
      × (sent : List Move) × (new.moves.items ≡ old.moves.items ++ sent) × AreDropped sent old.newest new.newest

  pub dropped_none : (bound : ℕ) (old : Stations D) → DroppedUpTo bound 0 old old
  dropped_none bound old room = (omega (arith, room), [], sym (append-nil old.moves.items), refl)

  pub dropped_next : (bound key : ℕ) (old mid new : Stations D) → key < bound → DroppedUpTo bound key old mid → DropsIf key mid new
      → vec_capacity mid.moves ≤ vec_capacity new.moves → vec_len new.moves ≤ vec_len mid.moves + 1 → DroppedUpTo bound (key + 1) old new
  dropped_next bound key old mid new below so_far (inl (isnt, same)) more longer room =
      let (left, sent, moves, are) = so_far room in (
        subst (λ (one : Stations D). vec_len one.moves + (bound - (key + 1)) ≤ vec_capacity one.moves) (sym same) (omega (arith, left)),
        sent,
        ap (λ (one : Stations D). one.moves.items) same ∙ moves,
        subst (λ (one : Stations D). AreDropped sent old.newest one.newest) (sym same) are,
      )
  dropped_next bound key old mid new below so_far (inr (is, gone, moves)) more longer room =
      let (left, sent, items, are) = so_far room in
      let (move, noted, one) = moves (omega (arith, below, left)) in (
        omega (arith, below, left, more, longer),
        sent ++ move ∷ [],
        noted ∙ ap (λ (xs : List Move). xs ++ move ∷ []) items ∙ append_assoc old.moves.items sent (move ∷ []),
        dropped_one sent move old.newest mid.newest new.newest are one,
      )
