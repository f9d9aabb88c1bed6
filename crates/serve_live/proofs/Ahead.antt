-- Pages that were read at once are given as they are heard.
use Rattle.std.proofs.Common.{◌≡◌, ℕ, ◌+◌, ◌-◌, ◌≤◌, Bool, List, ◌++◌, length, take, drop, sym, ◌∙◌, ap, subst, arith, append_assoc, length-append, length-take, length-drop, drop-drop, take-append-drop, refl}
use Rattle.std.proofs.lemmas.List.{drop_at, take_all}
use Rattle.std.proofs.Math.Seq.{take-append_seam}
use Rattle.ogg_page.specs.Page.{page_bytes, page_size}
use Rattle.ogg_page.specs.LogicalStream.{is_first}
use Rattle.ogg_page.specs.Head.{Stands}
use Rattle.serve_live.specs.Names.{name_in}
use Rattle.serve_live.specs.Heads.{next_heard, IsHeadAt, IsHeadOf}
use Rattle.serve_live.specs.Listening.{part_at}
use Rattle.serve_live.specs.Pulling.{AreGiven, ArePulled, names_from, names_kept}
use Rattle.serve_live.specs.declared.names.StreamName.{StreamName}
use Rattle.serve_live.specs.declared.heads.HeardHead.{HeardHead}
use Rattle.serve_live.specs.declared.pages.PageLeft.{PageLeft}
use Rattle.serve_live.proofs.NextPage.{HasNext, IsAfter, heard_size, part_in_front, pulled_some}
use Rattle.serve_live.proofs.Passing.{none_passed, passed_on, passed_some}

-- what was read, from a later place on
pub same_part : (bytes buffer : List ℕ) (place given whole skip n : ℕ) → take whole (drop given buffer) ≡ part_at place whole bytes
    → skip + n ≤ whole → given + whole ≤ length buffer → place + whole ≤ length bytes
    → take n (drop (given + skip) buffer) ≡ part_at (place + skip) n bytes
same_part bytes buffer place given whole skip n read le room inside =
    ap (take n) (sym (drop-drop skip given buffer))
    ∙ sym (part_in_front (drop given buffer) skip n whole le (omega (arith, length-drop given buffer, room)))
    ∙ ap (part_at skip n) read
    ∙ part_in_front (drop place bytes) skip n whole le (omega (arith, length-drop place bytes, inside))
    ∙ ap (take n) (drop-drop skip place bytes)

-- A page is changed where it stands: its first bytes are those that are heard, and behind its checksum it stays.
pub put_in_place : (given size : ℕ) (before own free now : List ℕ) → 26 ≤ size → length own ≡ size → take size free ≡ take size own
    → drop 26 free ≡ drop 26 (drop given before) → now ≡ take given before ++ free
    → now ≡ take given before ++ (own ++ drop (given + size) before)
put_in_place given size before own free now long len first behind is =
    let back : drop size free ≡ drop (given + size) before =
    ap (λ n. drop n free) (let e : size ≡ 26 + (size - 26) = omega (arith, long) in e)
    ∙ sym (drop-drop (size - 26) 26 free)
    ∙ ap (drop (size - 26)) behind
    ∙ drop-drop (size - 26) 26 (drop given before)
    ∙ ap (λ n. drop n (drop given before)) (let e : 26 + (size - 26) ≡ size = omega (arith, long) in e)
    ∙ drop-drop size given before in
    is
    ∙ ap (λ l. take given before ++ l)
    (sym (take-append-drop size free)
    ∙ ap (λ l. l ++ drop size free) (first ∙ take_all size own (omega (arith, len)))
    ∙ ap (λ l. own ++ l) back)

pub goes_on : (committed more rest : List ℕ) (names : List StreamName) (start left after : PageLeft) (begins : Bool) (given size end : ℕ) (before now : List ℕ)
    → AreGiven committed more rest names start left given end before
    → (h : HasNext committed (names_kept names left) left.place left.skip (drop given rest))
    → begins ≡ is_first h.page → size ≡ page_size h.page
    → left.skip ≡ 0 → given + size ≤ end → end ≤ length before
    → left.place + (end - given) ≤ length committed
    → now ≡ take given before ++ (page_bytes (next_heard (name_in (names_kept names left)) h.page) ++ drop (given + size) before)
    → IsAfter left after begins size size
    → AreGiven committed more rest names start after (given + size) end now
goes_on committed more rest names start left after begins given size end before now b h begins_is size_is skip fits room inside copied a =
    let kept = names_kept names left in
    let bytes = committed ++ more in
    let whole = end - given in
    let later = end - (given + size) in
    let own : List ℕ = page_bytes (next_heard (name_in kept) h.page) in
    let own_size : length own ≡ size = heard_size (name_in kept) h.page ∙ sym size_is in
    let inside_all : left.place + whole ≤ length bytes = omega (arith, inside, length-append committed more) in
    let room_all : given + whole ≤ length before = omega (arith, room, fits) in
    let part_is : own ≡ part_at left.skip size own =
    sym (take_all size own (omega (arith, own_size))) ∙ ap (λ k. part_at k size own) (sym skip) in
    let none : left.skip + size ≡ size = omega (arith, skip) in
    let pulled = pulled_some committed rest names left after begins given size size before own now
    b.pulled h (omega (arith, room, fits)) (omega (arith, none)) size_is begins_is copied part_is a in
    let passed = passed_some committed kept (drop given rest) left after begins size size h (omega (arith, none)) size_is begins_is a in
    let to : after.place ≡ left.place + size = (a.behind none).0 in
    let front : List ℕ = take given before ++ own in
    let front_long : length front ≡ given + size =
    omega (arith, length-append (take given before) own, length-take given before, room, fits, own_size) in
    let behind : drop (given + size) now ≡ drop (given + size) before =
    ap (drop (given + size)) (copied ∙ sym (append_assoc (take given before) own (drop (given + size) before)))
    ∙ drop_at front (drop (given + size) before) (given + size) front_long in
    record {
      pulled = pulled;
      read = ap (take later) behind
          ∙ same_part bytes before left.place given whole size later b.read (omega (arith, fits)) room_all inside_all
          ∙ ap (λ k. part_at k later bytes) (sym to);
      passed = passed_on committed start left after b.passed passed;
    }

-- nothing is given yet of what was read
pub was_read : (committed more rest : List ℕ) (names : List StreamName) (left : PageLeft) (given count : ℕ) (before now : List ℕ)
    → ArePulled committed rest names left given before → take given now ≡ take given before
    → now ≡ take given before ++ (part_at left.place count (committed ++ more) ++ drop (given + count) before)
    → given ≤ length before → left.place + count ≤ length committed
    → AreGiven committed more rest names left left given (given + count) now
was_read committed more rest names left given count before now b kept copied room inside =
    let bytes = committed ++ more in
    let part = part_at left.place count bytes in
    let front : length (take given before) ≡ given = omega (arith, length-take given before, room) in
    let long : length part ≡ count =
    omega (arith, inside, length-append committed more, length-take count (drop left.place bytes), length-drop left.place bytes) in
    let behind : drop given now ≡ part ++ drop (given + count) before =
    ap (drop given) copied ∙ drop_at (take given before) (part ++ drop (given + count) before) given front in
    let n : given + count - given ≡ count = omega arith in
    record {
      pulled = record { some = b.some; taken = kept ∙ b.taken; left_is = b.left_is };
      read = (λ i. take (n i) (behind i))
          ∙ ap (λ k. take k (part ++ drop (given + count) before)) (sym long)
          ∙ take-append_seam part (drop (given + count) before)
          ∙ ap (λ k. part_at left.place k bytes) (sym n);
      passed = none_passed committed left left refl refl;
    }

-- a head that was read is that of the page at its place, also in the source as it stands after that
pub head_at : (kept names : List StreamName) (old new : List ℕ) (place : ℕ) (head : HeardHead) → kept ≡ names → new ≡ old
    → IsHeadAt old place kept head → IsHeadAt new place names head
head_at kept names old new place head gaps_are same is page s =
    subst (λ l. IsHeadOf (name_in l) page head) gaps_are (is page (subst (λ bytes. Stands (drop place bytes) page) same s))

-- and it stays that as long as the page isn't over
pub head_stays : (names : List StreamName) (old new : List ℕ) (left after : PageLeft) (head : HeardHead) → after.place ≡ left.place → after.anew ≡ left.anew → new ≡ old
    → IsHeadAt old left.place (names_kept names left) head → IsHeadAt new after.place (names_kept names after) head
head_stays names old new left after head place anew same is =
    subst (λ p. IsHeadAt new p (names_kept names after) head) (sym place)
    (head_at (names_kept names left) (names_kept names after) old new left.place head (ap (names_from names) (sym anew)) same is)
