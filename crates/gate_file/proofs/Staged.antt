-- Writes after a closed byte.
use Rattle.std.proofs.Common.{◌≡◌, ◌≢◌, inl, ℕ, ◌+◌, ◌-◌, ◌<◌, List, [], ◌∷◌, ◌++◌, length, take, drop, refl, sym, ◌∙◌, ap, subst, arith, append_assoc, length-append, take-append-drop}
use Rattle.std.proofs.lemmas.List.{take_at}
use Rattle.std.proofs.Math.Seq.{drop-append-add}
use Rattle.disk_model.specs.Image.{DiskState, IsImage, IsSettled, overwritten}
use Rattle.disk_model.specs.Torn.{IsTorn, KeepsFront, front_image}
use Rattle.gate_file.specs.Commit.{capture, CommitsTo, CommitsToEither, ArePages}
use Rattle.gate_file.specs.CommitLaws.{commits_closed, pages_both, pages_begin}
use Rattle.gate_file.proofs.Seal.{stood}
use Rattle.gate_file.proofs.Crash.{IsGrown, at_the_gate, grown, opened as opened_there}
use Rattle.gate_file.specs.Gate.{StandsAt, Stages, StagesWhole, LiesBehind, IsStaged, IsStagedWhole, IsReadyAt, HasStaged, HasGrown, IsAppend, pages_in, staged_in}

-- a write after a front
pub behind_front : (front rest bytes : List ℕ) (at : ℕ) → at ≡ length front → overwritten (front ++ rest) at bytes ≡ front ++ (bytes ++ drop (length bytes) rest)
behind_front front rest bytes at is =
    let front_is : take at (front ++ rest) ≡ front = take_at front rest at (sym is) in
    let back_is : drop (at + length bytes) (front ++ rest) ≡ drop (length bytes) rest =
    ap (λ (n : ℕ). drop (n + length bytes) (front ++ rest)) is ∙ drop-append-add front rest (length bytes) in
    (λ i. (front_is i ++ bytes) ++ back_is i) ∙ append_assoc front bytes (drop (length bytes) rest)

-- every image commits to the bytes in front of the closed byte
closed_image : (b image : List ℕ) (gate n : ℕ) → ArePages b → gate ≢ capture → take n image ≡ b ++ gate ∷ [] → CommitsTo b image
closed_image b image gate n pages shut front =
    commits_closed b image gate (drop n image) pages shut
    (sym (take-append-drop n image) ∙ ap (λ (l : List ℕ). l ++ drop n image) front ∙ append_assoc b (gate ∷ []) (drop n image))

same_keeps : (n m : ℕ) (front other : List ℕ) (disk : DiskState) → n ≡ m → front ≡ other → KeepsFront n front disk → KeepsFront m other disk
same_keeps n m front other disk same is keeps = subst (λ (k : ℕ). KeepsFront k other disk) same (subst (λ (l : List ℕ). KeepsFront n l disk) is keeps)

pub image_behind : (b all : List ℕ) (disk : DiskState) (n : ℕ) (image : List ℕ) → n ≡ length b + 1 → Stages b all disk → take n image ≡ take n disk.synced → CommitsTo b image
image_behind b all disk n image is s front = closed_image b image s.gate n s.pages s.closed (front ∙ ap (λ (k : ℕ). take k disk.synced) is ∙ s.keeps.synced)

-- after the write
pub written_behind : (b all bytes part : List ℕ) (old new : DiskState) (n at : ℕ) → n ≡ length b + 1 → at ≡ n + length (drop 1 all) → drop 1 all ++ part ≡ drop 1 (all ++ bytes)
    → (s : Stages b all old) → new.contents ≡ overwritten old.contents at part → KeepsFront n (take n old.synced) new → LiesBehind b (all ++ bytes) new
written_behind b all bytes part old new n at is place joined s written keeps =
    let front = b ++ s.gate ∷ drop 1 all in
    let whole : old.contents ≡ front ++ s.tail = s.contents ∙ sym (append_assoc b (s.gate ∷ drop 1 all) s.tail) in
    let long : at ≡ length front = omega (arith, is, place, length-append b (s.gate ∷ drop 1 all)) in
    let rest = drop (length part) s.tail in
    record {
      gate = s.gate;
      tail = rest;
      contents = written ∙ ap (λ (l : List ℕ). overwritten l at part) whole ∙ behind_front front s.tail part at long
          ∙ append_assoc b (s.gate ∷ drop 1 all) (part ++ rest)
          ∙ ap (λ (l : List ℕ). b ++ s.gate ∷ l) (sym (append_assoc (drop 1 all) part rest) ∙ ap (λ (l : List ℕ). l ++ rest) joined);
      closed = s.closed;
      pages = s.pages;
      keeps = same_keeps n (length b + 1) (take n old.synced) (b ++ s.gate ∷ []) new is (ap (λ (k : ℕ). take k old.synced) is ∙ s.keeps.synced) keeps;
    }

-- between two appends nothing is staged
stands_staged : (b : List ℕ) (disk : DiskState) → StandsAt b disk → Stages b [] disk
stands_staged b disk s =
    let long : length (b ++ s.gate ∷ []) ≡ length b + 1 = length-append b (s.gate ∷ []) in
    let whole : disk.contents ≡ (b ++ s.gate ∷ []) ++ s.tail = s.contents ∙ sym (append_assoc b (s.gate ∷ []) s.tail) in
    record {
      gate = s.gate;
      tail = s.tail;
      contents = s.contents;
      closed = s.closed;
      pages = s.pages;
      more = record { pages = []; are_pages = tt; spelled = refl };
      keeps = record {
        long = omega (arith, s.settled.least, ap length whole, length-append (b ++ s.gate ∷ []) s.tail, long);
        unwritten = λ k below. s.settled.unwritten k refl;
        synced = ap (λ (l : List ℕ). take (length b + 1) l) (s.settled.synced ∙ whole) ∙ take_at (b ++ s.gate ∷ []) s.tail (length b + 1) long;
        size = omega (arith, ap length s.settled.synced, ap length whole, length-append (b ++ s.gate ∷ []) s.tail, long);
      };
    }

-- the first of all staged bytes is left out
pub first_left_out : (all bytes : List ℕ) (count : ℕ) → count ≡ length all → count ≡ 0 → drop 1 all ++ drop 1 bytes ≡ drop 1 (all ++ bytes)
first_left_out [] bytes count size none = refl
first_left_out (x ∷ all) bytes count size none = absurd (omega (arith, size, none))

pub none_left_out : (all bytes : List ℕ) (count : ℕ) → count ≡ length all → (count ≡ 0 → ⊥) → drop 1 all ++ bytes ≡ drop 1 (all ++ bytes)
none_left_out [] bytes count size some = absurd (some size)
none_left_out (x ∷ all) bytes count size some = refl

pub length_left : (all : List ℕ) (count : ℕ) → count ≡ length all → (count ≡ 0 → ⊥) → count ≡ 1 + length (drop 1 all)
length_left [] count size some = absurd (some size)
length_left (x ∷ all) count size some = omega (arith, size)

pub none_left : (all : List ℕ) (count : ℕ) → count ≡ length all → count ≡ 0 → length (drop 1 all) ≡ 0
none_left [] count size none = refl
none_left (x ∷ all) count size none = absurd (omega (arith, size, none))

-- further pages
pub stages_more : (b all bytes : List ℕ) (disk : DiskState) → ArePages all → ArePages bytes → LiesBehind b (all ++ bytes) disk → Stages b (all ++ bytes) disk
stages_more b all bytes disk p q s = record { gate = s.gate; tail = s.tail; contents = s.contents; closed = s.closed; pages = s.pages; more = pages_both all bytes p q; keeps = s.keeps }

last_out : (all more : List ℕ) → more ≢ [] → drop 1 (all ++ (more ++ 0 ∷ [])) ≡ drop 1 (all ++ more) ++ 0 ∷ []
last_out [] [] some = absurd (some refl)
last_out [] (x ∷ more) some = refl
last_out (x ∷ all) more some = sym (append_assoc all more (0 ∷ []))

not_nil : (all more : List ℕ) → more ≢ [] → all ++ more ≢ []
not_nil [] more some = some
not_nil (x ∷ all) more some = λ e. absurd (omega (arith, ap length e))

pub stages_last : (b all bytes : List ℕ) (disk : DiskState) → ArePages all → (c : IsAppend bytes) → LiesBehind b (all ++ bytes) disk → StagesWhole b (all ++ pages_in bytes) disk
stages_last b all bytes disk p c s =
    let more = pages_in bytes in
    let split : drop 1 (all ++ bytes) ≡ drop 1 (all ++ more) ++ 0 ∷ [] = ap (λ (l : List ℕ). drop 1 (all ++ l)) c.closed ∙ last_out all more c.some in
    record {
      gate = s.gate;
      tail = s.tail;
      contents = s.contents ∙ ap (λ (l : List ℕ). b ++ s.gate ∷ l) (ap (λ (l : List ℕ). l ++ s.tail) split ∙ append_assoc (drop 1 (all ++ more)) (0 ∷ []) s.tail);
      closed = s.closed;
      pages = s.pages;
      more = pages_both all more p c.pages;
      some = not_nil all more c.some;
      keeps = s.keeps;
    }

-- ---- the commit
pub all_image : (b staged : List ℕ) (disk : DiskState) (image : List ℕ) → (s : StagesWhole b staged disk) → IsImage disk image → CommitsToEither b staged image
all_image b staged disk image s is = inl (closed_image b image s.gate (length b + 1) s.pages s.closed (front_image _ _ disk image s.keeps is))

-- the pages and the byte after them, as one append has them
pub as_append : (staged : List ℕ) → ArePages staged → staged ≢ [] → IsAppend (staged ++ 0 ∷ []) × (pages_in (staged ++ 0 ∷ []) ≡ staged)
as_append staged pages some =
    let same : pages_in (staged ++ 0 ∷ []) ≡ staged = take_at staged (0 ∷ []) (length (staged ++ 0 ∷ []) - 1) (omega (arith, length-append staged (0 ∷ []))) in
    (record { pages = subst ArePages (sym same) pages; some = λ none. some (sym same ∙ none); closed = ap (λ (l : List ℕ). l ++ 0 ∷ []) (sym same) }, same)

body_of : (b staged : List ℕ) (disk : DiskState) (contents : List ℕ) → (s : StagesWhole b staged disk) → contents ≡ disk.contents → contents ≡ b ++ s.gate ∷ ((drop 1 staged ++ 0 ∷ []) ++ s.tail)
body_of b staged disk contents s same = same ∙ s.contents ∙ ap (λ (l : List ℕ). b ++ s.gate ∷ l) (sym (append_assoc (drop 1 staged) (0 ∷ []) s.tail))

begins_all : (staged : List ℕ) → ArePages staged → staged ≢ [] → staged ++ 0 ∷ [] ≡ 79 ∷ (drop 1 staged ++ 0 ∷ [])
begins_all staged pages some =
    let first = pages_begin staged pages some in
    subst (λ (l : List ℕ). l ++ 0 ∷ [] ≡ 79 ∷ (drop 1 l ++ 0 ∷ [])) (sym first.2) refl

pub opened_image : (b staged : List ℕ) (disk : DiskState) (contents image : List ℕ) (at : ℕ) → (s : StagesWhole b staged disk) → contents ≡ disk.contents → at ≡ length b → IsTorn at 1 contents image → CommitsToEither b staged image
opened_image b staged disk contents image at s same is torn =
    let c = as_append staged s.more s.some in
    subst (λ (l : List ℕ). CommitsToEither b l image) c.1
    (at_the_gate b (drop 1 staged ++ 0 ∷ []) s.tail (staged ++ 0 ∷ []) contents image s.gate at s.pages c.0 (begins_all staged s.more s.some) is (body_of b staged disk contents s same) torn)

pub all_grown : (b staged : List ℕ) (disk new : DiskState) (contents : List ℕ) (at end : ℕ) → (s : StagesWhole b staged disk) → contents ≡ disk.contents → at ≡ length b → new.contents ≡ overwritten contents at (79 ∷ [])
    → end ≡ at + length staged → IsSettled new → IsGrown b staged end new
all_grown b staged disk new contents at end s same is written size settled =
    let c = as_append staged s.more s.some in
    let whole : new.contents ≡ b ++ 79 ∷ ((drop 1 staged ++ 0 ∷ []) ++ s.tail) = written ∙ ap (λ (l : List ℕ). overwritten l at (79 ∷ [])) (body_of b staged disk contents s same) ∙ opened_there b s.gate 79 ((drop 1 staged ++ 0 ∷ []) ++ s.tail) at is in
    subst (λ (l : List ℕ). IsGrown b l end new) c.1
    (grown b (drop 1 staged ++ 0 ∷ []) s.tail (staged ++ 0 ∷ []) new end s.pages c.0 (begins_all staged s.more s.some) whole (omega (arith, size, is, length-append staged (0 ∷ []))) settled)

-- ---- what is staged, by its count
counted_pages : (all tail : List ℕ) (count : ℕ) → ArePages all → count ≡ length all → take count (capture ∷ (drop 1 all ++ tail)) ≡ all
counted_pages [] tail count pages size = ap (λ (n : ℕ). take n (capture ∷ tail)) size
counted_pages (x ∷ xs) tail count pages size =
    let first = pages_begin (x ∷ xs) pages (λ none. absurd (omega (arith, ap length none))) in
    let whole : take (length (capture ∷ first.0 ∷ first.1)) (capture ∷ (drop 1 (capture ∷ first.0 ∷ first.1) ++ tail)) ≡ capture ∷ first.0 ∷ first.1 =
    take_at (capture ∷ first.0 ∷ first.1) tail (length (capture ∷ first.0 ∷ first.1)) refl in
    ap (λ (n : ℕ). take n (capture ∷ (xs ++ tail))) size ∙ subst (λ (l : List ℕ). take (length l) (capture ∷ (drop 1 l ++ tail)) ≡ l) (sym first.2) whole

pub counted : (b all tail contents : List ℕ) (gate end count : ℕ) → contents ≡ b ++ gate ∷ (drop 1 all ++ tail) → ArePages all → end ≡ length b → count ≡ length all
    → (take end contents ≡ b) × (staged_in end count contents ≡ all)
counted b all tail contents gate end count whole pages is size =
    let rest = drop 1 all ++ tail in
    let front : take end contents ≡ b = ap (λ (l : List ℕ). take end l) whole ∙ take_at b (gate ∷ rest) end (sym is) in
    let behind : drop (end + 1) contents ≡ rest = (λ i. drop (is i + 1) (whole i)) ∙ drop-append-add b (gate ∷ rest) 1 in
    (front, ap (λ (l : List ℕ). take count (capture ∷ l)) behind ∙ counted_pages all tail count pages size)

pub is_staged : (b all : List ℕ) (disk : DiskState) (end count : ℕ) → Stages b all disk → end ≡ length b → count ≡ length all → (count ≡ 0 → IsSettled disk) → IsStaged end count disk
is_staged b all disk end count s is size settled =
    let e = counted b all s.tail disk.contents s.gate end count s.contents s.more is size in
    record {
      long = is ∙ ap length (sym e.0);
      size = size ∙ ap length (sym e.1);
      stages = subst (λ (l : List ℕ). Stages l (staged_in end count disk.contents) disk) (sym e.0) (subst (λ (l : List ℕ). Stages b l disk) (sym e.1) s);
      settled = settled;
    }

some_long : (pages : List ℕ) → ArePages pages → pages ≢ [] → 0 < length pages
some_long pages are some = omega (arith, ap length (pages_begin pages are some).2)

pub has_staged : (pages : List ℕ) (old new : DiskState) (end count size : ℕ) → IsStaged end count old → Stages (take end old.contents) (staged_in end count old.contents ++ pages) new
    → ArePages pages → pages ≢ [] → size ≡ length pages → HasStaged end count size pages old new
has_staged pages old new end count size was s are some is =
    let b = take end old.contents in
    let all = staged_in end count old.contents in
    let long : count + size ≡ length (all ++ pages) = omega (arith, is, was.size, length-append all pages) in
    let e = counted b (all ++ pages) s.tail new.contents s.gate end (count + size) s.contents s.more was.long long in
    let more = some_long pages are some in
    record {
      committed = e.0;
      staged = e.1;
      is_staged = is_staged b (all ++ pages) new end (count + size) s was.long long (λ none. absurd (omega (arith, none, is, more)));
    }

pub whole_stages : (b all : List ℕ) (disk : DiskState) → StagesWhole b all disk → Stages b all disk
whole_stages b all disk s = record { gate = s.gate; tail = 0 ∷ s.tail; contents = s.contents; closed = s.closed; pages = s.pages; more = s.more; keeps = s.keeps }

pub is_whole : (b all : List ℕ) (disk : DiskState) (end count : ℕ) → StagesWhole b all disk → end ≡ length b → count ≡ length all → IsStagedWhole end count disk
is_whole b all disk end count s is size =
    let e = counted b all (0 ∷ s.tail) disk.contents s.gate end count s.contents s.more is size in
    record { whole = subst (λ (l : List ℕ). StagesWhole l (staged_in end count disk.contents) disk) (sym e.0) (subst (λ (l : List ℕ). StagesWhole b l disk) (sym e.1) s) }

-- nothing is staged
pub ready_staged : (disk : DiskState) (end : ℕ) → IsReadyAt end disk → IsStaged end 0 disk
ready_staged disk end ready = is_staged (take end disk.contents) [] disk end 0 (stands_staged (take end disk.contents) disk ready.stands) ready.long refl (λ none. ready.stands.settled)

pub has_grown : (pages : List ℕ) (old new : DiskState) (end size : ℕ) → IsGrown (take end old.contents) pages (end + size) new → HasGrown end size pages old new
has_grown pages old new end size is = record { committed = is.committed; ready = record { long = is.long; stands = is.stands } }

-- every image commits to all of them
pub grown_only : (pages : List ℕ) (old new : DiskState) (end size : ℕ) → HasGrown end size pages old new → (image : List ℕ) → IsImage new image → CommitsTo (take end old.contents ++ pages) image
grown_only pages old new end size has image is = subst (λ (l : List ℕ). CommitsTo l image) has.committed (stood (take (end + size) new.contents) new image has.ready.stands is)
