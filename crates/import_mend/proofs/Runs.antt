-- Packets in pages of the input that follow each other.
use Rattle.std.proofs.Common.{◌≡◌, ℕ, zero, suc, ◌+◌, ◌/◌, ◌%◌, ◌≤◌, ◌<◌, true, List, [], ◌∷◌, ◌++◌, length, take, replicate, refl, sym, ◌∙◌, ap, subst, arith, inl, inr, append_assoc, append-nil, length-append}
use Rattle.std.specs.Prelude.{nat_lt, sum}
use Rattle.std.specs.List.{AllByRecursion, concat, flat_map}
use Rattle.std.proofs.lemmas.Bool.{cases_Bool, false≢true, ltb-true, ltb-false}
use Rattle.std.proofs.lemmas.List.Sums.{sum_by-append, sum_by-cons}
use Rattle.std.proofs.Math.Seq.{take-append_seam}
use Rattle.ogg_page.specs.Page.{Page}
use Rattle.ogg_page.specs.Lacing.{ends_open, lace, lacing_of}
use Rattle.ogg_page.specs.StreamLaws.{ends_open-append, ends_open-at, ends_open-lace, some_values}
use Rattle.import_mend.specs.Origin.{AreAmong, BeginsIn, ComesFrom, RestFrom}
use Rattle.import_mend.proofs.Lacings.{full_sum}

-- ---- among
pub among_more : (run seen more : List Page) → AreAmong run seen → AreAmong run (seen ++ more)
among_more [] seen more a = tt
among_more (p ∷ ps) [] more a = absurd a
among_more (p ∷ ps) (q ∷ qs) more a =
    elim a [
      | inl h ↦ inl (h.0, among_more ps qs more h.1)
      | inr h ↦ inr (among_more (p ∷ ps) qs more h)
    ]

pub among_push : (run seen : List Page) (p : Page) → AreAmong run seen → AreAmong (run ++ p ∷ []) (seen ++ p ∷ [])
among_push [] [] p a = inl (refl, tt)
among_push [] (q ∷ qs) p a = inr (among_push [] qs p tt)
among_push (r ∷ rs) [] p a = absurd a
among_push (r ∷ rs) (q ∷ qs) p a =
    elim a [
      | inl h ↦ inl (h.0, among_push rs qs p h.1)
      | inr h ↦ inr (among_push (r ∷ rs) qs p h)
    ]

pub begins_more : (seen more : List Page) (serial : ℕ) (run : List Page) (values bytes tv tb : List ℕ) → BeginsIn seen serial run values bytes tv tb → BeginsIn (seen ++ more) serial run values bytes tv tb
begins_more seen more serial run values bytes tv tb b = record {
  among = among_more run seen more b.among;
  turn = b.turn;
  lacing = b.lacing;
  bodies = b.bodies;
  place = b.place;
  starts = b.starts;
  fresh = b.fresh;
}

pub comes_more : (seen more : List Page) (serial position : ℕ) (packet : List ℕ) → ComesFrom seen serial position packet → ComesFrom (seen ++ more) serial position packet
comes_more seen more serial position packet c = record {
  before = c.before;
  page = c.page;
  values = c.values;
  bytes = c.bytes;
  later_values = c.later_values;
  later_bytes = c.later_bytes;
  lies = begins_more seen more serial (c.before ++ c.page ∷ []) c.values c.bytes (lace packet ++ c.later_values) (packet ++ c.later_bytes) c.lies;
  ends = c.ends;
  position_is = c.position_is;
}

pub rest_more : (seen more : List Page) (serial next : ℕ) (rest : List ℕ) → RestFrom seen serial next rest → RestFrom (seen ++ more) serial next rest
rest_more seen more serial next rest r = record {
  run = r.run;
  values = r.values;
  bytes = r.bytes;
  segments = r.segments;
  lies = begins_more seen more serial r.run r.values r.bytes (replicate r.segments 255) rest r.lies;
  some = r.some;
  number = r.number;
  size = r.size;
}

-- ---- the packets of a run
pub sum_lacing : (n : ℕ) → sum (lacing_of n) ≡ n
unfolding lacing_of
sum_lacing n = omega (arith, sum_by-append (λ x. x) (replicate (n / 255) 255) (n % 255 ∷ []), full_sum (n / 255), one (n % 255))
  where
    one : (v : ℕ) → sum (v ∷ []) ≡ v
    one v = omega (arith, sum_by-cons (λ x. x) v [])

pub laced_length : (packet : List ℕ) → 1 ≤ length (lace packet)
laced_length packet = at (lace packet) (λ e. some_values packet [] (sym e ∙ sym (append-nil (lace packet))))
  where
    at : (l : List ℕ) → (l ≡ [] → ⊥) → 1 ≤ length l
    at [] none = absurd (none refl)
    at (v ∷ l) none = omega arith

-- behind a packet the next one begins
behind_packet : (seen : List Page) (serial : ℕ) (run : List Page) (values bytes packet tv tb : List ℕ) → BeginsIn seen serial run values bytes (lace packet ++ tv) (packet ++ tb) →
    BeginsIn seen serial run (values ++ lace packet) (bytes ++ packet) tv tb
behind_packet seen serial run values bytes packet tv tb b = record {
  among = b.among;
  turn = b.turn;
  lacing = b.lacing ∙ sym (append_assoc values (lace packet) tv);
  bodies = b.bodies ∙ sym (append_assoc bytes packet tb);
  place = omega (arith, length-append bytes packet, b.place, sum_by-append (λ x. x) values (lace packet), sum_lacing (length packet));
  starts = ends_open-append values (lace packet) b.starts ∙ ends_open-lace packet;
  fresh = λ e. absurd (omega (arith, laced_length packet, ap length e, length-append values (lace packet)));
}

-- the bytes of packets are cut off one by one
regroup : (packet : List ℕ) (packets : List (List ℕ)) (tv : List ℕ) → flat_map lace (packet ∷ packets) ++ tv ≡ lace packet ++ (flat_map lace packets ++ tv)
regroup packet packets tv = append_assoc (lace packet) (flat_map lace packets) tv

regroup_bytes : (packet : List ℕ) (packets : List (List ℕ)) (tb : List ℕ) → concat (packet ∷ packets) ++ tb ≡ packet ++ (concat packets ++ tb)
regroup_bytes packet packets tb = append_assoc packet (concat packets) tb

first_of : (seen : List Page) (serial : ℕ) (run : List Page) (values bytes packet : List ℕ) (packets : List (List ℕ)) (tv tb : List ℕ)
    → BeginsIn seen serial run values bytes (flat_map lace (packet ∷ packets) ++ tv) (concat (packet ∷ packets) ++ tb) →
    BeginsIn seen serial run values bytes (lace packet ++ (flat_map lace packets ++ tv)) (packet ++ (concat packets ++ tb))
first_of seen serial run values bytes packet packets tv tb b =
    subst (λ l. BeginsIn seen serial run values bytes l (packet ++ (concat packets ++ tb))) (regroup packet packets tv)
    (subst (λ l. BeginsIn seen serial run values bytes (flat_map lace (packet ∷ packets) ++ tv) l) (regroup_bytes packet packets tb) b)

comes : (seen : List Page) (serial : ℕ) (before : List Page) (page : Page) (values bytes packet tv tb : List ℕ) → BeginsIn seen serial (before ++ page ∷ []) values bytes (lace packet ++ tv) (packet ++ tb)
    → length tv < length page.lacing → ComesFrom seen serial page.position packet
comes seen serial before page values bytes packet tv tb b ends = record {
  before = before;
  page = page;
  values = values;
  bytes = bytes;
  later_values = tv;
  later_bytes = tb;
  lies = b;
  ends = ends;
  position_is = refl;
}

-- packets that all lie in the last page
pub each_comes : (seen : List Page) (serial : ℕ) (before : List Page) (page : Page) (packets : List (List ℕ)) (values bytes tv tb : List ℕ)
    → BeginsIn seen serial (before ++ page ∷ []) values bytes (flat_map lace packets ++ tv) (concat packets ++ tb) → length (flat_map lace packets ++ tv) ≤ length page.lacing →
    AllByRecursion (ComesFrom seen serial page.position) packets
each_comes seen serial before page [] values bytes tv tb b within = tt
each_comes seen serial before page (packet ∷ packets) values bytes tv tb b within =
    let rest : List ℕ = flat_map lace packets ++ tv in
    let here : BeginsIn seen serial (before ++ page ∷ []) values bytes (lace packet ++ rest) (packet ++ (concat packets ++ tb)) =
    first_of seen serial (before ++ page ∷ []) values bytes packet packets tv tb b in
    let size : length (flat_map lace (packet ∷ packets) ++ tv) ≡ length (lace packet) + length rest = ap length (regroup packet packets tv) ∙ length-append (lace packet) rest in
    let ends : length rest < length page.lacing = omega (arith, size, within, laced_length packet) in (
      comes seen serial before page values bytes packet rest (concat packets ++ tb) here ends,
      each_comes seen serial before page packets (values ++ lace packet) (bytes ++ packet) tv tb
          (behind_packet seen serial (before ++ page ∷ []) values bytes packet rest (concat packets ++ tb) here) (omega (arith, ends)),
    )

-- after all of them the next one begins
pub behind_all : (seen : List Page) (serial : ℕ) (run : List Page) (packets : List (List ℕ)) (values bytes tv tb : List ℕ)
    → BeginsIn seen serial run values bytes (flat_map lace packets ++ tv) (concat packets ++ tb) →
    BeginsIn seen serial run (values ++ flat_map lace packets) (bytes ++ concat packets) tv tb
behind_all seen serial run [] values bytes tv tb b =
    subst (λ l. BeginsIn seen serial run l (bytes ++ []) tv tb) (sym (append-nil values)) (subst (λ l. BeginsIn seen serial run values l tv tb) (sym (append-nil bytes)) b)
behind_all seen serial run (packet ∷ packets) values bytes tv tb b =
    let rest : List ℕ = flat_map lace packets ++ tv in
    let here : BeginsIn seen serial run values bytes (lace packet ++ rest) (packet ++ (concat packets ++ tb)) = first_of seen serial run values bytes packet packets tv tb b in
    let later : BeginsIn seen serial run ((values ++ lace packet) ++ flat_map lace packets) ((bytes ++ packet) ++ concat packets) tv tb =
    behind_all seen serial run packets (values ++ lace packet) (bytes ++ packet) tv tb (behind_packet seen serial run values bytes packet rest (concat packets ++ tb) here) in
    subst (λ l. BeginsIn seen serial run l (bytes ++ concat (packet ∷ packets)) tv tb) (append_assoc values (lace packet) (flat_map lace packets))
    (subst (λ l. BeginsIn seen serial run ((values ++ lace packet) ++ flat_map lace packets) l tv tb) (append_assoc bytes packet (concat packets)) later)

-- full values before a page are fewer than those of the first packet that ends in it
take_full : (k n : ℕ) (y : List ℕ) → k ≤ n → take k (replicate n 255 ++ y) ≡ replicate k 255
take_full zero n y le = refl
take_full (suc k) zero y le = absurd (omega (arith, le))
take_full (suc k) (suc n) y le = ap (λ l. 255 ∷ l) (take_full k n y (omega (arith, le)))

first_longer : (packet x y : List ℕ) (n : ℕ) → lace packet ++ x ≡ replicate n 255 ++ y → n < length (lace packet)
first_longer packet x y n e =
    elim (cases_Bool (nat_lt n (length (lace packet)))) [
      | inl longer ↦ ltb-true n (length (lace packet)) longer
      | inr short ↦
          (let k : ℕ = length (lace packet) in
          let full : lace packet ≡ replicate k 255 =
          sym (take-append_seam (lace packet) x) ∙ ap (take k) e ∙ take_full k n y (ltb-false n k short) in
          absurd (false≢true (sym (ends_open-lace packet) ∙ ap ends_open full ∙ opened k (laced_length packet))))
    ]
  where
    opened : (k : ℕ) → 1 ≤ k → ends_open (replicate k 255) ≡ true
    opened zero le = absurd (omega (arith, le))
    opened (suc zero) le = refl
    opened (suc (suc k)) le = ends_open-at (255 ∷ []) 255 (replicate k 255) ∙ opened (suc k) (omega arith)

-- packets of which the first may have begun before the last page
pub all_come : (seen : List Page) (serial : ℕ) (before : List Page) (page : Page) (packets : List (List ℕ)) (segments : ℕ) (values bytes tv tb : List ℕ)
    → BeginsIn seen serial (before ++ page ∷ []) values bytes (flat_map lace packets ++ tv) (concat packets ++ tb)
    → flat_map lace packets ++ tv ≡ replicate segments 255 ++ page.lacing → AllByRecursion (ComesFrom seen serial page.position) packets
all_come seen serial before page [] segments values bytes tv tb b e = tt
all_come seen serial before page (packet ∷ packets) segments values bytes tv tb b e =
    let rest : List ℕ = flat_map lace packets ++ tv in
    let here : BeginsIn seen serial (before ++ page ∷ []) values bytes (lace packet ++ rest) (packet ++ (concat packets ++ tb)) =
    first_of seen serial (before ++ page ∷ []) values bytes packet packets tv tb b in
    let all : lace packet ++ rest ≡ replicate segments 255 ++ page.lacing = sym (regroup packet packets tv) ∙ e in
    let size : length (lace packet) + length rest ≡ segments + length page.lacing =
    omega (arith, ap length all, length-append (lace packet) rest, length-append (replicate segments 255) page.lacing, count segments) in
    let ends : length rest < length page.lacing = omega (arith, size, first_longer packet rest page.lacing segments all) in (
      comes seen serial before page values bytes packet rest (concat packets ++ tb) here ends,
      each_comes seen serial before page packets (values ++ lace packet) (bytes ++ packet) tv tb
          (behind_packet seen serial (before ++ page ∷ []) values bytes packet rest (concat packets ++ tb) here) (omega (arith, ends)),
    )
  where
    count : (n : ℕ) → length {A = ℕ} (replicate n 255) ≡ n
    count zero = refl
    count (suc n) = omega (arith, count n)
