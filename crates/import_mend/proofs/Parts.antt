-- What is left of a page, as a part of it, and the packets in it.
use Rattle.std.proofs.Common.{◌≡◌, ◌≢◌, ℕ, suc, ◌+◌, ◌-◌, ◌*◌, ◌<◌, Bool, true, false, cond, List, [], ◌∷◌, ◌++◌, length, take, drop, replicate, refl, sym, ◌∙◌, ap, subst, arith, inl, inr, append_assoc, append-nil, length-append, take-append-drop}
use Rattle.std.specs.Prelude.{nat_lt, not, ◌||◌, ◌&&◌, sum}
use Rattle.std.specs.List.{AllByRecursion, concat, flat_map}
use Rattle.std.proofs.lemmas.Bool.{cases_Bool, cond-true, cond-false, false≢true, ltb-true, ne_eqb}
use Rattle.std.proofs.lemmas.List.{length-take-le}
use Rattle.std.proofs.lemmas.List.Concat.{flat_map-append}
use Rattle.ogg_page.specs.Page.{Page, IsPage}
use Rattle.ogg_page.specs.Lacing.{ends_open, lace}
use Rattle.ogg_page.specs.LogicalStream.{is_continued, is_last, joined_bodies, joined_lacing, number_behind}
use Rattle.ogg_page.specs.StreamLaws.{behind_both, ends_open-at, number_push, some_values}
use Rattle.import_gather.specs.Cutting.{CutsInto}
use Rattle.import_mend.specs.Mended.{behind_rest, ends_some, front_values, is_cut, left_whole, mended, whole_values, with_values, without_values}
use Rattle.import_mend.specs.Origin.{BeginsIn, ComesFrom, GoesOn, RestFrom, begins_fresh}
use Rattle.import_mend.proofs.Kept.{behind_last, front_fits, joined_behind}
use Rattle.import_mend.proofs.Runs.{all_come, among_push, behind_all, each_comes}

-- ---- the back of a page is cut off if it is its stream's last
pub record Back (page part : Page) (values bytes : List ℕ) : Type 0 where
  pub lacing : page.lacing ≡ part.lacing ++ values
  pub body : page.body ≡ part.body ++ bytes
  pub none : is_last page ≡ false → (values ≡ []) × (bytes ≡ [])

pub record HasBack (page part : Page) : Type 0 where
  pub values : List ℕ
  pub bytes : List ℕ
  pub back : Back page part values bytes

left_back : (page : Page) → HasBack page (left_whole page)
left_back page =
    elim (cases_Bool (is_last page)) [
      | inl last ↦
          (let k : ℕ = whole_values page.lacing in
          let n : ℕ = sum (take k page.lacing) in
          let is : left_whole page ≡ with_values k page = cond-true (is_last page) (with_values k page) page last in
          record {
            values = drop k page.lacing;
            bytes = drop n page.body;
            back = record {
              lacing = sym (take-append-drop k page.lacing) ∙ ap (λ (p : Page). p.lacing ++ drop k page.lacing) (sym is);
              body = sym (take-append-drop n page.body) ∙ ap (λ (p : Page). p.body ++ drop n page.body) (sym is);
              none = λ e. absurd (false≢true (sym e ∙ last));
            };
          })
      | inr more ↦
          (let is : left_whole page ≡ page = cond-false (is_last page) (with_values (whole_values page.lacing) page) page more in
          record {
            values = [];
            bytes = [];
            back = record {
              lacing = sym (append-nil page.lacing) ∙ ap (λ (p : Page). p.lacing ++ []) (sym is);
              body = sym (append-nil page.body) ∙ ap (λ (p : Page). p.body ++ []) (sym is);
              none = λ e. (refl, refl);
            };
          })
    ]

-- a page that keeps its front
pub whole_front_back : (number : ℕ) (page : Page) (joined : Bool) → behind_rest joined page ≡ page → HasBack page (mended joined number page)
whole_front_back number page joined same =
    let b : HasBack page (left_whole page) = left_back page in
    record {
      values = b.values;
      bytes = b.bytes;
      back = record {
        lacing = b.back.lacing ∙ ap (λ (p : Page). (left_whole p).lacing ++ b.values) (sym same);
        body = b.back.body ∙ ap (λ (p : Page). (left_whole p).body ++ b.bytes) (sym same);
        none = b.back.none;
      };
    }

-- ---- the front of a page is cut off if it is the rest of a packet that isn't there
pub record Middle (page part : Page) : Type 0 where
  pub front : List ℕ
  pub front_bytes : List ℕ
  pub values : List ℕ
  pub bytes : List ℕ
  pub lacing : page.lacing ≡ front ++ (part.lacing ++ values)
  pub body : page.body ≡ front_bytes ++ (part.body ++ bytes)
  pub place : length front_bytes ≡ sum front
  pub some : 0 < length front
  pub none : is_last page ≡ false → (values ≡ []) × (bytes ≡ [])
  pub closed : ends_some page.lacing ≡ true → ends_open front ≡ false
  pub empty : ends_some page.lacing ≡ false → part.lacing ≡ []

front_closed : (values : List ℕ) → ends_some values ≡ true → ends_open (take (front_values values) values) ≡ false
front_closed [] e = absurd (false≢true e)
front_closed (v ∷ values) e =
    elim (cases_Bool (nat_lt v 255)) [
      | inl small ↦
          ap (λ n. ends_open (take n (v ∷ values))) (cond-true (nat_lt v 255) 1 (suc (front_values values)) small)
          ∙ ne_eqb v 255 (λ f. omega (arith, ltb-true v 255 small, f))
      | inr full ↦
          (let later : ends_some values ≡ true = sym (ap (λ b. b || ends_some values) full) ∙ e in
          ap (λ n. ends_open (take n (v ∷ values))) (cond-false (nat_lt v 255) 1 (suc (front_values values)) full)
          ∙ behind v (take (front_values values) values) (front_closed values later) (some_front values later))
    ]
  where
    behind : (v : ℕ) (l : List ℕ) → ends_open l ≡ false → (l ≡ [] → ⊥) → ends_open (v ∷ l) ≡ false
    behind v [] closed some = absurd (some refl)
    behind v (w ∷ l) closed some = ends_open-at (v ∷ []) w l ∙ closed

    some_front : (l : List ℕ) → ends_some l ≡ true → take (front_values l) l ≡ [] → ⊥
    some_front [] e f = false≢true e
    some_front (w ∷ l) e f = at (nat_lt w 255) f
      where
        at : (b : Bool) → take (cond b 1 (suc (front_values l))) (w ∷ l) ≡ [] → ⊥
        at true g = cc
        at false g = cc

front_all : (values : List ℕ) → ends_some values ≡ false → drop (front_values values) values ≡ []
front_all [] e = refl
front_all (v ∷ values) e =
    elim (cases_Bool (nat_lt v 255)) [
      | inl small ↦ absurd (false≢true (sym e ∙ ap (λ b. b || ends_some values) small))
      | inr full ↦
          ap (λ n. drop n (v ∷ values)) (cond-false (nat_lt v 255) 1 (suc (front_values values)) full)
          ∙ front_all values (sym (ap (λ b. b || ends_some values) full) ∙ e)
    ]

front_some : (values : List ℕ) → values ≢ [] → 0 < length (take (front_values values) values)
front_some [] some = absurd (some refl)
front_some (v ∷ values) some = at (nat_lt v 255)
  where
    at : (b : Bool) → 0 < length (take (cond b 1 (suc (front_values values))) (v ∷ values))
    at true = omega arith
    at false = omega arith

left_empty : (page : Page) → page.lacing ≡ [] → (left_whole page).lacing ≡ []
left_empty page e = at (is_last page)
  where
    at : (b : Bool) → (cond b (with_values (whole_values page.lacing) page) page).lacing ≡ []
    at true = ap (λ l. take (whole_values l) l) e
    at false = e

pub cut_middle : (number : ℕ) (page : Page) → IsPage page → is_cut false page ≡ true → page.lacing ≢ [] → Middle page (mended false number page)
cut_middle number page is cut some =
    let k : ℕ = front_values page.lacing in
    let n : ℕ = sum (take k page.lacing) in
    let rest : Page = record (without_values k page) { flags = page.flags - 1 } in
    let same : behind_rest false page ≡ rest = cond-true (is_cut false page) rest page cut in
    let b : HasBack rest (left_whole rest) = left_back rest in
    let last : is_last rest ≡ is_last page = ap is_last (sym same) ∙ behind_last false page in
    record {
      front = take k page.lacing;
      front_bytes = take n page.body;
      values = b.values;
      bytes = b.bytes;
      lacing = sym (take-append-drop k page.lacing) ∙ ap (λ l. take k page.lacing ++ l) (b.back.lacing ∙ ap (λ (p : Page). (left_whole p).lacing ++ b.values) (sym same));
      body = sym (take-append-drop n page.body) ∙ ap (λ l. take n page.body ++ l) (b.back.body ∙ ap (λ (p : Page). (left_whole p).body ++ b.bytes) (sym same));
      place = length-take-le n page.body (front_fits k page is);
      some = front_some page.lacing some;
      none = λ e. b.back.none (last ∙ e);
      closed = front_closed page.lacing;
      empty = λ e. ap (λ (p : Page). (left_whole p).lacing) same ∙ left_empty rest (front_all page.lacing e);
    }

-- ---- a page alone
pub alone : (seen : List Page) (page : Page) (values bytes tv tb : List ℕ) → page.lacing ≡ values ++ tv → page.body ≡ bytes ++ tb → length bytes ≡ sum values → ends_open values ≡ false
    → (values ≡ [] → is_continued page ≡ false) → BeginsIn (seen ++ page ∷ []) page.serial (page ∷ []) values bytes tv tb
alone seen page values bytes tv tb lacing body place starts fresh = record {
  among = among_push [] seen page tt;
  turn = ((refl, λ some. absurd (some refl)), tt);
  lacing = append-nil page.lacing ∙ lacing;
  bodies = append-nil page.body ∙ body;
  place = place;
  starts = starts;
  fresh = λ e. ap not (fresh e);
}

-- ---- a page that goes on where others end
with_page : (seen : List Page) (serial : ℕ) (run : List Page) (page : Page) (values bytes tv tb : List ℕ) → BeginsIn seen serial run values bytes tv tb → run ≢ [] → page.serial ≡ serial
    → page.sequence ≡ number_behind run → is_continued page ≡ true → BeginsIn (seen ++ page ∷ []) serial (run ++ page ∷ []) values bytes (tv ++ page.lacing) (tb ++ page.body)
with_page seen serial run page values bytes tv tb b some own number continued = record {
  among = among_push run seen page b.among;
  turn = behind_both (GoesOn serial) [] run (page ∷ []) b.turn ((own, λ _. (number, continued)), tt);
  lacing = flat_map-append (λ (p : Page). p.lacing) run (page ∷ []) ∙ ap (λ l. joined_lacing run ++ l) (append-nil page.lacing)
      ∙ ap (λ l. l ++ page.lacing) b.lacing ∙ append_assoc values tv page.lacing;
  bodies = flat_map-append (λ (p : Page). p.body) run (page ∷ []) ∙ ap (λ l. joined_bodies run ++ l) (append-nil page.body)
      ∙ ap (λ l. l ++ page.body) b.bodies ∙ append_assoc bytes tb page.body;
  place = b.place;
  starts = b.starts;
  fresh = λ e. still run some (b.fresh e);
}
  where
    still : (run : List Page) → run ≢ [] → begins_fresh run ≡ true → begins_fresh (run ++ page ∷ []) ≡ true
    still [] some e = absurd (some refl)
    still (p ∷ run) some e = e

-- ---- the packets that end in it, and the rest
pub record PageHas (seen : List Page) (page : Page) (packets : List (List ℕ)) (left : List ℕ) : Type 0 where
  pub comes : AllByRecursion (ComesFrom seen page.serial page.position) packets
  pub rest : is_last page ≡ false → RestFrom seen page.serial (page.sequence + 1) left

-- what stands in the run from there on is cut into these packets
has_packets : (seen : List Page) (before : List Page) (page : Page) (packets : List (List ℕ)) (segments later : ℕ) (values bytes back back_bytes left : List ℕ)
    → BeginsIn seen page.serial (before ++ page ∷ []) values bytes ((flat_map lace packets ++ replicate later 255) ++ back) ((concat packets ++ left) ++ back_bytes)
    → (flat_map lace packets ++ replicate later 255) ++ back ≡ replicate segments 255 ++ page.lacing → (is_last page ≡ false → (back ≡ []) × (back_bytes ≡ [])) → length left ≡ 255 * later →
    PageHas seen page packets left
has_packets seen before page packets segments later values bytes back back_bytes left b all none size =
    let run : List Page = before ++ page ∷ [] in
    let tv : List ℕ = replicate later 255 ++ back in
    let tb : List ℕ = left ++ back_bytes in
    let grouped : BeginsIn seen page.serial run values bytes (flat_map lace packets ++ tv) (concat packets ++ tb) =
    subst (λ l. BeginsIn seen page.serial run values bytes l (concat packets ++ tb)) (append_assoc (flat_map lace packets) (replicate later 255) back)
    (subst (λ l. BeginsIn seen page.serial run values bytes ((flat_map lace packets ++ replicate later 255) ++ back) l) (append_assoc (concat packets) left back_bytes) b) in
    record {
      comes = all_come seen page.serial before page packets segments values bytes tv tb grouped (sym (append_assoc (flat_map lace packets) (replicate later 255) back) ∙ all);
      rest = λ more. record {
        run = run;
        values = values ++ flat_map lace packets;
        bytes = bytes ++ concat packets;
        segments = later;
        lies = subst (λ l. BeginsIn seen page.serial run (values ++ flat_map lace packets) (bytes ++ concat packets) l left)
            (ap (λ l. replicate later 255 ++ l) (none more).0 ∙ append-nil (replicate later 255))
            (subst (λ l. BeginsIn seen page.serial run (values ++ flat_map lace packets) (bytes ++ concat packets) tv l) (ap (λ l. left ++ l) (none more).1 ∙ append-nil left)
            (behind_all seen page.serial run packets values bytes tv tb grouped));
        some = not_none before;
        number = number_push before page;
        size = size;
      };
    }
  where
    not_none : (before : List Page) → before ++ page ∷ [] ≢ []
    not_none [] e = cc
    not_none (p ∷ before) e = cc

-- a page that goes on with a packet of the pages before it
pub goes_on_has : (seen : List Page) (page : Page) (number segments : ℕ) (rest : List ℕ) (packets : List (List ℕ)) (left : List ℕ) → RestFrom seen page.serial page.sequence rest → is_continued page ≡ true
    → length rest ≡ 255 * segments → CutsInto segments rest (mended true number page).lacing (mended true number page).body packets left → PageHas (seen ++ page ∷ []) page packets left
goes_on_has seen page number segments rest packets left r continued size c =
    let m : Page = mended true number page in
    let b : HasBack page m = whole_front_back number page true (joined_behind page) in
    let same : r.segments ≡ segments = omega (arith, r.size, size) in
    let begun : BeginsIn (seen ++ page ∷ []) page.serial (r.run ++ page ∷ []) r.values r.bytes (replicate r.segments 255 ++ page.lacing) (rest ++ page.body) =
    with_page seen page.serial r.run page r.values r.bytes (replicate r.segments 255) rest r.lies r.some refl (sym r.number) continued in
    let lacing : replicate segments 255 ++ page.lacing ≡ (flat_map lace packets ++ replicate c.later 255) ++ b.values =
    ap (λ l. replicate segments 255 ++ l) b.back.lacing ∙ sym (append_assoc (replicate segments 255) m.lacing b.values) ∙ ap (λ l. l ++ b.values) c.lacing in
    let body : rest ++ page.body ≡ (concat packets ++ left) ++ b.bytes =
    ap (λ l. rest ++ l) b.back.body ∙ sym (append_assoc rest m.body b.bytes) ∙ ap (λ l. l ++ b.bytes) c.bodies in
    has_packets (seen ++ page ∷ []) r.run page packets segments c.later r.values r.bytes b.values b.bytes left
    (subst (λ l. BeginsIn (seen ++ page ∷ []) page.serial (r.run ++ page ∷ []) r.values r.bytes l ((concat packets ++ left) ++ b.bytes)) (ap (λ n. replicate n 255 ++ page.lacing) same ∙ lacing)
    (subst (λ l. BeginsIn (seen ++ page ∷ []) page.serial (r.run ++ page ∷ []) r.values r.bytes (replicate r.segments 255 ++ page.lacing) l) body begun))
    (sym lacing) b.back.none c.left_size

-- no packet goes on into it
nothing_before : (segments : ℕ) (values body : List ℕ) (packets : List (List ℕ)) (left : List ℕ) → CutsInto segments [] values body packets left → 0 ≡ 255 * segments → CutsInto 0 [] values body packets left
nothing_before segments values body packets left c size = subst (λ n. CutsInto n [] values body packets left) (omega (arith, size)) c

pub fresh_has : (seen : List Page) (page : Page) (joined : Bool) (number segments : ℕ) (packets : List (List ℕ)) (left : List ℕ) → is_continued page ≡ false → 0 ≡ 255 * segments
    → CutsInto segments [] (mended joined number page).lacing (mended joined number page).body packets left → PageHas (seen ++ page ∷ []) page packets left
fresh_has seen page joined number segments packets left fresh size cuts =
    let m : Page = mended joined number page in
    let c : CutsInto 0 [] m.lacing m.body packets left = nothing_before segments m.lacing m.body packets left cuts size in
    let whole : behind_rest joined page ≡ page =
    cond-false (is_cut joined page) (record (without_values (front_values page.lacing) page) { flags = page.flags - 1 }) page (ap (λ b. b && not joined) fresh) in
    let b : HasBack page m = whole_front_back number page joined whole in
    let lacing : page.lacing ≡ (flat_map lace packets ++ replicate c.later 255) ++ b.values = b.back.lacing ∙ ap (λ l. l ++ b.values) c.lacing in
    let body : page.body ≡ (concat packets ++ left) ++ b.bytes = b.back.body ∙ ap (λ l. l ++ b.bytes) c.bodies in
    has_packets (seen ++ page ∷ []) [] page packets 0 c.later [] [] b.values b.bytes left
    (alone seen page [] [] ((flat_map lace packets ++ replicate c.later 255) ++ b.values) ((concat packets ++ left) ++ b.bytes) lacing body refl refl (λ _. fresh))
    (sym lacing) b.back.none c.left_size

-- it begins with the rest of a packet whose beginning isn't there: no packet goes on after it if none ends in it
pub record CutHas (seen : List Page) (page : Page) (lacing : List ℕ) (packets : List (List ℕ)) (left : List ℕ) : Type 0 where
  pub comes : AllByRecursion (ComesFrom seen page.serial page.position) packets
  pub empty : ends_some page.lacing ≡ false → lacing ≡ []
  pub rest : is_last page ≡ false → ends_some page.lacing ≡ true → RestFrom seen page.serial (page.sequence + 1) left

pub no_packets : (packets : List (List ℕ)) (x : List ℕ) → [] ≡ flat_map lace packets ++ x → packets ≡ []
no_packets [] x e = refl
no_packets (packet ∷ packets) x e = absurd (some_values packet (flat_map lace packets ++ x) (e ∙ append_assoc (lace packet) (flat_map lace packets) x))

pub cut_has : (seen : List Page) (page : Page) (number segments : ℕ) (packets : List (List ℕ)) (left : List ℕ) → IsPage page → is_continued page ≡ true → 0 ≡ 255 * segments
    → CutsInto segments [] (mended false number page).lacing (mended false number page).body packets left → CutHas (seen ++ page ∷ []) page (mended false number page).lacing packets left
cut_has seen page number segments packets left is continued size cuts =
    let m : Page = mended false number page in
    let c : CutsInto 0 [] m.lacing m.body packets left = nothing_before segments m.lacing m.body packets left cuts size in
    elim (cases_Bool (ends_some page.lacing)) [
      | inl some ↦
          (let d : Middle page m = cut_middle number page is (ap (λ b. b && true) continued) (λ e. false≢true (sym (ap ends_some e) ∙ some)) in
          let all : (flat_map lace packets ++ replicate c.later 255) ++ d.values ≡ m.lacing ++ d.values = ap (λ l. l ++ d.values) (sym c.lacing) in
          let lacing : page.lacing ≡ d.front ++ ((flat_map lace packets ++ replicate c.later 255) ++ d.values) = d.lacing ∙ ap (λ l. d.front ++ l) (sym all) in
          let body : page.body ≡ d.front_bytes ++ ((concat packets ++ left) ++ d.bytes) = d.body ∙ ap (λ l. d.front_bytes ++ (l ++ d.bytes)) c.bodies in
          let begun : BeginsIn (seen ++ page ∷ []) page.serial (page ∷ []) d.front d.front_bytes ((flat_map lace packets ++ replicate c.later 255) ++ d.values) ((concat packets ++ left) ++ d.bytes) =
          alone seen page d.front d.front_bytes ((flat_map lace packets ++ replicate c.later 255) ++ d.values) ((concat packets ++ left) ++ d.bytes) lacing body d.place (d.closed some)
          (λ e. absurd (omega (arith, d.some, ap length e))) in
          cut_packets seen page m.lacing packets c.later d.front d.front_bytes d.values d.bytes left begun lacing d.none c.left_size d.empty)
      | inr none ↦
          (let empty : m.lacing ≡ [] = at none in
          record {
            comes = subst (AllByRecursion (ComesFrom (seen ++ page ∷ []) page.serial page.position)) (sym (no_packets packets (replicate c.later 255) (sym empty ∙ c.lacing))) tt;
            empty = λ _. empty;
            rest = λ more some. absurd (false≢true (sym none ∙ some));
          })
    ]
  where
    at : ends_some page.lacing ≡ false → (mended false number page).lacing ≡ []
    at none = or_empty page.lacing refl
      where
        or_empty : (l : List ℕ) → page.lacing ≡ l → (mended false number page).lacing ≡ []
        or_empty (v ∷ l) e = (cut_middle number page is (ap (λ b. b && true) continued) (λ f. some v l (sym e ∙ f))).empty none
          where
            some : (v : ℕ) (l : List ℕ) → v ∷ l ≡ [] → ⊥
            some v l g = cc
        or_empty [] e = left_empty (behind_rest false page) (shorter (is_cut false page) e)
          where
            shorter : (b : Bool) → page.lacing ≡ [] → (cond b (record (without_values (front_values page.lacing) page) { flags = page.flags - 1 }) page).lacing ≡ []
            shorter true f = ap (λ l. drop (front_values l) l) f
            shorter false f = f

    cut_packets : (seen : List Page) (page : Page) (part : List ℕ) (packets : List (List ℕ)) (later : ℕ) (front front_bytes back back_bytes left : List ℕ)
        → BeginsIn (seen ++ page ∷ []) page.serial (page ∷ []) front front_bytes ((flat_map lace packets ++ replicate later 255) ++ back) ((concat packets ++ left) ++ back_bytes)
        → page.lacing ≡ front ++ ((flat_map lace packets ++ replicate later 255) ++ back) → (is_last page ≡ false → (back ≡ []) × (back_bytes ≡ [])) → length left ≡ 255 * later → (ends_some page.lacing ≡ false → part ≡ []) →
        CutHas (seen ++ page ∷ []) page part packets left
    cut_packets seen page part packets later front front_bytes back back_bytes left b all none size gone =
        let run : List Page = page ∷ [] in
        let s : List Page = seen ++ page ∷ [] in
        let tv : List ℕ = replicate later 255 ++ back in
        let tb : List ℕ = left ++ back_bytes in
        let grouped : BeginsIn s page.serial run front front_bytes (flat_map lace packets ++ tv) (concat packets ++ tb) =
        subst (λ l. BeginsIn s page.serial run front front_bytes l (concat packets ++ tb)) (append_assoc (flat_map lace packets) (replicate later 255) back)
        (subst (λ l. BeginsIn s page.serial run front front_bytes ((flat_map lace packets ++ replicate later 255) ++ back) l) (append_assoc (concat packets) left back_bytes) b) in
        record {
          empty = gone;
          comes = each_comes s page.serial [] page packets front front_bytes tv tb grouped
              (omega (arith, ap length all, length-append front ((flat_map lace packets ++ replicate later 255) ++ back), ap length (append_assoc (flat_map lace packets) (replicate later 255) back)));
          rest = λ more _. record {
            run = run;
            values = front ++ flat_map lace packets;
            bytes = front_bytes ++ concat packets;
            segments = later;
            lies = subst (λ l. BeginsIn s page.serial run (front ++ flat_map lace packets) (front_bytes ++ concat packets) l left)
                (ap (λ l. replicate later 255 ++ l) (none more).0 ∙ append-nil (replicate later 255))
                (subst (λ l. BeginsIn s page.serial run (front ++ flat_map lace packets) (front_bytes ++ concat packets) tv l) (ap (λ l. left ++ l) (none more).1 ∙ append-nil left)
                (behind_all s page.serial run packets front front_bytes tv tb grouped));
            some = λ e. cc;
            number = number_push [] page;
            size = size;
          };
        }
