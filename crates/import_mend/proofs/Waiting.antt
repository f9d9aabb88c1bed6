-- What comes out of a stream by a page, and what waits on.
use Rattle.std.proofs.Common.{◌≡◌, ℕ, Bool, true, false, cond, List, [], ◌∷◌, ◌++◌, map, take, refl, sym, ◌∙◌, ap, subst, inl, inr, append_assoc, append-nil, take-append-drop}
use Rattle.std.specs.Prelude.{nat_eq, not, ◌||◌, ◌&&◌}
use Rattle.std.specs.List.{AllByRecursion, IsDistinct, filter}
use Rattle.std.proofs.lemmas.Bool.{cases_Bool, cond-true, cond-false, eq-eqb, ne_eqb, eqb-false, false≢true}
use Rattle.ogg_page.specs.Page.{Page}
use Rattle.ogg_page.specs.LogicalStream.{is_last}
use Rattle.ogg_command.specs.declared.command.Command.{Command}
use Rattle.ogg_command.specs.declared.command.Command.TheVariants.{Begin as BeginOf, Put as PutOf, End as EndOf}
use Rattle.ogg_command.specs.declared.command.Entry.{Entry}
use Rattle.import_commands.specs.Commands.{entry_of, put_of}
use Rattle.import_gather.specs.Giving.{Follows, bare, begin_if, begins_now, begun_if, marked, new_stream, page_end}
use Rattle.import_gather.specs.Kept.{KeptLink, KeptStream, TakenBy, ends_by, has_some, is_ready, room_of, without_rest}
use Rattle.import_gather.specs.Laws.{nothing_in, serials}
use Rattle.import_mend.specs.Runs.{ArePut, ComeOut, entries_in, headers_in, is_of, packets_in, waiting_in}
use Rattle.import_mend.proofs.Kepts.{serials_there}

abbrev pub packet_in : Entry → List ℕ
packet_in entry = entry.packet

-- ---- what waits
at_head : (serial : ℕ) (k : KeptStream) (ks : List KeptStream) → k.serial ≡ serial → waiting_in serial (k ∷ ks) ≡ k.headers
at_head serial k ks e = cond-true (nat_eq k.serial serial) k.headers (waiting_in serial ks) (eq-eqb k.serial serial e)

behind_head : (serial : ℕ) (k : KeptStream) (ks : List KeptStream) → (k.serial ≡ serial → ⊥) → waiting_in serial (k ∷ ks) ≡ waiting_in serial ks
behind_head serial k ks ne = cond-false (nat_eq k.serial serial) k.headers (waiting_in serial ks) (ne_eqb k.serial serial ne)

waiting_there : (front : List KeptStream) (k : KeptStream) (back : List KeptStream) → IsDistinct nat_eq (serials (front ++ k ∷ back))
    → waiting_in k.serial (front ++ k ∷ back) ≡ k.headers
unfolding IsDistinct
waiting_there [] k back d = at_head k.serial k back refl
waiting_there (x ∷ front) k back d =
    behind_head k.serial x (front ++ k ∷ back) (λ e. eqb-false x.serial k.serial (away x.serial front k back d.0) e) ∙ waiting_there front k back d.1
  where
    away : (n : ℕ) (front : List KeptStream) (k : KeptStream) (back : List KeptStream) → AllByRecursion (λ m. nat_eq n m ≡ false) (serials (front ++ k ∷ back)) → nat_eq n k.serial ≡ false
    away n [] k back h = h.0
    away n (y ∷ front) k back h = away n front k back h.1

waiting_elsewhere : (serial : ℕ) (front : List KeptStream) (k changed : KeptStream) (back : List KeptStream) → (k.serial ≡ serial → ⊥) → changed.serial ≡ k.serial
    → waiting_in serial (front ++ changed ∷ back) ≡ waiting_in serial (front ++ k ∷ back)
waiting_elsewhere serial [] k changed back ne same = behind_head serial changed back (λ e. ne (sym same ∙ e)) ∙ sym (behind_head serial k back ne)
waiting_elsewhere serial (x ∷ front) k changed back ne same = ap (λ l. cond (nat_eq x.serial serial) x.headers l) (waiting_elsewhere serial front k changed back ne same)

waiting_bare : (serial : ℕ) (streams : List KeptStream) → waiting_in serial (map bare streams) ≡ []
waiting_bare serial [] = refl
waiting_bare serial (k ∷ streams) = ap (λ l. cond (nat_eq k.serial serial) [] l) (waiting_bare serial streams) ∙ same (nat_eq k.serial serial)
  where
    same : (b : Bool) → (let l : List (List ℕ) = cond b [] [] in l) ≡ []
    same true = refl
    same false = refl

-- an unfinished packet that is dropped is none that waits
pub waiting_dropped : (serial other : ℕ) (streams : List KeptStream) → waiting_in other (map (without_rest serial) streams) ≡ waiting_in other streams
waiting_dropped serial other [] = refl
waiting_dropped serial other (k ∷ streams) =
    at (nat_eq k.serial serial)
    ∙ ap (λ l. cond (nat_eq k.serial other) k.headers l) (waiting_dropped serial other streams)
  where
    at : (b : Bool) → (let x : KeptStream = cond b (record k { rest = [] }) k in cond (nat_eq x.serial other) x.headers (waiting_in other (map (without_rest serial) streams)))
        ≡ cond (nat_eq k.serial other) k.headers (waiting_in other (map (without_rest serial) streams))
    at true = refl
    at false = refl

headers_begun : (serial : ℕ) (streams : List KeptStream) → headers_in serial (map new_stream streams) ≡ waiting_in serial streams
headers_begun serial [] = refl
headers_begun serial (k ∷ streams) = ap (λ l. cond (nat_eq k.serial serial) k.headers l) (headers_begun serial streams)

-- ---- the packets of commands
pub packets_app : (serial : ℕ) (xs ys : List Command) → packets_in serial (xs ++ ys) ≡ packets_in serial xs ++ packets_in serial ys
packets_app serial [] ys = refl
packets_app serial (BeginOf begin ∷ xs) ys =
    ap (λ l. headers_in serial begin.streams ++ l) (packets_app serial xs ys) ∙ sym (append_assoc (headers_in serial begin.streams) (packets_in serial xs) (packets_in serial ys))
packets_app serial (PutOf put ∷ xs) ys =
    ap (λ l. map packet_in (filter (is_of serial) put.entries) ++ l) (packets_app serial xs ys)
    ∙ sym (append_assoc (map packet_in (filter (is_of serial) put.entries)) (packets_in serial xs) (packets_in serial ys))
packets_app serial (EndOf other ∷ xs) ys = packets_app serial xs ys

pub entries_app : (serial : ℕ) (xs ys : List Command) → entries_in serial (xs ++ ys) ≡ entries_in serial xs ++ entries_in serial ys
entries_app serial [] ys = refl
entries_app serial (BeginOf begin ∷ xs) ys = entries_app serial xs ys
entries_app serial (PutOf put ∷ xs) ys =
    ap (λ l. filter (is_of serial) put.entries ++ l) (entries_app serial xs ys) ∙ sym (append_assoc (filter (is_of serial) put.entries) (entries_in serial xs) (entries_in serial ys))
entries_app serial (EndOf other ∷ xs) ys = entries_app serial xs ys

none_of_ends : (serial : ℕ) (ends : List ℕ) → (packets_in serial (map (λ other. EndOf other) ends) ≡ []) × (entries_in serial (map (λ other. EndOf other) ends) ≡ [])
none_of_ends serial [] = (refl, refl)
none_of_ends serial (x ∷ ends) = none_of_ends serial ends

abbrev pub if_some : Bool → List (List ℕ) → List (List ℕ)
if_some b l = cond b l []

pub begun_packets : (serial : ℕ) (b : Bool) (link : KeptLink) → packets_in serial (begin_if b link) ≡ if_some b (waiting_in serial link.streams)
begun_packets serial true link =
    ap (λ l. headers_in serial (map new_stream link.streams) ++ l) (none_of_ends serial link.ends).0
    ∙ append-nil (headers_in serial (map new_stream link.streams)) ∙ headers_begun serial link.streams
begun_packets serial false link = refl

pub begun_entries : (serial : ℕ) (b : Bool) (link : KeptLink) → entries_in serial (begin_if b link) ≡ []
begun_entries serial true link = (none_of_ends serial link.ends).1
begun_entries serial false link = refl

none_of_end : (serial : ℕ) (page : Page) (link : KeptLink) → (packets_in serial (page_end page link) ≡ []) × (entries_in serial (page_end page link) ≡ [])
none_of_end serial page link = by_case link.begun (is_last page)
  where
    by_case : (a b : Bool) → (packets_in serial (cond a (cond b (EndOf page.serial ∷ []) []) []) ≡ []) × (entries_in serial (cond a (cond b (EndOf page.serial ∷ []) []) []) ≡ [])
    by_case true true = (refl, refl)
    by_case true false = (refl, refl)
    by_case false b = (refl, refl)

own_entries : (serial : ℕ) (page : Page) (packets : List (List ℕ)) → page.serial ≡ serial → filter (is_of serial) (map (entry_of page) packets) ≡ map (entry_of page) packets
own_entries serial page [] own = refl
own_entries serial page (p ∷ ps) own =
    cond-true (nat_eq page.serial serial) (entry_of page p ∷ filter (is_of serial) (map (entry_of page) ps)) (filter (is_of serial) (map (entry_of page) ps)) (eq-eqb page.serial serial own)
    ∙ ap (λ l. entry_of page p ∷ l) (own_entries serial page ps own)

no_entries : (serial : ℕ) (page : Page) (packets : List (List ℕ)) → (page.serial ≡ serial → ⊥) → filter (is_of serial) (map (entry_of page) packets) ≡ []
no_entries serial page [] ne = refl
no_entries serial page (p ∷ ps) ne =
    cond-false (nat_eq page.serial serial) (entry_of page p ∷ filter (is_of serial) (map (entry_of page) ps)) (filter (is_of serial) (map (entry_of page) ps)) (ne_eqb page.serial serial ne)
    ∙ no_entries serial page ps ne

pub packets_back : (page : Page) (packets : List (List ℕ)) → map packet_in (map (entry_of page) packets) ≡ packets
packets_back page [] = refl
packets_back page (p ∷ ps) = ap (λ l. p ∷ l) (packets_back page ps)

own_put : (serial : ℕ) (page : Page) (packets : List (List ℕ)) → page.serial ≡ serial → (packets_in serial (put_of (map (entry_of page) packets)) ≡ packets) × (entries_in serial (put_of (map (entry_of page) packets)) ≡ map (entry_of page) packets)
own_put serial page [] own = (refl, refl)
own_put serial page (p ∷ ps) own =
    let all : List Entry = map (entry_of page) (p ∷ ps) in
    let same : filter (is_of serial) all ≡ all = own_entries serial page (p ∷ ps) own in (
      append-nil (map packet_in (filter (is_of serial) all)) ∙ ap (map packet_in) same ∙ packets_back page (p ∷ ps),
      append-nil (filter (is_of serial) all) ∙ same,
    )

no_put : (serial : ℕ) (page : Page) (packets : List (List ℕ)) → (page.serial ≡ serial → ⊥) → (packets_in serial (put_of (map (entry_of page) packets)) ≡ []) × (entries_in serial (put_of (map (entry_of page) packets)) ≡ [])
no_put serial page [] ne = (refl, refl)
no_put serial page (p ∷ ps) ne =
    let all : List Entry = map (entry_of page) (p ∷ ps) in
    let none : filter (is_of serial) all ≡ [] = no_entries serial page (p ∷ ps) ne in (
      append-nil (map packet_in (filter (is_of serial) all)) ∙ ap (map packet_in) none,
      append-nil (filter (is_of serial) all) ∙ none,
    )

-- ---- what some pages do
-- once the link has begun nothing of the stream waits
abbrev pub IsBare : ℕ → KeptLink → Type 0
IsBare serial link = link.begun ≡ true → waiting_in serial link.streams ≡ []

pub record StepOut (serial : ℕ) (entries : List Entry) (old new : KeptLink) (more : List Command) : Type 0 where
  pub come : IsBare serial old → ComeOut serial (map packet_in entries) old new more × IsBare serial new
  pub put : ArePut serial entries old.begun more
  pub begun : old.begun ≡ true → new.begun ≡ true
  pub waits : new.begun ≡ false → entries_in serial more ≡ []

map_app : (xs ys : List Entry) → map packet_in (xs ++ ys) ≡ map packet_in xs ++ map packet_in ys
map_app [] ys = refl
map_app (x ∷ xs) ys = ap (λ l. packet_in x ∷ l) (map_app xs ys)

pub no_step : (serial : ℕ) (link : KeptLink) → StepOut serial [] link link []
no_step serial link = record {
  come = λ bare. (append-nil (waiting_in serial link.streams), bare);
  put = record { headers = []; are = refl; none = λ _. refl };
  begun = λ e. e;
  waits = λ _. refl;
}

pub steps_on : (serial : ℕ) (one two : List Entry) (old mid new : KeptLink) (own rest : List Command) → StepOut serial one old mid own → StepOut serial two mid new rest
    → StepOut serial (one ++ two) old new (own ++ rest)
steps_on serial one two old mid new own rest a b = record {
  come = λ bare.
      let (first, mid_bare) = a.come bare in
      let (second, new_bare) = b.come mid_bare in (
        ap (λ l. waiting_in serial old.streams ++ l) (map_app one two)
            ∙ sym (append_assoc (waiting_in serial old.streams) (map packet_in one) (map packet_in two))
            ∙ ap (λ l. l ++ map packet_in two) first
            ∙ append_assoc (packets_in serial own) (waiting_in serial mid.streams) (map packet_in two)
            ∙ ap (λ l. packets_in serial own ++ l) second
            ∙ sym (append_assoc (packets_in serial own) (packets_in serial rest) (waiting_in serial new.streams))
            ∙ ap (λ l. l ++ waiting_in serial new.streams) (sym (packets_app serial own rest)),
        new_bare,
      );
  put = elim (cases_Bool mid.begun) [
    | inl begun ↦ record {
      headers = a.put.headers;
      are = ap (λ l. one ++ l) (b.put.are ∙ ap (λ l. l ++ entries_in serial rest) (b.put.none begun))
          ∙ ap (λ l. l ++ entries_in serial rest) a.put.are
          ∙ append_assoc a.put.headers (entries_in serial own) (entries_in serial rest)
          ∙ ap (λ l. a.put.headers ++ l) (sym (entries_app serial own rest));
      none = a.put.none;
    }
    | inr not_begun ↦
        (let none : entries_in serial own ≡ [] = a.waits not_begun in
        let first : one ≡ a.put.headers = a.put.are ∙ ap (λ l. a.put.headers ++ l) none ∙ append-nil a.put.headers in
        record {
          headers = a.put.headers ++ b.put.headers;
          are = ap (λ l. l ++ two) first ∙ ap (λ l. a.put.headers ++ l) b.put.are
              ∙ sym (append_assoc a.put.headers b.put.headers (entries_in serial rest))
              ∙ ap (λ l. (a.put.headers ++ b.put.headers) ++ l) (sym (entries_app serial own rest ∙ ap (λ l. l ++ entries_in serial rest) none));
          none = λ e. absurd (false≢true (sym not_begun ∙ a.begun e));
        })
  ];
  begun = λ e. b.begun (a.begun e);
  waits = λ e.
      entries_app serial own rest
      ∙ ap (λ l. l ++ entries_in serial rest) (a.waits (before mid.begun refl e))
      ∙ b.waits e;
}
  where
    before : (c : Bool) → mid.begun ≡ c → new.begun ≡ false → mid.begun ≡ false
    before true is e = absurd (false≢true (sym e ∙ b.begun is))
    before false is e = is

-- ---- a page that isn't its stream's first
abbrev parts_of : (page : Page) (old new : KeptLink) (more : List Command) → Follows page old new more → KeptLink
parts_of page old new more f = record old { streams = f.streams }

pub marked_same : (page : Page) (link : KeptLink) → ((marked page link).streams ≡ link.streams) × ((marked page link).begun ≡ link.begun)
marked_same page link = by_case link.begun refl
  where
    by_case : (b : Bool) → link.begun ≡ b
        → ((cond b link (record link { ends = link.ends ++ ends_by page })).streams ≡ link.streams) × ((cond b link (record link { ends = link.ends ++ ends_by page })).begun ≡ link.begun)
    by_case true e = (refl, refl)
    by_case false e = (refl, refl)

-- by whether the link begins
record Passed (serial : ℕ) (page : Page) (old new : KeptLink) (later : List (List ℕ)) (streams : List KeptStream) (more : List Command) (begins : Bool) : Type 0 where
  packets : packets_in serial more ≡ if_some begins (waiting_in serial streams) ++ packets_in serial (put_of (map (entry_of page) later))
  entries : entries_in serial more ≡ entries_in serial (put_of (map (entry_of page) later))
  waiting : waiting_in serial new.streams ≡ if_some (not begins) (waiting_in serial streams)
  begun : new.begun ≡ (begins || old.begun)

passed_by : (serial : ℕ) (page : Page) (old new : KeptLink) (more : List Command) (f : Follows page old new more)
    → Passed serial page old new f.later f.streams more (begins_now (record old { streams = f.streams }) f.later)
passed_by serial page old new more f =
    let link : KeptLink = record old { streams = f.streams } in
    let begins : Bool = begins_now link f.later in
    let now : KeptLink = begun_if begins link in
    let put : List Command = put_of (map (entry_of page) f.later) in
    record {
      packets = ap (packets_in serial) f.passed.commands
          ∙ packets_app serial (begin_if begins link) (put ++ page_end page now)
          ∙ ap (λ l. l ++ packets_in serial (put ++ page_end page now)) (begun_packets serial begins link)
          ∙ ap (λ l. if_some begins (waiting_in serial f.streams) ++ l)
          (packets_app serial put (page_end page now) ∙ ap (λ l. packets_in serial put ++ l) (none_of_end serial page now).0 ∙ append-nil (packets_in serial put));
      entries = ap (entries_in serial) f.passed.commands
          ∙ entries_app serial (begin_if begins link) (put ++ page_end page now)
          ∙ ap (λ l. l ++ entries_in serial (put ++ page_end page now)) (begun_entries serial begins link)
          ∙ entries_app serial put (page_end page now) ∙ ap (λ l. entries_in serial put ++ l) (none_of_end serial page now).1 ∙ append-nil (entries_in serial put);
      waiting = ap (λ (l : KeptLink). waiting_in serial l.streams) f.passed.stays ∙ ap (waiting_in serial) (marked_same page now).0 ∙ still begins;
      begun = ap (λ (l : KeptLink). l.begun) f.passed.stays ∙ (marked_same page now).1 ∙ is_begun begins;
    }
  where
    still : (b : Bool) → waiting_in serial (begun_if b (record old { streams = f.streams })).streams ≡ if_some (not b) (waiting_in serial f.streams)
    still true = waiting_bare serial f.streams
    still false = refl

    is_begun : (b : Bool) → (begun_if b (record old { streams = f.streams })).begun ≡ (b || old.begun)
    is_begun true = refl
    is_begun false = refl

-- if the link doesn't begin, all packets are kept as headers, or it has begun

kept_back : (link : KeptLink) (later : List (List ℕ)) → begins_now link later ≡ false → link.begun ≡ false → later ≡ []
kept_back link later still waits = nothing_in later (first (has_some later) (sym (ap (λ b. not b && (has_some later || is_ready link.streams)) waits) ∙ still))
  where
    first : (b : Bool) → (true && (b || is_ready link.streams)) ≡ false → b ≡ false
    first true e = absurd (false≢true (sym e))
    first false e = refl

module _ (page : Page) (old new : KeptLink) (more : List Command) (f : Follows page old new more) (distinct : IsDistinct nat_eq (serials old.streams)) where
  abbrev t : TakenBy old.begun page old.streams f.streams f.later
  t = f.taken

  abbrev room : ℕ
  room = room_of old.begun t.stream

  abbrev begins : Bool
  begins = begins_now (record old { streams = f.streams }) f.later

  abbrev link : KeptLink
  link = record old { streams = f.streams }

  -- ---- of its own stream
  was : waiting_in page.serial old.streams ≡ t.stream.headers
  was =
      ap (waiting_in page.serial) t.was ∙ ap (λ n. waiting_in n (t.front ++ t.stream ∷ t.back)) (sym t.own)
      ∙ waiting_there t.front t.stream t.back (subst (λ l. IsDistinct nat_eq (serials l)) t.was distinct)

  named : t.changed.serial ≡ page.serial
  named = t.takes.serial ∙ t.own

  is : waiting_in page.serial f.streams ≡ waiting_in page.serial old.streams ++ take room t.takes.packets
  is =
      ap (waiting_in page.serial) t.is ∙ ap (λ n. waiting_in n (t.front ++ t.changed ∷ t.back)) (sym named)
      ∙ waiting_there t.front t.changed t.back
      (subst (λ l. IsDistinct nat_eq l) (sym (serials_there t.front t.stream t.changed t.back t.takes.serial)) (subst (λ l. IsDistinct nat_eq (serials l)) t.was distinct))
      ∙ t.takes.headers ∙ ap (λ l. l ++ take room t.takes.packets) (sym was)

  p : Passed page.serial page old new f.later f.streams more begins
  p = passed_by page.serial page old new more f

  put_all : (packets_in page.serial (put_of (map (entry_of page) f.later)) ≡ f.later) × (entries_in page.serial (put_of (map (entry_of page) f.later)) ≡ map (entry_of page) f.later)
  put_all = own_put page.serial page f.later refl

  split : take room t.takes.packets ++ f.later ≡ t.takes.packets
  split = ap (λ l. take room t.takes.packets ++ l) t.takes.others ∙ take-append-drop room t.takes.packets

  -- once the link has begun no packet is a header
  put_from : old.begun ≡ true → take room t.takes.packets ≡ []
  put_from e = ap (λ b. take (room_of b t.stream) t.takes.packets) e

  own_come : IsBare page.serial old → ComeOut page.serial t.takes.packets old new more × IsBare page.serial new
  own_come bare = at begins refl old.begun refl
    where
      W : List (List ℕ)
      W = waiting_in page.serial old.streams

      come : (b : Bool) → begins ≡ b → waiting_in page.serial old.streams ++ t.takes.packets ≡ (if_some b (waiting_in page.serial f.streams) ++ f.later) ++ if_some (not b) (waiting_in page.serial f.streams)
          → ComeOut page.serial t.takes.packets old new more
      come b e all =
          all
          ∙ ap (λ c. (if_some c (waiting_in page.serial f.streams) ++ f.later) ++ if_some (not c) (waiting_in page.serial f.streams)) (sym e)
          ∙ ap (λ l. (if_some begins (waiting_in page.serial f.streams) ++ l) ++ if_some (not begins) (waiting_in page.serial f.streams)) (sym put_all.0)
          ∙ ap (λ l. l ++ if_some (not begins) (waiting_in page.serial f.streams)) (sym p.packets)
          ∙ ap (λ l. packets_in page.serial more ++ l) (sym p.waiting)

      at : (b : Bool) → begins ≡ b → (c : Bool) → old.begun ≡ c → ComeOut page.serial t.takes.packets old new more × IsBare page.serial new
      at true e c d = (
        come true e
            (ap (λ l. W ++ l) (sym split) ∙ sym (append_assoc W (take room t.takes.packets) f.later) ∙ ap (λ l. l ++ f.later) (sym is)
            ∙ sym (append-nil (waiting_in page.serial f.streams ++ f.later))),
        λ _. p.waiting ∙ ap (λ x. if_some (not x) (waiting_in page.serial f.streams)) e,
      )
      at false e true d =
          let none : waiting_in page.serial f.streams ≡ [] = is ∙ ap (λ l. l ++ take room t.takes.packets) (bare d) ∙ put_from d in (
            come false e
                (ap (λ l. l ++ t.takes.packets) (bare d) ∙ sym split ∙ ap (λ l. l ++ f.later) (put_from d) ∙ sym (append-nil f.later)
                ∙ ap (λ l. f.later ++ l) (sym none)),
            λ _. p.waiting ∙ ap (λ x. if_some (not x) (waiting_in page.serial f.streams)) e ∙ none,
          )
      at false e false d =
          let none : f.later ≡ [] = kept_back link f.later e d in (
            come false e
                (ap (λ l. W ++ l) (sym split ∙ ap (λ l. take room t.takes.packets ++ l) none ∙ append-nil (take room t.takes.packets)) ∙ sym is
                ∙ ap (λ l. l ++ waiting_in page.serial f.streams) (sym none)),
            λ begun. absurd (false≢true (sym (p.begun ∙ ap (λ x. x || old.begun) e ∙ d) ∙ begun)),
          )

  abbrev own_entries_of : List Entry
  own_entries_of = map (entry_of page) t.takes.packets

  map_entry_app : (xs ys : List (List ℕ)) → map (entry_of page) (xs ++ ys) ≡ map (entry_of page) xs ++ map (entry_of page) ys
  map_entry_app [] ys = refl
  map_entry_app (x ∷ xs) ys = ap (λ l. entry_of page x ∷ l) (map_entry_app xs ys)

  pub own_step : StepOut page.serial (map (entry_of page) t.takes.packets) old new more
  own_step = record {
    come = λ bare. subst (λ l. ComeOut page.serial l old new more × IsBare page.serial new) (sym (packets_back page t.takes.packets)) (own_come bare);
    put = record {
      headers = map (entry_of page) (take room t.takes.packets);
      are = ap (map (entry_of page)) (sym split) ∙ map_entry_app (take room t.takes.packets) f.later
          ∙ ap (λ l. map (entry_of page) (take room t.takes.packets) ++ l) (sym (p.entries ∙ put_all.1));
      none = λ e. ap (map (entry_of page)) (put_from e);
    };
    begun = λ e. p.begun ∙ ap (λ x. begins || x) e ∙ or_true begins;
    waits = λ e. p.entries ∙ put_all.1 ∙ ap (map (entry_of page)) (none_put begins refl old.begun refl (sym p.begun ∙ e));
  }
    where
      or_true : (b : Bool) → (b || true) ≡ true
      or_true true = refl
      or_true false = refl

      none_put : (b : Bool) → begins ≡ b → (c : Bool) → old.begun ≡ c → (begins || old.begun) ≡ false → f.later ≡ []
      none_put true e c d still = absurd (false≢true (sym still ∙ ap (λ x. x || old.begun) e))
      none_put false e true d still = absurd (false≢true (sym still ∙ ap (λ x. x || old.begun) e ∙ d))
      none_put false e false d still = kept_back link f.later e d

  -- ---- of another stream
  pub other_step : (serial : ℕ) → (serial ≡ page.serial → ⊥) → StepOut serial [] old new more
  other_step serial ne =
      let q : Passed serial page old new f.later f.streams more begins = passed_by serial page old new more f in
      let same : waiting_in serial f.streams ≡ waiting_in serial old.streams =
      ap (waiting_in serial) t.is ∙ waiting_elsewhere serial t.front t.stream t.changed t.back (λ e. ne (sym e ∙ t.own)) t.takes.serial ∙ ap (waiting_in serial) (sym t.was) in
      let none = no_put serial page f.later (λ e. ne (sym e)) in
      record {
        come = λ bare. (
          append-nil (waiting_in serial old.streams) ∙ sym same ∙ either begins (waiting_in serial f.streams)
              ∙ ap (λ l. (if_some begins (waiting_in serial f.streams) ++ l) ++ if_some (not begins) (waiting_in serial f.streams)) (sym none.0)
              ∙ ap (λ l. l ++ if_some (not begins) (waiting_in serial f.streams)) (sym q.packets)
              ∙ ap (λ l. packets_in serial more ++ l) (sym q.waiting),
          λ begun. q.waiting ∙ bare_on begins (sym q.begun ∙ begun) (λ d. same ∙ bare d),
        );
        put = record { headers = []; are = sym (q.entries ∙ none.1); none = λ _. refl };
        begun = λ e. q.begun ∙ ap (λ x. begins || x) e ∙ or_true begins;
        waits = λ _. q.entries ∙ none.1;
      }
    where
      or_true : (b : Bool) → (b || true) ≡ true
      or_true true = refl
      or_true false = refl

      either : (b : Bool) (l : List (List ℕ)) → l ≡ (if_some b l ++ []) ++ if_some (not b) l
      either true l = sym (append-nil (l ++ []) ∙ append-nil l)
      either false l = refl

      bare_on : (b : Bool) → (b || old.begun) ≡ true → (old.begun ≡ true → waiting_in serial f.streams ≡ []) → if_some (not b) (waiting_in serial f.streams) ≡ []
      bare_on true e bare = refl
      bare_on false e bare = bare e
