-- What is kept of the streams of a link, after a page of one of them.
use Rattle.std.proofs.Common.{◌≡◌, ◌⊎◌, ℕ, Bool, true, false, cond, List, [], ◌∷◌, ◌++◌, map, take, drop, Some, None, refl, sym, ◌∙◌, ap, subst, inl, inr, take-append-drop}
use Rattle.std.specs.Prelude.{nat_eq}
use Rattle.std.specs.List.{AllByRecursion, IsDistinct}
use Rattle.std.proofs.lemmas.Bool.{cases_Bool, cases_eq, cond-true, cond-false, eq-eqb, ne_eqb, eqb-false}
use Rattle.ogg_page.specs.Page.{Page}
use Rattle.ogg_page.specs.LogicalStream.{is_last}
use Rattle.link_chain.specs.declared.stream_state.StreamState.{StreamState}
use Rattle.link_chain.specs.Progress.{change_at, stream_in}
use Rattle.link_chain.specs.Laws.Grow.{all_weaker}
use Rattle.link_chain.specs.Laws.LastLink.{all_split}
use Rattle.ogg_command.specs.declared.command.Command.{Command}
use Rattle.ogg_command.specs.declared.command.Command.TheVariants.{Begin as BeginOf, Put as PutOf, End as EndOf}
use Rattle.ogg_command.specs.declared.command.Entry.{Entry}
use Rattle.ogg_command.specs.declared.command.NewStream.{NewStream}
use Rattle.import_commands.specs.Commands.{entry_of, put_of}
use Rattle.import_gather.specs.Giving.{Follows, bare, begin_if, begins_now, begun_if, link_begin, marked, new_stream, page_end}
use Rattle.import_gather.specs.Kept.{KeptLink, KeptStream, TakenBy, TakesPage, ends_by, rest_of, room_of, without_rest}
use Rattle.import_gather.specs.Laws.{serials}
use Rattle.import_mend.specs.Origin.{CommandFrom, ComesFrom, HeaderFrom, KeptFrom}
use Rattle.import_mend.proofs.Runs.{comes_more}
use Rattle.ogg_page.specs.Laws.PageBytes.{all_both}

-- ---- by more pages nothing is lost
pub header_more : (seen more : List Page) (serial : ℕ) (header : List ℕ) → HeaderFrom seen serial header → HeaderFrom (seen ++ more) serial header
header_more seen more serial header h = (h.0, comes_more seen more serial h.0 header h.1)

pub kept_more : (seen more : List Page) (kept : KeptStream) → KeptFrom seen kept → KeptFrom (seen ++ more) kept
kept_more seen more kept h = all_weaker (HeaderFrom seen kept.serial) (HeaderFrom (seen ++ more) kept.serial) (header_more seen more kept.serial) kept.headers h

pub command_more : (seen more : List Page) (command : Command) → CommandFrom seen command → CommandFrom (seen ++ more) command
command_more seen more (BeginOf begin) h =
    all_weaker (λ (s : NewStream). AllByRecursion (HeaderFrom seen s.serial) s.headers) (λ (s : NewStream). AllByRecursion (HeaderFrom (seen ++ more) s.serial) s.headers)
    (λ s a. all_weaker (HeaderFrom seen s.serial) (HeaderFrom (seen ++ more) s.serial) (header_more seen more s.serial) s.headers a) begin.streams h
command_more seen more (PutOf put) h =
    all_weaker (λ (e : Entry). ComesFrom seen e.serial e.position e.packet) (λ (e : Entry). ComesFrom (seen ++ more) e.serial e.position e.packet)
    (λ e a. comes_more seen more e.serial e.position e.packet a) put.entries h
command_more seen more (EndOf serial) h = tt

-- ---- the unfinished bytes of a stream
at_head : (serial : ℕ) (k : KeptStream) (ks : List KeptStream) → k.serial ≡ serial → rest_of serial (k ∷ ks) ≡ k.rest
at_head serial k ks e = cond-true (nat_eq k.serial serial) k.rest (rest_of serial ks) (eq-eqb k.serial serial e)

behind_head : (serial : ℕ) (k : KeptStream) (ks : List KeptStream) → (k.serial ≡ serial → ⊥) → rest_of serial (k ∷ ks) ≡ rest_of serial ks
behind_head serial k ks ne = cond-false (nat_eq k.serial serial) k.rest (rest_of serial ks) (ne_eqb k.serial serial ne)

-- of the stream after those that have other serials
pub rest_there : (front : List KeptStream) (k : KeptStream) (back : List KeptStream) → IsDistinct nat_eq (serials (front ++ k ∷ back)) → rest_of k.serial (front ++ k ∷ back) ≡ k.rest
unfolding IsDistinct
rest_there [] k back d = at_head k.serial k back refl
rest_there (x ∷ front) k back d = behind_head k.serial x (front ++ k ∷ back) (λ e. eqb-false x.serial k.serial (away x.serial front k back d.0) e) ∙ rest_there front k back d.1
  where
    away : (n : ℕ) (front : List KeptStream) (k : KeptStream) (back : List KeptStream) → AllByRecursion (λ m. nat_eq n m ≡ false) (serials (front ++ k ∷ back)) → nat_eq n k.serial ≡ false
    away n [] k back h = h.0
    away n (y ∷ front) k back h = away n front k back h.1

-- of another stream
pub rest_elsewhere : (serial : ℕ) (front : List KeptStream) (k changed : KeptStream) (back : List KeptStream) → (k.serial ≡ serial → ⊥) → changed.serial ≡ k.serial →
    rest_of serial (front ++ changed ∷ back) ≡ rest_of serial (front ++ k ∷ back)
rest_elsewhere serial [] k changed back ne same = behind_head serial changed back (λ e. ne (sym same ∙ e)) ∙ sym (behind_head serial k back ne)
rest_elsewhere serial (x ∷ front) k changed back ne same = ap (λ l. cond (nat_eq x.serial serial) x.rest l) (rest_elsewhere serial front k changed back ne same)

pub serials_there : (front : List KeptStream) (k changed : KeptStream) (back : List KeptStream) → changed.serial ≡ k.serial → serials (front ++ changed ∷ back) ≡ serials (front ++ k ∷ back)
serials_there [] k changed back same = ap (λ n. n ∷ serials back) same
serials_there (x ∷ front) k changed back same = ap (λ l. x.serial ∷ l) (serials_there front k changed back same)

pub rest_bare : (serial : ℕ) (streams : List KeptStream) → rest_of serial (map bare streams) ≡ rest_of serial streams
rest_bare serial [] = refl
rest_bare serial (k ∷ streams) = ap (λ l. cond (nat_eq k.serial serial) k.rest l) (rest_bare serial streams)

pub rest_dropped : (serial other : ℕ) (streams : List KeptStream) → (other ≡ serial → ⊥) → rest_of other (map (without_rest serial) streams) ≡ rest_of other streams
rest_dropped serial other [] ne = refl
rest_dropped serial other (k ∷ streams) ne =
    elim (cases_eq k.serial serial) [
      | inl own ↦
          (let is : without_rest serial k ≡ record k { rest = [] } = cond-true (nat_eq k.serial serial) (record k { rest = [] }) k (eq-eqb k.serial serial own) in
          let away : (k.serial ≡ other → ⊥) = λ e. ne (sym e ∙ own) in
          ap (λ (x : KeptStream). rest_of other (x ∷ map (without_rest serial) streams)) is
          ∙ behind_head other (record k { rest = [] }) (map (without_rest serial) streams) away
          ∙ rest_dropped serial other streams ne ∙ sym (behind_head other k streams away))
      | inr other' ↦
          (let is : without_rest serial k ≡ k = cond-false (nat_eq k.serial serial) (record k { rest = [] }) k (ne_eqb k.serial serial other') in
          ap (λ (x : KeptStream). rest_of other (x ∷ map (without_rest serial) streams)) is ∙ ap (λ l. cond (nat_eq k.serial other) k.rest l) (rest_dropped serial other streams ne))
    ]

-- ---- the chain's stream
pub other_found : (serial other : ℕ) (change : StreamState → StreamState) (streams : List StreamState) → ((s : StreamState) → (change s).serial ≡ s.serial) → (other ≡ serial → ⊥) →
    stream_in (map (change_at serial change) streams) other ≡ stream_in streams other
other_found serial other change [] keeps ne = refl
other_found serial other change (s ∷ streams) keeps ne =
    let t : StreamState = change_at serial change s in
    elim (cases_eq s.serial serial) [
      | inl own ↦
          (let is : t ≡ change s = cond-true (nat_eq s.serial serial) (change s) s (eq-eqb s.serial serial own) in
          let away : nat_eq s.serial other ≡ false = ne_eqb s.serial other (λ e. ne (sym e ∙ own)) in
          cond-false (nat_eq t.serial other) (Some t) (stream_in (map (change_at serial change) streams) other) (ap (λ (x : StreamState). nat_eq x.serial other) is ∙ ap (λ n. nat_eq n other) (keeps s) ∙ away)
          ∙ other_found serial other change streams keeps ne ∙ sym (cond-false (nat_eq s.serial other) (Some s) (stream_in streams other) away))
      | inr else' ↦
          (let is : t ≡ s = cond-false (nat_eq s.serial serial) (change s) s (ne_eqb s.serial serial else') in
          ap (λ (x : StreamState). cond (nat_eq x.serial other) (Some x) (stream_in (map (change_at serial change) streams) other)) is
          ∙ ap (λ o. cond (nat_eq s.serial other) (Some s) o) (other_found serial other change streams keeps ne))
    ]

pub pushed_found : (streams : List StreamState) (new : StreamState) (serial : ℕ) (stream : StreamState) → stream_in (streams ++ new ∷ []) serial ≡ Some stream →
    (stream_in streams serial ≡ Some stream) ⊎ (new ≡ stream)
pushed_found [] new serial stream e = at (nat_eq new.serial serial) e
  where
    at : (b : Bool) → cond b (Some new) None ≡ Some stream → (stream_in [] serial ≡ Some stream) ⊎ (new ≡ stream)
    at true f = inr (cc)
    at false f = cc
pushed_found (s ∷ streams) new serial stream e =
    elim (cases_Bool (nat_eq s.serial serial)) [
      | inl here ↦ inl (cond-true (nat_eq s.serial serial) (Some s) (stream_in streams serial) here ∙ sym (cond-true (nat_eq s.serial serial) (Some s) (stream_in (streams ++ new ∷ []) serial) here) ∙ e)
      | inr there ↦
          elim (pushed_found streams new serial stream (sym (cond-false (nat_eq s.serial serial) (Some s) (stream_in (streams ++ new ∷ []) serial) there) ∙ e)) [
            | inl old ↦ inl (cond-false (nat_eq s.serial serial) (Some s) (stream_in streams serial) there ∙ old)
            | inr is ↦ inr is
          ]
    ]

-- ---- the commands of a page, and what stays
all_front : (P : List ℕ → Type 0) (n : ℕ) (xs : List (List ℕ)) → AllByRecursion P xs → AllByRecursion P (take n xs)
all_front P n xs all = (all_split P (take n xs) (drop n xs) (subst (AllByRecursion P) (sym (take-append-drop n xs)) all)).0

all_back : (P : List ℕ → Type 0) (n : ℕ) (xs : List (List ℕ)) → AllByRecursion P xs → AllByRecursion P (drop n xs)
all_back P n xs all = (all_split P (take n xs) (drop n xs) (subst (AllByRecursion P) (sym (take-append-drop n xs)) all)).1

put_from : (seen : List Page) (page : Page) (packets : List (List ℕ)) → AllByRecursion (ComesFrom seen page.serial page.position) packets → AllByRecursion (CommandFrom seen) (put_of (map (entry_of page) packets))
put_from seen page [] all = tt
put_from seen page (packet ∷ packets) all = ((all.0, entries packets all.1), tt)
  where
    entries : (packets : List (List ℕ)) → AllByRecursion (ComesFrom seen page.serial page.position) packets →
        AllByRecursion (λ (e : Entry). ComesFrom seen e.serial e.position e.packet) (map (entry_of page) packets)
    entries [] all' = tt
    entries (p ∷ ps) all' = (all'.0, entries ps all'.1)

pub begin_from : (seen : List Page) (link : KeptLink) → AllByRecursion (KeptFrom seen) link.streams → AllByRecursion (CommandFrom seen) (link_begin link)
begin_from seen link all = (streams link.streams all, ends link.ends)
  where
    streams : (streams : List KeptStream) → AllByRecursion (KeptFrom seen) streams → AllByRecursion (λ (s : NewStream). AllByRecursion (HeaderFrom seen s.serial) s.headers) (map new_stream streams)
    streams [] a = tt
    streams (k ∷ ks) a = (a.0, streams ks a.1)

    ends : (serials : List ℕ) → AllByRecursion (CommandFrom seen) (map (λ serial. EndOf serial) serials)
    ends [] = tt
    ends (s ∷ ss) = (tt, ends ss)

bare_from : (seen : List Page) (streams : List KeptStream) → AllByRecursion (KeptFrom seen) (map bare streams)
bare_from seen [] = tt
bare_from seen (k ∷ streams) = (tt, bare_from seen streams)

pub begin_if_from : (seen : List Page) (b : Bool) (link : KeptLink) → AllByRecursion (KeptFrom seen) link.streams → AllByRecursion (CommandFrom seen) (begin_if b link)
begin_if_from seen true link all = begin_from seen link all
begin_if_from seen false link all = tt

begun_if_from : (seen : List Page) (b : Bool) (link : KeptLink) → AllByRecursion (KeptFrom seen) link.streams → AllByRecursion (KeptFrom seen) (begun_if b link).streams
begun_if_from seen true link all = bare_from seen link.streams
begun_if_from seen false link all = all

marked_streams : (page : Page) (link : KeptLink) → (marked page link).streams ≡ link.streams
marked_streams page link = by_case link.begun
  where
    by_case : (b : Bool) → (cond b link (record link { ends = link.ends ++ ends_by page })).streams ≡ link.streams
    by_case true = refl
    by_case false = refl

end_from : (seen : List Page) (page : Page) (link : KeptLink) → AllByRecursion (CommandFrom seen) (page_end page link)
end_from seen page link = by_case link.begun (is_last page)
  where
    by_case : (a b : Bool) → AllByRecursion (CommandFrom seen) (cond a (cond b (EndOf page.serial ∷ []) []) [])
    by_case true true = (tt, tt)
    by_case true false = tt
    by_case false b = tt

pub without_from : (seen : List Page) (serial : ℕ) (streams : List KeptStream) → AllByRecursion (KeptFrom seen) streams → AllByRecursion (KeptFrom seen) (map (without_rest serial) streams)
without_from seen serial [] all = tt
without_from seen serial (k ∷ streams) all = (by_case (nat_eq k.serial serial), without_from seen serial streams all.1)
  where
    by_case : (b : Bool) → KeptFrom seen (cond b (record k { rest = [] }) k)
    by_case true = all.0
    by_case false = all.0

pub begun_rest : (serial : ℕ) (b : Bool) (link : KeptLink) → rest_of serial (begun_if b link).streams ≡ rest_of serial link.streams
begun_rest serial true link = rest_bare serial link.streams
begun_rest serial false link = refl

-- all that a page of a stream does, if its packets come from these pages
pub record FollowsFrom (seen : List Page) (page : Page) (old new : KeptLink) (more : List Command) : Type 0 where
  pub headers : AllByRecursion (KeptFrom seen) new.streams
  pub commands : AllByRecursion (CommandFrom seen) more
  pub others : (serial : ℕ) → (serial ≡ page.serial → ⊥) → rest_of serial new.streams ≡ rest_of serial old.streams

pub follows_from : (seen : List Page) (page : Page) (old new : KeptLink) (more : List Command) (f : Follows page old new more) → AllByRecursion (KeptFrom seen) old.streams
    → AllByRecursion (ComesFrom seen page.serial page.position) f.taken.takes.packets → FollowsFrom seen page old new more
follows_from seen page old new more f kept come =
    let t : TakenBy old.begun page old.streams f.streams f.later = f.taken in
    let k : TakesPage old.begun page t.stream t.changed f.later = t.takes in
    let link : KeptLink = record old { streams = f.streams } in
    let begins : Bool = begins_now link f.later in
    let parts : AllByRecursion (KeptFrom seen) t.front × AllByRecursion (KeptFrom seen) (t.stream ∷ t.back) = all_split (KeptFrom seen) t.front (t.stream ∷ t.back) (subst (AllByRecursion (KeptFrom seen)) t.was kept) in
    let packets : AllByRecursion (HeaderFrom seen page.serial) k.packets =
    all_weaker (ComesFrom seen page.serial page.position) (HeaderFrom seen page.serial) (λ p c. (page.position, c)) k.packets come in
    let own : AllByRecursion (HeaderFrom seen page.serial) (t.stream.headers ++ take (room_of old.begun t.stream) k.packets) =
    all_both (HeaderFrom seen page.serial) t.stream.headers (take (room_of old.begun t.stream) k.packets) (subst (λ n. AllByRecursion (HeaderFrom seen n) t.stream.headers) t.own parts.1.0)
    (all_front (HeaderFrom seen page.serial) (room_of old.begun t.stream) k.packets packets) in
    let changed : KeptFrom seen t.changed =
    subst (λ n. AllByRecursion (HeaderFrom seen n) t.changed.headers) (sym (k.serial ∙ t.own)) (subst (AllByRecursion (HeaderFrom seen page.serial)) (sym k.headers) own) in
    let all : AllByRecursion (KeptFrom seen) f.streams = subst (AllByRecursion (KeptFrom seen)) (sym t.is) (all_both (KeptFrom seen) t.front (t.changed ∷ t.back) parts.0 (changed, parts.1.1)) in
    let later : AllByRecursion (ComesFrom seen page.serial page.position) f.later =
    subst (AllByRecursion (ComesFrom seen page.serial page.position)) (sym k.others) (all_back (ComesFrom seen page.serial page.position) (room_of old.begun t.stream) k.packets come) in
    let stays : new.streams ≡ (begun_if begins link).streams = ap (λ (l : KeptLink). l.streams) f.passed.stays ∙ marked_streams page (begun_if begins link) in
    record {
      headers = subst (AllByRecursion (KeptFrom seen)) (sym stays) (begun_if_from seen begins link all);
      commands = subst (AllByRecursion (CommandFrom seen)) (sym f.passed.commands)
          (all_both (CommandFrom seen) (begin_if begins link) (put_of (map (entry_of page) f.later) ++ page_end page (begun_if begins link)) (begin_if_from seen begins link all)
          (all_both (CommandFrom seen) (put_of (map (entry_of page) f.later)) (page_end page (begun_if begins link)) (put_from seen page f.later later) (end_from seen page (begun_if begins link))));
      others = λ serial ne.
          ap (rest_of serial) stays ∙ begun_rest serial begins link ∙ ap (rest_of serial) t.is
          ∙ rest_elsewhere serial t.front t.stream t.changed t.back (λ e. ne (sym e ∙ t.own)) k.serial ∙ ap (rest_of serial) (sym t.was);
    }

-- the unfinished bytes of the page's stream, before it and after it
pub rest_before : (page : Page) (old new : KeptLink) (more : List Command) (f : Follows page old new more) → IsDistinct nat_eq (serials old.streams) → f.taken.stream.rest ≡ rest_of page.serial old.streams
rest_before page old new more f d =
    let t = f.taken in
    sym (ap (rest_of page.serial) t.was ∙ ap (λ n. rest_of n (t.front ++ t.stream ∷ t.back)) (sym t.own)
    ∙ rest_there t.front t.stream t.back (subst (λ l. IsDistinct nat_eq (serials l)) t.was d))

pub rest_after : (page : Page) (old new : KeptLink) (more : List Command) (f : Follows page old new more) → IsDistinct nat_eq (serials old.streams) → rest_of page.serial new.streams ≡ f.taken.changed.rest
rest_after page old new more f d =
    let t = f.taken in
    let link : KeptLink = record old { streams = f.streams } in
    let begins : Bool = begins_now link f.later in
    let named : t.changed.serial ≡ page.serial = t.takes.serial ∙ t.own in
    let distinct : IsDistinct nat_eq (serials (t.front ++ t.changed ∷ t.back)) =
    subst (λ l. IsDistinct nat_eq l) (sym (serials_there t.front t.stream t.changed t.back t.takes.serial)) (subst (λ l. IsDistinct nat_eq (serials l)) t.was d) in
    ap (λ (l : KeptLink). rest_of page.serial l.streams) f.passed.stays ∙ ap (rest_of page.serial) (marked_streams page (begun_if begins link))
    ∙ begun_rest page.serial begins link ∙ ap (rest_of page.serial) t.is ∙ ap (λ n. rest_of n (t.front ++ t.changed ∷ t.back)) (sym named)
    ∙ rest_there t.front t.changed t.back distinct
