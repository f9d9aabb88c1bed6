-- What a resource has lies at the place that the index says.
use Rattle.std.proofs.Common.{◌≡◌, inl, inr, ℕ, zero, suc, ◌+◌, ◌≤◌, ◌<◌, ◌^◌, true, false, nat_eq, Option, Some, None, List, [], ◌∷◌, ◌++◌, length, take, drop, refl, sym, ◌∙◌, ap, subst, arith, append_assoc, length-append, slice_get, option_map, option_and_then, length-drop}
use Rattle.std.specs.Prelude.{◌||◌, if◌then◌else◌, map, sum_by}
use Rattle.std.specs.List.{flat_map, list_any, AllByRecursion}
use Rattle.std.proofs.Math.Seq.{drop-append-add}
use Rattle.std.proofs.lemmas.Bool.{cases_Bool, cond-true, cond-false, eqb-true, eq-eqb, ne_eqb}
use Rattle.std.proofs.lemmas.List.{take-append-le, drop-append-le}
use Rattle.std.proofs.lemmas.List.Sums.{sum_by-cons}
use Rattle.std.proofs.lemmas.Option.{slice_get_within}
use Rattle.ogg_page.specs.Page.{Page, IsPage, page_size, bytes_of_pages}
use Rattle.ogg_page.specs.PageLaws.{length-page_bytes}
use Rattle.ogg_page.specs.Page.{page_bytes}
use Rattle.link_chain.specs.ChainState.{chain_state_of}
use Rattle.link_chain.specs.Laws.Lengths.{sizes_are}
use Rattle.link_chain.specs.Links.{AreLinks, has_stream, pages_with, serials_of}
use Rattle.link_index.specs.Adding.{IndexState, IsIndexOf}
use Rattle.link_index.specs.Index.{LinkEntry, link_entry, index_from, index_of, stream_info}
use Rattle.link_index.specs.IndexLaws.{Between, between}
use Rattle.link_index.specs.Listing.{listing}
use Rattle.link_index.specs.declared.info.LinkInfo.{LinkInfo}
use Rattle.serve_responses.specs.Response.{Content, Pages, content_of, stream_in_link, bytes_of_links}
use Rattle.ogg_http.specs.declared.target.Resource.TheVariants.{All as AllOf, Link as LinkOf, Stream as StreamOf}
use Rattle.serve_machine.specs.Places.{part_at}
use Rattle.serve_sending.specs.Answering.{AreFound, IsFound, bytes_with}
use Rattle.serve_sending.specs.declared.finding.Found.TheVariants.{File, Pages as PagesOf}

-- ---- sizes
pub end_is : (committed : List ℕ) (links : List (List Page)) (index : IndexState) → AreLinks committed links → IsIndexOf links index
    → index.chain.chain.length_of ≡ length committed
end_is committed links index are is = ap (λ c. c.length_of) is.chain_is ∙ sizes_are links ∙ ap length (sym are.spelled)

-- ---- the listing and the file
pub list_found : (committed : List ℕ) (links : List (List Page)) (index : IndexState) → AreLinks committed links → IsIndexOf links index
    → listing (length (bytes_of_links links)) (index_of links) ≡ listing index.chain.chain.length_of index.entries
list_found committed links index are is =
    ap (λ n. listing n (index_of links)) (ap length (sym are.spelled) ∙ sym (end_is committed links index are is)) ∙ ap (listing index.chain.chain.length_of) (sym is.entries_are)

pub all_found : (committed text : List ℕ) (links : List (List Page)) (index : IndexState) (end : ℕ) → AreLinks committed links → IsIndexOf links index
    → end ≡ index.chain.chain.length_of → end < 2 ^ 64 → IsFound committed text (content_of links AllOf) (Some (File 0 end))
all_found committed text links index end are is at short =
    let all : length committed ≡ end = sym (at ∙ end_is committed links index are is) in
    subst (λ b. AreFound committed b (File 0 end)) are.spelled
    (record {
      length_is = all;
      cuts = λ skip count inside. ((let e : 0 + skip + count ≤ length committed = omega (arith, inside) in e), ap (λ k. part_at k count committed) (let e : skip ≡ 0 + skip = omega arith in e));
      short = omega (arith, short);
    })

-- ---- a link among links
value_in : {A : Type 0} → A → Option A → A
value_in a None = a
value_in a (Some b) = b

same_value : {A : Type 0} (a b : A) → Some a ≡ Some b → a ≡ b
unfolding value_in
same_value a b e = ap (value_in a) e

some_of : {A B : Type 0} (f : A → B) (o : Option A) (y : B) → option_map f o ≡ Some y → (x : A) × (o ≡ Some x) × (f x ≡ y)
some_of f None y e = cc
some_of f (Some x) y e = (x, refl, same_value (f x) y e)

none_of : {A B : Type 0} (f : A → B) (o : Option A) → option_map f o ≡ None → o ≡ None
none_of f None e = refl
none_of f (Some x) e = cc

-- a link that isn't there has no entry
no_entry : (links : List (List Page)) (number first : ℕ) → slice_get links number ≡ None → slice_get (index_from first links) number ≡ None
no_entry [] number first e = refl
no_entry (l ∷ links) zero first e = cc
no_entry (l ∷ links) (suc number) first e = no_entry links number (first + length (bytes_of_pages l)) e

-- what the index says of it
record Told (committed : List ℕ) (links : List (List Page)) (number : ℕ) (link : List Page) (entry : LinkEntry) : Type 0 where
  pub between : Between links number 0 link
  pub start : entry.info.start ≡ length between.before
  pub length_is : entry.info.length ≡ length (bytes_of_pages link)
  pub streams : entry.streams ≡ map (stream_info link) (serials_of link)
  pub split : committed ≡ between.before ++ (bytes_of_pages link ++ between.behind)

told : (committed : List ℕ) (links : List (List Page)) (index : IndexState) (number : ℕ) (link : List Page) (entry : LinkEntry) → AreLinks committed links → IsIndexOf links index
    → slice_get links number ≡ Some link → slice_get index.entries number ≡ Some entry → Told committed links number link entry
told committed links index number link entry are is e there =
    let b = between links number 0 link are.pages e in
    let same : link_entry (0 + length b.before) link ≡ entry =
    same_value (link_entry (0 + length b.before) link) entry (sym b.entry ∙ ap (λ (l : List LinkEntry). slice_get l number) (sym is.entries_are) ∙ there) in
    record {
      between = b;
      start = ap (λ (x : LinkEntry). x.info.start) (sym same) ∙ (let z : 0 + length b.before ≡ length b.before = omega arith in z);
      length_is = ap (λ (x : LinkEntry). x.info.length) (sym same);
      streams = ap (λ (x : LinkEntry). x.streams) (sym same);
      split = are.spelled ∙ b.joined;
    }

-- it lies in the file
inside_file : (committed front own behind : List ℕ) → committed ≡ front ++ (own ++ behind) → length front + length own ≤ length committed
inside_file committed front own behind e = omega (arith, ap length e, length-append front (own ++ behind), length-append own behind)

part_of : (committed front own behind : List ℕ) (skip count : ℕ) → committed ≡ front ++ (own ++ behind) → skip + count ≤ length own
    → part_at skip count own ≡ part_at (length front + skip) count committed
part_of committed front own behind skip count e inside =
    sym (ap (λ l. part_at (length front + skip) count l) e ∙ ap (take count) (drop-append-add front (own ++ behind) skip)
    ∙ ap (take count) (drop-append-le skip own behind (omega (arith, inside)))
    ∙ take-append-le count (drop skip own) behind (omega (arith, inside, length-drop skip own)))

pub link_found : (committed text : List ℕ) (links : List (List Page)) (index : IndexState) (number end : ℕ) (info : LinkInfo) → AreLinks committed links → IsIndexOf links index
    → end ≡ index.chain.chain.length_of → end < 2 ^ 64 → option_map (λ (entry : LinkEntry). entry.info) (slice_get index.entries number) ≡ Some info
    → IsFound committed text (content_of links (LinkOf number)) (Some (File info.start info.length)) × (info.start + info.length ≤ end)
link_found committed text links index number end info are is at short there = by (slice_get links number) refl
  where
    by : (o : Option (List Page)) → slice_get links number ≡ o
        → IsFound committed text (option_map (λ link. Pages (bytes_of_pages link)) o) (Some (File info.start info.length)) × (info.start + info.length ≤ end)
    by None e =
        let (entry, found, same) = some_of (λ (x : LinkEntry). x.info) (slice_get index.entries number) info there in
        let none : None ≡ Some entry = sym (no_entry links number 0 e) ∙ ap (λ (l : List LinkEntry). slice_get l number) (sym is.entries_are) ∙ found in
        cc
    by (Some link) e =
        let (entry, found, same) = some_of (λ (x : LinkEntry). x.info) (slice_get index.entries number) info there in
        let t = told committed links index number link entry are is e found in
        let start : info.start ≡ length t.between.before = ap (λ (i : LinkInfo). i.start) (sym same) ∙ t.start in
        let long : info.length ≡ length (bytes_of_pages link) = ap (λ (i : LinkInfo). i.length) (sym same) ∙ t.length_is in
        let within = inside_file committed t.between.before (bytes_of_pages link) t.between.behind t.split in
        let all = at ∙ end_is committed links index are is in (
          record {
            length_is = sym long;
            cuts = λ skip count inside. (
              (let z : info.start + skip + count ≤ length committed = omega (arith, within, inside, start) in z),
              part_of committed t.between.before (bytes_of_pages link) t.between.behind skip count t.split inside ∙ ap (λ k. part_at (k + skip) count committed) (sym start),
            );
            short = omega (arith, within, all, start, long, short);
          },
          omega (arith, within, all, start, long),
        )

pub no_link : (committed text : List ℕ) (links : List (List Page)) (index : IndexState) (number : ℕ) (f : List Page → Option Content) → IsIndexOf links index
    → AreLinks committed links → slice_get index.entries number ≡ None → IsFound committed text (option_and_then f (slice_get links number)) None
no_link committed text links index number f is are none = by (slice_get links number) refl
  where
    by : (o : Option (List Page)) → slice_get links number ≡ o → IsFound committed text (option_and_then f o) None
    by None e = tt
    by (Some link) e =
        let b = between links number 0 link are.pages e in
        let lost : None ≡ Some (link_entry (0 + length b.before) link) = sym none ∙ ap (λ (l : List LinkEntry). slice_get l number) is.entries_are ∙ b.entry in
        cc

pub no_whole_link : (committed text : List ℕ) (links : List (List Page)) (index : IndexState) (number : ℕ) → IsIndexOf links index → AreLinks committed links
    → option_map (λ (entry : LinkEntry). entry.info) (slice_get index.entries number) ≡ None → IsFound committed text (content_of links (LinkOf number)) None
no_whole_link committed text links index number is are none = by (slice_get links number) refl
  where
    by : (o : Option (List Page)) → slice_get links number ≡ o → IsFound committed text (option_map (λ link. Pages (bytes_of_pages link)) o) None
    by None e = tt
    by (Some link) e =
        let b = between links number 0 link are.pages e in
        let lost : None ≡ Some (link_entry (0 + length b.before) link) =
        sym (none_of (λ (x : LinkEntry). x.info) (slice_get index.entries number) none) ∙ ap (λ (l : List LinkEntry). slice_get l number) is.entries_are ∙ b.entry in
        cc

pub no_info : (links : List (List Page)) (index : IndexState) (number : ℕ) → option_map (λ (entry : LinkEntry). entry.info) (slice_get index.entries number) ≡ None
    → slice_get index.entries number ≡ None
no_info links index number none = none_of (λ (x : LinkEntry). x.info) (slice_get index.entries number) none

-- ---- a stream of a link
streams_told : (link : List Page) (serials : List ℕ) (serial : ℕ) → bytes_with serial (map (stream_info link) serials)
    ≡ (if list_any (nat_eq serial) serials then Some (length (bytes_of_pages (pages_with serial link))) else None)
streams_told link [] serial = refl
streams_told link (first ∷ serials) serial =
    let rest = bytes_with serial (map (stream_info link) serials) in
    let any = list_any (nat_eq serial) serials in
    let some = Some (length (bytes_of_pages (pages_with serial link))) in
    elim (cases_Bool (nat_eq first serial)) [
      | inl yes_it ↦
          let same : first ≡ serial = eqb-true first serial yes_it in
          cond-true (nat_eq first serial) (Some (length (bytes_of_pages (pages_with first link)))) rest yes_it
          ∙ ap (λ s. Some (length (bytes_of_pages (pages_with s link)))) same
          ∙ sym (ap (λ b. if b || any then some else None) (eq-eqb serial first (sym same)))
      | inr not_it ↦
          cond-false (nat_eq first serial) (Some (length (bytes_of_pages (pages_with first link)))) rest not_it
          ∙ streams_told link serials serial
          ∙ sym (ap (λ b. if b || any then some else None) (ne_other first serial not_it))
    ]
  where
    ne_other : (a b : ℕ) → nat_eq a b ≡ false → nat_eq b a ≡ false
    ne_other a b e = ne_eqb b a (λ same. let z : true ≡ false = sym (eq-eqb a b (sym same)) ∙ e in cc)

pub stream_found : (committed text : List ℕ) (links : List (List Page)) (index : IndexState) (number serial : ℕ) (entry : LinkEntry) → AreLinks committed links → IsIndexOf links index
    → slice_get index.entries number ≡ Some entry
    → IsFound committed text (content_of links (StreamOf number serial)) (option_map (λ n. PagesOf serial entry.info.start n) (bytes_with serial entry.streams))
stream_found committed text links index number serial entry are is there = by (slice_get links number) refl
  where
    by : (o : Option (List Page)) → slice_get links number ≡ o
        → IsFound committed text (option_and_then (stream_in_link serial) o) (option_map (λ n. PagesOf serial entry.info.start n) (bytes_with serial entry.streams))
    by None e =
        let none : None ≡ Some entry = sym (no_entry links number 0 e) ∙ ap (λ (l : List LinkEntry). slice_get l number) (sym is.entries_are) ∙ there in
        cc
    by (Some link) e =
        let t = told committed links index number link entry are is e there in
        let own = bytes_of_pages (pages_with serial link) in
        let bytes_are = ap (bytes_with serial) t.streams ∙ streams_told link (serials_of link) serial in
        elim (cases_Bool (has_stream link serial)) [
          | inl has ↦
              let content = cond-true (has_stream link serial) (Some (Pages own)) None has in
              let found = bytes_are ∙ cond-true (has_stream link serial) (Some (length own)) None has in
              subst (λ (o : Option ℕ). IsFound committed text (stream_in_link serial link) (option_map (λ n. PagesOf serial entry.info.start n) o)) (sym found)
              (subst (λ (o : Option Content). IsFound committed text o (Some (PagesOf serial entry.info.start (length own)))) (sym content)
              (record {
                length_is = refl;
                cuts = λ skip count inside. record {
                  front = t.between.before;
                  pages = link;
                  behind = t.between.behind;
                  split = t.split;
                  place_is = sym t.start;
                  are_pages = t.between.are_pages;
                  inside = inside;
                  rest_is = refl;
                };
                short = omega arith;
              }))
          | inr lacks ↦
              let content = cond-false (has_stream link serial) (Some (Pages own)) None lacks in
              let found = bytes_are ∙ cond-false (has_stream link serial) (Some (length own)) None lacks in
              subst (λ (o : Option ℕ). IsFound committed text (stream_in_link serial link) (option_map (λ n. PagesOf serial entry.info.start n) o)) (sym found)
              (subst (λ (o : Option Content). IsFound committed text o None) (sym content) tt)
        ]

pub info_is : (entries : List LinkEntry) (number : ℕ) (entry : LinkEntry) (info : LinkInfo) → slice_get entries number ≡ Some entry
    → option_map (λ (x : LinkEntry). x.info) (slice_get entries number) ≡ Some info → entry.info ≡ info
info_is entries number entry info there e = same_value entry.info info (ap (option_map (λ (x : LinkEntry). x.info)) (sym there) ∙ e)

pub some_entry : (entries : List LinkEntry) (number : ℕ) (info : LinkInfo) → option_map (λ (x : LinkEntry). x.info) (slice_get entries number) ≡ Some info
    → number < length entries
some_entry entries number info e =
    let (entry, there, same) = some_of (λ (x : LinkEntry). x.info) (slice_get entries number) info e in
    slice_get_within entries number entry there

pub no_true : false ≡ true → ⊥
no_true e = cc
