-- The packets that are whole in a run of pages, page by page.
use Rattle.std.proofs.Common.{◌≡◌, ◌≢◌, ℕ, zero, suc, ◌+◌, List, [], ◌∷◌, ◌++◌, length, map, replicate, sum, refl, sym, ◌∙◌, ap, subst, arith, append_assoc, append-nil}
use Rattle.std.specs.List.{AllByRecursion, concat, flat_map}
use Rattle.std.proofs.lemmas.List.{append_cancel_left, replicate-append-replicate}
use Rattle.std.proofs.lemmas.List.Concat.{flat_map-append}
use Rattle.ogg_page.specs.Page.{Page}
use Rattle.ogg_page.specs.Lacing.{lace}
use Rattle.ogg_page.specs.Laws.Prefixes.{same_fronts}
use Rattle.ogg_page.specs.StreamLaws.{same_lacing}
use Rattle.ogg_page.specs.LogicalStream.{joined_bodies, joined_lacing}
use Rattle.packetiser.specs.Run.{packets_ended}
use Rattle.ogg_command.specs.declared.command.Entry.{Entry}
use Rattle.import_commands.specs.Laws.{ended_app, ended_full, ended_packets}
use Rattle.import_commands.specs.Commands.{entry_of}
use Rattle.import_gather.specs.Cutting.{CutsInto}
use Rattle.import_mend.specs.Runs.{HoldWhole, positions_of, values_before}

abbrev pub laced : List Entry → List ℕ
laced entries = flat_map (λ (e : Entry). lace e.packet) entries

abbrev pub bytes_in : List Entry → List ℕ
bytes_in entries = flat_map (λ (e : Entry). e.packet) entries

-- ---- packets as the entries of a page
laced_entries : (page : Page) (packets : List (List ℕ)) → laced (map (entry_of page) packets) ≡ flat_map lace packets
laced_entries page [] = refl
laced_entries page (p ∷ ps) = ap (λ l. lace p ++ l) (laced_entries page ps)

bytes_entries : (page : Page) (packets : List (List ℕ)) → bytes_in (map (entry_of page) packets) ≡ concat packets
bytes_entries page [] = refl
bytes_entries page (p ∷ ps) = ap (λ l. p ++ l) (bytes_entries page ps)

at_positions : (page : Page) (packets : List (List ℕ)) → map (λ (e : Entry). e.position) (map (entry_of page) packets) ≡ replicate (length packets) page.position
at_positions page [] = refl
at_positions page (p ∷ ps) = ap (λ l. page.position ∷ l) (at_positions page ps)

own_serials : (serial : ℕ) (page : Page) (packets : List (List ℕ)) → page.serial ≡ serial → AllByRecursion (λ (e : Entry). e.serial ≡ serial) (map (entry_of page) packets)
own_serials serial page [] own = tt
own_serials serial page (p ∷ ps) own = (own, own_serials serial page ps own)

all_app : (serial : ℕ) (xs ys : List Entry) → AllByRecursion (λ (e : Entry). e.serial ≡ serial) xs → AllByRecursion (λ (e : Entry). e.serial ≡ serial) ys
    → AllByRecursion (λ (e : Entry). e.serial ≡ serial) (xs ++ ys)
all_app serial [] ys a b = b
all_app serial (x ∷ xs) ys (own, a) b = (own, all_app serial xs ys a b)

map_positions : (xs ys : List Entry) → map (λ (e : Entry). e.position) (xs ++ ys) ≡ map (λ (e : Entry). e.position) xs ++ map (λ (e : Entry). e.position) ys
map_positions [] ys = refl
map_positions (x ∷ xs) ys = ap (λ l. x.position ∷ l) (map_positions xs ys)

-- ---- the same pages hold the same packets
pub hold_as : (serial : ℕ) (pages others : List Page) (a b : List Entry) → pages ≡ others → a ≡ b → (w : HoldWhole serial pages a)
    → (v : HoldWhole serial others b) × (v.unfinished ≡ w.unfinished)
hold_as serial pages others a b e f w = (
  record {
    rest = w.rest;
    rest_positions = w.rest_positions;
    segments = w.segments;
    unfinished = w.unfinished;
    lacing = ap joined_lacing (sym e) ∙ w.lacing ∙ ap (λ p. values_before p ++ (laced a ++ replicate w.segments 255)) e
        ∙ ap (λ l. values_before others ++ (laced l ++ replicate w.segments 255)) f;
    bodies = ap joined_bodies (sym e) ∙ w.bodies ∙ ap (λ l. w.rest ++ (bytes_in l ++ w.unfinished)) f;
    rest_size = w.rest_size ∙ ap (λ p. sum (values_before p)) e;
    unfinished_size = w.unfinished_size;
    positions = ap positions_of (sym e) ∙ w.positions ∙ ap (λ l. w.rest_positions ++ map (λ (x : Entry). x.position) l) f;
    rest_count = w.rest_count ∙ ap (λ p. packets_ended (values_before p)) e;
    own = subst (AllByRecursion (λ (x : Entry). x.serial ≡ serial)) f w.own;
  },
  refl,
)

-- ---- the first page of a run
pub first_whole : (serial : ℕ) (page : Page) (front front_bytes values body : List ℕ) (packets : List (List ℕ)) (left : List ℕ) → page.serial ≡ serial
    → values_before (page ∷ []) ≡ front → page.lacing ≡ front ++ values → page.body ≡ front_bytes ++ body → length front_bytes ≡ sum front
    → CutsInto 0 [] values body packets left → (whole : HoldWhole serial (page ∷ []) (map (entry_of page) packets)) × (whole.unfinished ≡ left)
first_whole serial page front front_bytes values body packets left own before lacing bytes place c =
    let entries : List Entry = map (entry_of page) packets in
    let count : packets_ended page.lacing ≡ packets_ended front + length packets =
    ap packets_ended (lacing ∙ ap (λ l. front ++ l) c.lacing) ∙ ended_app front (flat_map lace packets ++ replicate c.later 255)
    ∙ omega (arith, ended_app (flat_map lace packets) (replicate c.later 255), ended_packets packets, ended_full c.later) in (
      record {
        rest = front_bytes;
        rest_positions = replicate (packets_ended front) page.position;
        segments = c.later;
        unfinished = left;
        lacing = append-nil page.lacing ∙ lacing ∙ ap (λ l. front ++ l) (c.lacing ∙ ap (λ l. l ++ replicate c.later 255) (sym (laced_entries page packets)))
            ∙ ap (λ l. l ++ (laced entries ++ replicate c.later 255)) (sym before);
        bodies = append-nil page.body ∙ bytes ∙ ap (λ l. front_bytes ++ l) (c.bodies ∙ ap (λ l. l ++ left) (sym (bytes_entries page packets)));
        rest_size = place ∙ ap sum (sym before);
        unfinished_size = c.left_size;
        positions = append-nil (replicate (packets_ended page.lacing) page.position)
            ∙ ap (λ n. replicate n page.position) count
            ∙ sym (replicate-append-replicate (packets_ended front) (length packets) page.position)
            ∙ ap (λ l. replicate (packets_ended front) page.position ++ l) (sym (at_positions page packets));
        rest_count = count_of (packets_ended front) page.position ∙ ap packets_ended (sym before);
        own = own_serials serial page packets own;
      },
      refl,
    )
  where
    count_of : (n position : ℕ) → length {A = ℕ} (replicate n position) ≡ n
    count_of zero position = refl
    count_of (suc n) position = omega (arith, count_of n position)

-- ---- one more page
before_more : (run : List Page) (page : Page) → run ≢ [] → values_before (run ++ page ∷ []) ≡ values_before run
before_more [] page some = absurd (some refl)
before_more (p ∷ run) page some = refl

pub one_more : (serial : ℕ) (run : List Page) (entries : List Entry) (page : Page) (packets : List (List ℕ)) (left : List ℕ) → page.serial ≡ serial → run ≢ []
    → (whole : HoldWhole serial run entries) → CutsInto whole.segments whole.unfinished page.lacing page.body packets left
    → (now : HoldWhole serial (run ++ page ∷ []) (entries ++ map (entry_of page) packets)) × (now.unfinished ≡ left)
one_more serial run entries page packets left own some whole c =
    let more : List Entry = map (entry_of page) packets in
    let before : values_before (run ++ page ∷ []) ≡ values_before run = before_more run page some in
    let count : packets_ended page.lacing ≡ length packets =
    omega (
      arith,
      ended_app (replicate whole.segments 255) page.lacing,
      ended_full whole.segments,
      ap packets_ended c.lacing,
      ended_app (flat_map lace packets) (replicate c.later 255),
      ended_packets packets,
      ended_full c.later,
    ) in (
      record {
        rest = whole.rest;
        rest_positions = whole.rest_positions;
        segments = c.later;
        unfinished = left;
        lacing = flat_map-append (λ (p : Page). p.lacing) run (page ∷ []) ∙ ap (λ l. joined_lacing run ++ l) (append-nil page.lacing)
            ∙ ap (λ l. l ++ page.lacing) whole.lacing
            ∙ append_assoc (values_before run) (laced entries ++ replicate whole.segments 255) page.lacing
            ∙ ap (λ l. values_before run ++ l)
            (append_assoc (laced entries) (replicate whole.segments 255) page.lacing ∙ ap (λ l. laced entries ++ l) c.lacing
            ∙ sym (append_assoc (laced entries) (flat_map lace packets) (replicate c.later 255))
            ∙ ap (λ l. (laced entries ++ l) ++ replicate c.later 255) (sym (laced_entries page packets))
            ∙ ap (λ l. l ++ replicate c.later 255) (sym (flat_map-append (λ (e : Entry). lace e.packet) entries more)))
            ∙ ap (λ l. l ++ (laced (entries ++ more) ++ replicate c.later 255)) (sym before);
        bodies = flat_map-append (λ (p : Page). p.body) run (page ∷ []) ∙ ap (λ l. joined_bodies run ++ l) (append-nil page.body)
            ∙ ap (λ l. l ++ page.body) whole.bodies
            ∙ append_assoc whole.rest (bytes_in entries ++ whole.unfinished) page.body
            ∙ ap (λ l. whole.rest ++ l)
            (append_assoc (bytes_in entries) whole.unfinished page.body ∙ ap (λ l. bytes_in entries ++ l) c.bodies
            ∙ sym (append_assoc (bytes_in entries) (concat packets) left)
            ∙ ap (λ l. (bytes_in entries ++ l) ++ left) (sym (bytes_entries page packets))
            ∙ ap (λ l. l ++ left) (sym (flat_map-append (λ (e : Entry). e.packet) entries more)));
        rest_size = whole.rest_size ∙ ap sum (sym before);
        unfinished_size = c.left_size;
        positions = flat_map-append (λ (p : Page). replicate (packets_ended p.lacing) p.position) run (page ∷ [])
            ∙ ap (λ l. positions_of run ++ l) (append-nil (replicate (packets_ended page.lacing) page.position) ∙ ap (λ n. replicate n page.position) count ∙ sym (at_positions page packets))
            ∙ ap (λ l. l ++ map (λ (e : Entry). e.position) more) whole.positions
            ∙ append_assoc whole.rest_positions (map (λ (e : Entry). e.position) entries) (map (λ (e : Entry). e.position) more)
            ∙ ap (λ l. whole.rest_positions ++ l) (sym (map_positions entries more));
        rest_count = whole.rest_count ∙ ap packets_ended (sym before);
        own = all_app serial entries more whole.own (own_serials serial page packets own);
      },
      refl,
    )

-- ---- the packets that are whole in pages are known by these
first_is : {a b : ℕ} {xs ys : List ℕ} → a ∷ xs ≡ b ∷ ys → a ≡ b
first_is e = cc

others_are : {a b : ℕ} {xs ys : List ℕ} → a ∷ xs ≡ b ∷ ys → xs ≡ ys
others_are e = cc

same_entries : (serial : ℕ) (xs ys : List Entry) (n m : ℕ) (left other : List ℕ) → laced xs ++ replicate n 255 ≡ laced ys ++ replicate m 255 → bytes_in xs ++ left ≡ bytes_in ys ++ other
    → map (λ (e : Entry). e.position) xs ≡ map (λ (e : Entry). e.position) ys → AllByRecursion (λ (e : Entry). e.serial ≡ serial) xs → AllByRecursion (λ (e : Entry). e.serial ≡ serial) ys → xs ≡ ys
same_entries serial [] [] n m left other lacing bytes positions own others = refl
same_entries serial [] (y ∷ ys) n m left other lacing bytes positions own others = cc
same_entries serial (x ∷ xs) [] n m left other lacing bytes positions own others = cc
same_entries serial (x ∷ xs) (y ∷ ys) n m left other lacing bytes positions own others =
    let values = same_lacing x.packet y.packet (laced xs ++ replicate n 255) (laced ys ++ replicate m 255)
    (sym (append_assoc (lace x.packet) (laced xs) (replicate n 255)) ∙ lacing ∙ append_assoc (lace y.packet) (laced ys) (replicate m 255)) in
    let packets = same_fronts x.packet y.packet (bytes_in xs ++ left) (bytes_in ys ++ other) values.0
    (sym (append_assoc x.packet (bytes_in xs) left) ∙ bytes ∙ append_assoc y.packet (bytes_in ys) other) in
    ap (λ e. e ∷ xs) (ap (λ p. record x { packet = p }) packets.0 ∙ ap (λ p. record { serial = x.serial; position = p; packet = y.packet }) (first_is positions)
    ∙ ap (λ n. record { serial = n; position = y.position; packet = y.packet }) (own.0 ∙ sym others.0))
    ∙ ap (λ l. y ∷ l) (same_entries serial xs ys n m left other values.1 packets.1 (others_are positions) own.1 others.1)

pub whole_once : (serial : ℕ) (pages : List Page) (a b : List Entry) → HoldWhole serial pages a → HoldWhole serial pages b → a ≡ b
whole_once serial pages a b x y =
    same_entries serial a b x.segments y.segments x.unfinished y.unfinished
    (append_cancel_left (values_before pages) (laced a ++ replicate x.segments 255) (laced b ++ replicate y.segments 255) (sym x.lacing ∙ y.lacing))
    (same_fronts x.rest y.rest (bytes_in a ++ x.unfinished) (bytes_in b ++ y.unfinished) (x.rest_size ∙ sym y.rest_size) (sym x.bodies ∙ y.bodies)).1
    (same_fronts x.rest_positions y.rest_positions (map (λ (e : Entry). e.position) a) (map (λ (e : Entry). e.position) b) (x.rest_count ∙ sym y.rest_count) (sym x.positions ∙ y.positions)).1
    x.own y.own
