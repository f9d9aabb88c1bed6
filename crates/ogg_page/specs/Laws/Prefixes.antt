-- The bytes of no page begin another.
use Rattle.std.proofs.Common.{◌≡◌, ◌<◌, ◌^◌, ◌++◌, length, take, drop, get_or, sum, refl, arith, ap, ◌∙◌, sym, append_assoc, ℕ, List, [], ◌∷◌}
use Rattle.std.specs.Int.{w32, w64, from_le_bytes}
use Rattle.std.proofs.lemmas.Nat.{from_le_bytes-to_le_bytes_4, from_le_bytes-to_le_bytes_8}
use Rattle.byteorder.specs.Endian.{little_bytes}
use Rattle.page_checksum.specs.Checksum.{checksum_of}
use Rattle.ogg_page.specs.Page.{Page, IsPage, fixed_part, page_bytes, bytes_with}

pub same_fronts : (a b x y : List ℕ) → length a ≡ length b → a ++ x ≡ b ++ y → (a ≡ b) × (x ≡ y)
same_fronts [] [] x y h e = (refl, e)
same_fronts [] (c ∷ b) x y h e = absurd (omega arith)
same_fronts (c ∷ a) [] x y h e = absurd (omega arith)
same_fronts (c ∷ a) (d ∷ b) x y h e =
    let head : c ≡ d = cc in
    let tail : a ++ x ≡ b ++ y = cc in
    let rest : (a ≡ b) × (x ≡ y) = same_fronts a b x y (omega arith) tail in
    (cc, rest.1)

pub same_4 : (m n : ℕ) → m < 2 ^ 32 → n < 2 ^ 32 → little_bytes 4 m ≡ little_bytes 4 n → m ≡ n
same_4 m n hm hn e = sym (from_le_bytes-to_le_bytes_4 m hm) ∙ ap (from_le_bytes w32) e ∙ from_le_bytes-to_le_bytes_4 n hn

pub same_8 : (m n : ℕ) → m < 2 ^ 64 → n < 2 ^ 64 → little_bytes 8 m ≡ little_bytes 8 n → m ≡ n
same_8 m n hm hn e = sym (from_le_bytes-to_le_bytes_8 m hm) ∙ ap (from_le_bytes w64) e ∙ from_le_bytes-to_le_bytes_8 n hn

pub parts : (c : ℕ) (p : Page) (x : List ℕ) → bytes_with c p ++ x ≡ fixed_part c p ++ (p.lacing ++ (p.body ++ x))
parts c p x = append_assoc (fixed_part c p ++ p.lacing) p.body x ∙ append_assoc (fixed_part c p) p.lacing (p.body ++ x)

abbrev of : ℕ → ℕ → ℕ → ℕ → List ℕ → List ℕ → Page
of f o s n l b = record { flags = f; position = o; serial = s; sequence = n; lacing = l; body = b }

pub same_page : (p q : Page) → p.flags ≡ q.flags → p.position ≡ q.position → p.serial ≡ q.serial → p.sequence ≡ q.sequence
    → p.lacing ≡ q.lacing → p.body ≡ q.body → p ≡ q
same_page p q f o s n l b =
    ap (λ v. of v p.position p.serial p.sequence p.lacing p.body) f
    ∙ ap (λ v. of q.flags v p.serial p.sequence p.lacing p.body) o
    ∙ ap (λ v. of q.flags q.position v p.sequence p.lacing p.body) s
    ∙ ap (λ v. of q.flags q.position q.serial v p.lacing p.body) n
    ∙ ap (λ v. of q.flags q.position q.serial q.sequence v p.body) l
    ∙ ap (λ v. of q.flags q.position q.serial q.sequence q.lacing v) b

pub one_page : (p q : Page) (x y : List ℕ) → IsPage p → IsPage q → page_bytes p ++ x ≡ page_bytes q ++ y → (p ≡ q) × (x ≡ y)
unfolding page_bytes fixed_part
one_page p q x y hp hq e =
    let cp : ℕ = checksum_of (bytes_with 0 p) in
    let cq : ℕ = checksum_of (bytes_with 0 q) in
    let heads : (fixed_part cp p ≡ fixed_part cq q) × (p.lacing ++ (p.body ++ x) ≡ q.lacing ++ (q.body ++ y)) =
    same_fronts (fixed_part cp p) (fixed_part cq q) (p.lacing ++ (p.body ++ x)) (q.lacing ++ (q.body ++ y)) refl
    (sym (parts cp p x) ∙ e ∙ parts cq q y) in
    let flags : p.flags ≡ q.flags = ap (λ l. get_or l 5 0) heads.0 in
    let position : p.position ≡ q.position = same_8 p.position q.position hp.position hq.position (ap (λ l. take 8 (drop 6 l)) heads.0) in
    let serial : p.serial ≡ q.serial = same_4 p.serial q.serial hp.serial hq.serial (ap (λ l. take 4 (drop 14 l)) heads.0) in
    let sequence : p.sequence ≡ q.sequence = same_4 p.sequence q.sequence hp.sequence hq.sequence (ap (λ l. take 4 (drop 18 l)) heads.0) in
    let values : length p.lacing ≡ length q.lacing = ap (λ l. get_or l 26 0) heads.0 in
    let tables : (p.lacing ≡ q.lacing) × (p.body ++ x ≡ q.body ++ y) = same_fronts p.lacing q.lacing (p.body ++ x) (q.body ++ y) values heads.1 in
    let sizes : length p.body ≡ length q.body = sym hp.whole ∙ ap sum tables.0 ∙ hq.whole in
    let bodies : (p.body ≡ q.body) × (x ≡ y) = same_fronts p.body q.body x y sizes tables.1 in
    (same_page p q flags position serial sequence tables.0 bodies.0, bodies.1)
