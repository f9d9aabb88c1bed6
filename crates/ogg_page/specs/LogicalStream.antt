-- The pages of one logical bitstream, in order, and the packets that they hold (RFC 3533, sections 4 to 6).
use Rattle.std.specs.Prelude.{◌≡◌, ◌≢◌, ◌↔◌, ℕ, ◌+◌, ◌*◌, ◌/◌, ◌%◌, Bool, false, nat_eq, IsTrue, List, [], ◌∷◌, ◌++◌, length, replicate, ⊤}
use Rattle.std.specs.List.{flat_map, concat, fold, list_any}
use Rattle.ogg_page.specs.Page.{Page}
use Rattle.ogg_page.specs.Lacing.{lace, ends_open}
use Rattle.ogg_page.specs.Sizes.{full_value}

-- the three flags: the page begins with a continued packet, it is the stream's first page, it is the stream's last
abbrev pub is_continued : Page → Bool
is_continued page = nat_eq (page.flags % 2) 1

abbrev pub is_first : Page → Bool
is_first page = nat_eq (page.flags / 2 % 2) 1

abbrev pub is_last : Page → Bool
is_last page = nat_eq (page.flags / 4 % 2) 1

abbrev pub joined_lacing : List Page → List ℕ
joined_lacing pages = flat_map (λ page. page.lacing) pages

abbrev pub joined_bodies : List Page → List ℕ
joined_bodies pages = flat_map (λ page. page.body) pages

-- The pages hold these whole packets, and then this number of whole segments, with these bytes, of a packet that goes
-- on.
pub record HoldsPackets (pages : List Page) (packets : List (List ℕ)) (segments : ℕ) (rest : List ℕ) : Type 0 where
  pub lacing : joined_lacing pages ≡ flat_map lace packets ++ replicate segments full_value
  pub bodies : joined_bodies pages ≡ concat packets ++ rest
  pub rest_size : length rest ≡ full_value * segments

-- one more than the number of the last page
abbrev pub number_behind : List Page → ℕ
number_behind pages = fold (λ found page. page.sequence + 1) 0 pages

-- a page fits the stream's pages before it
pub record FitsBehind (before : List Page) (page : Page) : Type 0 where
  -- it begins with a continued packet if, and only if, the page before left one unfinished
  pub continued : is_continued page ≡ ends_open (joined_lacing before)
  -- its number is one more than that of the page before
  pub sequence : before ≢ [] → page.sequence ≡ number_behind before
  -- only the first page is marked as first, and it holds one whole packet
  pub first : IsTrue (is_first page) ↔ (before ≡ [])
  pub first_packet : before ≡ [] → (packet : List ℕ) × (page.lacing ≡ lace packet)
  -- it comes after no page that is marked as last, and is not so marked itself if it leaves a packet unfinished
  pub last : list_any is_last before ≡ false
  pub last_packet : IsTrue (is_last page) → ends_open (joined_lacing (before ++ page ∷ [])) ≡ false

-- each of these pages stands in this relation to all pages before it
abbrev pub EachBehind : (List Page → Page → Type 0) → List Page → List Page → Type 0
EachBehind R before [] = ⊤
EachBehind R before (page ∷ pages) = R before page × EachBehind R (before ++ page ∷ []) pages

-- each page of the stream fits those before it
abbrev pub FlagsFit : List Page → Type 0
FlagsFit pages = EachBehind FitsBehind [] pages
